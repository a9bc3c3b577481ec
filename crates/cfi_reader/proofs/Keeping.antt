-- What is kept of a unit, after one word more.
use Rattle.std.proofs.Common.{◌≡◌, ℕ, zero, suc, ◌+◌, ◌*◌, ◌/◌, ◌^◌, ◌≤◌, ◌==◌, ◌&&◌, Bool, true, false, inl, inr, List, [], ◌∷◌, ◌++◌, length, take, refl, ap, ap₂, sym, ◌∙◌, arith, length-append}
use Rattle.std.specs.Prelude.{Option, Some, None, slice_get, if◌then◌else◌}
use Rattle.std.proofs.lemmas.Bool.{and_parts, cases_Bool, eqb-true, eq-eqb}
use Rattle.std.proofs.lemmas.List.{take_all}
use Rattle.std.proofs.lemmas.Option.{same_Some}
use Rattle.std.proofs.Math.Bool.{and-true}
use Rattle.rv_word.specs.Numbers.{MOST_NUMBERS, are_same}
use Rattle.cfi_unit.specs.declared.pattern.Pattern.{Pattern}
use Rattle.cfi_unit.specs.declared.pattern.Pattern.TheVariants as P
use Rattle.cfi_unit.specs.Patterns.{matches}
use Rattle.cfi_unit.specs.Shapes.{Shape}
use Rattle.cfi_unit.specs.Opens.{Opens}
use Rattle.cfi_reader.specs.Left.{Tries, tells}
use Rattle.cfi_reader.specs.Kept.{Keeps, MISSED, count_by, count_on, is_it, label_after, label_by, numbers_by, relabel, told_by, with_number}
use Rattle.cfi_reader.proofs.Steps.{Last, after_has, last_word}

-- the label that words bear
label_none : (ps : List Pattern) (o : Option ℕ) → label_by ps [] o ≡ o
label_none [] o = refl
label_none (p ∷ ps) o = refl

label_push : (ps : List Pattern) (held : List ℕ) (word at : ℕ) (q : Pattern) (left : List Pattern) (o : Option ℕ) → Opens ps held at (q ∷ left) →
    label_by ps (held ++ word ∷ []) o ≡ relabel q word (label_by ps held o)
unfolding Opens
label_push ps [] word at q left o opens =
    ap (λ (qs : List Pattern). label_by qs (word ∷ []) o) opens
    ∙ label_none left (relabel q word o)
    ∙ ap (relabel q word) (sym (label_none ps o))
label_push [] (w ∷ held) word at q left o opens = absurd opens
label_push (p ∷ ps) (w ∷ held) word at q left o opens = label_push ps held word (at + 4) q left (relabel p w o) opens.1

label_on : (p : Pattern) (word label : ℕ) (o : Option ℕ) (told : ℕ) → relabel p word o ≡ Some told →
    (o ≡ Some told → told ≡ label) → told ≡ label_after p word label
label_on P.Label word label o told e old = sym (same_Some (word / 2 ^ 12) told e)
label_on p word label o told e old = old e

-- the numbers
add : Pattern → ℕ → List ℕ → List ℕ
add P.Number word numbers = numbers ++ word / 2 ^ 20 ∷ []
add p word numbers = numbers

pub numbers_none : (ps : List Pattern) → numbers_by ps [] ≡ []
numbers_none [] = refl
numbers_none (p ∷ ps) = refl

one_number : (q : Pattern) (word : ℕ) → with_number q word [] ≡ add q word []
unfolding add
one_number P.Number word = refl
one_number q word = refl

swap : (p : Pattern) (w : ℕ) (q : Pattern) (word : ℕ) (ns : List ℕ) → with_number p w (add q word ns) ≡ add q word (with_number p w ns)
unfolding add
swap P.Number w P.Number word ns = refl
swap P.Number w q word ns = refl
swap p w q word ns = refl

numbers_push : (ps : List Pattern) (held : List ℕ) (word at : ℕ) (q : Pattern) (left : List Pattern) → Opens ps held at (q ∷ left) →
    numbers_by ps (held ++ word ∷ []) ≡ add q word (numbers_by ps held)
unfolding Opens
numbers_push ps [] word at q left opens =
    ap (λ (qs : List Pattern). numbers_by qs (word ∷ [])) opens
    ∙ ap (with_number q word) (numbers_none left)
    ∙ one_number q word
    ∙ ap (add q word) (sym (numbers_none ps))
numbers_push [] (w ∷ held) word at q left opens = absurd opens
numbers_push (p ∷ ps) (w ∷ held) word at q left opens =
    ap (with_number p w) (numbers_push ps held word (at + 4) q left opens.1) ∙ swap p w q word (numbers_by ps held)

-- one number more, beside the list
and_assoc : (a b d : Bool) → (a && (b && d)) ≡ ((a && b) && d)
and_assoc true b d = refl
and_assoc false b d = refl

same_push : (ns calls : List ℕ) (n : ℕ) →
    are_same (ns ++ n ∷ []) (take (length (ns ++ n ∷ [])) calls) ≡ (are_same ns (take (length ns) calls) && is_it (slice_get calls (length ns)) n)
same_push [] [] n = refl
same_push [] (call ∷ calls) n = and-true (n == call)
same_push (m ∷ ns) [] n = refl
same_push (m ∷ ns) (call ∷ calls) n = ap (λ (b : Bool). (m == call) && b) (same_push ns calls n) ∙ and_assoc (m == call) _ _

long_none : (calls : List ℕ) (k : ℕ) → length calls ≤ k → slice_get calls k ≡ None
long_none [] k low = refl
long_none (call ∷ calls) zero low = absurd (omega arith)
long_none (call ∷ calls) (suc k) low = long_none calls k (omega arith)

told_if : (b : Bool) (calls ns : List ℕ) (n : ℕ) → length calls ≤ MOST_NUMBERS →
    (if b && is_it (slice_get calls (length ns)) n then length ns + 1 else MISSED) ≡ count_on calls (if b then length ns else MISSED) n
told_if true calls ns n most = refl
told_if false calls ns n most = rw (long_none calls MISSED (omega (arith, most))) refl

told_push : (calls ns : List ℕ) (n : ℕ) → length calls ≤ MOST_NUMBERS → told_by calls (ns ++ n ∷ []) ≡ count_on calls (told_by calls ns) n
told_push calls ns n most =
    ap₂ (λ (b : Bool) (k : ℕ). if b then k else MISSED) (same_push ns calls n) (length-append ns (n ∷ []))
    ∙ told_if (are_same ns (take (length ns) calls)) calls ns n most

told_on : (calls : List ℕ) (p : Pattern) (word numbers : ℕ) (ns : List ℕ) → length calls ≤ MOST_NUMBERS → numbers ≡ told_by calls ns →
    count_by calls p word numbers ≡ told_by calls (add p word ns)
unfolding add
told_on calls P.Number word numbers ns most e =
    ap (λ (k : ℕ). count_on calls k (word / 2 ^ 20)) e ∙ sym (told_push calls ns (word / 2 ^ 20) most)
told_on calls p word numbers ns most e = e

-- where a node's pattern is that of the word
pub keeps_more : (calls : List ℕ) (p : Pattern) (rs : List Shape) (held : List ℕ) (word at numbers label : ℕ) → length calls ≤ MOST_NUMBERS →
    Tries rs held word at → tells p rs ≡ true → matches p word (at + 4 * length held) ≡ true → Keeps calls numbers label held at →
    Keeps calls (count_by calls p word numbers) (label_after p word label) (held ++ word ∷ []) at
keeps_more calls p rs held word at numbers label most t told fits k = record {
  label_is = λ s left among opens named e.
      let l : Last s.words held word at left = last_word s.words held word at left opens in
      let one : p ≡ l.by = (after_has p rs s.end l.by left word (at + 4 * length held) (t.sound s l.by left among l.opens l.fits) told fits l.fits).0 in
      let push : relabel p word (label_by s.words held None) ≡ Some named =
      ap (λ (q : Pattern). relabel q word (label_by s.words held None)) one ∙ sym (label_push s.words held word at l.by left None l.opens) ∙ e in
      label_on p word label (label_by s.words held None) named push (k.label_is s (l.by ∷ left) among l.opens named);
  numbers_are = λ s left among opens guarded.
      let l : Last s.words held word at left = last_word s.words held word at left opens in
      let one : p ≡ l.by = (after_has p rs s.end l.by left word (at + 4 * length held) (t.sound s l.by left among l.opens l.fits) told fits l.fits).0 in
      told_on calls p word numbers (numbers_by s.words held) most (k.numbers_are s (l.by ∷ left) among l.opens guarded)
      ∙ ap (told_by calls) (ap (λ (q : Pattern). add q word (numbers_by s.words held)) one ∙ sym (numbers_push s.words held word at l.by left l.opens));
}

-- whether the numbers are the list's
same_length : (ns calls : List ℕ) → are_same ns calls ≡ true → length calls ≡ length ns
same_length [] [] e = refl
same_length [] (call ∷ calls) e = absurd (cc)
same_length (n ∷ ns) [] e = absurd (cc)
same_length (n ∷ ns) (call ∷ calls) e = let p = and_parts (n == call) (are_same ns calls) e in ap suc (same_length ns calls p.1)

told_some : (calls ns : List ℕ) → length calls ≤ MOST_NUMBERS → (told_by calls ns == length calls) ≡ true → are_same ns calls ≡ true
told_some calls ns most e =
    elim (cases_Bool (are_same ns (take (length ns) calls))) [
      | inl first ↦
          let k : (length ns == length calls) ≡ true = rw first at e in
          let n : length ns ≡ length calls = eqb-true (length ns) (length calls) k in
          rw (take_all (length ns) calls (omega (arith, n))) at first
      | inr other ↦
          let k : (MISSED == length calls) ≡ true = rw other at e in
          let n : MISSED ≡ length calls = eqb-true MISSED (length calls) k in
          absurd (omega (arith, n, most))
    ]

pub told_all : (calls ns : List ℕ) → length calls ≤ MOST_NUMBERS → (told_by calls ns == length calls) ≡ are_same ns calls
told_all calls ns most =
    elim (cases_Bool (are_same ns calls)) [
      | inl all ↦
          let e : length calls ≡ length ns = same_length ns calls all in
          let t : told_by calls ns ≡ length ns = rw (take_all (length ns) calls (omega (arith, e)), all) refl in
          eq-eqb (told_by calls ns) (length calls) (t ∙ sym e) ∙ sym all
      | inr other ↦
          elim (cases_Bool (told_by calls ns == length calls)) [
            | inl even ↦ let f : true ≡ false = sym (told_some calls ns most even) ∙ other in absurd (cc)
            | inr odd ↦ odd ∙ sym other
          ]
    ]
