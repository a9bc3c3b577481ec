-- Where the units of a listed split start, and what the entries say there.
use Rattle.std.proofs.Common.{◌≡◌, ◌≤◌, ◌<◌, ◌⊎◌, inl, inr, ℕ, zero, suc, ◌+◌, ◌-◌, ◌*◌, Bool, true, false, List, [], ◌∷◌, ◌++◌, length, length-append, drop, Some, None, refl, sym, ap, subst, ◌∙◌, arith, append_assoc}
use Rattle.std.specs.Prelude.{slice_get}
use Rattle.std.proofs.lemmas.Bool.{cases_lt, cases_eq, false≢true}
use Rattle.std.proofs.lemmas.Option.{same_Some}
use Rattle.std.proofs.lemmas.List.{drop-drop}
use Rattle.std.proofs.Math.Seq.{drop-append_seam}
use Rattle.cfi_verify.proofs.Prelude.{Shifts, Short, Long, recognised, Fits, may_precede, word_count, words_of, Entry, entries_of, inside, is_started, is_unit, plain_entry, writes_link, AllStand, last_of, spelled, width, next_in, or_inside, is_marked, starts}
use Rattle.cfi_unit.specs.declared.unit.Unit as U
use Rattle.cfi_unit.specs.declared.unit.Unit.TheVariants as V
use Rattle.cfi_unit.specs.declared.unit.SystemOp.TheVariants as S
use Rattle.cfi_unit.proofs.Found.{found, words_counted}
use Rattle.cfi_reader.specs.declared.entry.Entry.TheVariants as E
use Rattle.cfi_reader.specs.Entries.{entry_of}
use Rattle.least.proofs.Firsts.{first_found, none_first}
use Rattle.cfi_starts.proofs.Started.{started}
use Rattle.cfi_unit.proofs.Counts.{some_word}
use Rattle.cfi_rules.proofs.Marks.{head_after, head_inner, head_length, head_mark, marks_none, none_in_none}

-- no unit starts at a word, and its entry says so
pub record NoUnit (us : List U.Unit) (ws : List ℕ) (at k : ℕ) (e : Entry) : Type 0 where
  pub mark : is_marked (slice_get (starts 0 ws at) k) ≡ false
  pub entry : e ≡ E.Inside
  pub last : k ≡ last_of us → width us ≡ 0

-- a unit starts there, and the entry is its own
pub record HasUnit (calls : List ℕ) (us : List U.Unit) (ws : List ℕ) (at k : ℕ) (e : Entry) (u : U.Unit) : Type 0 where
  pub mark : slice_get (starts 0 ws at) k ≡ Some true
  pub is : recognised (drop k ws) (at + 4 * k) ≡ Some u
  pub fits : Fits u (at + 4 * k)
  pub entry : e ≡ entry_of calls u (at + 4 * k)
  pub within : k + word_count u ≤ width us
  pub to_last : k + word_count u ≡ width us → k ≡ last_of us
  pub from_last : k ≡ last_of us → k + word_count u ≡ width us

abbrev pub Looks : List ℕ → List U.Unit → List ℕ → ℕ → ℕ → Entry → Type 0
Looks calls us ws at k e = NoUnit us ws at k e ⊎ ((u : U.Unit) × HasUnit calls us ws at k e u)

-- the entries of words at which no unit starts
none_inside : (n k : ℕ) → or_inside (slice_get (inside n) k) ≡ E.Inside
unfolding inside
none_inside zero k = refl
none_inside (suc n) zero = refl
none_inside (suc n) (suc k) = none_inside n k

inner_entry : (n k : ℕ) (rest more : List Entry) → k < n → or_inside (slice_get ((inside n ++ rest) ++ more) k) ≡ E.Inside
unfolding inside
inner_entry zero k rest more below = absurd (omega arith)
inner_entry (suc n) zero rest more below = refl
inner_entry (suc n) (suc k) rest more below = inner_entry n k rest more (omega arith)

later_entry : (n k : ℕ) (rest more : List Entry) → slice_get ((inside n ++ rest) ++ more) (n + k) ≡ slice_get (rest ++ more) k
unfolding inside
later_entry zero k rest more = let e : 0 + k ≡ k = omega arith in ap (slice_get (rest ++ more)) e
later_entry (suc n) k rest more =
    let e : suc n + k ≡ suc (n + k) = omega arith in
    ap (slice_get ((inside (suc n) ++ rest) ++ more)) e ∙ later_entry n k rest more

-- what the marks of a list say of the unit that begins it
record Heads (xs : List ℕ) (at : ℕ) (u : U.Unit) : Type 0 where
  mark : slice_get (starts 0 xs at) 0 ≡ Some true
  inner : (j : ℕ) → 0 < j → j < word_count u → slice_get (starts 0 xs at) j ≡ Some false
  after : (j : ℕ) → slice_get (starts 0 xs at) (word_count u + j) ≡ slice_get (starts 0 (drop (word_count u) xs) (at + 4 * word_count u)) j
  count : length (starts 0 xs at) ≡ word_count u + length (starts 0 (drop (word_count u) xs) (at + 4 * word_count u))

heads : (xs : List ℕ) (at : ℕ) (u : U.Unit) → recognised xs at ≡ Some u → word_count u ≤ length xs → Heads xs at u
heads [] at u e room = absurd (none_in_none at u e)
heads (w ∷ ws) at u e room = record {
  mark = head_mark w ws at u e room;
  inner = head_inner w ws at u e room;
  after = head_after w ws at u e room;
  count = head_length w ws at u e room;
}

-- where the last of some units starts
some_width : (u : U.Unit) (us : List U.Unit) → 1 ≤ width (u ∷ us)
unfolding width
some_width u us = let some = some_word u in omega arith

first_last : (u : U.Unit) (us : List U.Unit) → 0 ≡ last_of (u ∷ us) → word_count u ≡ width (u ∷ us)
unfolding width last_of
first_last u [] e = omega arith
first_last u (v ∷ us) e = let some = some_word u in absurd (omega arith)

last_first : (u : U.Unit) (us : List U.Unit) → word_count u ≡ width (u ∷ us) → 0 ≡ last_of (u ∷ us)
unfolding width last_of
last_first u [] e = refl
last_first u (v ∷ us) e = let some = some_width v us in absurd (omega arith)

inner_last : (u : U.Unit) (us : List U.Unit) (k : ℕ) → 0 < k → k < word_count u → k ≡ last_of (u ∷ us) → width (u ∷ us) ≡ 0
unfolding last_of
inner_last u [] k low high e = absurd (omega arith)
inner_last u (v ∷ us) k low high e = absurd (omega arith)

later_none : (u : U.Unit) (us : List U.Unit) (j : ℕ) → (j ≡ last_of us → width us ≡ 0) → word_count u + j ≡ last_of (u ∷ us) → width (u ∷ us) ≡ 0
unfolding last_of
later_none u [] j last e = let some = some_word u in absurd (omega arith)
later_none u (v ∷ us) j last e =
    let same : j ≡ last_of (v ∷ us) = omega arith in
    let some = some_width v us in
    let nothing = last same in absurd (omega arith)

later_to : (u : U.Unit) (us : List U.Unit) (j n : ℕ) → 1 ≤ n → j + n ≤ width us → (j + n ≡ width us → j ≡ last_of us) → word_count u + j + n ≡ width (u ∷ us) → word_count u + j ≡ last_of (u ∷ us)
unfolding last_of width
later_to u [] j n some within to e = absurd (omega arith)
later_to u (v ∷ us) j n some within to e =
    let same : j + n ≡ width (v ∷ us) = omega arith in
    let last = to same in omega arith

later_from : (u : U.Unit) (us : List U.Unit) (j n : ℕ) → 1 ≤ n → j + n ≤ width us → (j ≡ last_of us → j + n ≡ width us) → word_count u + j ≡ last_of (u ∷ us) → word_count u + j + n ≡ width (u ∷ us)
unfolding last_of width
later_from u [] j n some within from e = absurd (omega arith)
later_from u (v ∷ us) j n some within from e =
    let same : j ≡ last_of (v ∷ us) = omega arith in
    let end = from same in omega arith

later_within : (u : U.Unit) (us : List U.Unit) (j n : ℕ) → j + n ≤ width us → word_count u + j + n ≤ width (u ∷ us)
unfolding width
later_within u us j n within = omega arith

module _ (u : U.Unit) (us : List U.Unit) (at : ℕ) (tail : List ℕ) (fits : Fits u at) (ahead : may_precede u at tail ≡ true) where
  abbrev whole : List ℕ
  whole = words_of u at ++ tail

  begun : recognised whole at ≡ Some u
  begun = found u at tail fits ahead

  after_words : drop (word_count u) whole ≡ tail
  after_words = ap (λ n. drop n whole) (sym (words_counted u at)) ∙ drop-append_seam (words_of u at) tail

  room : word_count u ≤ length whole
  room = let sum = length-append (words_of u at) tail in let counted = words_counted u at in omega (arith, sum, counted)

  head : Heads whole at u
  head = heads whole at u begun room

  first_looks : (calls : List ℕ) (e : Entry) → e ≡ entry_of calls u at → Looks calls (u ∷ us) whole at 0 e
  first_looks calls e is =
      let here : at ≡ at + 4 * 0 = omega arith in
      let size : word_count u ≡ 0 + word_count u = omega arith in
      inr (
        u,
        record {
          mark = head.mark;
          is = ap (recognised whole) (sym here) ∙ begun;
          fits = subst (λ (a : ℕ). Fits u a) here fits;
          entry = is ∙ ap (entry_of calls u) here;
          within = let n = later_within u us 0 0 (omega arith) in omega (arith, n);
          to_last = λ s. last_first u us (size ∙ s);
          from_last = λ s. sym size ∙ first_last u us s;
        },
      )

  inner_looks : (calls : List ℕ) (k : ℕ) (e : Entry) → 0 < k → k < word_count u → e ≡ E.Inside → Looks calls (u ∷ us) whole at k e
  inner_looks calls k e low high is = inl (record {
    mark = ap is_marked (head.inner k low high);
    entry = is;
    last = inner_last u us k low high;
  })

  mark_later : (j : ℕ) → slice_get (starts 0 whole at) (word_count u + j) ≡ slice_get (starts 0 tail (at + 4 * word_count u)) j
  mark_later j = head.after j ∙ ap (λ ws. slice_get (starts 0 ws (at + 4 * word_count u)) j) after_words

  later_looks : (calls : List ℕ) (j : ℕ) (e : Entry) → Looks calls us tail (at + 4 * word_count u) j e → Looks calls (u ∷ us) whole at (word_count u + j) e
  later_looks calls j e (inl n) = inl (record {
    mark = ap is_marked (mark_later j) ∙ n.mark;
    entry = n.entry;
    last = later_none u us j n.last;
  })
  later_looks calls j e (inr (v, h)) =
      let there : at + 4 * word_count u + 4 * j ≡ at + 4 * (word_count u + j) = omega arith in
      let some = some_word v in
      inr (
        v,
        record {
          mark = mark_later j ∙ h.mark;
          is =
              ap (recognised (drop (word_count u + j) whole)) (sym there)
              ∙ ap (λ ws. recognised ws (at + 4 * word_count u + 4 * j)) (sym (drop-drop j (word_count u) whole) ∙ ap (drop j) after_words)
              ∙ h.is;
          fits = subst (λ (a : ℕ). Fits v a) there h.fits;
          entry = h.entry ∙ ap (entry_of calls v) there;
          within = later_within u us j (word_count v) h.within;
          to_last = later_to u us j (word_count v) some h.within h.to_last;
          from_last = later_from u us j (word_count v) some h.within h.from_last;
        },
      )

  marks_whole : length (starts 0 whole at) ≡ word_count u + length (starts 0 tail (at + 4 * word_count u))
  marks_whole = head.count ∙ ap (λ ws. word_count u + length (starts 0 ws (at + 4 * word_count u))) after_words

-- past the units none begins
past_none : (u : U.Unit) (us : List U.Unit) (at : ℕ) (past : List ℕ) → recognised past (at + 4 * width (u ∷ us)) ≡ None → recognised past (at + 4 * word_count u + 4 * width us) ≡ None
unfolding width
past_none u us at past none =
    let same : at + 4 * word_count u + 4 * width us ≡ at + 4 * (word_count u + width us) = omega arith in
    ap (recognised past) same ∙ none

-- what stands at each word of units and what follows them
pub lookup : (calls : List ℕ) (us : List U.Unit) (at : ℕ) (past : List ℕ) (free : ℕ) → AllStand us at past → recognised past (at + 4 * width us) ≡ None → (k : ℕ) →
    Looks calls us (spelled us at ++ past) at k (or_inside (slice_get (entries_of calls us at ++ inside free) k))
unfolding AllStand width spelled entries_of last_of
lookup calls [] at past free stand none k =
    let here : at ≡ at + 4 * 0 = omega arith in
    let nothing = marks_none past at (ap (recognised past) here ∙ none) in
    inl (record {
      mark = ap (λ ms. is_marked (slice_get ms k)) nothing;
      entry = none_inside free k;
      last = λ e. refl;
    })
lookup calls (u ∷ us) at past free (fits, ahead, others) none k =
    let tail = spelled us (at + 4 * word_count u) ++ past in
    let rest = entries_of calls us (at + 4 * word_count u) in
    let some = some_word u in
    let same = append_assoc (words_of u at) (spelled us (at + 4 * word_count u)) past in
    subst (λ (ws : List ℕ). Looks calls (u ∷ us) ws at k (or_inside (slice_get (((entry_of calls u at ∷ inside (word_count u - 1)) ++ rest) ++ inside free) k))) (sym same)
    (elim (cases_lt k (word_count u)) [
      | inl within ↦ elim (cases_eq k 0) [
        | inl first ↦
            subst (λ (j : ℕ). Looks calls (u ∷ us) (words_of u at ++ tail) at j (or_inside (slice_get (((entry_of calls u at ∷ inside (word_count u - 1)) ++ rest) ++ inside free) j))) (sym first)
            (first_looks u us at tail fits ahead calls (entry_of calls u at) refl)
        | inr other ↦
            let less : suc (k - 1) ≡ k = omega arith in
            inner_looks u us at tail fits ahead calls k _ (omega arith) within
            (ap (λ j. or_inside (slice_get (((entry_of calls u at ∷ inside (word_count u - 1)) ++ rest) ++ inside free) j)) (sym less)
            ∙ inner_entry (word_count u - 1) (k - 1) rest (inside free) (omega arith))
      ]
      | inr past_it ↦
          let there : word_count u + (k - word_count u) ≡ k = omega arith in
          let place : suc (word_count u - 1 + (k - word_count u)) ≡ k = omega arith in
          let is : slice_get (rest ++ inside free) (k - word_count u) ≡ slice_get (((entry_of calls u at ∷ inside (word_count u - 1)) ++ rest) ++ inside free) k =
          sym (later_entry (word_count u - 1) (k - word_count u) rest (inside free))
          ∙ ap (slice_get (((entry_of calls u at ∷ inside (word_count u - 1)) ++ rest) ++ inside free)) place in
          let later = later_looks u us at tail fits ahead calls (k - word_count u) _
          (lookup calls us (at + 4 * word_count u) past free others (past_none u us at past none) (k - word_count u)) in
          subst (λ (j : ℕ). Looks calls (u ∷ us) (words_of u at ++ tail) at j (or_inside (slice_get (((entry_of calls u at ∷ inside (word_count u - 1)) ++ rest) ++ inside free) k))) there
          (subst (λ (e : Entry). Looks calls (u ∷ us) (words_of u at ++ tail) at (word_count u + (k - word_count u)) e) (ap or_inside is) later)
    ])

-- and how many words they are
pub lookup_count : (us : List U.Unit) (at : ℕ) (past : List ℕ) → AllStand us at past → recognised past (at + 4 * width us) ≡ None → length (starts 0 (spelled us at ++ past) at) ≡ width us
unfolding AllStand width spelled
lookup_count [] at past stand none =
    let here : at ≡ at + 4 * 0 = omega arith in
    ap length (marks_none past at (ap (recognised past) here ∙ none))
lookup_count (u ∷ us) at past (fits, ahead, others) none =
    let same = append_assoc (words_of u at) (spelled us (at + 4 * word_count u)) past in
    ap (λ ws. length (starts 0 ws at)) same
    ∙ marks_whole u us at (spelled us (at + 4 * word_count u) ++ past) fits ahead
    ∙ ap (λ n. word_count u + n) (lookup_count us (at + 4 * word_count u) past others (past_none u us at past none))

-- a plain unit's entry is one of two
pub by_plain : {A : Type 0} (f : Entry → A) (x : A) → x ≡ f E.WritesLink → x ≡ f E.Other → (links : Bool) → x ≡ f (plain_entry links)
by_plain f x one other true = one
by_plain f x one other false = other

pub unit_is : (calls : List ℕ) (u : U.Unit) (a : ℕ) → is_unit (entry_of calls u a) ≡ true
unit_is calls (V.Plain instr) a = sym (by_plain is_unit true refl refl (writes_link instr))
unit_is calls (V.System S.Ecall) a = refl
unit_is calls (V.System S.Ebreak) a = refl
unit_is calls (V.Stores Shifts rs1 imm members) a = refl
unit_is calls (V.Stores Short rs1 imm members) a = refl
unit_is calls (V.Stores Long rs1 imm members) a = refl
unit_is calls _ a = refl

-- of the entries behind a unit of so many words none is a start's inside it, and that where it ends is one's, if it is not the last
pub record Behind (entries : List Entry) (end k n : ℕ) : Type 0 where
  pub inner : (j : ℕ) → 0 < j → j < n → or_inside (slice_get entries (k + j)) ≡ E.Inside
  pub next : k + n < end → is_unit (or_inside (slice_get entries (k + n))) ≡ true

first_of : (calls : List ℕ) (us : List U.Unit) (at free : ℕ) → 0 < width us → is_unit (or_inside (slice_get (entries_of calls us at ++ inside free) 0)) ≡ true
unfolding width entries_of
first_of calls [] at free some = absurd (omega arith)
first_of calls (u ∷ us) at free some = unit_is calls u at

same_unit : (u v : U.Unit) (ws : List ℕ) (at : ℕ) → recognised ws at ≡ Some u → recognised ws at ≡ Some v → u ≡ v
same_unit u v ws at one other = same_Some u v (sym one ∙ other)

pub behind : (calls : List ℕ) (us : List U.Unit) (at : ℕ) (past : List ℕ) (free : ℕ) → AllStand us at past → (k : ℕ) (u : U.Unit) →
    slice_get (starts 0 (spelled us at ++ past) at) k ≡ Some true → recognised (drop k (spelled us at ++ past)) (at + 4 * k) ≡ Some u → k + word_count u ≤ width us →
    Behind (entries_of calls us at ++ inside free) (width us) k (word_count u)
unfolding AllStand width spelled entries_of
behind calls [] at past free stand k u mark is within = let some = some_word u in absurd (omega arith)
behind calls (v ∷ us) at past free (fits, ahead, others) k u mark is within =
    let tail = spelled us (at + 4 * word_count v) ++ past in
    let rest = entries_of calls us (at + 4 * word_count v) in
    let some = some_word v in
    let same = append_assoc (words_of v at) (spelled us (at + 4 * word_count v)) past in
    let mark_here = ap (λ ws. slice_get (starts 0 ws at) k) (sym same) ∙ mark in
    let is_here = ap (λ ws. recognised (drop k ws) (at + 4 * k)) (sym same) ∙ is in
    elim (cases_lt k (word_count v)) [
      | inl in_first ↦ elim (cases_eq k 0) [
        | inl first ↦
            let here : at + 4 * k ≡ at = omega arith in
            let one : u ≡ v = same_unit u v (words_of v at ++ tail) at (sym (ap (λ i. recognised (drop i (words_of v at ++ tail)) (at + 4 * k)) first ∙ ap (recognised (words_of v at ++ tail)) here) ∙ is_here) (begun v us at tail fits ahead) in
            let count : word_count u ≡ word_count v = ap word_count one in
            record {
              inner = λ j low high.
                  let less : suc (j - 1) ≡ k + j = omega arith in
                  ap (λ i. or_inside (slice_get (((entry_of calls v at ∷ inside (word_count v - 1)) ++ rest) ++ inside free) i)) (sym less)
                  ∙ inner_entry (word_count v - 1) (j - 1) rest (inside free) (omega arith);
              next = λ more.
                  let place : suc (word_count v - 1 + 0) ≡ k + word_count u = omega arith in
                  ap (λ i. is_unit (or_inside (slice_get (((entry_of calls v at ∷ inside (word_count v - 1)) ++ rest) ++ inside free) i))) (sym place)
                  ∙ ap (λ o. is_unit (or_inside o)) (later_entry (word_count v - 1) 0 rest (inside free))
                  ∙ first_of calls us (at + 4 * word_count v) free (omega arith);
            }
        | inr other ↦
            let inner = (head v us at tail fits ahead).inner k (omega arith) in_first in
            absurd (false≢true (same_Some false true (sym inner ∙ mark_here)))
      ]
      | inr past_it ↦
          let there : word_count v + (k - word_count v) ≡ k = omega arith in
          let address : at + 4 * word_count v + 4 * (k - word_count v) ≡ at + 4 * k = omega arith in
          let later = behind calls us (at + 4 * word_count v) past free others (k - word_count v) u
          (sym (mark_later v us at tail fits ahead (k - word_count v)) ∙ ap (slice_get (starts 0 (words_of v at ++ tail) at)) there ∙ mark_here)
          (ap (recognised (drop (k - word_count v) tail)) address
          ∙ ap (λ ws. recognised ws (at + 4 * k)) (sym (sym (drop-drop (k - word_count v) (word_count v) (words_of v at ++ tail)) ∙ ap (drop (k - word_count v)) (after_words v us at tail fits ahead)))
          ∙ ap (λ i. recognised (drop i (words_of v at ++ tail)) (at + 4 * k)) there ∙ is_here)
          (omega arith) in
          record {
            inner = λ j low high.
                let place : suc (word_count v - 1 + (k - word_count v + j)) ≡ k + j = omega arith in
                ap (λ i. or_inside (slice_get (((entry_of calls v at ∷ inside (word_count v - 1)) ++ rest) ++ inside free) i)) (sym place)
                ∙ ap or_inside (later_entry (word_count v - 1) (k - word_count v + j) rest (inside free))
                ∙ later.inner j low high;
            next = λ more.
                let place : suc (word_count v - 1 + (k - word_count v + word_count u)) ≡ k + word_count u = omega arith in
                ap (λ i. is_unit (or_inside (slice_get (((entry_of calls v at ∷ inside (word_count v - 1)) ++ rest) ++ inside free) i))) (sym place)
                ∙ ap (λ o. is_unit (or_inside o)) (later_entry (word_count v - 1) (k - word_count v + word_count u) rest (inside free))
                ∙ later.next (omega arith);
          }
    ]

-- so the word where the unit ends is the next start's, or the end
pub next_is : (entries : List Entry) (end k n : ℕ) → 1 ≤ n → k + n ≤ end → Behind entries end k n → next_in entries end k ≡ k + n
unfolding next_in
next_is entries end k n some within b =
    elim (cases_eq (k + n) end) [
      | inl last ↦
          rw (none_first (λ j. is_started (slice_get entries (k + 1 + j))) (end - (k + 1)) (λ j below.
          let there : k + (1 + j) ≡ k + 1 + j = omega arith in
          started (slice_get entries (k + 1 + j)) ∙ ap (λ i. is_unit (or_inside (slice_get entries i))) (sym there) ∙ ap is_unit (b.inner (1 + j) (omega arith) (omega arith))))
          (sym last)
      | inr more ↦
          let there : k + n ≡ k + 1 + (n - 1) = omega arith in
          rw (first_found (λ j. is_started (slice_get entries (k + 1 + j))) (n - 1) (end - (k + 1)) (omega arith)
          (none_first (λ j. is_started (slice_get entries (k + 1 + j))) (n - 1) (λ j below.
          let there : k + (1 + j) ≡ k + 1 + j = omega arith in
          started (slice_get entries (k + 1 + j)) ∙ ap (λ i. is_unit (or_inside (slice_get entries i))) (sym there) ∙ ap is_unit (b.inner (1 + j) (omega arith) (omega arith))))
          (started (slice_get entries (k + 1 + (n - 1))) ∙ ap (λ i. is_unit (or_inside (slice_get entries i))) (sym there) ∙ b.next (omega arith)))
          (sym there)
    ]
