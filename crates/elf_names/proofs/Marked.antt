-- A name that begins one byte before another.
use Rattle.std.proofs.Common.{◌≡◌, ℕ, ◌+◌, ◌-◌, ◌*◌, ◌<◌, ◌≤◌, ◌==◌, false, List, [], ◌∷◌, ◌++◌, drop, length, get_or, take, inl, inr, refl, sym, ap, subst, ◌∙◌, add-one, arith, length-append}
use Rattle.std.proofs.lemmas.Bool.{cases_lt, eq-eqb}
use Rattle.std.proofs.lemmas.List.{drop-drop, drop_all, get_or_append_left, get_or_push, length-drop, length-take-le, length_push}
use Rattle.elf_names.specs.declared.marks.Mark.{Mark}
use Rattle.elf_names.specs.Marks.{AreMarks, IsMark, ending, spelled}
use Rattle.elf_names.specs.Texts.{Grows, Has}

spelled_nul : (bytes : List ℕ) → 0 < length bytes → get_or bytes 0 0 ≡ 0 → spelled bytes ≡ []
unfolding spelled
spelled_nul [] some nul = absurd (omega arith)
spelled_nul (b ∷ bs) some nul = rw (eq-eqb b 0 nul) refl

spelled_more : (bytes : List ℕ) → 0 < length bytes → (get_or bytes 0 0 == 0) ≡ false → spelled bytes ≡ get_or bytes 0 0 ∷ spelled (drop 1 bytes)
unfolding spelled
spelled_more [] some other = absurd (omega arith)
spelled_more (b ∷ bs) some other = rw other refl

take_first : (bytes : List ℕ) (n : ℕ) → 0 < length bytes → take (n + 1) bytes ≡ get_or bytes 0 0 ∷ take n (drop 1 bytes)
take_first [] n some = absurd (omega arith)
take_first (b ∷ bs) n some = rw add-one refl

module _ (texts : List (List ℕ)) (bytes : List ℕ) (some : 0 < length bytes) where
  pub marked_empty : (number : ℕ) → Has texts number [] → get_or bytes 0 0 ≡ 0 → IsMark texts bytes (record { front = 0; tail = number })
  marked_empty number has nul = record {
    text = [];
    there = has;
    count = 0;
    whole = refl;
    short = omega arith;
    inside = omega arith;
    name = spelled_nul bytes some nul;
  }

  module _ (after : Mark) (is : IsMark texts (drop 1 bytes) after) (other : (get_or bytes 0 0 == 0) ≡ false) where
    inside_more : after.front + 1 ≤ length bytes
    inside_more =
        let size : length (drop 1 bytes) ≡ length bytes - 1 = length-drop 1 bytes in
        omega (arith, size, is.inside, some)

    named : spelled bytes ≡ take (after.front + 1) bytes ++ is.text
    named =
        spelled_more bytes some other
        ∙ ap (λ (bs : List ℕ). get_or bytes 0 0 ∷ bs) is.name
        ∙ ap (λ (bs : List ℕ). bs ++ is.text) (sym (take_first bytes after.front some))

    pub marked_longer : after.front + 1 < 64 → IsMark texts bytes (record { front = after.front + 1; tail = after.tail })
    marked_longer short = record {
      text = is.text;
      there = is.there;
      count = is.count;
      whole = is.whole;
      short = short;
      inside = inside_more;
      name = named;
    }

    pub marked_whole : (new : List (List ℕ)) (number : ℕ) → 64 ≤ after.front + 1 → Has new number (take 64 bytes ++ is.text)
        → IsMark new bytes (record { front = 0; tail = number })
    marked_whole new number full has =
        let most : after.front < 64 = is.short in
        let exact : after.front + 1 ≡ 64 = omega (arith, most, full) in
        let enough : 64 ≤ length bytes = omega (arith, exact, inside_more) in
        let front : length (take 64 bytes) ≡ 64 = length-take-le 64 bytes enough in
        let whole : length is.text ≡ 64 * is.count = is.whole in
        let size : length (take 64 bytes ++ is.text) ≡ length (take 64 bytes) + length is.text = length-append (take 64 bytes) is.text in
        record {
          text = take 64 bytes ++ is.text;
          there = has;
          count = is.count + 1;
          whole = omega (arith, front, whole, size);
          short = omega arith;
          inside = omega arith;
          name = named ∙ ap (λ (n : ℕ). take n bytes ++ is.text) exact;
        }

pub mark_grown : (old new : List (List ℕ)) (bytes : List ℕ) (mark : Mark) → Grows old new → IsMark old bytes mark → IsMark new bytes mark
mark_grown old new bytes mark grown is = record {
  text = is.text;
  there = grown mark.tail is.text is.there;
  count = is.count;
  whole = is.whole;
  short = is.short;
  inside = is.inside;
  name = is.name;
}

pub marks_grown : (old new : List (List ℕ)) (table : List ℕ) (marks : List Mark) → Grows old new → AreMarks old table marks → AreMarks new table marks
marks_grown old new table marks grown are = λ k below. mark_grown old new _ _ grown (are k below)

-- one byte less
pub ending_less : (table : List ℕ) (n : ℕ) → n + 1 ≤ length table → drop 1 (ending (n + 1) table) ≡ ending n table
ending_less table n inside =
    let at : length table - (n + 1) + 1 ≡ length table - n = omega (arith, inside) in
    drop-drop 1 (length table - (n + 1)) table ∙ ap (λ (k : ℕ). drop k table) at

pub ending_none : (table : List ℕ) → ending 0 table ≡ []
ending_none table = drop_all (length table - 0) table (omega arith)

empty_marked : (texts : List (List ℕ)) (number : ℕ) → Has texts number [] → IsMark texts [] (record { front = 0; tail = number })
unfolding spelled
empty_marked texts number has = record {
  text = [];
  there = has;
  count = 0;
  whole = refl;
  short = omega arith;
  inside = omega arith;
  name = refl;
}

pub nothing_marked : (texts : List (List ℕ)) (table : List ℕ) (number : ℕ) → Has texts number [] → IsMark texts (ending (64 * 0) table) (record { front = 0; tail = number })
nothing_marked texts table number has =
    subst (λ (bytes : List ℕ). IsMark texts bytes (record { front = 0; tail = number })) (sym (ending_none table)) (empty_marked texts number has)

pub marks_pushed : (texts : List (List ℕ)) (table : List ℕ) (marks : List Mark) (mark : Mark) (k : ℕ) → AreMarks texts table marks → length marks ≡ k
    → IsMark texts (ending (64 * k) table) mark → AreMarks texts table (marks ++ mark ∷ [])
marks_pushed texts table marks mark k are size is = λ j below. elim (cases_lt j (length marks)) [
  | inl less ↦
      subst (λ (m : Mark). IsMark texts (ending (64 * j) table) m) (sym (get_or_append_left marks (mark ∷ []) (record { front = 0; tail = 0 }) j less)) (are j less)
  | inr most ↦
      let more : length (marks ++ mark ∷ []) ≡ length marks + 1 = length_push marks mark in
      let last : length marks ≡ j = omega (arith, below, most, more) in
      let same : k ≡ j = sym size ∙ last in
      subst (λ (m : Mark). IsMark texts (ending (64 * j) table) m) (sym (get_or_push marks mark (record { front = 0; tail = 0 }) j last))
      (subst (λ (i : ℕ). IsMark texts (ending (64 * i) table) mark) same is)
]
