-- Units at addresses: what stands where the split has a start, that no unit starts inside another,
-- that the next one follows, and that units cover the code.
use Rattle.std.proofs.Common.{◌≡◌, ℕ, ◌+◌, ◌-◌, ◌*◌, ◌/◌, ◌%◌, ◌^◌, ◌≤◌, ◌<◌, inl, inr, Bool, true, false, List, length, drop, length-drop, refl, sym, ap, subst, ◌∙◌, Option, Some, None, arith}
use Rattle.std.specs.Prelude.{slice_get}
use Rattle.std.proofs.lemmas.Bool.{cases_Bool, and_parts, leb-true, le-leb, eqb-true, cases_eq}
use Rattle.std.proofs.lemmas.List.{drop-drop}
use Rattle.std.proofs.lemmas.List.Elements.{All-drop}
use Rattle.rv_image.specs.MemoryMap.{CODE_START, Profile}
use Rattle.rv_image.proofs.Profiles.{LaidOut}
use Rattle.cfi_unit.specs.declared.unit.Unit as U
use Rattle.cfi_unit.specs.Laws.{AreWords}
use Rattle.cfi_unit.specs.Recognise.{recognised}
use Rattle.cfi_unit.specs.UnitWords.{word_count, Begins}
use Rattle.cfi_unit.proofs.Told.{recognised_begins}
use Rattle.cfi_unit.proofs.Counts.{some_word}
use Rattle.cfi_rules.proofs.Marks.{Marked, marked, covered}
use Rattle.cfi_rules.specs.Split.{starts, unit_words, unit_starts, is_marked, is_start, unit_at}

-- the words are such, and the split reaches their end
pub record IsWhole (p : Profile) (words : List ℕ) : Type 0 where
  pub words_are : AreWords words
  pub reached : length (unit_starts p words) ≡ length (unit_words p words)

-- a unit of the split at an address
pub record UnitHere (p : Profile) (words : List ℕ) (a : ℕ) (u : U.Unit) : Type 0 where
  pub is : unit_at p words a ≡ Some u
  pub begins : Begins (drop ((a - CODE_START) / 4) words) a u
  pub low : p.units_from ≤ a
  pub round : a % 4 ≡ 0
  pub high : a + 4 * word_count u ≤ CODE_START + 4 * length words
  pub inner : (b : ℕ) → a < b → b < a + 4 * word_count u → is_start p words b ≡ false
  pub next : a + 4 * word_count u < CODE_START + 4 * length words → is_start p words (a + 4 * word_count u) ≡ true

pub record StartParts (p : Profile) (words : List ℕ) (a : ℕ) : Type 0 where
  pub low : p.units_from ≤ a
  pub round : a % 4 ≡ 0
  pub mark : slice_get (starts 0 (unit_words p words) p.units_from) ((a - p.units_from) / 4) ≡ Some true

is_marked_true : (o : Option Bool) → is_marked o ≡ true → o ≡ Some true
is_marked_true None e = absurd (cc)
is_marked_true (Some b) e = ap Some e

-- each word of the code past the prologue is in a unit
pub record InsideUnit (p : Profile) (words : List ℕ) (v s : ℕ) (u : U.Unit) : Type 0 where
  pub here : UnitHere p words s u
  pub from : s ≤ v
  pub below : v < s + 4 * word_count u

module _ (p : Profile) (laid : LaidOut p) where
  pub start_parts : (words : List ℕ) (a : ℕ) → is_start p words a ≡ true → StartParts p words a
  unfolding is_start
  start_parts words a e =
      let both = and_parts _ _ e in let rest = and_parts _ _ both.1 in
      record { low = leb-true _ _ both.0; round = eqb-true _ _ rest.0; mark = is_marked_true _ rest.1 }

  pub start_at : (words : List ℕ) (i : ℕ) → slice_get (starts 0 (unit_words p words) p.units_from) i ≡ Some true → is_start p words (p.units_from + 4 * i) ≡ true
  unfolding is_start
  start_at words i mark =
      let k : (p.units_from + 4 * i - p.units_from) / 4 ≡ i = omega arith in
      let r : (p.units_from + 4 * i) % 4 ≡ 0 = omega arith in
      rw (le-leb p.units_from (p.units_from + 4 * i) (omega arith), r, k, mark) refl

  pub no_start_at : (words : List ℕ) (i : ℕ) → slice_get (starts 0 (unit_words p words) p.units_from) i ≡ Some false → is_start p words (p.units_from + 4 * i) ≡ false
  unfolding is_start
  no_start_at words i mark =
      let k : (p.units_from + 4 * i - p.units_from) / 4 ≡ i = omega arith in
      let r : (p.units_from + 4 * i) % 4 ≡ 0 = omega arith in
      rw (le-leb p.units_from (p.units_from + 4 * i) (omega arith), r, k, mark) refl

  -- only multiples of 4 from the first unit on start units
  pub no_start_odd : (words : List ℕ) (a : ℕ) → (a % 4 ≡ 0 → ⊥) → is_start p words a ≡ false
  no_start_odd words a odd =
      elim (cases_Bool (is_start p words a)) [ inl begun ↦ absurd (odd (start_parts words a begun).round) | inr none ↦ none ]

  pub no_start_below : (words : List ℕ) (a : ℕ) → a < p.units_from → is_start p words a ≡ false
  no_start_below words a below =
      elim (cases_Bool (is_start p words a)) [ inl begun ↦ let low = (start_parts words a begun).low in absurd (omega arith) | inr none ↦ none ]

  pub no_unit : (words : List ℕ) (a : ℕ) → is_start p words a ≡ false → unit_at p words a ≡ None
  unfolding unit_at
  no_unit words a none = rw none refl

  -- the unit of a mark
  pub unit_of_mark : (words : List ℕ) → IsWhole p words → (i : ℕ) (u : U.Unit) → Marked (unit_words p words) p.units_from i u → UnitHere p words (p.units_from + 4 * i) u
  unfolding unit_at
  unit_of_mark words whole i u m =
      let k : (p.units_from + 4 * i - CODE_START) / 4 ≡ (p.units_from - CODE_START) / 4 + i = omega arith in
      let here : recognised (drop ((p.units_from + 4 * i - CODE_START) / 4) words) (p.units_from + 4 * i) ≡ Some u =
      ap (λ n. recognised (drop n words) (p.units_from + 4 * i)) k ∙ ap (λ l. recognised l (p.units_from + 4 * i)) (sym (drop-drop i ((p.units_from - CODE_START) / 4) words)) ∙ m.fits in
      let all : length (starts 0 (unit_words p words) p.units_from) ≡ length (unit_words p words) = whole.reached in
      let left : length (unit_words p words) ≡ length words - (p.units_from - CODE_START) / 4 = length-drop ((p.units_from - CODE_START) / 4) words in
      let some : 1 ≤ word_count u = some_word u in
      let room : i + word_count u ≤ length (starts 0 (unit_words p words) p.units_from) = m.room in
      record {
        is = rw (start_at words i m.mark) here;
        begins = recognised_begins (drop ((p.units_from + 4 * i - CODE_START) / 4) words) (p.units_from + 4 * i) u
            (All-drop (λ x. x < 2 ^ 32) ((p.units_from + 4 * i - CODE_START) / 4) words whole.words_are) here;
        low = omega arith;
        round = omega arith;
        high = omega arith;
        inner = λ b low high. elim (cases_eq (b % 4) 0) [
          | inl r ↦ let j : p.units_from + 4 * ((b - p.units_from) / 4) ≡ b = omega arith in
              subst (λ (x : ℕ). is_start p words x ≡ false) j (no_start_at words ((b - p.units_from) / 4) (m.inner ((b - p.units_from) / 4) (omega arith) (omega arith)))
          | inr r ↦ no_start_odd words b r
        ];
        next = λ more.
            let j : p.units_from + 4 * (i + word_count u) ≡ p.units_from + 4 * i + 4 * word_count u = omega arith in
            subst (λ (x : ℕ). is_start p words x ≡ true) j (start_at words (i + word_count u) (m.next (omega arith)));
      }

  pub unit_here : (words : List ℕ) → IsWhole p words → (a : ℕ) → is_start p words a ≡ true → (u : U.Unit) × UnitHere p words a u
  unit_here words whole a start =
      let parts = start_parts words a start in
      let m = marked (length (unit_words p words)) (unit_words p words) p.units_from (omega arith) (All-drop (λ x. x < 2 ^ 32) ((p.units_from - CODE_START) / 4) words whole.words_are) ((a - p.units_from) / 4) parts.mark in
      let low = parts.low in let round = parts.round in
      let j : p.units_from + 4 * ((a - p.units_from) / 4) ≡ a = omega arith in
      (m.0, subst (λ (x : ℕ). UnitHere p words x m.0) j (unit_of_mark words whole ((a - p.units_from) / 4) m.0 m.1))

  pub unit_around : (words : List ℕ) → IsWhole p words → (v : ℕ) → p.units_from ≤ v → v < CODE_START + 4 * length words → (s : ℕ) × (u : U.Unit) × InsideUnit p words v s u
  unit_around words whole v low high =
      let all : length (starts 0 (unit_words p words) p.units_from) ≡ length (unit_words p words) = whole.reached in
      let left : length (unit_words p words) ≡ length words - (p.units_from - CODE_START) / 4 = length-drop ((p.units_from - CODE_START) / 4) words in
      let c = covered (length (unit_words p words)) (unit_words p words) p.units_from (omega arith) (All-drop (λ x. x < 2 ^ 32) ((p.units_from - CODE_START) / 4) words whole.words_are) ((v - p.units_from) / 4) (omega arith) in
      let from = c.2.from in let below = c.2.below in
      (p.units_from + 4 * c.0, c.1, record { here = unit_of_mark words whole c.0 c.1 c.2.is; from = omega arith; below = omega arith })
