-- The code of a well-formed pair is split into units, and a unit starts at an address exactly where one
-- of the split does.
use Rattle.std.proofs.Common.{◌≡◌, ℕ, zero, suc, ◌+◌, ◌-◌, ◌*◌, ◌/◌, ◌%◌, ◌≤◌, ◌<◌, inl, inr, true, List, [], ◌∷◌, length, drop, length-drop, sym, ap, subst, ◌∙◌, None, arith}
use Rattle.std.proofs.lemmas.Bool.{cases_Bool, cases_eq, cases_lt}
use Rattle.std.proofs.lemmas.List.{drop-drop, drop_all}
use Rattle.rv_image.specs.MemoryMap.{CODE_START, Profile}
use Rattle.rv_image.proofs.Profiles.{LaidOut, laid_out}
use Rattle.cfi_unit.specs.declared.unit.Unit as U
use Rattle.cfi_unit.specs.Split.{IsSplit}
use Rattle.cfi_unit.specs.UnitWords.{word_count}
use Rattle.cfi_rules.specs.Laws.{CodeIsSplit}
use Rattle.cfi_rules.specs.Split.{code_words, unit_words, starts, is_start, unit_at, unit_in}
use Rattle.cfi_rules.proofs.Find.{IsWhole, UnitHere, start_at, no_start_below, no_unit, unit_here}
use Rattle.cfi_unit.proofs.Counts.{some_word}
use Rattle.cfi_rules.proofs.Marks.{first_marked}
use Rattle.cfi_rules.proofs.Places.{is_whole}
use Rattle.cfi_rules.proofs.UnitIn.{in_here, in_later, in_none}

module _ (p : Profile) (laid : LaidOut p) (words : List ℕ) (whole : IsWhole p words) where
  -- the units from an address on
  record SplitFrom (s : ℕ) (us : List U.Unit) : Type 0 where
    split : IsSplit (drop ((s - CODE_START) / 4) words) s us
    same : (a : ℕ) → s ≤ a → unit_at p words a ≡ unit_in us s a

  -- past the last word no unit starts
  no_unit_past : (a : ℕ) → CODE_START + 4 * length words ≤ a → unit_at p words a ≡ None
  no_unit_past a past =
      elim (cases_Bool (is_start p words a)) [
        | inl begun ↦
            let (u, here) = unit_here p laid words whole a begun in
            let some : 1 ≤ word_count u = some_word u in
            let high : a + 4 * word_count u ≤ CODE_START + 4 * length words = here.high in
            absurd (omega arith)
        | inr none ↦ no_unit p laid words a none
      ]

  ended : (s : ℕ) → p.units_from ≤ s → s % 4 ≡ 0 → CODE_START + 4 * length words ≤ s → SplitFrom s []
  unfolding IsSplit unit_in
  ended s low round past = record {
    split = drop_all ((s - CODE_START) / 4) words (omega arith);
    same = λ a from. no_unit_past a (omega arith);
  }

  going : (s : ℕ) (u : U.Unit) (us : List U.Unit) → UnitHere p words s u → SplitFrom (s + 4 * word_count u) us → SplitFrom s (u ∷ us)
  unfolding IsSplit
  going s u us here rest =
      let low : p.units_from ≤ s = here.low in
      let round : s % 4 ≡ 0 = here.round in
      let k : (s + 4 * word_count u - CODE_START) / 4 ≡ (s - CODE_START) / 4 + word_count u = omega arith in
      let left : drop ((s + 4 * word_count u - CODE_START) / 4) words ≡ drop (word_count u) (drop ((s - CODE_START) / 4) words) =
      ap (λ n. drop n words) k ∙ sym (drop-drop (word_count u) ((s - CODE_START) / 4) words) in
      record {
        split = (here.begins, subst (λ (ws : List ℕ). IsSplit ws (s + 4 * word_count u) us) left rest.split);
        same = λ a from.
            elim (cases_eq a s) [
              | inl e ↦ subst (λ (b : ℕ). unit_at p words b ≡ unit_in (u ∷ us) s b) (sym e) (here.is ∙ sym (in_here u us s))
              | inr other ↦ elim (cases_lt a (s + 4 * word_count u)) [
                | inl inside ↦ no_unit p laid words a (here.inner a (omega arith) inside) ∙ sym (in_later u us s a other ∙ in_none us (s + 4 * word_count u) a inside)
                | inr later ↦ rest.same a (omega arith) ∙ sym (in_later u us s a other)
              ]
            ];
      }

  split_from : (n s : ℕ) → p.units_from ≤ s → s % 4 ≡ 0 → CODE_START + 4 * length words ≤ s + n → (s < CODE_START + 4 * length words → is_start p words s ≡ true) →
      (us : List U.Unit) × SplitFrom s us
  split_from zero s low round near start = ([], ended s low round (omega arith))
  split_from (suc n) s low round near start =
      elim (cases_lt s (CODE_START + 4 * length words)) [
        | inl more ↦
            let (u, here) = unit_here p laid words whole s (start more) in
            let some : 1 ≤ word_count u = some_word u in
            let (us, rest) = split_from n (s + 4 * word_count u) (omega arith) (omega arith) (omega arith) here.next in
            (u ∷ us, going s u us here rest)
        | inr past ↦ ([], ended s low round (omega arith))
      ]

  -- the first unit starts where the profile says
  first_start : p.units_from < CODE_START + 4 * length words → is_start p words p.units_from ≡ true
  first_start more =
      let all : length (starts 0 (unit_words p words) p.units_from) ≡ length (unit_words p words) = whole.reached in
      let left : length (unit_words p words) ≡ length words - (p.units_from - CODE_START) / 4 = length-drop ((p.units_from - CODE_START) / 4) words in
      let first : p.units_from + 4 * 0 ≡ p.units_from = omega arith in
      subst (λ (a : ℕ). is_start p words a ≡ true) first (start_at p laid words 0 (first_marked (unit_words p words) p.units_from (omega arith)))

pub code_is_split : CodeIsSplit
code_is_split p image graph profile bytes formed =
    let laid = laid_out p profile in
    let round = laid.round in
    let words = code_words image.code in
    let whole = is_whole p profile image graph bytes formed in
    let (us, s) = split_from p laid words whole (4 * length words) p.units_from (omega arith) round (omega arith) (first_start p laid words whole) in (
      us,
      s.split,
      λ a. elim (cases_lt a p.units_from) [
        | inl below ↦ no_unit p laid words a (no_start_below p laid words a below) ∙ sym (in_none us p.units_from a below)
        | inr from ↦ s.same a (omega arith)
      ],
    )
