-- Where units start: in the words from the first one on.
use Rattle.std.proofs.Common.{◌/◌, ◌%◌, inl, inr, length-drop, ◌≡◌, ◌≤◌, ◌<◌, ℕ, zero, suc, ◌+◌, ◌-◌, ◌*◌, true, List, [], ◌∷◌, length, arith}
use Rattle.std.proofs.lemmas.Option.{slice_get_within}
use Rattle.cfi_verify.proofs.Prelude.{CODE_START, Profile, recognised, word_count, starts, is_start, unit_words}
use Rattle.rv_image.proofs.Profiles.{LaidOut}
use Rattle.rv_word.proofs.Cases.{cases_Option}
use Rattle.cfi_rules.proofs.Find.{start_parts}
use Rattle.cfi_rules.proofs.Marks.{marks_unit}

-- no more starts than words
pub length-starts : (skip : ℕ) (ws : List ℕ) (at : ℕ) → length (starts skip ws at) ≤ length ws
unfolding starts
length-starts zero [] at = omega arith
length-starts (suc skip) [] at = omega arith
length-starts (suc skip) (w ∷ ws) at = let less = length-starts skip ws (at + 4) in omega arith
length-starts zero (w ∷ ws) at =
    elim (cases_Option (recognised (w ∷ ws) at)) [
      | inl r ↦ rw (r, starts) (omega arith)
      | inr found ↦ let less = length-starts (word_count found.0 - 1) ws (at + 4) in rw (marks_unit w ws at found.0 found.1) (omega arith)
    ]

-- where a start lies
pub record IsInUnits (p : Profile) (words : List ℕ) (a : ℕ) : Type 0 where
  pub low : p.units_from ≤ a
  pub even : a % 4 ≡ 0
  pub high : (a - 0x40000000) / 4 < length words
  pub end : a + 4 ≤ 0x40000000 + 4 * length words

pub start_within : (p : Profile) → LaidOut p → (words : List ℕ) (a : ℕ) → is_start p words a ≡ true → IsInUnits p words a
start_within p laid words a e =
    let start = start_parts p laid words a e in
    let low = start.low in
    let even = start.round in
    let bound = length-starts 0 (unit_words p words) p.units_from in
    let words_left : length (unit_words p words) ≡ length words - (p.units_from - CODE_START) / 4 = length-drop ((p.units_from - CODE_START) / 4) words in
    let inside : (a - p.units_from) / 4 < length (starts 0 (unit_words p words) p.units_from) =
    slice_get_within (starts 0 (unit_words p words) p.units_from) ((a - p.units_from) / 4) true start.mark in
    record { low = low; even = even; high = omega arith; end = omega arith }
