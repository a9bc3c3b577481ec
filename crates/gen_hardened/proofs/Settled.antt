-- Patches that have a value wherever places are put.
use Rattle.std.proofs.Common.{◌≡◌, ℕ, pos, ◌+◌, ◌^◌, ◌<◌, true, false, not, ◌&&◌, List, inl, inr, refl, lt-ltb}
use Rattle.std.specs.Prelude.{is_none, option_and_then}
use Rattle.std.proofs.lemmas.Bool.{and_right}
use Rattle.rv_word.proofs.Cases.{cases_Option}
use Rattle.gen_hardened.proofs.Prelude.{Instr, decoded, is_high_in_range, Item, Patch, Number, patched_instr, Program, is_end, is_read}
use Rattle.obj_program.specs.declared.item.Patch.TheVariants as put

-- LUI reaches a number that is some less than 2 GiB
number_reached : (n : ℕ) → n + 0x800 < 2 ^ 31 → is_high_in_range (pos n) ≡ true
number_reached n below = let less = lt-ltb (n + 0x800) (2 ^ 31) below in rw less refl

-- a high part is that of such a number, and none is of a distance
abbrev pub IsSettled : Patch → Type 0
IsSettled put.Own = Unit {0}
IsSettled (put.High v) = (n : ℕ) × (v ≡ Number (pos n)) × (n + 0x800 < 2 ^ 31)
IsSettled (put.Low v) = Unit {0}
IsSettled (put.RelativeHigh v) = ⊥
IsSettled (put.RelativeLow j) = ⊥

module _ (program : Program) (gates words : List ℕ) (k : ℕ) where
  patch_there : (i : Instr) (patch : Patch) → IsSettled patch → is_none (patched_instr program gates words k i patch) ≡ false
  patch_there i put.Own settled = refl
  patch_there i (put.High v) settled = let reached = number_reached settled.0 settled.2 in rw (settled.1, reached) refl
  patch_there i (put.Low v) settled = refl
  patch_there i (put.RelativeHigh v) settled = absurd settled
  patch_there i (put.RelativeLow j) settled = absurd settled

  -- a place is an end, or its instruction is there
  abbrev pub IsThere : Item → Type 0
  IsThere y =
      (not (is_end y.kind) && is_none (option_and_then (λ i. patched_instr program gates words k i y.patch) (decoded y.word))) ≡ false

  pub instruction_there : (y : Item) → is_end y.kind ≡ false → is_read y ≡ true → IsSettled y.patch → IsThere y
  instruction_there y going read settled = elim (cases_Option (decoded y.word)) [
    | inl none ↦ let no : false ≡ true = rw (going, none) at read in absurd (cc)
    | inr (i, some) ↦ rw (some, patch_there i y.patch settled) (and_right (not (is_end y.kind)) false refl)
  ]
