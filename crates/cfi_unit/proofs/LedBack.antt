-- The offset field of a jump is the one that leads to where it leads.
use Rattle.std.proofs.Common.{◌≡◌, ℕ, ◌*◌, ◌%◌, ◌^◌, ◌<◌, arith, inl, inr}
use Rattle.std.proofs.lemmas.Bool.{cases_lt, lt-ltb, le-ltb}
use Rattle.cfi_unit.specs.Reach.{led_to, near_to}
use Rattle.cfi_unit.specs.UnitWords.{jump_offset, near_offset}

pub led_back : (at imm : ℕ) → imm < 2 ^ 20 → jump_offset at (led_to at imm) ≡ imm
led_back at imm small =
    elim (cases_lt (imm * 2 % 2 ^ 21) (2 ^ 20)) [
      | inl positive ↦ rw (lt-ltb (imm * 2 % 2 ^ 21) (2 ^ 20) positive) (omega arith)
      | inr negative ↦ rw (le-ltb (imm * 2 % 2 ^ 21) (2 ^ 20) negative) (omega arith)
    ]

-- the same of a branch
pub near_back : (at imm : ℕ) → imm < 2 ^ 12 → near_offset at (near_to at imm) ≡ imm
near_back at imm small =
    elim (cases_lt (imm * 2 % 2 ^ 13) (2 ^ 12)) [
      | inl positive ↦ rw (lt-ltb (imm * 2 % 2 ^ 13) (2 ^ 12) positive) (omega arith)
      | inr negative ↦ rw (le-ltb (imm * 2 % 2 ^ 13) (2 ^ 12) negative) (omega arith)
    ]
