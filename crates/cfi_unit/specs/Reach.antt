-- Where a jump and a branch lead from an address by their offset fields, and whether a jump reaches another address.
use Rattle.std.specs.Prelude.{ℕ, ◌+◌, ◌*◌, ◌==◌, Bool, Option, Some, None}
use Rattle.rv_word.specs.Bits.{wrap}
use Rattle.rv_instr.specs.declared.instr.Instr.{Instr}
use Rattle.rv_instr.specs.declared.instr.Instr.TheVariants.{Jal}
use Rattle.rv_code.specs.Step.{offset}
use Rattle.cfi_unit.specs.UnitWords.{jump_offset}

-- where a jump at an address leads
abbrev pub led_to : ℕ → ℕ → ℕ
led_to at imm = wrap (at + offset 21 (imm * 2))

-- and a branch
abbrev pub near_to : ℕ → ℕ → ℕ
near_to at imm = wrap (at + offset 13 (imm * 2))

-- the target of a `jal` at an address
abbrev pub target_in : ℕ → Option Instr → Option ℕ
target_in at (Some (Jal rd imm)) = Some (led_to at imm)
target_in at other = None

-- a jump from one address reaches another, as a test
abbrev pub reaches : ℕ → ℕ → Bool
reaches from to = led_to from (jump_offset from to) == to
