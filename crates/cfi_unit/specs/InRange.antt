-- The ranges of a unit's fields, as their types in the program keep them.
use Rattle.std.specs.Prelude.{◌<◌, ◌≤◌, ◌^◌, length}
use Rattle.std.specs.List.{AllByRecursion}
use Rattle.rv_word.specs.Numbers.{IsNumber, MOST_NUMBERS}
use Rattle.rv_instr.specs.InRange.{IsInstr}
use Rattle.cfi_unit.specs.Members.{IsMember, MOST_MEMBERS}
use Rattle.cfi_unit.specs.declared.unit.Unit as U
use Rattle.cfi_unit.specs.declared.unit.Unit.TheVariants as V

abbrev pub IsInRange : U.Unit → Type 0
IsInRange (V.Gate label) = label < 2 ^ 20
IsInRange (V.Plain instr) = IsInstr instr
IsInRange (V.Branch op rs1 rs2 target) = (rs1 < 32) × (rs2 < 32)
IsInRange (V.Near op rs1 rs2 target) = (rs1 < 32) × (rs2 < 32)
IsInRange (V.Guarded numbers) = (length numbers ≤ MOST_NUMBERS) × AllByRecursion IsNumber numbers
IsInRange (V.Stores mask rs1 imm members) = (rs1 < 32) × (imm < 2 ^ 12) × (length members ≤ MOST_MEMBERS) × AllByRecursion IsMember members
IsInRange (V.Ijump which rs1 imm label) = (rs1 < 32) × (imm < 2 ^ 12) × (label < 2 ^ 20)
IsInRange (V.Icall rs1 imm label) = (rs1 < 32) × (imm < 2 ^ 12) × (label < 2 ^ 20)
IsInRange (V.LeanIjump rs1 imm label) = (rs1 < 32) × (imm < 2 ^ 12) × (label < 2 ^ 20)
IsInRange (V.LeanIcall rs1 imm label) = (rs1 < 32) × (imm < 2 ^ 12) × (label < 2 ^ 20)
IsInRange other = Unit {0}
