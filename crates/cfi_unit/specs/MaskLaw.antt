-- The mask of stores in x4 stays: no unit of a lean image writes x4 but those that make the mask again.
use Rattle.std.specs.Prelude.{◌≡◌, ℕ, Bool, true, false, List}
use Rattle.rv_image.specs.MemoryMap.{Profile}
use Rattle.rv_word.specs.Memory.{Memory}
use Rattle.rv_instr.specs.Registers.{Registers}
use Rattle.rv_code.specs.State.{Hart, Shared}
use Rattle.rv_code.specs.Step.{step}
use Rattle.cfi_unit.specs.declared.unit.Unit as U
use Rattle.cfi_unit.specs.declared.unit.Unit.TheVariants as V
use Rattle.cfi_unit.specs.UnitWords.{instrs_of}
use Rattle.cfi_unit.specs.Stand.{Stand}
use Rattle.cfi_unit.specs.Context.{Context}
use Rattle.cfi_unit.specs.InPlace.{InUnit}
use Rattle.cfi_unit.specs.UnitLaw.{UnitMayStand}

-- these tests of a computed destination use x4 for the label
abbrev pub writes_mask : U.Unit → Bool
writes_mask (V.Ijump which rs1 imm label) = true
writes_mask (V.Icall rs1 imm label) = true
writes_mask (V.LeanIjump rs1 imm label) = true
writes_mask (V.LeanIcall rs1 imm label) = true
writes_mask other = false

-- a step from a word of any other unit leaves x4 as it was
abbrev pub MaskStays : Type 0
MaskStays =
    (p : Profile) (part : ℕ) (image base : Memory) (unit : U.Unit) (at : ℕ) (pending : List ℕ) (r : Registers) (h : Hart) (s : Shared) →
    writes_mask unit ≡ false → UnitMayStand unit at pending → Stand image at (instrs_of unit at) → Context part image base pending s →
    InUnit part image unit at pending r h s.memory → (step p h s).hart.regs 4 ≡ h.regs 4
