-- The shape of a unit.
use Rattle.std.specs.Prelude.{ℕ, ◌==◌, [], ◌∷◌, if◌then◌else◌, length}
use Rattle.rv_instr.specs.declared.instr.Instr.TheVariants.{Ecall, Ebreak, Jalr}
use Rattle.cfi_unit.specs.declared.pattern.Pattern.TheVariants as P
use Rattle.cfi_unit.specs.declared.pattern.End.TheVariants as E
use Rattle.cfi_unit.specs.declared.unit.Unit as U
use Rattle.cfi_unit.specs.declared.unit.Unit.TheVariants as V
use Rattle.cfi_unit.specs.declared.unit.SystemOp.TheVariants as S
use Rattle.cfi_unit.specs.UnitWords.{BAD_TARGET, near_offset, skip_offset}
use Rattle.cfi_unit.specs.Shapes.{Shape, call, enter, guarded, icall, ijump, is, lean_icall, lean_ijump, return, shape, stores}

abbrev pub shape_of : U.Unit → ℕ → Shape
shape_of (V.Gate label) at = shape E.Gate (P.Gate ∷ [])
shape_of (V.Plain instr) at = shape E.Plain (P.Plain ∷ [])
shape_of (V.Branch op rs1 rs2 target) at = shape E.Branch (P.Skip ∷ P.Jump ∷ [])
shape_of (V.Near op rs1 rs2 target) at =
    if near_offset at target == skip_offset then shape E.Over (P.Skip ∷ []) else shape E.Near (P.Near ∷ [])
shape_of (V.Jump target) at = shape E.Jump (P.Goto ∷ [])
shape_of V.Stop at = shape E.Stop (P.Halt BAD_TARGET ∷ [])
shape_of (V.System S.Ecall) at = shape E.Ecall (is Ecall ∷ [])
shape_of (V.System S.Ebreak) at = shape E.Ebreak (is Ebreak ∷ [])
shape_of (V.Guarded numbers) at = shape E.Guarded (guarded (length numbers))
shape_of (V.Stores mask rs1 imm members) at =
    shape (if length members == 16 then E.Full mask else E.Stores mask) (stores mask (length members))
shape_of (V.Call target) at = shape E.Call call
shape_of (V.Ijump which rs1 imm label) at = shape (E.Ijump which) (ijump which)
shape_of (V.Icall rs1 imm label) at = shape E.Icall icall
shape_of V.Return at = shape E.Return return
shape_of (V.LinkCall target) at = shape E.LinkCall (P.Link ∷ [])
shape_of V.Enter at = shape E.Enter enter
shape_of (V.LeanIjump rs1 imm label) at = shape E.LeanIjump lean_ijump
shape_of (V.LeanIcall rs1 imm label) at = shape E.LeanIcall lean_icall
shape_of V.LeafReturn at = shape E.LeafReturn (is (Jalr 0 1 0) ∷ [])
