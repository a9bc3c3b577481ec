-- What a place's own step is, by the kind of its instruction: transfers go to gates, links are the next
-- place's gate, and any other instruction has the hart's own effect at the place's word.
use Rattle.std.specs.Prelude.{ℕ, if◌then◌else◌}
use Rattle.rv_image.specs.MemoryMap.{Profile}
use Rattle.rv_instr.specs.Registers.{get_reg}
use Rattle.rv_instr.specs.declared.instr.Instr.{Instr}
use Rattle.rv_instr.specs.declared.instr.Instr.TheVariants as I
use Rattle.rv_code.specs.Arithmetic.{branch_taken}
use Rattle.obj_input.specs.declared.item_kind.ItemKind.{ItemKind}
use Rattle.obj_input.specs.declared.item_kind.ItemKind.TheVariants as is
use Rattle.cfi_runs.specs.Own.{Own, OwnAfter, calls, computed, executes, goes, returns}

-- with the gates of its target and of the next place
abbrev pub kind_step : Profile → ItemKind → Instr → ℕ → ℕ → Own → OwnAfter
kind_step p is.Branch (I.Branch op rs1 rs2 imm) target next o =
    goes p o (if branch_taken op (get_reg o.regs rs1) (get_reg o.regs rs2) then target else next)
kind_step p is.Jump i target next o = goes p o target
kind_step p is.Call i target next o = calls p o target next
kind_step p is.Return i target next o = returns p o o.pending
kind_step p is.Ijump (I.Jalr rd rs1 imm) target next o = goes p o (computed o.regs rs1 imm)
kind_step p is.Icall (I.Jalr rd rs1 imm) target next o = calls p o (computed o.regs rs1 imm) next
kind_step p kind i target next o = executes p o i o.regs next
