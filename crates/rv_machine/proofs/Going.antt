-- After an instruction that ran the run goes on, where it did before.
use Rattle.std.proofs.Common.{◌≡◌, None, refl, sym, inl, inr}
use Rattle.std.proofs.lemmas.Bool.{cases_Bool}
use Rattle.rv_image.specs.MemoryMap.{Profile, can_load, can_store}
use Rattle.rv_instr.specs.Registers.{get_reg}
use Rattle.rv_instr.specs.declared.instr.Instr.{Instr}
use Rattle.rv_instr.specs.declared.instr.Instr.TheVariants.{Upper, Jal, Jalr, Branch, Load, Store, Immediate, Shift, ShiftWord, Register, Fence, Ecall, Ebreak}
use Rattle.rv_instr.specs.declared.instr.UpperOp.TheVariants.{Lui, Auipc}
use Rattle.rv_code.specs.Arithmetic.{branch_taken, load_size, store_size}
use Rattle.rv_code.specs.State.{Hart, Shared, last_exit}
use Rattle.rv_code.specs.Step.{address, exec}
use Rattle.rv_code.specs.SystemCall.{system_call}
use Rattle.rv_code.specs.declared.turn.Turn.TheVariants.{Ran}
use Rattle.rv_machine.proofs.Exits.{none_kept}

pub exec_goes : (p : Profile) (instr : Instr) (h : Hart) (s : Shared) → last_exit s.events ≡ None → (exec p instr h s).turn ≡ Ran → last_exit (exec p instr h s).shared.events ≡ None
exec_goes p (Upper Lui rd imm) h s none ran = none
exec_goes p (Upper Auipc rd imm) h s none ran = none
exec_goes p (Jal rd imm) h s none ran = none
exec_goes p (Jalr rd rs1 imm) h s none ran = none
exec_goes p (Branch op rs1 rs2 imm) h s none ran = elim (cases_Bool (branch_taken op (get_reg h.regs rs1) (get_reg h.regs rs2))) [ inl goes ↦ rw goes none | inr falls ↦ rw falls none ]
exec_goes p (Load op rd rs1 imm) h s none ran = elim (cases_Bool (can_load p (address h rs1 imm) (load_size op))) [ inl may ↦ rw may none | inr fault ↦ rw fault none ]
exec_goes p (Store op rs1 rs2 imm) h s none ran = elim (cases_Bool (can_store p (address h rs1 imm) (store_size op))) [ inl may ↦ rw may none | inr fault ↦ rw fault none ]
exec_goes p (Immediate op rd rs1 imm) h s none ran = none
exec_goes p (Shift op rd rs1 amount) h s none ran = none
exec_goes p (ShiftWord op rd rs1 amount) h s none ran = none
exec_goes p (Register op rd rs1 rs2) h s none ran = none
exec_goes p (Fence word) h s none ran = none
exec_goes p Ecall h s none ran = sym (none_kept h s (system_call h s) refl ran)
exec_goes p Ebreak h s none ran = none
