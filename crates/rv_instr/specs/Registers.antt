-- The integer registers (RISC-V unprivileged ISA, "Programmers' Model for Base Integer ISA"): x0 is
-- hardwired to zero, the others hold 64 bits each.
use Rattle.std.specs.Prelude.{ℕ, zero, suc, ◌==◌, if◌then◌else◌, List, slice_index}

-- what each register number holds
abbrev pub Registers : Type 0
Registers = ℕ → ℕ

-- register `r` as an instruction reads it
abbrev pub get_reg : Registers → ℕ → ℕ
get_reg regs zero = 0
get_reg regs (suc r) = regs (suc r)

-- the registers after an instruction writes `v` to register `r`
abbrev pub set_reg : Registers → ℕ → ℕ → Registers
set_reg regs zero v = regs
set_reg regs (suc r) v = λ k. if k == suc r then v else regs k

-- the registers that a list of 32 numbers holds
unfoldable pub regs_of : List ℕ → Registers
regs_of values = λ k. slice_index values k

-- registers that all hold zero
abbrev pub cleared : Registers
cleared = λ k. 0
