-- Which instructions are of a kind, and which of them a relocation may give an immediate.
use Rattle.std.specs.Prelude.{ℕ, Bool, true, false, not, ◌==◌, ◌&&◌, ◌||◌}
use Rattle.rv_instr.specs.declared.instr.Instr.{Instr}
use Rattle.rv_instr.specs.declared.instr.Instr.TheVariants.{Upper, Jal, Jalr, Branch, Load, Store, Immediate, Shift, ShiftWord, Register, Fence, Ecall, Ebreak}
use Rattle.rv_instr.specs.declared.instr.UpperOp.{UpperOp}
use Rattle.rv_instr.specs.declared.instr.UpperOp.TheVariants.{Lui, Auipc}
use Rattle.rv_instr.specs.Operands.{names}
use Rattle.obj_input.specs.declared.item_kind.ItemKind.{ItemKind}
use Rattle.obj_input.specs.declared.item_kind.ItemKind.TheVariants as is
use Rattle.obj_program.specs.declared.item.Patch.{Patch}
use Rattle.obj_program.specs.declared.item.Patch.TheVariants as put

-- `lui x0`
abbrev pub is_gate : UpperOp → ℕ → Bool
is_gate Lui rd = rd == 0
is_gate Auipc rd = false

-- no transfer, no store, no system instruction, no `lui x0`
abbrev pub is_plain : Instr → Bool
is_plain (Upper op rd imm) = not (is_gate op rd)
is_plain (Load op rd rs1 imm) = true
is_plain (Immediate op rd rs1 imm) = true
is_plain (Shift op rd rs1 amount) = true
is_plain (ShiftWord op rd rs1 amount) = true
is_plain (Register op rd rs1 rs2) = true
is_plain (Fence word) = true
is_plain other = false

abbrev pub is_gate_word : Instr → Bool
is_gate_word (Upper op rd imm) = is_gate op rd
is_gate_word other = false

abbrev pub is_store : Instr → Bool
is_store (Store op rs1 rs2 imm) = true
is_store other = false

abbrev pub is_system : Instr → Bool
is_system Ecall = true
is_system Ebreak = true
is_system other = false

abbrev pub is_branch : Instr → Bool
is_branch (Branch op rs1 rs2 imm) = true
is_branch other = false

-- a JAL or a pair, which is told by its JALR, that links to a register
abbrev pub links : ℕ → Instr → Bool
links link (Jal rd imm) = rd == link
links link (Jalr rd base imm) = rd == link
links link other = false

abbrev pub is_return : Instr → Bool
is_return (Jalr rd base imm) = rd == 0 && base == 1 && imm == 0
is_return other = false

abbrev pub is_computed_jump : Instr → Bool
is_computed_jump (Jalr rd base imm) = rd == 0 && not (base == 1)
is_computed_jump other = false

abbrev pub is_computed_call : Instr → Bool
is_computed_call (Jalr rd base imm) = rd == 1
is_computed_call other = false

-- an instruction is of a kind
abbrev pub suits : ItemKind → Instr → Bool
suits is.Gate i = is_gate_word i
suits is.Plain i = is_plain i
suits is.Store i = is_store i
suits is.System i = is_system i
suits is.Branch i = is_branch i
suits is.Jump i = links 0 i
suits is.Call i = links 1 i
suits is.Return i = is_return i
suits is.Ijump i = is_computed_jump i
suits is.Icall i = is_computed_call i
suits is.End i = false

-- x3, x4, x30 or x31 is named
abbrev pub names_reserved : Instr → Bool
names_reserved i = names i 3 || names i 4 || names i 30 || names i 31

-- the forms that have an immediate of 20 bits, or one of 12
abbrev pub is_upper : Instr → Bool
is_upper (Upper op rd imm) = true
is_upper other = false

abbrev pub has_lower : Instr → Bool
has_lower (Jalr rd rs1 imm) = true
has_lower (Load op rd rs1 imm) = true
has_lower (Store op rs1 rs2 imm) = true
has_lower (Immediate op rd rs1 imm) = true
has_lower other = false

-- the kinds whose immediate a relocation may give
abbrev pub may_be_patched : ItemKind → Bool
may_be_patched is.Plain = true
may_be_patched is.Store = true
may_be_patched is.Ijump = true
may_be_patched is.Icall = true
may_be_patched other = false

-- a relocation stands on an instruction of its form
abbrev pub stands_on : Patch → ItemKind → Instr → Bool
stands_on put.Own kind i = true
stands_on (put.High v) kind i = may_be_patched kind && is_upper i
stands_on (put.RelativeHigh v) kind i = may_be_patched kind && is_upper i
stands_on (put.Low v) kind i = may_be_patched kind && has_lower i
stands_on (put.RelativeLow j) kind i = may_be_patched kind && has_lower i
