-- Where the first instruction of a unit leads. Only private contracts cite it.
use Rattle.std.specs.Prelude.{ℕ, ◌==◌, ◌&&◌, Bool, false, List, if◌then◌else◌, nat_lt}
use Rattle.rv_instr.specs.Reserved.{is_reserved}
use Rattle.rv_instr.specs.declared.instr.Instr.{Instr}
use Rattle.rv_instr.specs.declared.instr.Instr.TheVariants.{Upper, Jal, Jalr, Branch, Load, Store, Immediate, Shift, ShiftWord, Register, Fence, Ecall, Ebreak}
use Rattle.rv_instr.specs.declared.instr.ImmediateOp.{ImmediateOp}
use Rattle.rv_instr.specs.declared.instr.RegisterOp.{RegisterOp}
use Rattle.rv_instr.specs.declared.instr.UpperOp.{UpperOp}
use Rattle.rv_instr.specs.declared.instr.ShiftOp.{ShiftOp}
use Rattle.rv_instr.specs.declared.instr.ShiftOp.TheVariants.{Slli}
use Rattle.rv_instr.specs.declared.instr.LoadOp.{LoadOp}
use Rattle.rv_instr.specs.declared.instr.LoadOp.TheVariants.{Ld}
use Rattle.cfi_unit.specs.Patterns.{is_addi, is_and}
use Rattle.cfi_unit.specs.Reach.{led_to}
use Rattle.cfi_unit.specs.UnitWords.{BAD_TARGET, MINUS_EIGHT, is_lui, skip_offset}
use Rattle.cfi_reader.specs.Kept.{count_on}
use Rattle.cfi_reader.specs.Entries.{plain_entry}
use Rattle.cfi_reader.specs.declared.entry.Entry.TheVariants as E
use Rattle.cfi_reader.specs.declared.first.First.{First}
use Rattle.cfi_reader.specs.declared.first.First.TheVariants.{More, Done}

-- at a node, with nothing kept
abbrev pub at_node : ℕ → First
at_node node = More (record { node = node; numbers = 0; label = 0 })

abbrev pub stuck : First
stuck = at_node 0

-- an instruction that writes a register: a unit of its own unless units keep the register for themselves
abbrev pub plain_step : ℕ → First
plain_step rd = if is_reserved rd then stuck else Done (plain_entry (rd == 1))

abbrev pub upper_step : UpperOp → ℕ → ℕ → First
upper_step op rd imm = if is_lui op && (rd == 0) then Done (E.Gate imm) else plain_step rd

-- a near branch, unless it leads over the next word: then that decides
abbrev pub branch_step : ℕ → First
branch_step imm = if imm == skip_offset then at_node 2 else Done (E.Near imm)

-- a jump, a stop or a call that leaves its site in x1
abbrev pub jump_step : ℕ → ℕ → ℕ → First
jump_step rd imm at =
    if rd == 1 then Done (E.LinkCall imm)
    else if rd == 0 then (if led_to at imm == BAD_TARGET then Done E.Stop else Done (E.Jump imm))
    else stuck

-- `addi x31` brings an address there, and of x0 a number of a system call, if that is below 2^11
abbrev pub opens_address : ImmediateOp → ℕ → Bool
opens_address op rd = is_addi op && (rd == 31)

abbrev pub is_number : ℕ → ℕ → Bool
is_number rs1 imm = (rs1 == 0) && nat_lt imm 2048

abbrev pub address_step : List ℕ → ℕ → ℕ → First
address_step calls rs1 imm =
    if is_number rs1 imm
    then More (record { node = 3; numbers = count_on calls 0 imm; label = 0 })
    else at_node 11

-- `slli x30,x3,48` begins a call or an enter
abbrev pub opens_call : ShiftOp → ℕ → ℕ → ℕ → Bool
opens_call Slli rd rs1 amount = (rd == 30) && ((rs1 == 3) && (amount == 48))
opens_call other rd rs1 amount = false

-- `ld x31,-8(x3)` begins a return
abbrev pub opens_return : LoadOp → ℕ → ℕ → ℕ → Bool
opens_return Ld rd rs1 imm = (rd == 31) && ((rs1 == 3) && (imm == MINUS_EIGHT))
opens_return other rd rs1 imm = false

-- `and x31,rs1,x4` begins stores
abbrev pub opens_stores : RegisterOp → ℕ → ℕ → Bool
opens_stores op rd rs2 = is_and op && ((rd == 31) && (rs2 == 4))

-- `jalr x0,0(x1)` is a return to the site in x1
abbrev pub is_leaf_return : ℕ → ℕ → ℕ → Bool
is_leaf_return rd rs1 imm = (rd == 0) && ((rs1 == 1) && (imm == 0))

abbrev pub first_step : List ℕ → Instr → ℕ → First
first_step calls (Upper op rd imm) at = upper_step op rd imm
first_step calls (Jal rd imm) at = jump_step rd imm at
first_step calls (Jalr rd rs1 imm) at = if is_leaf_return rd rs1 imm then Done E.LeafReturn else stuck
first_step calls (Branch op rs1 rs2 imm) at = branch_step imm
first_step calls (Load op rd rs1 imm) at = if opens_return op rd rs1 imm then at_node 78 else plain_step rd
first_step calls (Store op rs1 rs2 imm) at = stuck
first_step calls (Immediate op rd rs1 imm) at = if opens_address op rd then address_step calls rs1 imm else plain_step rd
first_step calls (Shift op rd rs1 amount) at = if opens_call op rd rs1 amount then at_node 46 else plain_step rd
first_step calls (ShiftWord op rd rs1 amount) at = plain_step rd
first_step calls (Register op rd rs1 rs2) at = if opens_stores op rd rs2 then at_node 99 else plain_step rd
first_step calls (Fence word) at = Done E.Other
first_step calls Ecall at = Done E.Ecall
first_step calls Ebreak at = Done E.Break
