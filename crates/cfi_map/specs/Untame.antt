-- What makes a step untame, in the order in which it is told: a source machine takes no step that goes where its closed
-- graph does not, returns elsewhere than its call says, leaves the window of data, calls too deep, runs into a section's end or makes a
-- system call that is not in its closed graph's list.
use Rattle.std.specs.Prelude.{ℕ, ◌+◌, ◌*◌, ◌/◌, ◌^◌, nat_le, Bool, false, not, ◌==◌, ◌&&◌, ◌||◌, if◌then◌else◌, Option, Some, None, option_and_then, position, List, [], ◌∷◌, length}
use Rattle.std.specs.Option.{is_none}
use Rattle.rv_word.specs.Bits.{wrap}
use Rattle.rv_word.specs.Numbers.{is_listed}
use Rattle.rv_instr.specs.declared.instr.Instr.{Instr}
use Rattle.rv_instr.specs.declared.instr.Instr.TheVariants.{Ecall, Jalr, Load, Store}
use Rattle.rv_instr.specs.Registers.{Registers, get_reg}
use Rattle.rv_code.specs.Arithmetic.{load_size, store_size}
use Rattle.rv_code.specs.Step.{offset}
use Rattle.obj_input.specs.declared.item_kind.ItemKind.{ItemKind}
use Rattle.obj_input.specs.declared.item_kind.ItemKind.TheVariants as is
use Rattle.obj_program.specs.Program.{is_end, item_of}
use Rattle.cfi_graph.specs.Graph.{has_leaves}
use Rattle.cfi_closed.specs.Closed.{ClosedGraph, class_reaches}
use Rattle.cfi_map.specs.GraphAtMap.{ProgramAtMap, gate}
use Rattle.cfi_map.specs.Groups.{is_short}
use Rattle.cfi_map.specs.declared.reason.Reason.{Reason}
use Rattle.cfi_map.specs.declared.reason.Reason.TheVariants as why
use Rattle.cfi_map.specs.Source.{Source}

-- the window of data, [0, 2 ^ 28)
abbrev pub WINDOW : ℕ
WINDOW = 2 ^ 28

-- how many calls may be pending
abbrev pub MOST_CALLS : ℕ
MOST_CALLS = 8190

-- a register and an offset of 12 bits
abbrev pub sum_of : Registers → ℕ → ℕ → ℕ
sum_of regs rs1 imm = wrap (get_reg regs rs1 + offset 12 imm)

-- where a computed transfer goes: bit 0 is cleared
abbrev pub computed : Instr → Registers → ℕ
computed (Jalr rd rs1 imm) regs = sum_of regs rs1 imm / 2 * 2
computed other regs = 0

abbrev pub if_reached : ClosedGraph → ℕ → ℕ → Option ℕ
if_reached closed k target = if class_reaches closed k target then Some target else None

-- the place with a gate
abbrev pub place_with_gate : List ℕ → ℕ → Option ℕ
place_with_gate gates address = position (λ g. g == address) gates

-- the place that a computed transfer goes to, where the closed graph has it
abbrev pub computed_place : ProgramAtMap → ℕ → Instr → Registers → Option ℕ
computed_place layout k instr regs = option_and_then (if_reached layout.closed k) (place_with_gate layout.gates (computed instr regs))

-- the end of the bytes that a load or a store touches
abbrev pub touched : Instr → Registers → ℕ
touched (Load op rd rs1 imm) regs = sum_of regs rs1 imm + load_size op
touched (Store op rs1 rs2 imm) regs = sum_of regs rs1 imm + store_size op
touched other regs = 0

-- where x1 has to lead at a return: the newest pending call's site, or the closing
abbrev pub return_address : ProgramAtMap → List ℕ → ℕ
return_address layout [] = layout.profile.closing
return_address layout (k ∷ pending) = gate layout k

abbrev pub is_off_graph : ProgramAtMap → ℕ → ItemKind → Instr → Source → Bool
is_off_graph layout k is.Ijump instr st = is_none (computed_place layout k instr st.regs)
is_off_graph layout k is.Icall instr st = is_none (computed_place layout k instr st.regs)
is_off_graph layout k other instr st = false

abbrev pub is_wrong_return : ProgramAtMap → ItemKind → Source → Bool
is_wrong_return layout is.Return st = not (get_reg st.regs 1 == return_address layout st.pending)
is_wrong_return layout other st = false

-- under version 3 a store's base alone is masked where its offset is its own and not negative: so it has to be below the window's end
abbrev pub base_of : Instr → Registers → ℕ
base_of (Store op rs1 rs2 imm) regs = get_reg regs rs1
base_of other regs = 0

abbrev pub is_off_base : ProgramAtMap → ℕ → Instr → Source → Bool
is_off_base layout k instr st =
    has_leaves layout.closed.version && (is_short (item_of layout.program k) && nat_le WINDOW (base_of instr st.regs))

abbrev pub is_off_window : ProgramAtMap → ℕ → ItemKind → Instr → Source → Bool
is_off_window layout k is.Plain instr st = not (nat_le (touched instr st.regs) WINDOW)
is_off_window layout k is.Store instr st = not (nat_le (touched instr st.regs) WINDOW) || is_off_base layout k instr st
is_off_window layout k other instr st = false

abbrev pub is_too_deep : ItemKind → Source → Bool
is_too_deep is.Call st = nat_le MOST_CALLS (length st.pending)
is_too_deep is.Icall st = nat_le MOST_CALLS (length st.pending)
is_too_deep other st = false

-- a system call that is not in the closed graph's list, where that has one: x17 has its number
abbrev pub is_outside : Option (List ℕ) → ℕ → Bool
is_outside None number = false
is_outside (Some calls) number = not (is_listed number calls)

abbrev pub is_unlisted : ProgramAtMap → ItemKind → Instr → Source → Bool
is_unlisted layout is.System Ecall st = is_outside layout.closed.calls (get_reg st.regs 17)
is_unlisted layout kind instr st = false

-- the first reason that stands against the step of an instruction of a kind at a place
abbrev pub reason : ProgramAtMap → ℕ → ItemKind → Instr → Source → Option Reason
reason layout k kind instr st =
    if is_off_graph layout k kind instr st then Some why.Graph else
    if is_wrong_return layout kind st then Some why.Return else
    if is_off_window layout k kind instr st then Some why.Window else
    if is_too_deep kind st then Some why.Deep else
    if is_end kind then Some why.End else
    if is_unlisted layout kind instr st then Some why.Call else None
