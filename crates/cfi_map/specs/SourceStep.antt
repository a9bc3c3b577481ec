-- One step of the source machine. An instruction that goes nowhere else has the effect that the hart gives it at the word of
-- its place, and the following place is next; links and pointers are gates. A reason against a step leaves all as it was.
use Rattle.std.specs.Prelude.{ℕ, zero, suc, ◌+◌, Bool, if◌then◌else◌, Option, Some, None, option_and_then, unwrap_or, List, [], ◌∷◌}
use Rattle.rv_instr.specs.declared.instr.Instr.{Instr}
use Rattle.rv_instr.specs.declared.instr.Instr.TheVariants.{Branch, Ecall}
use Rattle.rv_instr.specs.Registers.{Registers, get_reg, set_reg}
use Rattle.rv_code.specs.Arithmetic.{branch_taken}
use Rattle.rv_code.specs.State.{After, Hart, last_exit}
use Rattle.rv_code.specs.Step.{exec}
use Rattle.rv_code.specs.declared.turn.Turn.{Turn}
use Rattle.rv_code.specs.declared.turn.Turn.TheVariants.{Ran, Exit, Break}
use Rattle.obj_input.specs.declared.item_kind.ItemKind.{ItemKind}
use Rattle.obj_input.specs.declared.item_kind.ItemKind.TheVariants as is
use Rattle.obj_program.specs.declared.item.Item.{Item}
use Rattle.obj_program.specs.Program.{item_of}
use Rattle.cfi_map.specs.GraphAtMap.{ProgramAtMap, gate, word}
use Rattle.cfi_map.specs.declared.reason.Reason.{Reason}
use Rattle.cfi_map.specs.declared.reason.Reason.TheVariants as why
use Rattle.cfi_map.specs.Source.{Source, instr_here}
use Rattle.cfi_map.specs.Untame.{computed_place, reason}

-- how a step ended: the next may come; an exit with a status; a break at a place; a reason against the step at a place
pub data StepTurn : Type 0 where
  ran : StepTurn
  exits : ℕ → StepTurn
  breaks : ℕ → StepTurn
  untame : Reason → ℕ → StepTurn

pub record SourceAfter : Type 0 where
  pub state : Source
  pub turn : StepTurn

abbrev pub goes_to : Source → Option ℕ → SourceAfter
goes_to st place = record { state = record st { place = place }; turn = ran }

abbrev pub if_taken : Bool → ℕ → ℕ → ℕ
if_taken taken target next = if taken then target else next

abbrev pub branches : ℕ → Instr → ℕ → Source → SourceAfter
branches k (Branch op rs1 rs2 imm) target st =
    goes_to st (Some (if_taken (branch_taken op (get_reg st.regs rs1) (get_reg st.regs rs2)) target (k + 1)))
branches k other target st = goes_to st (Some (k + 1))

-- a call links x1 to the gate of the following place
abbrev pub calls : ProgramAtMap → ℕ → ℕ → Source → SourceAfter
calls layout k target st = record {
  state = record st { place = Some target; regs = set_reg st.regs 1 (gate layout (k + 1)); pending = (k + 1) ∷ st.pending };
  turn = ran;
}

abbrev pub returns_from : List ℕ → Source → SourceAfter
returns_from [] st = goes_to st None
returns_from (k ∷ pending) st = record { state = record st { place = Some k; pending = pending }; turn = ran }

-- the end of an instruction of the hart; in the window no load or store has a fault
abbrev pub turn_at : ℕ → Turn → StepTurn
turn_at k Ran = ran
turn_at k (Exit status) = exits status
turn_at k (Break pc) = breaks k
turn_at k other = untame why.Window k

abbrev pub place_after : ℕ → Turn → Option ℕ
place_after k Ran = Some (k + 1)
place_after k other = Some k

abbrev pub leaves : ℕ → Source → After → SourceAfter
leaves k st after = record {
  state = record st { place = place_after k after.turn; regs = after.hart.regs; shared = after.shared };
  turn = turn_at k after.turn;
}

abbrev pub hart_at : ℕ → Registers → Hart
hart_at pc regs = record { pc = pc; regs = regs }

abbrev pub executes : ProgramAtMap → ℕ → Instr → Source → SourceAfter
executes layout k instr st = leaves k st (exec layout.profile instr (hart_at (word layout k) st.regs) st.shared)

-- what an instruction of a kind does, with the place that a direct transfer goes to
abbrev pub acts : ProgramAtMap → ℕ → ItemKind → Instr → ℕ → Source → SourceAfter
acts layout k is.Branch instr target st = branches k instr target st
acts layout k is.Jump instr target st = goes_to st (Some target)
acts layout k is.Call instr target st = calls layout k target st
acts layout k is.Return instr target st = returns_from st.pending st
acts layout k is.Ijump instr target st = goes_to st (computed_place layout k instr st.regs)
acts layout k is.Icall instr target st = calls layout k (unwrap_or (computed_place layout k instr st.regs) 0) st
acts layout k other instr target st = executes layout k instr st

abbrev pub unless : Option Reason → ℕ → Source → SourceAfter → SourceAfter
unless None k st after = after
unless (Some because) k st after = record { state = st; turn = untame because k }

abbrev pub step_item : ProgramAtMap → ℕ → Item → Source → SourceAfter
step_item layout k item st =
    unless (reason layout k item.kind (instr_here layout k) st) k st
    (acts layout k item.kind (instr_here layout k) (unwrap_or item.target 0) st)

-- at the closing the one step is system call 93
abbrev pub closes : ProgramAtMap → Source → SourceAfter
closes layout st =
    let after = exec layout.profile Ecall (hart_at layout.profile.closing (set_reg st.regs 17 93)) st.shared in
    record { state = record st { shared = after.shared }; turn = turn_at 0 after.turn }

abbrev pub step_at : ProgramAtMap → Option ℕ → Source → SourceAfter
step_at layout None st = closes layout st
step_at layout (Some k) st = step_item layout k (item_of layout.program k) st

-- after an exit every step answers it again
abbrev pub unless_ended : Option ℕ → Source → SourceAfter → SourceAfter
unless_ended (Some status) st after = record { state = st; turn = exits status }
unless_ended None st after = after

unfoldable pub source_step : ProgramAtMap → Source → SourceAfter
source_step layout st = unless_ended (last_exit st.shared.events) st (step_at layout st.place st)

-- the state after some steps, if each of them ran
abbrev pub going_on : StepTurn → Source → Option Source
going_on ran st = Some st
going_on other st = None

unfoldable pub after_steps : ProgramAtMap → ℕ → Source → Option Source
after_steps layout zero st = Some st
after_steps layout (suc n) st =
    option_and_then (λ (s : Source). going_on (source_step layout s).turn (source_step layout s).state) (after_steps layout n st)
