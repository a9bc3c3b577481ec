-- A program's run and the undisturbed run of its image, compared: the events of both in order and how
-- each ended, to the first that differs. For n steps of the program's the image, of which hart 0 runs alone, runs
-- 21 n and 13 more, or 17 more where the program is at a map for images for several harts; 22 n where it is at one for
-- graphs of version 2.
use Rattle.std.specs.Prelude.{ℕ, zero, suc, ◌==◌, ◌&&◌, Bool, true, false, nat_lt, if◌then◌else◌, Option, Some, None, List, [], ◌∷◌, ◌++◌, length, map}
use Rattle.rv_image.specs.Image.{Contents}
use Rattle.rv_image.specs.MemoryMap.{Profile}
use Rattle.rv_code.specs.declared.event.Event.{Event}
use Rattle.rv_code.specs.declared.turn.Turn.{Turn}
use Rattle.rv_code.specs.declared.turn.Turn.TheVariants.{Ran, Exit, Break}
use Rattle.cfi_map.specs.GraphAtMap.{ProgramAtMap}
use Rattle.cfi_unit.specs.Prologue.{OPENING}
use Rattle.cfi_runs.specs.WholeRun.{undisturbed}
use Rattle.cfi_meaning.specs.Bounds.{most_steps}
use Rattle.cfi_map.specs.declared.reason.Reason.{Reason}
use Rattle.cfi_map.specs.Source.{Source, source_start}
use Rattle.cfi_map.specs.SourceStep.{StepTurn, breaks, exits, ran, source_step, untame}

-- the source machine's run of so many steps at most: the step that ends it counts, an untame one does not
pub record SourceRun : Type 0 where
  pub steps : ℕ
  pub state : Source
  pub turn : StepTurn

abbrev pub run_from : StepTurn → Source → SourceRun → SourceRun
run_from ran st rest = record { steps = suc rest.steps; state = rest.state; turn = rest.turn }
run_from (exits status) st rest = record { steps = 1; state = st; turn = exits status }
run_from (breaks k) st rest = record { steps = 1; state = st; turn = breaks k }
run_from (untame why k) st rest = record { steps = 0; state = st; turn = untame why k }

unfoldable pub source_run : ProgramAtMap → ℕ → Source → SourceRun
source_run layout zero st = record { steps = 0; state = st; turn = ran }
source_run layout (suc n) st =
    run_from (source_step layout st).turn (source_step layout st).state (source_run layout n (source_step layout st).state)

pub data TraceItem : Type 0 where
  called : Event → TraceItem
  exited : ℕ → TraceItem
  broke : TraceItem
  stopped : TraceItem
  running : TraceItem

abbrev pub same_bytes : List ℕ → List ℕ → Bool
same_bytes [] [] = true
same_bytes (x ∷ xs) (y ∷ ys) = x == y && same_bytes xs ys
same_bytes other another = false

abbrev pub same_event : Event → Event → Bool
same_event e f =
    e.number == f.number && (e.a0 == f.a0 && (e.a1 == f.a1 && (e.a2 == f.a2 && (e.a3 == f.a3 && (e.a4 == f.a4 && (e.a5 == f.a5
    && (same_bytes e.bytes f.bytes && (e.answer == f.answer))))))))

abbrev pub same_item : TraceItem → TraceItem → Bool
same_item (called e) (called f) = same_event e f
same_item (exited s) (exited t) = s == t
same_item broke broke = true
same_item stopped stopped = true
same_item running running = true
same_item other another = false

abbrev pub source_end : StepTurn → List TraceItem
source_end (exits status) = exited status ∷ []
source_end (breaks k) = broke ∷ []
source_end other = []

-- a break in a handler is no program's
abbrev pub image_end : Turn → List TraceItem
image_end Ran = []
image_end (Exit status) = exited status ∷ []
image_end (Break pc) = (if nat_lt pc OPENING then stopped else broke) ∷ []
image_end other = stopped ∷ []

abbrev pub trace : List Event → List TraceItem → List TraceItem
trace events end = map called events ++ end

pub record Difference : Type 0 where
  pub index : ℕ
  pub source : TraceItem
  pub image : TraceItem

-- the first item of the program's trace that is not the image's; where the program's run has not ended,
-- the image's may be longer
abbrev pub first_difference : ℕ → Bool → List TraceItem → List TraceItem → Option Difference
first_difference k has_ended [] ys = None
first_difference k has_ended (x ∷ xs) [] = if has_ended then Some (record { index = k; source = x; image = running }) else None
first_difference k has_ended (x ∷ xs) (y ∷ ys) =
    if same_item x y then first_difference (suc k) has_ended xs ys else Some (record { index = k; source = x; image = y })

abbrev pub has_ended : StepTurn → Bool
has_ended ran = false
has_ended other = true

pub data Compared : Type 0 where
  untame_at : Reason → ℕ → Compared
  differs : Difference → Compared
  same : ℕ → Compared
  limited : Compared

abbrev pub verdict : StepTurn → Option Difference → ℕ → Compared
verdict (untame why k) difference events = untame_at why k
verdict ran (Some d) events = differs d
verdict (exits status) (Some d) events = differs d
verdict (breaks k) (Some d) events = differs d
verdict ran None events = limited
verdict (exits status) None events = same events
verdict (breaks k) None events = same events

-- a program's run from a state, for so many steps at most, beside the run of an image of a profile with an input
unfoldable pub compared_from : Profile → ProgramAtMap → Source → Contents → List ℕ → ℕ → Compared
compared_from p layout state image input limit =
    let r = source_run layout limit state in
    let a = undisturbed p image input (most_steps layout r.steps) in
    verdict r.turn
    (first_difference 0 (has_ended r.turn) (trace r.state.shared.events (source_end r.turn)) (trace a.shared.events (image_end a.turn)))
    (length r.state.shared.events)

-- a program's run from its start, with the same input
abbrev pub compared : Profile → ProgramAtMap → Contents → List ℕ → ℕ → Compared
compared p layout image input limit = compared_from p layout (source_start layout input) image input limit
