-- A run in parts: where it has come, it goes on from there, unless it has stopped.
use Rattle.std.specs.Prelude.{◌≡◌, List, ◌++◌}
use Rattle.rv_image.specs.MemoryMap.{Profile}
use Rattle.rv_code.specs.State.{Hart, Shared, After}
use Rattle.rv_code.specs.Run.{ByteChange, next_or_stop, run_alone}
use Rattle.rv_code.specs.declared.event.Event.{Event}

-- the run goes on from where it has come, for further lists of changes
abbrev pub continue : Profile → After → List (List ByteChange) → After
continue p after changes = next_or_stop after.turn after (run_alone p after.hart after.shared changes)

-- a run is its first part, gone on
abbrev pub RunInParts : Type 0
RunInParts =
    (p : Profile) (h : Hart) (s : Shared) (first rest : List (List ByteChange)) →
    run_alone p h s (first ++ rest) ≡ continue p (run_alone p h s first) rest

-- a run only adds to the system calls made
abbrev pub EventsAdded : Type 0
EventsAdded =
    (p : Profile) (h : Hart) (s : Shared) (changes : List (List ByteChange)) →
    (added : List Event) × ((run_alone p h s changes).shared.events ≡ s.events ++ added)
