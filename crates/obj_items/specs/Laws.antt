-- What holds of the program of an input.
use Rattle.std.specs.Prelude.{◌≡◌, ◌+◌, ◌<◌, ◌^◌, None, length}
use Rattle.rv_image.specs.MemoryMap.{DATA_START}
use Rattle.obj_input.specs.Input.{InputParts}
use Rattle.obj_input.specs.DataLayout.{init_end}
use Rattle.obj_check.specs.Fault.{fault_of}
use Rattle.obj_program.specs.MapFit.{FitsMaps}
use Rattle.obj_program.specs.Sound.{IsSound}
use Rattle.obj_items.specs.FitCode.{HasFitCode}
use Rattle.obj_items.specs.Outline.{outline}
use Rattle.obj_items.specs.ProgramOf.{program_of}
use Rattle.obj_items.specs.Ranges.{IsInput}

-- where an input has no fault, its program is sound and fits maps; places are fewer than 2 ^ 62, since each takes bytes
abbrev pub ProgramsAreSound : Type 0
ProgramsAreSound =
    (input : InputParts) → IsInput input → HasFitCode input → length (outline input) < 2 ^ 62 → fault_of input ≡ None
    → IsSound (program_of input) × FitsMaps (program_of input)

-- the initialised data begin at DATA_START and end where the last section of data ends that has bytes in the file
abbrev pub InitReachesEnd : Type 0
InitReachesEnd = (input : InputParts) → IsInput input → DATA_START + length (program_of input).init ≡ init_end input
