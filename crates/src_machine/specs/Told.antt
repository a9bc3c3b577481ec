-- How the end of a step is told: places by their sections and offsets.
use Rattle.obj_program.specs.Program.{Program, item_of}
use Rattle.cfi_map.specs.SourceStep.{StepTurn, ran, exits, breaks, untame}
use Rattle.src_machine.specs.declared.turn.SourceTurn.{SourceTurn}
use Rattle.src_machine.specs.declared.turn.SourceTurn.TheVariants.{Ran, Exit, Break, Untame}

abbrev pub told : Program → StepTurn → SourceTurn
told program ran = Ran
told program (exits status) = Exit status
told program (breaks k) = Break (item_of program k).section (item_of program k).offset
told program (untame because k) = Untame because (item_of program k).section (item_of program k).offset
