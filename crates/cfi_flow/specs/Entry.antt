-- Where a program is entered: the first symbol of a name stands at an instruction's start.
use Rattle.std.specs.Prelude.{ℕ, Option, option_and_then, List}
use Rattle.obj_input.specs.Names.{find_spot}
use Rattle.obj_program.specs.Program.{Program}
use Rattle.cfi_flow.specs.Policy.{instruction_at}

abbrev pub entry_place : Program → List ℕ → Option ℕ
entry_place program name = option_and_then (instruction_at program) (find_spot program.names name)
