use Rattle.std.proofs.Common.{◌≡◌, drop}
use Rattle.std.specs.List.{flat_map}
use Rattle.cfi_gen.specs.Code.{function_lines, program_lines}
use Rattle.cfi_gen.specs.Writing.{nothing, with_lines, written_in}
use Rattle.cfi_gen.proofs.routines.program_text.Given as goal

abbrev pub invariant-loop-function : goal.invariant-loop-function
invariant-loop-function l =
    with_lines (written_in l.text) (flat_map function_lines (drop l.function-index l.functions)) ≡ with_lines nothing (program_lines l.functions)
