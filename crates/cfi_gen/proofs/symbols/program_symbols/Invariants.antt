use Rattle.std.proofs.Common.{◌≡◌, ◌≤◌, ◌+◌, ◌*◌, ◌∷◌, ◌++◌, drop, map}
use Rattle.elf_writer.specs.Parts.{symbol_of}
use Rattle.cfi_gen.specs.Lines.{code_size}
use Rattle.cfi_gen.specs.Code.{main_lines}
use Rattle.cfi_gen.specs.Demo.{function_symbols, main_part, table_part}
use Rattle.cfi_gen.proofs.symbols.program_symbols.Given as goal

abbrev pub invariant-loop-number : goal.invariant-loop-number
invariant-loop-number l = record {
  symbols : map symbol_of l.symbols.items ++ function_symbols l.at l.number (drop l.number l.functions)
      ≡ main_part ∷ table_part ∷ function_symbols (code_size main_lines) 0 l.functions;
  small : l.at ≤ 68 + 36 * l.number;
}
