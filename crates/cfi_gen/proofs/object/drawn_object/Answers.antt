use Rattle.std.proofs.Common.{◌∙◌, ◌∷◌, ap, arith, length, map}
use Rattle.elf_writer.specs.Object.{object_bytes}
use Rattle.elf_writer.specs.Parts.{symbol_of}
use Rattle.cfi_gen.specs.Lines.{code_size}
use Rattle.cfi_gen.specs.Code.{main_lines, program_lines}
use Rattle.cfi_gen.specs.Demo.{function_symbols, main_part, table_part}
use Rattle.cfi_gen.specs.Writing.{nothing, with_lines}
use Rattle.cfi_gen.proofs.Writing.{length-functions, object_is}
use Rattle.cfi_gen.proofs.object.drawn_object.Goals as goal

pub program_symbols-requires : goal.program_symbols-requires
program_symbols-requires c =
    omega (arith, ap length (c.deref-2.ensures.value ∙ c.in_ok-functions.ensures), length-functions 2000 0 c.args.number)

pub returns : goal.returns
returns c =
    let code = c.in_ok-text.ensures ∙ ap (λ fs. with_lines nothing (program_lines fs)) c.deref.ensures.value in
    let symbols =
    ap (map symbol_of) c.deref-4.ensures.value ∙ c.in_ok-symbols.ensures
    ∙ ap (λ fs. main_part ∷ table_part ∷ function_symbols (code_size main_lines) 0 fs) c.deref-2.ensures.value in
    c.in_ok-file.ensures
    ∙ ap object_bytes (object_is c.args.number _ _ _ _ c.in_ok-functions.ensures code (c.deref-3.ensures.value ∙ c.in_ok-pointers.ensures) symbols)
