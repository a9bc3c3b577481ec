use Rattle.std.proofs.Common.{IfOk, ◌≡◌, ◌∙◌, map, refl, subst}
use Rattle.elf_writer.specs.Object.{object_bytes}
use Rattle.elf_writer.specs.Parts.{relocations_of, section_of, symbol_of}
use Rattle.cfi_gen.specs.Writing.{written_in}
use Rattle.cfi_gen.proofs.Writing.{data_is, parts_are}
use Rattle.cfi_gen.proofs.object.written_object.Goals as goal

pub returns : goal.returns
returns c =
    let same = parts_are (written_in c.args.text.now) c.args.pointers.now (map symbol_of c.args.symbols.now) (section_of c.section.result) (section_of c.section-2.result) (relocations_of c.relocations.result) (relocations_of c.relocations-2.result)
    (c.section.ensures ∙ rw c.deref.ensures.value refl) (c.section-2.ensures ∙ data_is _ (c.deref-2.ensures.value ∙ c.in_ok-table.ensures))
    (c.relocations.ensures ∙ rw c.deref-3.ensures.value refl) c.relocations-2.ensures in
    subst (λ p. IfOk c.write_object.result (λ file. file.items ≡ object_bytes p)) same c.write_object.ensures.bytes
