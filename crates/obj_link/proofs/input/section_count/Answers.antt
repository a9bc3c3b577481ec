use Rattle.std.proofs.Common.{ap, sym, ◌∙◌}
use Rattle.std.specs.List.{sum_by}
use Rattle.std.proofs.lemmas.List.{take_all}
use Rattle.elf_tables.specs.Header.{e_shnum}
use Rattle.obj_link.proofs.Together.{counted}
use Rattle.obj_link.proofs.input.section_count.Goals as goal

pub returns : goal.returns
returns c =
    c.loop-object.invariant ∙ ap (sum_by e_shnum) (take_all c.loop-object.object-index c.args.objects.now c.loop-object-test.false) ∙ sym (counted c.args.objects.now)
