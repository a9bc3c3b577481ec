use Rattle.std.proofs.Common.{◌≡◌, take}
use Rattle.std.specs.List.{sum_by}
use Rattle.elf_tables.specs.Header.{e_shnum}
use Rattle.obj_link.proofs.input.section_count.Given as goal

abbrev pub invariant-loop-object : goal.invariant-loop-object
invariant-loop-object l = l.count ≡ sum_by e_shnum (take l.object-index l.objects)
