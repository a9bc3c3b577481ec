use Rattle.std.proofs.Common.{◌≡◌, take}
use Rattle.std.specs.List.{filter_map}
use Rattle.least.specs.Nearest.{nearest}
use Rattle.obj_program.specs.Range.{place_found, reloc_astray}
use Rattle.obj_program.proofs.range.first_reloc.Given as goal

abbrev pub invariant-loop-reloc : goal.invariant-loop-reloc
invariant-loop-reloc l = l.least ≡ nearest place_found (filter_map (reloc_astray l.gates) (take l.reloc-index l.relocs))
