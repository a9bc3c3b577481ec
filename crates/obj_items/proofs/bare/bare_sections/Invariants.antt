use Rattle.std.proofs.Common.{◌≡◌, map, take}
use Rattle.obj_items.specs.Bare.{bare_section}
use Rattle.obj_items.proofs.bare.bare_sections.Given as goal

abbrev pub invariant-loop-k : goal.invariant-loop-k
invariant-loop-k l = l.sections.items ≡ map bare_section (take l.k l.input.sections)
