use Rattle.std.proofs.Common.{◌≡◌, map, take}
use Rattle.std.specs.List.{sum_by}
use Rattle.obj_link.proofs.Prelude.{symbol_count, section_of, by, said_by}
use Rattle.obj_link.proofs.sections.sections_of.Given as goal

abbrev pub invariant-loop-object : goal.invariant-loop-object
invariant-loop-object l =
    (l.sections.items ≡ map (section_of (by l.resolution.numbers) (said_by l.resolution.objects)) (said_by (take l.object-index l.resolution.objects)).sections)
    × (l.symbols ≡ sum_by (λ o. symbol_count o) (take l.object-index l.resolution.objects))
