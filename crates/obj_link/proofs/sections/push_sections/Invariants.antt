use Rattle.std.proofs.Common.{◌≡◌, ◌++◌, map}
use Rattle.obj_link.proofs.Prelude.{listed, section_behind, section_of, by, section_said_in, said_by}
use Rattle.obj_link.proofs.sections.push_sections.Given as goal

abbrev pub invariant-loop-k : goal.invariant-loop-k
invariant-loop-k l =
    l.sections.items
    ≡ l.fn.sections.items ++ map (section_of (by l.resolution.numbers) (said_by l.resolution.objects)) (map (section_behind l.symbols) (listed (section_said_in l.object) l.k))
