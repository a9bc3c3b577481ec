use Rattle.std.proofs.Common.{◌≡◌, map}
use Rattle.obj_link.proofs.Prelude.{listed, use_behind, use_of, by, use_said_at, said_by}
use Rattle.obj_link.proofs.resolution.Resolution.uses.Given as goal

abbrev pub invariant-loop-j : goal.invariant-loop-j
invariant-loop-j l =
    l.uses.items ≡ map (use_of (by l.self.numbers) (said_by l.self.objects)) (map (use_behind l.symbols) (listed (use_said_at l.object l.k) l.j))
