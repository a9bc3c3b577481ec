use Rattle.std.proofs.Common.{◌≡◌}
use Rattle.obj_link.proofs.Prelude.{listed, start_in}
use Rattle.obj_link.proofs.names.starts.Given as goal

abbrev pub invariant-loop-number : goal.invariant-loop-number
invariant-loop-number l = l.starts.items ≡ listed (start_in l.object) l.number
