use Rattle.std.proofs.Common.{◌≡◌}
use Rattle.cfi_writer.proofs.Prelude.{members_from, member_at}
use Rattle.cfi_writer.proofs.chosen.Chosen.members.Given as goal

abbrev pub invariant-loop-i : goal.invariant-loop-i
invariant-loop-i l = l.members ≡ members_from (member_at l.self l.low) l.k l.i
