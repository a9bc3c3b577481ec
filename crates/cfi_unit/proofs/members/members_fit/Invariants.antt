use Rattle.std.proofs.Common.{take}
use Rattle.std.specs.List.{All}
use Rattle.cfi_unit.specs.Members.{IsMember}
use Rattle.cfi_unit.proofs.members.members_fit.Given as goal

abbrev pub invariant-loop-member : goal.invariant-loop-member
invariant-loop-member l = All IsMember (take l.member-index l.members)
