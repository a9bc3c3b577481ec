use Rattle.std.proofs.Common.{List, arith, subst}
use Rattle.std.specs.List.{All}
use Rattle.std.proofs.lemmas.List.{take_all}
use Rattle.std.proofs.lemmas.List.Elements.{All-more}
use Rattle.cfi_unit.specs.declared.members.Member.{Member}
use Rattle.cfi_unit.specs.Members.{IsMember}
use Rattle.cfi_unit.proofs.members.members_fit.Goals as goal

pub loop-member-preserved : goal.loop-member-preserved
loop-member-preserved c =
    All-more IsMember c.args.members.now c.loop-member.member-index c.member-item.result c.loop-member-test.true c.loop-member.invariant
    (subst (λ (m : Member). IsMember m) c.member-item.is c.in_range.ensures)

pub returns : goal.returns
returns c =
    subst (λ (ms : List Member). All IsMember ms)
    (take_all c.loop-member.member-index c.args.members.now (omega (arith, c.loop-member-test.false))) c.loop-member.invariant
