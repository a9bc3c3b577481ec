use Rattle.std.proofs.Common.{arith}
use Rattle.src_machine.proofs.Members.{few_before, next_before}
use Rattle.src_machine.proofs.legal.stores_before.Goals as goal

pub members_past-requires-clause-inside : goal.members_past-requires-clause-inside
members_past-requires-clause-inside c = few_before c.args.grouping.now c.args.lines.now c.args.j c.args.before c.requires.before

pub returns-else-j-eq0 : goal.returns-else-j-eq0
returns-else-j-eq0 c =
    next_before c.args.grouping.now c.args.lines.now c.args.j c.args.before c.requires.before c.members_past.result (omega (arith, c.if-j-eq0.false)) c.members_past.ensures
