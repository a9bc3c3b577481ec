use Rattle.src_machine.proofs.Members.{few_before}
use Rattle.src_machine.proofs.legal.stands.Goals as goal

pub follows_at-requires-clause-inside : goal.follows_at-requires-clause-inside
follows_at-requires-clause-inside c = few_before c.args.grouping.now c.args.lines.now c.args.j c.args.before c.requires.before
