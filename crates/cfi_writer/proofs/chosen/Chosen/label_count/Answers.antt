use Rattle.cfi_writer.proofs.Starts.{count_is, starts_rise}
use Rattle.cfi_writer.proofs.chosen.Chosen.label_count.Goals as goal

pub overflow_sub-result : goal.overflow_sub-result
overflow_sub-result c = starts_rise c.args.self.now.layout.closed.sides c.starts-starts.result.now c.starts-starts.ensures c.args.j c.requires

pub returns : goal.returns
returns c side there = count_is c.args.self.now.layout.closed.sides c.starts-starts.result.now c.starts-starts.ensures c.args.j c.requires side there
