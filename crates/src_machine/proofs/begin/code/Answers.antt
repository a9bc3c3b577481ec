use Rattle.src_machine.proofs.Beginnings.{read_more}
use Rattle.src_machine.proofs.begin.code.Goals as goal

pub loop-k-preserved : goal.loop-k-preserved
loop-k-preserved c =
    read_more c.args.mapped.now c.loop-k.k c.loop-k.code.items c.push.new.self.items c.word_of.result c.loop-k.invariant c.word_of.ensures c.in_ok-push.ensures.items
