use Rattle.std.proofs.Common.{◌+◌, get_or, ap, ◌∙◌}
use Rattle.cfi_map.proofs.Placing.{words_end, words_more}
use Rattle.cfi_map.proofs.mapped.words_behind.Goals as goal

pub loop-k-preserved : goal.loop-k-preserved
loop-k-preserved c =
    rw c.in_ok-push.ensures.items (words_more c.args.leads.now c.loop-k.k c.args.gates.now c.loop-k.words.items _ _ c.loop-k-test.true (ap (λ n. get_or c.args.gates.now c.loop-k.k 0 + n) (c.from.ensures ∙ c.size.ensures.value)) c.loop-k.invariant)

pub returns : goal.returns
returns c = words_end c.args.leads.now c.loop-k.k c.args.gates.now c.loop-k.words.items _ c.loop-k-test.false c.loop-k.invariant
