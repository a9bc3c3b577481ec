use Rattle.std.proofs.Common.{sym, ◌∙◌}
use Rattle.rv_mem.specs.Cells.{memory_of}
use Rattle.cfi_step.proofs.Zeros.{all_sites, more_sites}
use Rattle.cfi_step.proofs.hostile.sites.Goals as goal

pub loop-k-preserved : goal.loop-k-preserved
loop-k-preserved c =
    let grown = rw c.double_word.ensures at c.in_ok-push.ensures.items in
    more_sites (memory_of c.args.memory.now) c.loop-k.sites.items _ _ c.loop-k.k c.args.count c.loop-k-test.true grown ∙ c.loop-k.invariant

pub returns : goal.returns
returns c = sym (all_sites (memory_of c.args.memory.now) c.loop-k.sites.items _ c.loop-k.k c.args.count c.loop-k-test.false) ∙ c.loop-k.invariant
