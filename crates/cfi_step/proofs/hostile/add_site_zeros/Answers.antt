use Rattle.std.proofs.Common.{sym, ◌∙◌, arith}
use Rattle.rv_mem.specs.Cells.{memory_of}
use Rattle.cfi_step.proofs.Zeros.{more_site_zeros, none_left}
use Rattle.cfi_step.proofs.hostile.add_site_zeros.Goals as goal

pub loop-left-preserved : goal.loop-left-preserved
loop-left-preserved c =
    more_site_zeros (memory_of c.args.memory.now) c.args.sites.now c.loop-left.address c.loop-left.zeros.items _ c.loop-left.left _ (omega (arith, c.loop-left-test.true))
    c.in_ok-add_if_site.ensures ∙ c.loop-left.invariant

pub returns : goal.returns
returns c =
    sym (none_left (memory_of c.args.memory.now) c.args.sites.now c.loop-left.zeros.items c.loop-left.address c.loop-left.left (omega (arith, c.loop-left-test.false))) ∙ c.loop-left.invariant
