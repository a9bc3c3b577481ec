use Rattle.std.proofs.Common.{◌∙◌, arith, sym}
use Rattle.cfi_starts.proofs.LeafLines.{none_past, past_to}
use Rattle.cfi_starts.proofs.leaves.line_of.Goals as goal

pub loop-low-init : goal.loop-low-init
loop-low-init c = record { within = omega arith; before = none_past _ c.args.address }

pub loop-low-preserved-then-is_past : goal.loop-low-preserved-then-is_past
loop-low-preserved-then-is_past c = record {
  within = c.loop-low.invariant.within;
  before = past_to _ c.requires c.args.address _ _ c.line-line.ensures (sym c.is_past.ensures ∙ c.if-is_past.true);
}

pub loop-low-preserved : goal.loop-low-preserved
loop-low-preserved c = record { within = omega arith; before = c.loop-low.invariant.before }
