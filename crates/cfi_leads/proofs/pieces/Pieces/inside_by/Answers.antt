use Rattle.std.proofs.Common.{arith, ap, ◌∙◌}
use Rattle.cfi_leads.specs.Leaves.{in_leaf, is_leaf}
use Rattle.cfi_leads.proofs.Tables.{one_more_flag}
use Rattle.cfi_leads.proofs.pieces.Pieces.inside_by.Goals as goal

pub loop-k-preserved : goal.loop-k-preserved
loop-k-preserved c = record {
  most = omega (arith, c.count-k-end.ensures.value);
  made = one_more_flag (in_leaf c.args.self.now) c.loop-k.k c.is_leaf.result c.loop-k.inside.items c.push.new.self.items c.loop-k.invariant.made
      (c.is_leaf.ensures ∙ ap (is_leaf c.args.self.now) c.head.ensures.value) c.in_ok-push.ensures.items;
}
