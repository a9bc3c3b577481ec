use Rattle.std.proofs.Common.{arith}
use Rattle.cfi_leads.specs.Leads.{enters}
use Rattle.cfi_leads.proofs.Tables.{one_more_flag}
use Rattle.cfi_leads.proofs.pieces.Pieces.entered.Goals as goal

pub loop-k-preserved : goal.loop-k-preserved
loop-k-preserved c = record {
  most = omega (arith, c.count-k-end.ensures.value);
  made = one_more_flag (enters c.args.self.now) c.loop-k.k c.enters.result c.loop-k.entered.items c.push.new.self.items c.loop-k.invariant.made
      c.enters.ensures c.in_ok-push.ensures.items;
}
