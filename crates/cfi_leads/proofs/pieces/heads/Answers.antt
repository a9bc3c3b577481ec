use Rattle.std.proofs.Common.{◌≡◌, ap, arith, sym}
use Rattle.obj_program.specs.Program.{count}
use Rattle.std.specs.Prelude.{if◌then◌else◌}
use Rattle.cfi_leads.specs.Leaves.{begins}
use Rattle.cfi_leads.proofs.Tables.{one_more_head}
use Rattle.cfi_leads.proofs.pieces.heads.Goals as goal
use Rattle.cfi_leads.proofs.pieces.heads.Goals.{then-begins, else-begins}

pub loop-k-preserved : goal.loop-k-preserved
loop-k-preserved c =
    let now : c.if-begins.head ≡ (if begins c.args.entries.now c.loop-k.k then c.loop-k.k else c.loop-k.head) =
    elim c.if-begins.branch [
      | then-begins w ↦ rw (sym c.begins.ensures) (rw w.if-begins.true w.head-is)
      | else-begins w ↦ rw (sym c.begins.ensures) (rw w.if-begins.false w.head-is)
    ] in
    record {
      most = let same = ap count c.items.ensures in omega (arith, c.count-k-end.ensures.value);
      made = one_more_head c.args.entries.now c.loop-k.k c.loop-k.heads.items c.push.new.self.items c.loop-k.head c.if-begins.head c.loop-k.invariant.made now c.in_ok-push.ensures.items;
    }
