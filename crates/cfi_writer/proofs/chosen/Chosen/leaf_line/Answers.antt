use Rattle.std.proofs.Common.{◌<◌, subst, sym, ◌∙◌}
use Rattle.cfi_writer.proofs.Prelude.{EndsLast, count, Entered}
use Rattle.cfi_writer.proofs.LineList.{leaf_ends}
use Rattle.cfi_writer.proofs.chosen.Chosen.leaf_line.Goals as goal

pub gate-requires : goal.gate-requires
gate-requires c =
    subst (λ (of : Entered). c.leaf_end-end.result < count of.program) c.leads-leads.ensures
    (c.leaf_end-end.ensures.before
    (subst (λ (of : Entered). EndsLast of.program) (sym c.leads-leads.ensures) (leaf_ends c.args.self.now c.count-count.ensures.accepted))
    (sym c.is_leaf.ensures ∙ c.if-is_leaf.true))
