use Rattle.std.proofs.Common.{List, ℕ, Some, ap, sym, ◌∙◌}
use Rattle.cfi_writer.proofs.Prelude.{ClosedGraph, label_at}
use Rattle.cfi_writer.proofs.SideLabels.{to_side}
use Rattle.cfi_writer.proofs.Starts.{side_there}
use Rattle.cfi_writer.proofs.chosen.Chosen.label_at.Goals as goal

pub returns-clause-value : goal.returns-clause-value
returns-clause-value c =
    let m = c.args.self.now in
    let side = c.index-sides-j.result in
    let shown = c.sides-sides.ensures.value ∙ ap (λ (g : ClosedGraph). g.sides) c.closed.ensures.value in
    let there = side_there c.sides-sides.result.now m.layout.closed.sides c.args.j side shown c.requires c.index-sides-j.is in
    to_side m.labels m.layout.closed.sides c.args.k c.args.j side there
    ∙ ap Some (sym (c.label_at.ensures.value ∙ ap (λ (ls : List ℕ). label_at ls side.classes c.args.k) c.labels_from.ensures.value))
