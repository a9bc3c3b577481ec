use Rattle.std.proofs.Common.{◌++◌, ◌∷◌, [], length, ap, arith, ◌∙◌}
use Rattle.cfi_unit.specs.declared.unit.Unit as U
use Rattle.cfi_writer.proofs.Prelude.{ClosedGraph, labels_of}
use Rattle.cfi_writer.proofs.SideLabels.{length-labels_of}
use Rattle.cfi_writer.proofs.UnitList.{all_words, next_word}
use Rattle.cfi_writer.proofs.chosen.Chosen.push_words.Goals as goal

pub loop-j-preserved : goal.loop-j-preserved
loop-j-preserved c =
    next_word (labels_of c.args.self.now.labels c.args.self.now.layout.closed.sides c.args.k) c.loop-j.j c.label_at.result c.args.units.now.items c.loop-j.units.items c.push.new.self.items
    c.label_at.ensures.value c.loop-j.invariant (c.in_ok-push.ensures.items ∙ ap (λ (u : U.Unit). c.loop-j.units.items ++ u ∷ []) c.lead_unit.ensures)

pub returns : goal.returns
returns c =
    let m = c.args.self.now in
    let sides = ap length (c.sides-j-end.ensures.value ∙ ap (λ (g : ClosedGraph). g.sides) c.closed.ensures.value) in
    let end = c.loop-j-test.false in
    all_words (labels_of m.labels m.layout.closed.sides c.args.k) c.loop-j.j c.args.units.now.items c.loop-j.units.items
    (omega (arith, sides, end, length-labels_of m.labels m.layout.closed.sides c.args.k)) c.loop-j.invariant
