use Rattle.std.proofs.Common.{arith, ap, ◌∙◌}
use Rattle.cfi_writer.proofs.Prelude.{ClosedGraph, is_target, Entered, enters}
use Rattle.cfi_writer.proofs.UnitList.{lean_lead, two_sides}
use Rattle.cfi_writer.proofs.chosen.Chosen.push_lean_lead.Goals as goal

pub label_at-requires : goal.label_at-requires
label_at-requires c = let two = two_sides c.args.self.now c.count-count.ensures.accepted c.requires.lean in omega arith

pub label_at-requires-2 : goal.label_at-requires-2
label_at-requires-2 c = let two = two_sides c.args.self.now c.count-count.ensures.accepted c.requires.lean in omega arith

pub returns : goal.returns
returns c =
    lean_lead c.args.self.now c.args.k c.word.result c.is_target.result c.enters.result c.label_at-2.result c.label_at.result c.args.units.now.items
    c.push_word_if.new.units.items c.push_saver_if.new.units.items c.count-count.ensures.accepted c.requires.lean
    (c.is_target.ensures ∙ ap (λ (g : ClosedGraph). is_target g.sides c.args.k) c.closed.ensures.value)
    (c.enters.ensures ∙ ap (λ (of : Entered). enters of c.args.k) c.leads.ensures) c.word.ensures
    (c.label_at-2.ensures.value) (c.label_at.ensures.value) c.in_ok-push_word_if.ensures c.in_ok-push_saver_if.ensures
