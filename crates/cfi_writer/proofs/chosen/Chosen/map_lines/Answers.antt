use Rattle.std.proofs.Common.{◌<◌, ◌≤◌, ◌++◌, ◌∷◌, [], ℕ, ap, subst, ◌∙◌}
use Rattle.cfi_writer.proofs.Prelude.{Item, map_line}
use Rattle.cfi_writer.proofs.PlaceLines.{all_places, next_places}
use Rattle.cfi_writer.proofs.chosen.Chosen.map_lines.Goals as goal

pub returns : goal.returns
returns c =
    c.of.ensures
    ∙ all_places c.args.self.now.layout c.loop-k.k c.loop-k.lines.items (subst (λ (n : ℕ). n ≤ c.loop-k.k) c.count-k-end.ensures.value c.loop-k-test.false)
    c.loop-k.invariant

pub loop-k-preserved : goal.loop-k-preserved
loop-k-preserved c =
    next_places c.args.self.now.layout c.loop-k.k c.loop-k.lines.items c.push.new.self.items
    (subst (λ (n : ℕ). c.loop-k.k < n) c.count-k-end.ensures.value c.loop-k-test.true) c.loop-k.invariant
    (c.in_ok-push.ensures.items
    ∙ ap (λ (gate : ℕ). c.loop-k.lines.items ++ record { gate = gate; section = c.item-item.result.section; offset = c.item-item.result.offset } ∷ []) c.gate.ensures
    ∙ ap (λ (item : Item). c.loop-k.lines.items ++ map_line c.args.self.now.layout c.loop-k.k item ∷ []) c.item-item.ensures)
