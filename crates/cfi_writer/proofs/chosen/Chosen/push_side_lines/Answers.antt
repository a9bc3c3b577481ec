use Rattle.std.proofs.Common.{◌<◌, ◌≤◌, ◌++◌, ◌∷◌, [], ℕ, length, refl, subst, ap, ◌∙◌}
use Rattle.std.specs.Prelude.{slice_index}
use Rattle.cfi_writer.proofs.Prelude.{Class, Sort, all_classes}
use Rattle.cfi_writer.proofs.LineList.{all_class_lines, next_class}
use Rattle.cfi_writer.proofs.chosen.Chosen.push_side_lines.Goals as goal

pub loop-i-preserved : goal.loop-i-preserved
loop-i-preserved c =
    let side = c.args.side.now in
    let label : ℕ = slice_index c.args.labels.now c.loop-i.i in
    next_class c.args.self.now.layout.gates c.args.labels.now side.sort (all_classes side) c.loop-i.i label c.in_ok-gates.gates c.loop-i.lines.items c.push.new.self.items _
    (subst (λ (n : ℕ). c.loop-i.i < n) c.requires.many c.loop-i-test.true) (subst (λ (n : ℕ). n ≤ length c.args.labels.now) c.requires.many c.requires.enough)
    c.loop-i.invariant refl c.in_ok-gates.ensures
    (c.in_ok-push.ensures.items
    ∙ ap (λ (sort : Sort). c.loop-i.lines.items ++ Class sort label c.in_ok-gates.gates ∷ []) c.sort.ensures)

pub returns : goal.returns
returns c =
    all_class_lines c.args.self.now.layout.gates c.args.labels.now c.args.side.now.sort (all_classes c.args.side.now) c.loop-i.i c.loop-i.lines.items _
    (subst (λ (n : ℕ). n ≤ c.loop-i.i) c.requires.many c.loop-i-test.false) c.loop-i.invariant
