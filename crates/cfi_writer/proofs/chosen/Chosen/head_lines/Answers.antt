use Rattle.std.proofs.Common.{◌≡◌, ◌<◌, ◌≤◌, ◌++◌, List, ℕ, Some, length, map, ap, subst, sym, ◌∙◌, append_assoc}
use Rattle.std.specs.Prelude.{slice_get}
use Rattle.cfi_writer.proofs.Prelude.{GraphLine, ClosedGraph, Side, call_lines, class_lines, head_lines, leaf_lines_by, all_classes, tag, tagged}
use Rattle.cfi_writer.proofs.LineList.{all_side_lines, first_side_lines, members_there, next_side}
use Rattle.cfi_writer.proofs.Starts.{side_there}
use Rattle.cfi_writer.proofs.chosen.Chosen.head_lines.Goals.{After-label_count}
use Rattle.cfi_writer.proofs.chosen.Chosen.head_lines.Goals as goal

there : (c : After-label_count) → slice_get c.args.self.now.layout.closed.sides c.loop-j.j ≡ Some c.index-sides-j.result
there c =
    let same = c.sides-sides.ensures.value ∙ ap (λ (g : ClosedGraph). g.sides) c.closed.ensures.value in
    side_there c.sides-sides.result.now c.args.self.now.layout.closed.sides c.loop-j.j c.index-sides-j.result same
    (subst (λ (xs : List Side). c.loop-j.j < length xs) same c.loop-j-test.true) c.index-sides-j.is

pub loop-j-init : goal.loop-j-init
loop-j-init c =
    let m = c.args.self.now in
    let calls = call_lines m.layout.closed.calls in
    let leaves = leaf_lines_by m.layout.closed.version m.layout in
    first_side_lines m.layout.gates m.labels m.layout.closed.sides c.push_leaves.new.lines.items (calls ++ leaves)
    (c.in_ok-push_leaves.ensures
    ∙ ap (λ (ls : List GraphLine). ls ++ leaves) (c.in_ok-push_calls.ensures ∙ ap (λ (ls : List GraphLine). ls ++ calls) c.new-lines.ensures.items))
    ∙ append_assoc calls leaves (class_lines m.layout.gates m.labels (tagged m.layout.closed.sides))

pub push_side_lines-requires-clause-places : goal.push_side_lines-requires-clause-places
push_side_lines-requires-clause-places c = members_there c.args.self.now c.loop-j.j c.index-sides-j.result c.count-count.ensures.accepted (there c)

pub push_side_lines-requires-clause-many : goal.push_side_lines-requires-clause-many
push_side_lines-requires-clause-many c = c.label_count.ensures c.index-sides-j.result (there c)

pub push_side_lines-requires-clause-enough : goal.push_side_lines-requires-clause-enough
push_side_lines-requires-clause-enough c =
    subst (λ (n : ℕ). n ≤ length c.labels_from-labels.result.now) (sym (c.label_count.ensures c.index-sides-j.result (there c)))
    (c.labels_from-labels.ensures.enough c.index-sides-j.result (there c))

pub loop-j-preserved : goal.loop-j-preserved
loop-j-preserved c =
    let m = c.args.self.now in
    let side = c.index-sides-j.result in
    let same = c.sides-sides.ensures.value ∙ ap (λ (g : ClosedGraph). g.sides) c.closed.ensures.value in
    let at = side_there c.sides-sides.result.now m.layout.closed.sides c.loop-j.j side same
    (subst (λ (xs : List Side). c.loop-j.j < length xs) same c.loop-j-test.true) c.index-sides-j.is in
    next_side m.layout.gates m.labels m.layout.closed.sides c.loop-j.j side c.loop-j.lines.items c.push_side_lines.new.lines.items (head_lines m.layout m.labels) at c.count-count.ensures.accepted.counted
    c.loop-j.invariant
    (c.in_ok-push_side_lines.ensures
    ∙ ap (λ (ls : List ℕ). c.loop-j.lines.items ++ class_lines m.layout.gates ls (map (tag side.sort) (all_classes side))) c.labels_from-labels.ensures.value)

pub returns : goal.returns
returns c =
    let m = c.args.self.now in
    let same = c.sides-sides.ensures.value ∙ ap (λ (g : ClosedGraph). g.sides) c.closed.ensures.value in
    all_side_lines m.layout.gates m.labels m.layout.closed.sides c.loop-j.j c.loop-j.lines.items (head_lines m.layout m.labels)
    (subst (λ (xs : List Side). length xs ≤ c.loop-j.j) same c.loop-j-test.false) c.loop-j.invariant
