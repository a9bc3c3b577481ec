use Rattle.std.proofs.Common.{◌<◌, ◌≤◌, ◌++◌, [], Option, arith, ap, ◌∙◌}
use Rattle.cfi_writer.proofs.Prelude.{count, GraphLine, leaf_lines_from, with_line}
use Rattle.cfi_writer.proofs.LineList.{all_leaves, next_leaf}
use Rattle.cfi_writer.proofs.chosen.Chosen.push_leaf_lines.Goals as goal

pub loop-k-preserved : goal.loop-k-preserved
loop-k-preserved c =
    let layout = c.args.self.now.layout in
    let end = c.count-k-end.ensures.value in
    let test = c.loop-k-test.true in
    let below : c.loop-k.k < count layout.program = omega arith in
    next_leaf layout c.loop-k.k c.loop-k.lines.items c.push_line.new.lines.items (c.args.lines.now.items ++ leaf_lines_from layout 0 (count layout.program)) below
    c.loop-k.invariant (c.in_ok-push_line.ensures ∙ ap (λ (one : Option GraphLine). c.loop-k.lines.items ++ with_line one []) c.leaf_line.ensures)

pub returns : goal.returns
returns c =
    let layout = c.args.self.now.layout in
    let end = c.count-k-end.ensures.value in
    let test = c.loop-k-test.false in
    let past : count layout.program ≤ c.loop-k.k = omega arith in
    all_leaves layout c.loop-k.k c.loop-k.lines.items (c.args.lines.now.items ++ leaf_lines_from layout 0 (count layout.program)) past c.loop-k.invariant
