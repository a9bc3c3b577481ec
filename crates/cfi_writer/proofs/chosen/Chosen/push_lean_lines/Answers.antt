use Rattle.std.proofs.Common.{◌<◌, ◌≤◌, ◌++◌, [], Option, arith, ap, ◌∙◌}
use Rattle.cfi_writer.proofs.Prelude.{count, GraphLine, place_lines, with_line}
use Rattle.cfi_writer.proofs.LineList.{all_lines, next_lines}
use Rattle.cfi_writer.proofs.chosen.Chosen.push_lean_lines.Goals as goal

pub loop-k-preserved : goal.loop-k-preserved
loop-k-preserved c =
    let end = c.count-k-end.ensures.value in
    let test = c.loop-k-test.true in
    let below : c.loop-k.k < count c.args.self.now.layout.program = omega arith in
    next_lines c.args.self.now.layout c.args.self.now.labels c.loop-k.k c.loop-k.lines.items c.push_line.new.lines.items c.push_line-in-loop-k.new.lines.items
    (c.args.lines.now.items ++ place_lines c.args.self.now.layout c.args.self.now.labels 0 c.args.self.now.layout.program.items)
    below c.loop-k.invariant
    (c.in_ok-push_line.ensures ∙ ap (λ (one : Option GraphLine). c.loop-k.lines.items ++ with_line one []) c.jump_line.ensures)
    (c.in_ok-push_line-2.ensures ∙ ap (λ (one : Option GraphLine). c.push_line.new.lines.items ++ with_line one []) c.lean_line.ensures)

pub returns : goal.returns
returns c =
    let end = c.count-k-end.ensures.value in
    let test = c.loop-k-test.false in
    let past : count c.args.self.now.layout.program ≤ c.loop-k.k = omega arith in
    all_lines c.args.self.now.layout c.args.self.now.labels c.loop-k.k c.loop-k.lines.items
    (c.args.lines.now.items ++ place_lines c.args.self.now.layout c.args.self.now.labels 0 c.args.self.now.layout.program.items)
    past c.loop-k.invariant
