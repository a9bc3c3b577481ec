use Rattle.std.proofs.Common.{◌∷◌, [], ◌∙◌, ap, ◌++◌, append_assoc}
use Rattle.text_lines.specs.Lines.{spaced}
use Rattle.cfi_graph.specs.Text.{words_of_line}
use Rattle.cfi_graph.proofs.Printed.{line_text, next_piece}
use Rattle.cfi_graph.proofs.write.push_lines.Goals as goal

pub loop-line-preserved : goal.loop-line-preserved
loop-line-preserved c =
    let line = c.line-item.result in
    let added = c.in_ok-push.ensures.items ∙ ap (λ text. text ++ 10 ∷ []) c.in_ok-push_words.ensures ∙ append_assoc c.loop-line.out.items (spaced (words_of_line line)) (10 ∷ []) in
    next_piece line_text c.args.lines.now c.loop-line.line-index line line c.args.out.now.items c.loop-line-test.true c.line-item.is c.loop-line.invariant added
