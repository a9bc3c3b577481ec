use Rattle.std.proofs.Common.{ℕ, List, ap, ◌∙◌, ◌++◌, ◌∷◌}
use Rattle.std.proofs.lemmas.Result.{IfOk-equal}
use Rattle.text_lines.specs.Hex.{hex_text}
use Rattle.cfi_graph.proofs.Printed.{class_written}
use Rattle.cfi_graph.proofs.write.push_class.Goals as goal

pub returns : goal.returns
returns c =
    let named = c.in_ok-extend_from_slice.ensures.items ∙ ap (λ (name : List ℕ). c.args.out.now.items ++ name) c.class_name.ensures in
    let labelled = c.in_ok-push_number.ensures.pushed ∙ ap (λ n. c.extend_from_slice.new.self.items ++ 32 ∷ hex_text 5 n) c.from.ensures in
    IfOk-equal c.push_numbers.result _ _ _ c.push_numbers.ensures (class_written _ _ _ c.args.sort c.args.label c.args.targets.now named labelled)
