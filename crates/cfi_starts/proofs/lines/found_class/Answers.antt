use Rattle.std.proofs.Common.{◌∙◌, ap, sym}
use Rattle.std.specs.Prelude.{option_and_then}
use Rattle.cfi_graph.specs.Graph.{class_in}
use Rattle.cfi_rules.proofs.LineOrder.{class_with-with}
use Rattle.cfi_starts.proofs.lines.found_class.Goals as goal

pub returns-in_err-line_with : goal.returns-in_err-line_with
returns-in_err-line_with c =
    c.from_residual.ensures ∙ ap (option_and_then class_in) c.in_err-line_with.ensures ∙ sym (class_with-with c.args.graph.now.lines c.args.label)

pub returns : goal.returns
returns c =
    c.class.ensures ∙ ap (option_and_then class_in) c.in_ok-line_with.ensures ∙ sym (class_with-with c.args.graph.now.lines c.args.label)
