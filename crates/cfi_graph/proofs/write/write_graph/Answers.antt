use Rattle.std.proofs.Common.{◌≡◌, ℕ, List, ◌∙◌, ap, ◌++◌, ◌∷◌}
use Rattle.std.specs.List.{flat_map}
use Rattle.cfi_graph.specs.Text.{graph_text}
use Rattle.text_lines.specs.Hex.{hex_text}
use Rattle.cfi_graph.proofs.Only.{graph_of-graph_text}
use Rattle.cfi_graph.proofs.Printed.{graph_written, line_text}
use Rattle.cfi_graph.proofs.write.write_graph.Goals as goal

written : (c : goal.In_ok-extend_from_slice-3) → c.extend_from_slice-3.new.self.items ≡ graph_text c.args.graph.now
written c =
    let name = c.in_ok-extend_from_slice.ensures.items ∙ ap (λ (n : List ℕ). c.new-out.result.items ++ n) c.name_of.ensures in
    let code = c.in_ok-push_number.ensures.pushed ∙ ap (λ n. c.extend_from_slice-2.new.self.items ++ 32 ∷ hex_text 8 n) c.from.ensures in
    let lines = c.in_ok-push_lines.ensures ∙ ap (λ ls. c.push.new.self.items ++ flat_map line_text ls) c.as_slice.ensures in
    rw (← c.graph.view_is) (graph_written _ c.new-out.ensures.items name c.in_ok-extend_from_slice-2.ensures.items code c.in_ok-push.ensures.items lines c.in_ok-extend_from_slice-3.ensures.items)

pub returns-clause-text : goal.returns-clause-text
returns-clause-text c = written c

pub returns-clause-read_back : goal.returns-clause-read_back
returns-clause-read_back c = rw (written c) (graph_of-graph_text c.args.graph.now (rw (← c.graph.view_is) c.graph.invariant))
