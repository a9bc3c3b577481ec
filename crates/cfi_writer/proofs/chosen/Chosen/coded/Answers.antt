use Rattle.std.proofs.Common.{◌∙◌, List, ℕ, ap, length}
use Rattle.cfi_map.specs.GraphAtMap.{graph_lines}
use Rattle.cfi_writer.proofs.chosen.Chosen.coded.Goals as goal

pub returns : goal.returns
returns c = record {
  words = c.in_ok-code.ensures.words;
  size = c.in_ok-code.ensures.size;
  graph_is = c.in_ok-graph.ensures
      ∙ ap (λ (code : List ℕ). record { version = c.args.self.now.layout.closed.version; code = length code; lines = graph_lines c.args.self.now.layout c.args.self.now.labels }) c.as_slice.ensures.value;
}
