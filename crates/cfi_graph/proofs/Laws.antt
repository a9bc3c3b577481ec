-- What the right answer to a text says: the text is the spelling of what was read, and each
-- spelling is read.
use Rattle.std.proofs.Common.{◌≡◌, ℕ, List, Result, Ok, Err, IfOk, sym, ◌∙◌, ap}
use Rattle.rv_word.specs.declared.end.End.{End}
use Rattle.rv_word.specs.declared.end.End.TheVariants.{Fault, NoMemory}
use Rattle.cfi_graph.specs.Graph.{GraphParts, IsGraph}
use Rattle.cfi_graph.specs.Text.{graph_text}
use Rattle.text_lines.specs.Answers.{Answers}
use Rattle.text_lines.specs.declared.fault.LineFault.{LineFault}
use Rattle.cfi_graph.specs.Reading.{graph_of}
use Rattle.cfi_graph.proofs.Whole.{graph_of_allowed, graph_of_spelled}
use Rattle.cfi_graph.proofs.Only.{graph_of-graph_text}

pub record IsReading (text : List ℕ) (answer : Result GraphParts (End LineFault)) : Type 0 where
  pub allowed : IfOk answer IsGraph
  pub spelled : IfOk answer (λ g. text ≡ graph_text g)
  pub only : (g : GraphParts) → IsGraph g → text ≡ graph_text g → Answers answer (Ok g)

read_of : (text : List ℕ) (g : GraphParts) → IsGraph g → text ≡ graph_text g → graph_of text ≡ Ok g
read_of text g is e = ap graph_of e ∙ graph_of-graph_text g is

pub reading : (text : List ℕ) (answer : Result GraphParts (End LineFault)) → Answers answer (graph_of text) → IsReading text answer
reading text (Ok g) right =
    record {
      allowed = graph_of_allowed text g right;
      spelled = graph_of_spelled text g right;
      only = λ other is e. sym (read_of text other is e) ∙ right;
    }
reading text (Err (Fault fault)) right =
    record { allowed = tt; spelled = tt; only = λ other is e. sym (read_of text other is e) ∙ right }
reading text (Err NoMemory) right =
    record { allowed = tt; spelled = tt; only = λ other is e. tt }
