-- The list of system calls of a graph, for C.
use Rattle.std.specs.Prelude.{◌≡◌, ℕ, List, None, Some, Err, length}
use Rattle.rv_word.specs.declared.end.End.TheVariants.{Fault}
use Rattle.cfi_graph.specs.Graph.{GraphParts, IsGraph, calls_in}
use Rattle.cfi_graph.specs.Reading.{graph_of}
use Rattle.cfi_graph.specs.Text.{graph_text}
use Rattle.cfi_pair.specs.Room.{held}
use Rattle.text_lines.specs.declared.fault.LineFault.{LineFault}

-- the text is a graph whose list has so many numbers, and `after` holds them
pub record IsListOf (bytes before after : List ℕ) (count : ℕ) : Type 0 where
  pub graph : GraphParts
  pub numbers : List ℕ
  pub graph_is : bytes ≡ graph_text graph
  pub parts : IsGraph graph
  pub list_is : calls_in graph.lines ≡ Some numbers
  pub count_is : count ≡ length numbers
  pub told : after ≡ held numbers before

-- the text is a graph that has none
pub record HasNoList (bytes : List ℕ) : Type 0 where
  pub graph : GraphParts
  pub graph_is : bytes ≡ graph_text graph
  pub parts : IsGraph graph
  pub none : calls_in graph.lines ≡ None

-- the text is no graph: a line of it fails
abbrev pub IsNoGraph : List ℕ → Type 0
IsNoGraph bytes = (fault : LineFault) × (graph_of bytes ≡ Err (Fault fault))
