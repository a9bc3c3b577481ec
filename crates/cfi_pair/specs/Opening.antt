-- Two texts that are read as an image and its graph, and why they are not.
use Rattle.std.specs.Prelude.{◌≡◌, ℕ, List, ⊤, Some, None, Ok, Err}
use Rattle.elf_image.specs.Fault.{fault_of}
use Rattle.cfi_graph.specs.Graph.{GraphParts}
use Rattle.cfi_graph.specs.Reading.{graph_of}
use Rattle.text_lines.specs.Answers.{line_fault}
use Rattle.rv_word.specs.declared.end.End.{End}
use Rattle.rv_word.specs.declared.end.End.TheVariants as ends
use Rattle.cfi_pair.specs.declared.opening.PairFault.{PairFault}
use Rattle.cfi_pair.specs.declared.opening.PairFault.TheVariants.{Image, Graph}

-- two texts are read as an image and a graph
pub record AreRead (image_bytes graph_bytes : List ℕ) (graph : GraphParts) : Type 0 where
  pub no_fault : fault_of image_bytes ≡ None
  pub graph_is : graph_of graph_bytes ≡ Ok graph

-- the image is refused where its bytes have a fault, and else the graph at its first line that fails
abbrev pub IsPairFault : List ℕ → List ℕ → PairFault → Type 0
IsPairFault image graph (Image refusal) = fault_of image ≡ Some refusal
IsPairFault image graph (Graph line reason) = (fault_of image ≡ None) × (graph_of graph ≡ Err (line_fault line reason))

-- why two texts are not read; only want of memory is free
abbrev pub IsPairEnd : List ℕ → List ℕ → End PairFault → Type 0
IsPairEnd image graph (ends.Fault fault) = IsPairFault image graph fault
IsPairEnd image graph ends.NoMemory = ⊤
