-- The text of a graph. Every line ends with one newline, words are parted by one space, the last
-- line is `end`. A label has five hexadecimal digits, an address or a length eight, in lower case.
use Rattle.std.specs.Prelude.{ℕ, List, [], ◌∷◌, ◌++◌, map, codes}
use Rattle.std.specs.Fmt.{decimal}
use Rattle.std.specs.List.{flat_map}
use Rattle.rv_image.specs.declared.version.GraphVersion.{GraphVersion}
use Rattle.rv_image.specs.declared.version.GraphVersion.TheVariants.{OneLabel, TwoLabels, CalleeSaves}
use Rattle.text_lines.specs.Hex.{hex_text}
use Rattle.text_lines.specs.Lines.{spaced}
use Rattle.cfi_graph.specs.declared.line.GraphLine.{GraphLine}
use Rattle.cfi_graph.specs.declared.line.GraphLine.TheVariants.{Calls, Leaf, Class, Site, Edge, Call}
use Rattle.cfi_graph.specs.declared.line.SiteKind as kinds
use Rattle.cfi_graph.specs.declared.line.SiteKind.TheVariants as kind
use Rattle.cfi_graph.specs.declared.line.Sort.{Sort}
use Rattle.cfi_graph.specs.declared.line.Sort.TheVariants as sorts
use Rattle.cfi_graph.specs.Graph.{GraphParts}

abbrev pub kind_name : kinds.SiteKind → List ℕ
kind_name kind.Call = codes "call"
kind_name kind.Jump = codes "jump"

-- the first word of a class's line
abbrev pub class_name : Sort → List ℕ
class_name sorts.Both = codes "class"
class_name sorts.Calls = codes "callclass"
class_name sorts.Jumps = codes "jumpclass"

abbrev pub words_of_class : Sort → ℕ → List ℕ → List (List ℕ)
words_of_class sort label targets = class_name sort ∷ hex_text 5 label ∷ map (hex_text 8) targets

abbrev pub words_of_calls : List ℕ → List (List ℕ)
words_of_calls numbers = codes "calls" ∷ map decimal numbers

abbrev pub words_of_line : GraphLine → List (List ℕ)
words_of_line (Calls numbers) = words_of_calls numbers
words_of_line (Leaf from to) = codes "leaf" ∷ hex_text 8 from ∷ hex_text 8 to ∷ []
words_of_line (Class sort label targets) = words_of_class sort label targets
words_of_line (Site address k label) = codes "site" ∷ hex_text 8 address ∷ kind_name k ∷ hex_text 5 label ∷ []
words_of_line (Edge from to) = codes "edge" ∷ hex_text 8 from ∷ hex_text 8 to ∷ []
words_of_line (Call from to) = codes "call" ∷ hex_text 8 from ∷ hex_text 8 to ∷ []

-- the first line, by which the version is told
abbrev pub graph_name : GraphVersion → List ℕ
graph_name OneLabel = codes "rvcfi-graph 1"
graph_name TwoLabels = codes "rvcfi-graph 2"
graph_name CalleeSaves = codes "rvcfi-graph 3"

-- the lines of the text, without their newlines
unfoldable pub graph_lines : GraphParts → List (List ℕ)
graph_lines graph =
    graph_name graph.version ∷ spaced (codes "code" ∷ codes "40000000" ∷ hex_text 8 graph.code ∷ []) ∷
    map (λ line. spaced (words_of_line line)) graph.lines ++ codes "end" ∷ []

-- the one spelling of a graph
unfoldable pub graph_text : GraphParts → List ℕ
graph_text graph = flat_map (λ line. line ++ 10 ∷ []) (graph_lines graph)
