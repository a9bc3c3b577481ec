-- What holds of a choice that is accepted: the code that is written for it, with its graph, meets the verifier's rules.
use Rattle.std.specs.Prelude.{◌≡◌, ℕ, ◌+◌, ◌*◌, ◌<◌, ◌≤◌, true, false, List, length, slice_get, Some}
use Rattle.rv_image.specs.Image.{Contents}
use Rattle.obj_program.specs.Program.{count}
use Rattle.cfi_graph.specs.Graph.{GraphParts, IsGraph}
use Rattle.cfi_graph.specs.declared.line.GraphLine.{GraphLine}
use Rattle.cfi_map.specs.GraphAtMap.{class_lines, gate, graph_lines, head_lines, word}
use Rattle.cfi_map.specs.LabelOf.{tagged}
use Rattle.cfi_unit.specs.declared.unit.Unit as U
use Rattle.cfi_unit.specs.UnitWords.{mask_words}
use Rattle.cfi_rules.specs.Placed.{placed_code, placed_lines}
use Rattle.cfi_rules.specs.Rules.{IsWellFormed}
use Rattle.cfi_rules.specs.Sound.{IsSound}
use Rattle.cfi_rules.specs.Split.{code_words, entry_of, unit_at}
use Rattle.cfi_writer.specs.Accepted.{IsAccepted}
use Rattle.cfi_writer.specs.Units.{Choice, behind, entry_arrival, is_later_at, lead, mask_at, unit_here, units}

-- the words of the whole code, the lines of its classes, and with these all heads: the lines of system calls and leaves before them
abbrev pub written_code : Choice → List ℕ
written_code m = placed_code m.layout.profile (entry_arrival m) (units m)

abbrev pub written_classes : Choice → List GraphLine
written_classes m = class_lines m.layout.gates m.labels (tagged m.layout.closed.sides)

abbrev pub written_heads : Choice → List GraphLine
written_heads m = head_lines m.layout m.labels

-- units are sound with these lines
abbrev pub WrittenIsSound : Type 0
WrittenIsSound = (m : Choice) → IsAccepted m → IsSound m.layout.profile m.layout.closed.version (entry_arrival m) (units m) (written_heads m)

-- the lines of the graph at the map are those of the units behind these
abbrev pub WrittenLines : Type 0
WrittenLines =
    (m : Choice) → IsAccepted m → graph_lines m.layout m.labels ≡ placed_lines m.layout.profile (entry_arrival m) (units m) (written_heads m)

-- they are a graph's, of a code of this length
abbrev pub WrittenIsGraph : Type 0
WrittenIsGraph =
    (m : Choice) → IsAccepted m → IsGraph (record { version = m.layout.closed.version; code = 4 * length (written_code m); lines = graph_lines m.layout m.labels })

-- an image with this code and that graph meet the rules
abbrev pub WrittenIsWellFormed : Type 0
WrittenIsWellFormed =
    (m : Choice) (image : Contents) (graph : GraphParts) → IsAccepted m → code_words image.code ≡ written_code m →
    graph.version ≡ m.layout.closed.version → graph.lines ≡ graph_lines m.layout m.labels → graph.code ≡ length image.code → IsWellFormed m.layout.profile image graph

-- a later store is a member of the unit of the first store of its group, in its turn
pub record IsMemberOf (m : Choice) (k : ℕ) : Type 0 where
  pub first : ℕ
  pub index : ℕ
  pub place : k ≡ first + index
  pub inside : index ≤ behind m first
  pub stands : unit_at m.layout.profile (written_code m) (word m.layout first) ≡ Some (unit_here m first)
  pub at : word m.layout k ≡ word m.layout first + 4 * (mask_words (mask_at m first) + index)

-- at the word of each place that is no later store stands its unit, and from its gate on the words before that
pub record HasUnits (m : Choice) : Type 0 where
  pub own : (k : ℕ) → k < count m.layout.program → is_later_at m k ≡ false → unit_at m.layout.profile (written_code m) (word m.layout k) ≡ Some (unit_here m k)
  pub led : (k j : ℕ) (u : U.Unit) → k < count m.layout.program → slice_get (lead m k) j ≡ Some u →
      unit_at m.layout.profile (written_code m) (gate m.layout k + 4 * j) ≡ Some u
  pub member : (k : ℕ) → is_later_at m k ≡ true → IsMemberOf m k

abbrev pub WrittenUnits : Type 0
WrittenUnits = (m : Choice) → IsAccepted m → HasUnits m

-- the opening calls the entry
abbrev pub WrittenEntry : Type 0
WrittenEntry = (m : Choice) → IsAccepted m → entry_of m.layout.profile (written_code m) ≡ Some (entry_arrival m)
