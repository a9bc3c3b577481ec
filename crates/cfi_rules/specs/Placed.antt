-- Units placed one after another from an address on: their words, and the lines of a graph that belong
-- to them. A whole code is the prologue, with its call of the entry, and then units.
use Rattle.std.specs.Prelude.{ℕ, Bool, true, IsTrue, List, [], ◌∷◌, ◌++◌, map, Option, Some, None}
use Rattle.rv_image.specs.MemoryMap.{Profile}
use Rattle.rv_code.specs.Encode.{code_of}
use Rattle.cfi_graph.specs.declared.line.GraphLine.{GraphLine}
use Rattle.cfi_graph.specs.declared.line.GraphLine.TheVariants.{Calls, Leaf, Site, Edge, Call}
use Rattle.cfi_graph.specs.Graph.{is_class}
use Rattle.cfi_unit.specs.declared.unit.Unit as U
use Rattle.cfi_unit.specs.declared.place.Place.TheVariants.{Body as body}
use Rattle.cfi_unit.specs.Prologue.{OPENING, prologue_instrs}
use Rattle.cfi_unit.specs.UnitWords.{Fits, after_unit, may_precede, words_of}
use Rattle.cfi_rules.specs.Rules.{call_of, edge_of, site_of}
use Rattle.cfi_rules.specs.declared.asks.Asks.{Asks}

-- the words of units, the first of which stands at an address and each next one where the one before
-- ends
unfoldable pub code_from : ℕ → List U.Unit → List ℕ
code_from at [] = []
code_from at (unit ∷ units) = words_of unit at ++ code_from (after_unit unit at) units

-- each unit may stand where it does
unfoldable pub AllFit : ℕ → List U.Unit → Type 0
AllFit at [] = Unit {0}
AllFit at (unit ∷ units) = Fits unit at × AllFit (after_unit unit at) units

-- and each before the words of those that follow it
unfoldable pub AllAhead : ℕ → List U.Unit → Type 0
AllAhead at [] = Unit {0}
AllAhead at (unit ∷ units) =
    IsTrue (may_precede unit at (code_from (after_unit unit at) units)) × AllAhead (after_unit unit at) units

-- the line of a unit at an address: an edge, a call or a site
abbrev pub line_by : ℕ → Option ℕ → Option ℕ → Option Asks → Option GraphLine
line_by at (Some target) call asked = Some (Edge at target)
line_by at None (Some target) asked = Some (Call at target)
line_by at None None (Some asked) = Some (Site at asked.kind asked.label)
line_by at None None None = None

abbrev pub line_of : ℕ → U.Unit → Option GraphLine
line_of at unit = line_by at (edge_of (body unit)) (call_of (body unit)) (site_of (body unit))

abbrev pub with_line : Option GraphLine → List GraphLine → List GraphLine
with_line None lines = lines
with_line (Some line) lines = line ∷ lines

-- the lines of units, in the order of their addresses
unfoldable pub lines_from : ℕ → List U.Unit → List GraphLine
lines_from at [] = []
lines_from at (unit ∷ units) = with_line (line_of at unit) (lines_from (after_unit unit at) units)

-- a whole code
abbrev pub placed_code : Profile → ℕ → List U.Unit → List ℕ
placed_code p entry units = map code_of (prologue_instrs p entry) ++ code_from p.units_from units

-- the lines that come before those of units: that of system calls, those of leaves, and those of classes
abbrev pub is_head : GraphLine → Bool
is_head (Calls ns) = true
is_head (Leaf from to) = true
is_head line = is_class line

-- and its lines: those without an address, the opening's call, those of the units
abbrev pub placed_lines : Profile → ℕ → List U.Unit → List GraphLine → List GraphLine
placed_lines p entry units heads = heads ++ (Call OPENING entry ∷ lines_from p.units_from units)
