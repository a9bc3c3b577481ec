-- What holds of units placed one after another, of the code that they make with the prologue, and of
-- their lines.
use Rattle.std.specs.Prelude.{◌≡◌, ℕ, ◌*◌, ◌%◌, ◌≤◌, List, length, Some, is_some}
use Rattle.rv_image.specs.declared.version.GraphVersion.{GraphVersion}
use Rattle.rv_image.specs.Image.{Contents}
use Rattle.rv_image.specs.MemoryMap.{CODE_START, IsProfile, Profile}
use Rattle.cfi_graph.specs.declared.line.GraphLine.{GraphLine}
use Rattle.cfi_graph.specs.Graph.{GraphParts, IsGraph}
use Rattle.cfi_unit.specs.declared.unit.Unit as U
use Rattle.cfi_unit.specs.Split.{IsSplit}
use Rattle.cfi_unit.specs.UnitWords.{Reaches}
use Rattle.cfi_rules.specs.Placed.{AllAhead, AllFit, code_from, placed_code, placed_lines}
use Rattle.cfi_rules.specs.Rules.{IsWellFormed}
use Rattle.cfi_rules.specs.Sound.{IsSound}
use Rattle.cfi_rules.specs.Split.{code_words, entry_of, is_start, unit_at, unit_in, unit_words}

-- units that fit, each before words that may follow it, are the split of their words
abbrev pub PlacedAreSplit : Type 0
PlacedAreSplit =
    (units : List U.Unit) (at : ℕ) → AllFit at units → AllAhead at units → IsSplit (code_from at units) at units

-- a unit starts at an address of a code exactly where one of the code's split does, and it is that unit
abbrev pub SplitUnits : Type 0
SplitUnits =
    (p : Profile) (words : List ℕ) (units : List U.Unit) → CODE_START ≤ p.units_from → p.units_from % 4 ≡ 0 →
    IsSplit (unit_words p words) p.units_from units → (a : ℕ) →
    (is_start p words a ≡ is_some (unit_in units p.units_from a)) × (unit_at p words a ≡ unit_in units p.units_from a)

-- in a code of placed units these units start, and no others
abbrev pub PlacedUnits : Type 0
PlacedUnits =
    (p : Profile) (entry : ℕ) (units : List U.Unit) → IsProfile p → AllFit p.units_from units → AllAhead p.units_from units → (a : ℕ) →
    unit_at p (placed_code p entry units) a ≡ unit_in units p.units_from a

-- and its opening calls the entry, where the call reaches it
abbrev pub PlacedEntry : Type 0
PlacedEntry =
    (p : Profile) (entry : ℕ) (units : List U.Unit) → IsProfile p → Reaches p.opening_call entry →
    entry_of p (placed_code p entry units) ≡ Some entry

-- the lines of sound units and heads are a graph's of this code, where the heads alone are
abbrev pub PlacedIsGraph : Type 0
PlacedIsGraph =
    (p : Profile) (version : GraphVersion) (entry : ℕ) (units : List U.Unit) (heads : List GraphLine) → IsSound p version entry units heads →
    IsGraph (record { version = version; code = 4 * length (placed_code p entry units); lines = heads }) →
    IsGraph (record { version = version; code = 4 * length (placed_code p entry units); lines = placed_lines p entry units heads })

-- a code of placed units that are sound, with their lines, is well formed
abbrev pub PlacedIsWellFormed : Type 0
PlacedIsWellFormed =
    (p : Profile) (entry : ℕ) (units : List U.Unit) (heads : List GraphLine) (image : Contents) (graph : GraphParts) →
    IsSound p graph.version entry units heads → code_words image.code ≡ placed_code p entry units →
    graph.lines ≡ placed_lines p entry units heads → graph.code ≡ length image.code →
    IsWellFormed p image graph
