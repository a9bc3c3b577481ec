-- When units are sound with the lines without an address of a graph of a version: units fit one after
-- another, are admitted and of their kinds, transfers lead to units, computed ones ask for a class's label,
-- just the gates with a class's label are at such a word of its targets, and the last unit is a stop.
use Rattle.std.specs.Prelude.{◌≡◌, ◌⊎◌, ℕ, ◌+◌, ◌*◌, IsTrue, Bool, true, false, not, List, length, slice_get, Option, Some, None, is_some, option_and_then}
use Rattle.std.specs.List.{last_or, list_all}
use Rattle.std.specs.Option.{option_or}
use Rattle.rv_image.specs.declared.version.GraphVersion.{GraphVersion}
use Rattle.rv_image.specs.MemoryMap.{IsProfile, Profile}
use Rattle.cfi_graph.specs.declared.line.GraphLine.{GraphLine}
use Rattle.cfi_graph.specs.Graph.{ClassLine, calls_in, class_in, has_leaves}
use Rattle.cfi_unit.specs.declared.unit.Unit as U
use Rattle.cfi_unit.specs.declared.unit.Unit.TheVariants as V
use Rattle.cfi_unit.specs.declared.place.Place.TheVariants.{Body as body}
use Rattle.cfi_unit.specs.declared.target_word.TargetWord.{TargetWord}
use Rattle.cfi_unit.specs.declared.target_word.TargetWord.TheVariants.{First, Second, Third}
use Rattle.cfi_unit.specs.UnitWords.{Reaches}
use Rattle.cfi_pending.specs.Kinds.{IsOfItsKind, Leaf, is_enter, is_fresh, may_be_called}
use Rattle.cfi_rules.specs.declared.asks.Asks.{Asks}
use Rattle.cfi_rules.specs.Lines.{class_with, leaves_in, targets_for, is_among, is_word_of, read_of}
use Rattle.cfi_rules.specs.Placed.{AllAhead, AllFit, code_from, is_head}
use Rattle.cfi_rules.specs.Rules.{admits, call_of, edge_of, site_of}
use Rattle.cfi_rules.specs.Split.{unit_in}

-- one of the units starts at an address
abbrev pub StartsIn : Profile → List U.Unit → ℕ → Type 0
StartsIn p units a = IsTrue (is_some (unit_in units p.units_from a))

-- or the last one ends there
abbrev pub EndsIn : Profile → List U.Unit → ℕ → Type 0
EndsIn p units a = StartsIn p units a ⊎ (a ≡ p.units_from + 4 * length (code_from p.units_from units))

-- where a direct transfer leads
abbrev pub target_of : U.Unit → Option ℕ
target_of unit = option_or (edge_of (body unit)) (call_of (body unit))

-- the opening calls what saves its site or begins a leaf, and what is saved where it saves its site itself
abbrev pub may_be_entered : Bool → (ℕ → Option U.Unit) → List Leaf → ℕ → Bool
may_be_entered true unit_at leaves entry = may_be_called unit_at leaves entry
may_be_entered false unit_at leaves entry = not (is_fresh unit_at leaves entry)

-- this word of a target is the gate of a label. A first word is one of a saved start, a second one stands behind a
-- unit's start, a third one directly before what saves a site
abbrev pub Bears : Profile → List U.Unit → List Leaf → TargetWord → ℕ → ℕ → Type 0
Bears p units leaves First a label = (unit_in units p.units_from a ≡ Some (V.Gate label)) × IsTrue (not (is_fresh (unit_in units p.units_from) leaves a))
Bears p units leaves Second a label = StartsIn p units a × (unit_in units p.units_from (a + 4) ≡ Some (V.Gate label))
Bears p units leaves Third a label = (unit_in units p.units_from (a + 8) ≡ Some (V.Gate label)) × IsTrue (is_enter (unit_in units p.units_from (a + 12)))

pub record IsSound (p : Profile) (version : GraphVersion) (entry : ℕ) (units : List U.Unit) (heads : List GraphLine) : Type 0 where
  -- the profile is one of graphs of this version
  pub profile : IsProfile p
  pub saves : p.callee_saves ≡ has_leaves version
  -- each unit may stand where it does, before those that follow it, and in code of such a graph
  pub fit : AllFit p.units_from units
  pub ahead : AllAhead p.units_from units
  pub admitted : (a : ℕ) (unit : U.Unit) → unit_in units p.units_from a ≡ Some unit → IsTrue (admits version (calls_in heads) unit)
  -- each is of its kind; a leaf begins at a unit's start, and ends at one or where the code does
  pub kinds : (a : ℕ) (unit : U.Unit) → unit_in units p.units_from a ≡ Some unit → IsOfItsKind (unit_in units p.units_from) (leaves_in heads) a unit
  pub leaves : (k : ℕ) (leaf : Leaf) → slice_get (leaves_in heads) k ≡ Some leaf → StartsIn p units leaf.from × EndsIn p units leaf.to
  -- the opening's call reaches the entry, and may call it; the entry and each target of a direct transfer are units' starts
  pub entry_reached : Reaches p.opening_call entry
  pub entry_called : IsTrue (may_be_entered p.callee_saves (unit_in units p.units_from) (leaves_in heads) entry)
  pub entry_starts : StartsIn p units entry
  pub targets : (a target : ℕ) (unit : U.Unit) → unit_in units p.units_from a ≡ Some unit →
      target_of unit ≡ Some target → StartsIn p units target
  -- the lines without an address are of system calls, leaves and classes, and a class with its label serves
  -- each computed transfer
  pub heads_are : IsTrue (list_all is_head heads)
  pub labels : (a : ℕ) (unit : U.Unit) (asked : Asks) → unit_in units p.units_from a ≡ Some unit →
      site_of (body unit) ≡ Some asked → IsTrue (is_some (targets_for heads asked.kind asked.which asked.label))
  -- each target of a class bears its label, and each gate with a class's label is at the word of a target
  pub gates : (k a : ℕ) (class : ClassLine) → option_and_then class_in (slice_get heads k) ≡ Some class →
      IsTrue (is_among a class.targets) → Bears p units (leaves_in heads) (read_of version class.sort) a class.label
  pub astray : (label a : ℕ) (class : ClassLine) → unit_in units p.units_from a ≡ Some (V.Gate label) →
      class_with heads label ≡ Some class → IsTrue (is_word_of (read_of version class.sort) a class.targets)
  -- the last unit is a stop
  pub ends : last_or None units ≡ Some V.Stop
