-- What one pass over a code and a graph finds out. Only private contracts cite this.
use Rattle.std.specs.Prelude.{◌≡◌, ◌≢◌, ℕ, ◌+◌, ◌*◌, ◌<◌, ◌≤◌, ◌==◌, ◌&&◌, ◌⊎◌, nat_lt, is_some, Bool, true, false, List, Some, None, slice_get}
use Rattle.std.specs.List.{list_any}
use Rattle.rv_image.specs.MemoryMap.{CODE_START, Profile}
use Rattle.cfi_graph.specs.declared.line.GraphLine.{GraphLine}
use Rattle.cfi_graph.specs.declared.line.GraphLine.TheVariants.{Leaf}
use Rattle.cfi_graph.specs.declared.line.Key.TheVariants.{Address}
use Rattle.cfi_graph.specs.Graph.{GraphParts, key_below, key_of}
use Rattle.cfi_scan.specs.Pieces.{Listed, prologue_count}
use Rattle.cfi_starts.specs.Entries.{count_of, end_of, enters_at, entry_at, fails_leaf_at, fails_target_at, gate_at, goes_on, lacks_end_at, next_in, signs_at, stands_wrong_at}
use Rattle.cfi_fails.specs.Fails.{is_barred_at, is_barred_busy_at, is_stop_entry, fails_at, misses_start_at, fails_unlisted_at, fails_unused_at, fails_site_at, fails_astray_at}
use Rattle.cfi_rules.specs.Lines.{leaves_in, line_at}
use Rattle.cfi_rules.specs.Rules.{lacks_gate}
use Rattle.cfi_rules.specs.declared.reject.Rule.{Rule}
use Rattle.cfi_rules.specs.declared.reject.Rule.TheVariants as R

module _ (p : Profile) where
  -- none of the rules fails at an address that ask for its transfer, its gate and its line: of Unit, that
  -- the graph admits the unit there, if it is of one of these; of Target, that units start at its targets
  pub record HoldsAt (t : Listed) (graph : GraphParts) (a : ℕ) : Type 0 where
    pub unit : is_barred_busy_at p t graph a ≡ false
    pub target : misses_start_at p t a ≡ false
    pub unlisted : fails_unlisted_at p t graph.lines a ≡ false
    pub unused : fails_unused_at p t graph.lines a ≡ false
    pub site : fails_site_at p t graph.lines a ≡ false
    pub astray : fails_astray_at p t graph a ≡ false

  -- and none of what the rules ask for by kinds of starts
  pub record KindHoldsAt (t : Listed) (graph : GraphParts) (a : ℕ) : Type 0 where
    pub unit : is_barred_at p t graph a ≡ false
    pub stands : stands_wrong_at p t (leaves_in graph.lines) a ≡ false
    pub leaf : fails_leaf_at p t graph.lines a ≡ false
    pub target : fails_target_at p t graph.lines a ≡ false

  -- a rule that is asked address by address fails at no word of the prologue
  abbrev pub HoldsEarly : Listed → GraphParts → Rule → Type 0
  HoldsEarly t graph rule = rule ≢ R.Gate → (k : ℕ) → k < prologue_count p → fails_at p rule t graph (CODE_START + 4 * k) ≡ false

  -- units cover the code, and the last is a stop
  abbrev pub ends_in_stop : Listed → Bool
  ends_in_stop t =
      (t.done == count_of p t) && (nat_lt t.last t.done && is_stop_entry (entry_at p t.entries (p.units_from + 4 * t.last)))

  -- the rules hold at the first words after the prologue; the first lines stand before the next word, and
  -- those of classes have their gates
  pub record HasPassed (t : Listed) (graph : GraphParts) (count next : ℕ) : Type 0 where
    pub words : (k : ℕ) → k < next → HoldsAt t graph (p.units_from + 4 * k)
    pub lines_before : (i : ℕ) (line : GraphLine) → i < count → slice_get graph.lines i ≡ Some line → key_below (key_of line) (Address (p.units_from + 4 * next)) ≡ true
    pub gates : (i : ℕ) (line : GraphLine) → i < count → slice_get graph.lines i ≡ Some line → (a : ℕ) → lacks_gate graph.version (signs_at p t (leaves_in graph.lines)) a line ≡ false

  -- at none of these words a line stands
  abbrev pub NoneStands : List GraphLine → ℕ → ℕ → Type 0
  NoneStands lines from to = (k : ℕ) → from ≤ k → k < to → line_at lines (p.units_from + 4 * k) ≡ None

  -- no leaf begins anywhere that is not of whole units
  abbrev pub AreWhole : Listed → List GraphLine → Type 0
  AreWhole t lines = (a : ℕ) → list_any (lacks_end_at p t a) lines ≡ false

  -- no unit goes on to a word
  abbrev pub IsShut : Listed → ℕ → Type 0
  IsShut t j = (k : ℕ) → k < end_of p t → next_in t.entries (end_of p t) k ≡ j → goes_on (entry_at p t.entries (p.units_from + 4 * k)) ≡ false

  -- or a gate alone that stands directly before it
  abbrev pub IsEntered : Listed → ℕ → Type 0
  IsEntered t j =
      (k : ℕ) → k < end_of p t → next_in t.entries (end_of p t) k ≡ j →
      (goes_on (entry_at p t.entries (p.units_from + 4 * k)) ≡ false) ⊎ ((is_some (gate_at p t (p.units_from + 4 * k)) ≡ true) × (k + 1 ≡ j))

  abbrev pub IsShutAt : Listed → ℕ → Type 0
  IsShutAt t a = (j : ℕ) → a ≡ p.units_from + 4 * j → IsShut t j

  -- where a leaf begins and where it ends
  abbrev pub IsShutLeaf : Listed → GraphLine → Type 0
  IsShutLeaf t (Leaf from to) = IsShutAt t from × IsShutAt t to
  IsShutLeaf t other = Unit {0}

  abbrev pub AreShut : Listed → List GraphLine → Type 0
  AreShut t lines = (i : ℕ) (line : GraphLine) → slice_get lines i ≡ Some line → IsShutLeaf t line

  -- what is asked of a word alone, and of what goes on to an enter, or to a gate before one
  pub record WordHolds (t : Listed) (graph : GraphParts) (j : ℕ) : Type 0 where
    pub unit : is_barred_at p t graph (p.units_from + 4 * j) ≡ false
    pub stands : stands_wrong_at p t (leaves_in graph.lines) (p.units_from + 4 * j) ≡ false
    pub target : fails_target_at p t graph.lines (p.units_from + 4 * j) ≡ false
    pub enter : enters_at p t (p.units_from + 4 * j) ≡ true → IsEntered t j
    pub gate : is_some (gate_at p t (p.units_from + 4 * j)) ≡ true → enters_at p t (p.units_from + 4 * j + 4) ≡ true → IsShut t j
