-- What stands at places, and where the words before their units lead.
use Rattle.std.specs.Prelude.{◌≡◌, ℕ, suc, ◌+◌, ◌*◌, ◌≤◌, ◌<◌, true, false, List, [], Option, Some, length}
use Rattle.std.specs.List.{range_with_len}
use Rattle.rv_image.specs.Image.{Contents, loaded}
use Rattle.rv_instr.specs.Registers.{cleared}
use Rattle.rv_code.specs.declared.turn.Turn.TheVariants.{Ran}
use Rattle.obj_input.specs.declared.item_kind.ItemKind.TheVariants as is
use Rattle.obj_program.specs.Program.{count, item_of}
use Rattle.cfi_graph.specs.Graph.{has_leaves}
use Rattle.cfi_graph.specs.declared.line.SiteKind.{SiteKind}
use Rattle.cfi_map.specs.GraphAtMap.{gate, word}
use Rattle.cfi_map.specs.LabelOf.{site_label}
use Rattle.cfi_closed.specs.Closed.{class_reaches}
use Rattle.cfi_flow.specs.Sites.{site_kind}
use Rattle.cfi_unit.specs.declared.unit.Unit as U
use Rattle.cfi_unit.specs.Leads.{HasLabel}
use Rattle.cfi_unit.specs.UnitWords.{word_count}
use Rattle.cfi_runs.specs.Own.{Own, own_start, own_step}
use Rattle.cfi_runs.specs.OwnRuns.{OwnRuns, words_along}
use Rattle.cfi_runs.specs.Tame.{TameStep}
use Rattle.cfi_runs.specs.WholeRun.{HasPrologue, own_shared}
use Rattle.cfi_writer.specs.Accepted.{IsAccepted}
use Rattle.cfi_writer.specs.SideLaws.{word_asked}
use Rattle.cfi_writer.specs.Units.{Choice, behind, entry_arrival, is_later_at, unit_here}
use Rattle.cfi_meaning.specs.ImageOf.{IsImageOf, IsPlace}
use Rattle.cfi_meaning.specs.Matches.{gate_of, is_outside, shown_of}
use Rattle.cfi_meaning.specs.Bounds.{entry_words, most_words}
use Rattle.cfi_meaning.specs.PlaceSteps.{places_start, PlacesRun, TamePlace, at_word, holds_store, place_step}

-- the state at a place, as the machine has it, and at the place's unit
abbrev pub shown : Choice → ℕ → Own → Own
shown m k o = shown_of m.layout (Some k) o

abbrev pub at_unit : Choice → ℕ → Own → Own
at_unit m k o = at_word m k (shown m k o)

-- from the state at a place a path leads to its unit, whose step is tame: before the unit stand no more words than the closed graph has
-- sides; under version 3 the state is there already
pub record ComesToPlace (m : Choice) (image : Contents) (k : ℕ) (o : Own) : Type 0 where
  pub path : List U.Unit
  pub few : words_along path ≤ length m.layout.closed.sides
  pub none : has_leaves m.layout.closed.version ≡ true → path ≡ []
  pub leads : OwnRuns m.layout.profile (loaded image) path (shown m k o) (at_unit m k o)
  pub step : TameStep m.layout.profile.callee_saves (loaded image) (unit_here m k) (at_unit m k o)

-- and that step leads to a state, from which a path leads to that at the place which is next, or to the closing
pub record ComesThrough (m : Choice) (image : Contents) (k : ℕ) (next : Option ℕ) (o last : Own) : Type 0 where
  pub comes : ComesToPlace m image k o
  pub left : Own
  pub leads : own_step m.layout.profile (at_unit m k o) (unit_here m k) ≡ record { state = left; turn = Ran }
  pub behind : List U.Unit
  pub lands : OwnRuns m.layout.profile (loaded image) behind left (shown_of m.layout next last)
  pub few : words_along comes.path + (word_count (unit_here m k) + words_along behind) ≤ most_words m.layout

abbrev pub WrittenPrologue : Type 0
WrittenPrologue = (m : Choice) (image : Contents) → IsImageOf m image → HasPrologue m.layout.profile image (entry_arrival m)

-- a place that holds no store has a unit of its own
abbrev pub PlaceRuns : Type 0
PlaceRuns =
    (m : Choice) (image : Contents) (k : ℕ) (o : Own) → IsImageOf m image → holds_store m k ≡ false → TamePlace m image k o → ComesToPlace m image k o

-- whose own step ends as that of the place does
abbrev pub StepOfKind : Type 0
StepOfKind =
    (m : Choice) (image : Contents) (k : ℕ) (o : Own) → IsAccepted m → holds_store m k ≡ false → TamePlace m image k o →
    ((own_step m.layout.profile (at_unit m k o) (unit_here m k)).turn ≡ (place_step m k o).turn)
    × ((own_step m.layout.profile (at_unit m k o) (unit_here m k)).state.shared ≡ (place_step m k o).state.shared)

-- and where it goes on, comes to the state at the next place. A call whose site is pending does not come back into a leaf
abbrev pub StepGoesOn : Type 0
StepGoesOn =
    (m : Choice) (image : Contents) (k : ℕ) (next : Option ℕ) (o : Own) → IsImageOf m image → holds_store m k ≡ false → TamePlace m image k o →
    (place_step m k o).turn ≡ Ran → (place_step m k o).state.pc ≡ gate_of m.layout next →
    ((item_of m.layout.program k).kind ≡ is.Return → (j : ℕ) → next ≡ Some j → is_outside m.layout j) →
    ComesThrough m image k next o (place_step m k o).state

-- the steps of the stores of a whole group are the one step of the unit at the first
abbrev pub GroupRuns : Type 0
GroupRuns =
    (m : Choice) (image : Contents) (k : ℕ) (o last : Own) → IsImageOf m image → holds_store m k ≡ true → is_later_at m k ≡ false →
    PlacesRun m image (range_with_len k (suc (behind m k))) o last → ComesThrough m image k (Some (k + (behind m k + 1))) o last

-- the opening comes to the state at the entry
pub record ComesToEntry (m : Choice) (image : Contents) (input : List ℕ) : Type 0 where
  pub path : List U.Unit
  pub few : words_along path ≤ entry_words m.layout
  pub leads : OwnRuns m.layout.profile (loaded image) path (own_start m.layout.profile 0 (entry_arrival m) cleared (own_shared image input))
      (shown m m.layout.entry (places_start m image input))

abbrev pub EntryRuns : Type 0
EntryRuns = (m : Choice) (image : Contents) (input : List ℕ) → IsImageOf m image → ComesToEntry m image input

-- behind the unit of a place stands the gate of the next place that has a unit, behind the stores that follow in its group
abbrev pub NextGate : Type 0
NextGate =
    (m : Choice) (k : ℕ) → IsAccepted m → IsPlace m k → is_later_at m k ≡ false →
    (k + (behind m k + 1) < count m.layout.program)
    × (gate m.layout (k + (behind m k + 1)) ≡ word m.layout k + 4 * word_count (unit_here m k))

-- the gates of a computed transfer's targets bear its label, at the word that its check reads
abbrev pub TargetBears : Type 0
TargetBears =
    (m : Choice) (image : Contents) (k t : ℕ) (kind : SiteKind) → IsImageOf m image → k < count m.layout.program →
    site_kind (item_of m.layout.program k).kind ≡ Some kind → class_reaches m.layout.closed k t ≡ true →
    HasLabel (loaded image) (word_asked m.layout.closed.version kind) (site_label m.labels m.layout.closed.sides k) (gate m.layout t)
