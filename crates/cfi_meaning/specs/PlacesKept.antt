-- An image of what is written keeps the meaning of its program: n tame steps of the program's own are
-- matched within 21 n steps of the machine, or 22 n with a graph of version 2, and as many more as the opening and
-- the closing have words and what saves the closing's address, and what ends the program ends the machine alike.
use Rattle.std.specs.Prelude.{◌≡◌, ℕ, ◌+◌, false, Option, Some, None, List, [], ◌∷◌, length}
use Rattle.rv_image.specs.Image.{Contents, loaded}
use Rattle.rv_image.specs.MemoryMap.{SHADOW_START}
use Rattle.rv_code.specs.State.{After}
use Rattle.obj_input.specs.declared.item_kind.ItemKind.TheVariants as is
use Rattle.obj_program.specs.Program.{item_of}
use Rattle.cfi_runs.specs.MatchLaws.{ComesTo}
use Rattle.cfi_runs.specs.Matching.{SameData}
use Rattle.cfi_runs.specs.Own.{Own, OwnAfter, own_closing}
use Rattle.cfi_runs.specs.WholeRun.{Ends, RunsTo}
use Rattle.cfi_writer.specs.Units.{Choice}
use Rattle.cfi_meaning.specs.Bounds.{most_steps}
use Rattle.cfi_meaning.specs.ImageOf.{IsImageOf}
use Rattle.cfi_meaning.specs.Matches.{gate_of, is_outside, shown_of}
use Rattle.cfi_meaning.specs.PlaceSteps.{Chained, Linked, PlacesRun, TamePlace, holds_store, place_step, places_start}

-- the machine has ended as an own step did
abbrev pub EndsLike : OwnAfter → After → Type 0
EndsLike own after = (after.turn ≡ own.turn) × SameData own.state.shared after.shared

-- `o` is where the program comes over these places, each of which is an instruction's, with a place that is next or none
pub record KeepsPlaces (m : Choice) (image : Contents) (input : List ℕ) (places : List ℕ) (next : Option ℕ) (o : Own) : Type 0 where
  pub goes : RunsTo m.layout.profile image input (most_steps m.layout (length places))
      (ComesTo m.layout.profile.callee_saves SHADOW_START (loaded image) (loaded image) (shown_of m.layout next o))
  pub ends : (k : ℕ) → next ≡ Some k → holds_store m k ≡ false → TamePlace m image k o →
      RunsTo m.layout.profile image input (most_steps m.layout (length places + 1)) (EndsLike (place_step m k o))
  pub closes : o.pc ≡ m.layout.profile.closing → Ends m.layout.profile image input (most_steps m.layout (length places)) (own_closing m.layout.profile o)

-- no call comes back into a leaf: behind a return among these places stands none
abbrev pub Follows : Choice → ℕ → Option ℕ → Type 0
Follows m k None = Unit {0}
Follows m k (Some j) = (item_of m.layout.program k).kind ≡ is.Return → is_outside m.layout j

abbrev pub ComesBackOutside : Choice → List ℕ → Option ℕ → Type 0
ComesBackOutside m [] next = Unit {0}
ComesBackOutside m (k ∷ []) next = Follows m k next
ComesBackOutside m (k ∷ j ∷ places) next = Follows m k (Some j) × ComesBackOutside m (j ∷ places) next

-- the undisturbed run of an image of what is written keeps the program's own run, up to where that is at no later store
abbrev pub PlacesKept : Type 0
PlacesKept =
    (m : Choice) (image : Contents) (input places : List ℕ) (next : Option ℕ) (o : Own) → IsImageOf m image →
    Chained m None places next → Linked m None next → PlacesRun m image places (places_start m image input) o →
    o.pc ≡ gate_of m.layout next → ComesBackOutside m places next → KeepsPlaces m image input places next o
