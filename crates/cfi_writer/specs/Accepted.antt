-- What the layers below promise of a choice that is written: the program is sound, its gates are a placement's, classes and labels are
-- as they are made, each value is in its range, and short branches reach.
use Rattle.std.specs.Prelude.{◌≡◌, ℕ, ◌+◌, ◌*◌, ◌^◌, ◌≤◌, ◌<◌, true, false, List, Some, is_some, length, map, slice_get}
use Rattle.std.specs.List.{All}
use Rattle.std.specs.List.Sorted.{IsStrictlyIncreasing}
use Rattle.rv_image.specs.MemoryMap.{CODE_SIZE, IsProfile}
use Rattle.obj_program.specs.AtMap.{instr_at}
use Rattle.obj_program.specs.Program.{count, is_end, item_of}
use Rattle.obj_program.specs.Sound.{IsSound}
use Rattle.cfi_class.specs.Labels.{AreLabels}
use Rattle.cfi_class.specs.Classes.{IsIn}
use Rattle.cfi_graph.specs.Calls.{may_be_calls}
use Rattle.cfi_graph.specs.Graph.{has_leaves}
use Rattle.cfi_graph.specs.declared.line.SiteKind.{SiteKind}
use Rattle.cfi_closed.specs.declared.side.Site.{Site}
use Rattle.cfi_closed.specs.Closed.{Side, has_site, is_of, sorts_of}
use Rattle.cfi_map.specs.GraphAtMap.{entered_in, words_at}
use Rattle.cfi_map.specs.LabelOf.{tagged}
use Rattle.cfi_flow.specs.Labels.{used_labels}
use Rattle.cfi_map.specs.Placement.{AreGates, whole_at}
use Rattle.cfi_map.specs.PlacingLaws.{IsShortAt}
use Rattle.cfi_map.specs.Shorts.{is_branch}
use Rattle.cfi_flow.specs.Sites.{site_kind}
use Rattle.cfi_rules.specs.Placed.{placed_code}
use Rattle.cfi_map.specs.Groups.{AreGroups}
use Rattle.cfi_writer.specs.Units.{Choice, bounds_at, entry_arrival, units}

-- one of the sides has a site at a place, and is of its sort
pub record IsSiteOf (sides : List Side) (k : ℕ) (kind : SiteKind) : Type 0 where
  pub index : ℕ
  pub side : Side
  pub there : slice_get sides index ≡ Some side
  pub sort : is_of side.sort kind ≡ true
  pub site : has_site k side ≡ true
  pub alone : (i : ℕ) (other : Side) → slice_get sides i ≡ Some other → has_site k other ≡ true → i ≡ index

-- what a choice is made of
pub record IsAccepted (m : Choice) : Type 0 where
  -- it is written as images of one of the versions, whose prologue is that of its graph's version
  pub profile : IsProfile m.layout.profile
  pub saves : m.layout.profile.callee_saves ≡ has_leaves m.layout.closed.version
  -- the program is sound, its words have 32 bits, and it ends in a section's end; it is entered at one of its places
  pub sound : IsSound m.layout.program
  pub words : (k : ℕ) → k < count m.layout.program → (item_of m.layout.program k).word < 2 ^ 32
  pub last : (k : ℕ) × (count m.layout.program ≡ k + 1) × (is_end (item_of m.layout.program k).kind ≡ true)
  pub entry_there : m.layout.entry < count m.layout.program
  -- its gates are a placement's, its code has room, and each instruction has its values
  pub legal : AreGates (entered_in m.layout) m.whole 0 m.layout.profile.units_from m.layout.program.items m.layout.gates
  -- its later stores may be that
  pub groups : AreGroups (item_of m.layout.program) (bounds_at m) (whole_at m.whole)
  pub room : 4 * length (placed_code m.layout.profile (entry_arrival m) (units m)) ≤ CODE_SIZE
  pub values : (k : ℕ) → k < count m.layout.program → is_end (item_of m.layout.program k).kind ≡ false →
      is_some (instr_at m.layout.program m.layout.gates (words_at m.layout) k) ≡ true
  -- a list of system calls is one that a graph may have
  pub calls : may_be_calls m.layout.closed.calls ≡ true
  -- its closed graph has the sides of its version; of each the members of classes are places, rise, and are in one class alone, and
  -- the classes of sites are there; each computed transfer is a site of one side, of its sort
  pub sorts : map (λ (s : Side). s.sort) m.layout.closed.sides ≡ sorts_of m.layout.closed.version
  pub members : (j c k : ℕ) (side : Side) → slice_get m.layout.closed.sides j ≡ Some side → IsIn side.classes c k → k < count m.layout.program
  pub rising : (j : ℕ) (side : Side) → slice_get m.layout.closed.sides j ≡ Some side → All IsStrictlyIncreasing side.classes
  pub apart : (j a b k : ℕ) (side : Side) → slice_get m.layout.closed.sides j ≡ Some side → IsIn side.classes a k → IsIn side.classes b k → a ≡ b
  pub site_classes : (j i c : ℕ) (side : Side) (site : Site) → slice_get m.layout.closed.sides j ≡ Some side → slice_get side.sites i ≡ Some site →
      site.class ≡ Some c → c < length side.classes
  pub sites : (k : ℕ) (kind : SiteKind) → k < count m.layout.program → site_kind (item_of m.layout.program k).kind ≡ Some kind →
      IsSiteOf m.layout.closed.sides k kind
  -- a label for each class, rising, and none that the program has for itself
  pub counted : length m.labels ≡ length (tagged m.layout.closed.sides)
  pub labels : AreLabels (used_labels m.layout.program) m.labels
  pub labels_rise : IsStrictlyIncreasing m.labels
  pub labels_small : All (λ label. label < 2 ^ 20) m.labels
  -- short branches reach
  pub shorts : (k target : ℕ) → k < count m.layout.program → is_branch (item_of m.layout.program k).kind ≡ true →
      whole_at m.whole k ≡ false → (item_of m.layout.program k).target ≡ Some target → IsShortAt m.layout k target
