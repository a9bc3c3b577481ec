-- The closed graph: it has sides, each of computed transfers of one sort with the classes of their targets, and each site reaches the
-- whole class of its targets.
use Rattle.std.specs.Prelude.{ℕ, ◌+◌, ◌<◌, Bool, true, false, ◌==◌, Option, Some, None, IfSome, option_map, List, [], ◌∷◌, length}
use Rattle.std.specs.List.{All, find, flat_map, list_any}
use Rattle.std.specs.Option.{option_or}
use Rattle.rv_image.specs.declared.version.GraphVersion.{GraphVersion}
use Rattle.rv_image.specs.declared.version.GraphVersion.TheVariants.{OneLabel, TwoLabels, CalleeSaves}
use Rattle.cfi_graph.specs.declared.line.SiteKind.{SiteKind}
use Rattle.cfi_graph.specs.declared.line.SiteKind.TheVariants as kinds
use Rattle.cfi_graph.specs.declared.line.Sort.{Sort}
use Rattle.cfi_graph.specs.declared.line.Sort.TheVariants.{Both, Calls, Jumps}
use Rattle.cfi_class.specs.Classes.{class_with, has}
use Rattle.cfi_closed.specs.declared.side.Site.{Site}

pub record Side : Type 0 where
  -- which computed transfers it has
  pub sort : Sort
  -- the classes of their targets by places, in the order of their least members
  pub classes : List (List ℕ)
  -- the sites in order, with their class or none
  pub sites : List Site

pub record ClosedGraph : Type 0 where
  -- the version of graphs that it is for
  pub version : GraphVersion
  pub sides : List Side
  -- of each place, whether a relocation takes its address
  pub taken : List Bool
  -- the numbers of the system calls that the program may make, where it has a list of them
  pub calls : Option (List ℕ)

-- the sorts of its sides: graphs of version 1 have one label for calls and jumps, those of versions 2 and 3
-- one for each
abbrev pub sorts_of : GraphVersion → List Sort
sorts_of OneLabel = Both ∷ []
sorts_of TwoLabels = Calls ∷ Jumps ∷ []
sorts_of CalleeSaves = Calls ∷ Jumps ∷ []

-- a computed transfer of this kind is one of this sort
abbrev pub is_of : Sort → SiteKind → Bool
is_of Both kind = true
is_of Calls kinds.Call = true
is_of Calls kinds.Jump = false
is_of Jumps kinds.Call = false
is_of Jumps kinds.Jump = true

-- the sites of a side and the members of its classes are places, and what its sites reach are its classes
pub record IsSideInside (places : ℕ) (side : Side) : Type 0 where
  pub members : All (All (λ t. t < places)) side.classes
  pub sites : All (λ (s : Site). s.place < places) side.sites
  pub reached : All (λ (s : Site). IfSome s.class (λ k. k < length side.classes)) side.sites

abbrev pub IsInside : ClosedGraph → Type 0
IsInside closed = All (IsSideInside (length closed.taken)) closed.sides

-- the class of a side that has a place
abbrev pub class_at : Side → ℕ → Option ℕ
class_at side k = class_with side.classes k

abbrev pub class_if : Option Site → Option ℕ
class_if None = None
class_if (Some s) = s.class

-- the class of the site of a side at a place
abbrev pub class_of : Side → ℕ → Option ℕ
class_of side k = class_if (find (λ (s : Site). s.place == k) side.sites)

-- the classes of all sides in order, and the index among these of the class of the site at a place
abbrev pub classes_of : List Side → List (List ℕ)
classes_of sides = flat_map (λ (s : Side). s.classes) sides

unfoldable pub class_among : List Side → ℕ → Option ℕ
class_among [] k = None
class_among (side ∷ sides) k = option_or (class_of side k) (option_map (λ n. length side.classes + n) (class_among sides k))

-- a side has a site at a place
abbrev pub has_site : ℕ → Side → Bool
has_site k side = list_any (λ (s : Site). s.place == k) side.sites

-- a place is a target of a side, and of some side
abbrev pub is_target_of : ℕ → Side → Bool
is_target_of k side = list_any (has k) side.classes

abbrev pub is_target : List Side → ℕ → Bool
is_target sides k = list_any (is_target_of k) sides

-- both are classes, and the same one
abbrev pub is_same : Option ℕ → Option ℕ → Bool
is_same (Some class) (Some other) = class == other
is_same other another = false

-- the class that the site at a place reaches has another place: of a side, and of the closed graph
abbrev pub side_reaches : ℕ → ℕ → Side → Bool
side_reaches k target side = is_same (class_of side k) (class_at side target)

abbrev pub class_reaches : ClosedGraph → ℕ → ℕ → Bool
class_reaches closed k target = list_any (side_reaches k target) closed.sides
