-- How a closed graph comes of a raw one: each site reaches the whole class of its targets, on the side of its sort.
use Rattle.std.specs.Prelude.{◌≡◌, ◌↔◌, ℕ, ◌<◌, Option, None, List, [], ◌∷◌, filter, length, map, slice_index}
use Rattle.std.specs.List.{All, AllPairs}
use Rattle.std.specs.List.Sorted.{IsStrictlyIncreasing}
use Rattle.rv_image.specs.declared.version.GraphVersion.{GraphVersion}
use Rattle.cfi_graph.specs.declared.line.Sort.{Sort}
use Rattle.cfi_class.specs.Classes.{AreInOne, IsIn, IsInSome, Joined, class_with}
use Rattle.cfi_closed.specs.declared.side.Site.{Site}
use Rattle.cfi_closed.specs.Closed.{ClosedGraph, Side, is_of, sorts_of}
use Rattle.cfi_flow.specs.Sites.{RawSite}
use Rattle.cfi_flow.specs.Raw.{RawGraph}

-- a raw graph with the sites of a sort alone
abbrev pub raw_for : Sort → RawGraph → RawGraph
raw_for sort raw = record { sites = filter (λ (s : RawSite). is_of sort s.kind) raw.sites; taken = raw.taken; calls = raw.calls }

abbrev pub sets_of : List RawSite → List (List ℕ)
sets_of sites = map (λ (s : RawSite). s.targets) sites

-- the classes of sets: two members are of one class when a chain of sets joins them
pub record AreClasses (sets classes : List (List ℕ)) : Type 0 where
  pub joined : (a b : ℕ) → AreInOne classes a b ↔ Joined sets a b
  pub members : (a : ℕ) → IsInSome classes a ↔ IsInSome sets a
  pub apart : (i j a : ℕ) → IsIn classes i a → IsIn classes j a → i ≡ j
  pub rising : All IsStrictlyIncreasing classes
  pub some : All (λ class. 0 < length class) classes
  pub in_order : AllPairs (λ class next. slice_index class 0 < slice_index next 0) classes

-- the class that has the targets of a site; none where it has no targets
abbrev pub class_reached : List (List ℕ) → List ℕ → Option ℕ
class_reached classes [] = None
class_reached classes (t ∷ targets) = class_with classes t

abbrev pub with_class : List (List ℕ) → RawSite → Site
with_class classes s = record { place = s.place; class = class_reached classes s.targets }

-- a side of the closed graph of a raw one
pub record IsSide (raw : RawGraph) (side : Side) : Type 0 where
  pub classes : AreClasses (sets_of (raw_for side.sort raw).sites) side.classes
  pub sites : side.sites ≡ map (with_class side.classes) (raw_for side.sort raw).sites

-- the closed graph of a raw one, for a version of graphs
pub record IsClosed (version : GraphVersion) (raw : RawGraph) (closed : ClosedGraph) : Type 0 where
  pub version_is : closed.version ≡ version
  pub sorts : map (λ (s : Side). s.sort) closed.sides ≡ sorts_of version
  pub sides : All (IsSide raw) closed.sides
  pub taken : closed.taken ≡ raw.taken
  pub calls : closed.calls ≡ raw.calls
