-- Labels are given side by side, in each to the classes in their order and then to the sites without targets, each of which has an empty
-- class of its own.
use Rattle.std.specs.Prelude.{ℕ, ◌+◌, ◌==◌, if◌then◌else◌, Option, Some, None, List, [], ◌∷◌, ◌++◌, drop, length, map, slice_index}
use Rattle.cfi_graph.specs.declared.line.Sort.{Sort}
use Rattle.cfi_closed.specs.declared.side.Site.{Site}
use Rattle.cfi_closed.specs.Closed.{Side, has_site}
use Rattle.cfi_class.specs.Classes.{has}

-- the label of the class that has a place
unfoldable pub label_at : List ℕ → List (List ℕ) → ℕ → Option ℕ
label_at (label ∷ labels) (class ∷ classes) k = if has k class then Some label else label_at labels classes k
label_at labels classes k = None

-- the number of a site's class, where `next` is that of the next site without targets
abbrev pub number : Option ℕ → ℕ → ℕ
number None next = next
number (Some class) next = class

abbrev pub next_after : Option ℕ → ℕ → ℕ
next_after None next = next + 1
next_after (Some class) next = next

unfoldable pub site_number : List Site → ℕ → ℕ → ℕ
site_number [] next k = next
site_number (site ∷ sites) next k =
    if site.place == k then number site.class next else site_number sites (next_after site.class next) k

-- an empty class for each site without targets
abbrev pub with_empty : Option ℕ → List (List ℕ) → List (List ℕ)
with_empty None rest = [] ∷ rest
with_empty (Some class) rest = rest

unfoldable pub empty_classes : List Site → List (List ℕ)
empty_classes [] = []
empty_classes (site ∷ sites) = with_empty site.class (empty_classes sites)

-- all classes of a side, in the order of their labels
abbrev pub all_classes : Side → List (List ℕ)
all_classes side = side.classes ++ empty_classes side.sites

abbrev pub class_count : Side → ℕ
class_count side = length (all_classes side)

-- the labels of what a place is a target of, one of each side
unfoldable pub labels_of : List ℕ → List Side → ℕ → List (Option ℕ)
labels_of labels [] k = []
labels_of labels (side ∷ sides) k = label_at labels side.classes k ∷ labels_of (drop (class_count side) labels) sides k

-- the label that the site at a place asks for
unfoldable pub site_label : List ℕ → List Side → ℕ → ℕ
site_label labels [] k = 0
site_label labels (side ∷ sides) k =
    if has_site k side then slice_index labels (site_number side.sites (length side.classes) k)
    else site_label (drop (class_count side) labels) sides k

-- all classes with their sorts, in the order of their labels
pub record Tagged : Type 0 where
  pub sort : Sort
  pub class : List ℕ

abbrev pub tag : Sort → List ℕ → Tagged
tag sort class = record { sort = sort; class = class }

unfoldable pub tagged : List Side → List Tagged
tagged [] = []
tagged (side ∷ sides) = map (tag side.sort) (all_classes side) ++ tagged sides
