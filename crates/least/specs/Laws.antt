-- What holds of the nearest of a list.
use Rattle.std.specs.Prelude.{◌≡◌, ℕ, Option, List}
use Rattle.least.specs.declared.place.Place.{Place}
use Rattle.least.specs.Nearest.{IsNearest, nearer, nearest, nearest_below, joined}

-- it is the first of the members whose place is the least
abbrev pub NearestIsFirst : Type 0 → Type 0
NearestIsFirst A = (place : A → Place) (xs : List A) → IsNearest place xs (nearest place xs)

-- the nearest of the nearest of each part is the nearest of all
abbrev pub NearestOfParts : Type 0 → Type 0
NearestOfParts A =
    (place : A → Place) (parts : ℕ → List A) (n : ℕ) → nearest_below place (λ k. nearest place (parts k)) n ≡ nearest place (joined parts n)

-- three may be compared in any grouping
abbrev pub NearerInAnyGrouping : Type 0 → Type 0
NearerInAnyGrouping A =
    (place : A → Place) (a b c : Option A) → nearer place (nearer place a b) c ≡ nearer place a (nearer place b c)
