-- The nearest of what is found at places: the first of the members of a list whose place is the least.
use Rattle.std.specs.Prelude.{◌≡◌, ℕ, zero, suc, ◌<◌, nat_lt, Bool, true, false, ◌==◌, ◌&&◌, ◌||◌, if◌then◌else◌, Option, Some, None, List, [], ◌∷◌, ◌++◌, slice_get}
use Rattle.least.specs.declared.place.Place.{Place}

-- the lesser section is before, and in one section the lesser offset
abbrev pub is_before : Place → Place → Bool
is_before a b = nat_lt a.section b.section || a.section == b.section && nat_lt a.offset b.offset

-- the first of the members of a list whose place is the least: no place of another is before it, and those that stand before it in
-- the list are at later places
abbrev pub IsNearest : {A : Type 0} → (A → Place) → List A → Option A → Type 0
IsNearest place xs None = xs ≡ []
IsNearest {A} place xs (Some x) =
    (k : ℕ) × (slice_get xs k ≡ Some x)
    × ((j : ℕ) (y : A) → slice_get xs j ≡ Some y → (is_before (place y) (place x) ≡ false) × (j < k → is_before (place x) (place y) ≡ true))

-- the nearer of two, of those that there are: at one place it is the first
abbrev pub nearer : {A : Type 0} → (A → Place) → Option A → Option A → Option A
nearer place None other = other
nearer place (Some a) None = Some a
nearer place (Some a) (Some b) = if is_before (place b) (place a) then Some b else Some a

-- the nearest of a list, by its members
unfoldable pub nearest : {A : Type 0} → (A → Place) → List A → Option A
nearest place [] = None
nearest place (x ∷ xs) = nearer place (Some x) (nearest place xs)

-- the nearest of those that a function gives below a bound
unfoldable pub nearest_below : {A : Type 0} → (A → Place) → (ℕ → Option A) → ℕ → Option A
nearest_below place given zero = None
nearest_below place given (suc n) = nearer place (nearest_below place given n) (given n)

-- the lists that a function gives below a bound, one after another
unfoldable pub joined : {A : Type 0} → (ℕ → List A) → ℕ → List A
joined parts zero = []
joined parts (suc n) = joined parts n ++ parts n
