-- The least number that meets a test, and the least of the numbers that are found.
use Rattle.std.specs.Prelude.{◌≡◌, ℕ, zero, suc, ◌<◌, min, Bool, true, false, Option, Some, None}

-- the least number that meets a test, or none does
abbrev pub IsLeast : (ℕ → Bool) → Option ℕ → Type 0
IsLeast test None = (a : ℕ) → test a ≡ false
IsLeast test (Some a) = (test a ≡ true) × ((b : ℕ) → b < a → test b ≡ false)

-- the lesser of two numbers, of those that there are
abbrev pub lesser : Option ℕ → Option ℕ → Option ℕ
lesser None other = other
lesser (Some a) None = Some a
lesser (Some a) (Some b) = Some (min a b)

-- the least of the numbers that a function gives below a bound
unfoldable pub least_below : (ℕ → Option ℕ) → ℕ → Option ℕ
least_below given zero = None
least_below given (suc n) = lesser (least_below given n) (given n)
