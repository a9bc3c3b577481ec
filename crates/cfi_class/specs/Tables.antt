-- Words of private contracts: tables that have, for each place, the number of the first that is noted there.
use Rattle.std.specs.Prelude.{◌≡◌, ℕ, ◌<◌, Bool, if◌then◌else◌, Option, Some, None, List, length, slice_index_or}
use Rattle.std.specs.Option.{option_or}

abbrev pub entry : List (Option ℕ) → ℕ → Option ℕ
entry table k = slice_index_or table k None

-- an entry after a number is noted for the places that a test takes
abbrev pub noted : Option ℕ → Bool → ℕ → Option ℕ
noted old takes n = option_or old (if takes then Some n else None)

-- the table of what is given for each place
pub record IsTable (given : ℕ → Option ℕ) (places : ℕ) (table : List (Option ℕ)) : Type 0 where
  pub size : length table ≡ places
  pub each : (k : ℕ) → k < places → entry table k ≡ given k
