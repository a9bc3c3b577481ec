-- Names by their numbers.
use Rattle.std.specs.Prelude.{◌≡◌, ℕ, ◌<◌, ◌==◌, List, [], length, slice_index, slice_index_or}
use Rattle.std.specs.Str.{bytes_eq}
use Rattle.elf_names.specs.Texts.{Has}

-- each number is that of the name at its place
pub record AreNumbers (texts : List (List ℕ)) (numbers : List ℕ) (names : List (List ℕ)) : Type 0 where
  pub size : length numbers ≡ length names
  pub each : (k : ℕ) → k < length names → Has texts (slice_index numbers k) (slice_index_or names k [])

-- two names are equal where their numbers are, and nowhere else
pub record AreApart (names : List (List ℕ)) (numbers : List ℕ) : Type 0 where
  pub size : length numbers ≡ length names
  pub each : (m n : ℕ) → m < length names → n < length names
      → bytes_eq (slice_index_or names m []) (slice_index_or names n []) ≡ (slice_index numbers m == slice_index numbers n)
