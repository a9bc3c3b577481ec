-- A split of a list of words into units: the first unit begins the list, and the others are a split
-- of what follows it.
use Rattle.std.specs.Prelude.{◌≡◌, ℕ, List, [], ◌∷◌, drop}
use Rattle.cfi_unit.specs.declared.unit.Unit as U
use Rattle.cfi_unit.specs.UnitWords.{Begins, after_unit, word_count}

unfoldable pub IsSplit : List ℕ → ℕ → List U.Unit → Type 0
IsSplit words at [] = words ≡ []
IsSplit words at (unit ∷ units) =
    Begins words at unit × IsSplit (drop (word_count unit) words) (after_unit unit at) units
