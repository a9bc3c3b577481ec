-- Symbols by their numbers among those of all objects.
use Rattle.std.specs.Prelude.{ℕ, Bool, true, false, if◌then◌else◌, List, [], ◌∷◌, map, slice_index_or}
use Rattle.obj_join.specs.declared.standing.Standing.{Standing}
use Rattle.obj_join.specs.declared.standing.Standing.TheVariants.{IsNone}
use Rattle.obj_join.specs.Said.{SymbolSaid}

abbrev pub no_symbol : SymbolSaid
no_symbol = record { name = []; binding = 0; standing = IsNone; value = 0; size = 0; is_function = false }

abbrev pub symbol : List SymbolSaid → ℕ → SymbolSaid
symbol symbols n = slice_index_or symbols n no_symbol

-- a symbol that stands for something: the number 0 of an object's symbols does not (System V gABI, "Symbol Table", STN_UNDEF)
abbrev pub is_some_symbol : Standing → Bool
is_some_symbol IsNone = false
is_some_symbol other = true

-- a number that meets a test, as a list of it
abbrev pub number_if : (ℕ → Bool) → ℕ → List ℕ
number_if test n = if test n then n ∷ [] else []

abbrev pub names_of : List SymbolSaid → List (List ℕ)
names_of symbols = map (λ s. s.name) symbols
