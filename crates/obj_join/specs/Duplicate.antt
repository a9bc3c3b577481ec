-- The first symbol that defines a name strongly though another one before it does.
use Rattle.std.specs.Prelude.{ℕ, Bool, false, not, ◌==◌, ◌&&◌, Option, Some, None, option_map, List, length}
use Rattle.least.specs.First.{first_below}
use Rattle.obj_join.specs.Said.{SymbolSaid}
use Rattle.obj_join.specs.Symbols.{symbol}
use Rattle.obj_join.specs.Definer.{first_called, is_strong}

abbrev pub is_other : ℕ → Option ℕ → Bool
is_other n None = false
is_other n (Some m) = not (n == m)

abbrev pub is_second : List SymbolSaid → ℕ → Bool
is_second symbols n = is_strong (symbol symbols n) && is_other n (first_called is_strong symbols (symbol symbols n).name)

-- its name
unfoldable pub duplicate : List SymbolSaid → Option (List ℕ)
duplicate symbols = option_map (λ n. (symbol symbols n).name) (first_below (is_second symbols) (length symbols))
