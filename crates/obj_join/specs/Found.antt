-- Which symbols a name may find, of those that have it: what defines it; where nothing does, the first symbol of it that is not shared,
-- whatever that one stands for.
use Rattle.std.specs.Prelude.{ℕ, Bool, ◌||◌, if◌then◌else◌, List, is_some, is_none}
use Rattle.obj_join.specs.Said.{SymbolSaid}
use Rattle.obj_join.specs.Symbols.{symbol}
use Rattle.obj_join.specs.Definer.{definer, first_called, is_private, is_shared}

unfoldable pub is_found : List SymbolSaid → ℕ → Bool
is_found symbols n =
    if is_shared (symbol symbols n) then is_some (definer symbols (symbol symbols n).name)
    || is_none (first_called is_private symbols (symbol symbols n).name)
    else is_none (definer symbols (symbol symbols n).name)
