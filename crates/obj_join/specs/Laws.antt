-- What holds of the input of one object.
use Rattle.std.specs.Prelude.{◌≡◌, ◌≢◌, ℕ, ◌<◌, true, None, List, [], ◌∷◌, length}
use Rattle.obj_join.specs.Said.{Said, SymbolSaid, said_together}
use Rattle.obj_join.specs.Symbols.{is_some_symbol, symbol}
use Rattle.obj_join.specs.Duplicate.{duplicate}
use Rattle.obj_join.specs.Joined.{joined_input, own_input}

-- the symbol with a number is there and has a name
pub record IsNamed (symbols : List SymbolSaid) (n : ℕ) : Type 0 where
  pub there : n < length symbols
  pub some : is_some_symbol (symbol symbols n).standing ≡ true
  pub name : (symbol symbols n).name ≢ []

-- no two symbols have one name
abbrev pub HasOwnNames : List SymbolSaid → Type 0
HasOwnNames symbols = (n m : ℕ) → IsNamed symbols n → IsNamed symbols m → (symbol symbols n).name ≡ (symbol symbols m).name → n ≡ m

-- one object whose names all differ is joined to what it is by itself
abbrev pub OneIsOwn : Type 0
OneIsOwn =
    (said : Said) → HasOwnNames said.symbols
    → (joined_input (said ∷ []) ≡ own_input said) × (duplicate (said_together (said ∷ [])).symbols ≡ None)
