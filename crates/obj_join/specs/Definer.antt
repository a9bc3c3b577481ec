-- Which symbol defines a name (System V gABI, "Symbol Table", STB_GLOBAL and STB_WEAK), and which one a use of a symbol is a use of.
use Rattle.std.specs.Prelude.{ℕ, Bool, true, false, not, ◌==◌, ◌&&◌, ◌||◌, if◌then◌else◌, Option, List, length, unwrap_or}
use Rattle.std.specs.Option.{option_or}
use Rattle.std.specs.Str.{bytes_eq}
use Rattle.least.specs.First.{first_below}
use Rattle.obj_join.specs.declared.standing.Standing.{Standing}
use Rattle.obj_join.specs.declared.standing.Standing.TheVariants.{AsNumber, InSection}
use Rattle.obj_join.specs.Said.{SymbolSaid}
use Rattle.obj_join.specs.Symbols.{is_some_symbol, symbol}
use Rattle.obj_join.specs.Blocks.{is_block}

-- a symbol with a name that is shared among objects: its binding is STB_GLOBAL or STB_WEAK
abbrev pub is_shared : SymbolSaid → Bool
is_shared s = is_some_symbol s.standing && not (length s.name == 0) && (s.binding == 1 || s.binding == 2)

abbrev pub is_private : SymbolSaid → Bool
is_private s = is_some_symbol s.standing && not (is_shared s)

-- a symbol that stands in a section that is kept, or is a number
abbrev pub is_put : Standing → Bool
is_put AsNumber = true
is_put (InSection k) = true
is_put other = false

abbrev pub is_strong : SymbolSaid → Bool
is_strong s = is_shared s && (s.binding == 1 && is_put s.standing)

abbrev pub is_weak : SymbolSaid → Bool
is_weak s = is_shared s && (s.binding == 2 && is_put s.standing)

abbrev pub is_common : SymbolSaid → Bool
is_common s = is_shared s && is_block s.standing

abbrev pub is_called : List ℕ → SymbolSaid → Bool
is_called name s = bytes_eq s.name name

-- the first symbol of a name that meets a test
abbrev pub first_called : (SymbolSaid → Bool) → List SymbolSaid → List ℕ → Option ℕ
first_called test symbols name = first_below (λ n. test (symbol symbols n) && is_called name (symbol symbols n)) (length symbols)

-- a strong definition counts before a common block, and that before a weak definition
unfoldable pub definer : List SymbolSaid → List ℕ → Option ℕ
definer symbols name =
    option_or (first_called is_strong symbols name) (option_or (first_called is_common symbols name) (first_called is_weak symbols name))

-- each symbol for itself; all that stand for nothing are number 0
abbrev pub own : List SymbolSaid → ℕ → ℕ
own symbols n = if is_some_symbol (symbol symbols n).standing then n else 0

-- a shared symbol is the one that defines its name, if there is one
unfoldable pub resolved : List SymbolSaid → ℕ → ℕ
resolved symbols n = if is_shared (symbol symbols n) then unwrap_or (definer symbols (symbol symbols n).name) n else own symbols n
