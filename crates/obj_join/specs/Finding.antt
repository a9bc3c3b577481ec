-- Which symbol a name finds among those of all objects, and where it stands: what defines the name; where nothing does, the first symbol
-- of it that is not shared. No symbol is found by an empty name.
use Rattle.std.specs.Prelude.{◌≡◌, ℕ, ◌==◌, if◌then◌else◌, Option, Some, None, option_and_then, List, length}
use Rattle.std.specs.Option.{option_or}
use Rattle.obj_input.specs.Names.{find_spot}
use Rattle.obj_join.specs.declared.standing.Standing.{Standing}
use Rattle.obj_join.specs.declared.standing.Standing.TheVariants.{InSection}
use Rattle.obj_join.specs.Said.{Said, SymbolSaid, said_together}
use Rattle.obj_join.specs.Symbols.{symbol}
use Rattle.obj_join.specs.Definer.{definer, first_called, is_private}
use Rattle.obj_join.specs.Joined.{joined_input}

-- the symbol that a name finds
abbrev pub found_symbol : List SymbolSaid → List ℕ → Option ℕ
found_symbol symbols name = option_or (definer symbols name) (first_called is_private symbols name)

-- the section in which a symbol stands, and its offset there; a number and a common block have none
abbrev pub spot_at : Standing → ℕ → Option (ℕ × ℕ)
spot_at (InSection k) value = Some (k, value)
spot_at other value = None

abbrev pub spot_of_symbol : SymbolSaid → Option (ℕ × ℕ)
spot_of_symbol s = spot_at s.standing s.value

abbrev pub spot_found : List SymbolSaid → List ℕ → Option (ℕ × ℕ)
spot_found symbols name =
    if length name == 0 then None else option_and_then (λ n. spot_of_symbol (symbol symbols n)) (found_symbol symbols name)

-- in the input that objects are, a name stands where the symbol stands that it finds
abbrev pub NamesFindSymbols : Type 0
NamesFindSymbols =
    (objects : List Said) (name : List ℕ) → find_spot (joined_input objects).names name ≡ spot_found (said_together objects).symbols name
