-- The input that several objects are, and the one that an object is by itself.
use Rattle.std.specs.Prelude.{ℕ, ◌+◌, ◌-◌, nat_lt, true, if◌then◌else◌, List, [], ◌∷◌, length}
use Rattle.obj_input.specs.Input.{InputParts}
use Rattle.obj_join.specs.Said.{Said, said_together}
use Rattle.obj_join.specs.SaidInput.{input_by}
use Rattle.obj_join.specs.Definer.{own, resolved}
use Rattle.obj_join.specs.Found.{is_found}

-- uses of shared symbols are uses of what defines their name
unfoldable pub shared_input : Said → InputParts
shared_input said = input_by (resolved said.symbols) (is_found said.symbols) said

abbrev pub joined_input : List Said → InputParts
joined_input objects = shared_input (said_together objects)

-- each use is one of its own symbol, and a name finds the first that has it
unfoldable pub own_input : Said → InputParts
own_input said = input_by (own said.symbols) (λ n. true) said

-- which object has the symbol with a number among those of all, and its number there
unfoldable pub among : List Said → ℕ → ℕ × ℕ
among [] n = (0, n)
among (said ∷ objects) n =
    if nat_lt n (length said.symbols) then (0, n)
    else ((among objects (n - length said.symbols)).0 + 1, (among objects (n - length said.symbols)).1)
