-- The objects of a command's program, by the names of their files: one by itself, or several that are joined; and what their files give.
use Rattle.std.specs.Prelude.{ℕ, List, ◌∷◌, ◌++◌, map, Option, Some}
use Rattle.cfi_harden.specs.Given.{Given, alone, joined}
use Rattle.tool_common.specs.Held.{AreHeld, IsHeld}
use Rattle.tool_common.specs.Reads.{Content, Gave, GaveAll}
use Rattle.tool_objects.specs.declared.objects.Objects as R
use Rattle.tool_objects.specs.declared.objects.Objects.TheVariants as kept

pub data Objects : Type 0 where
  one : List ℕ → Objects
  several : List (List ℕ) → Objects

-- the files that are read, in their order: one object before all others, several behind them
abbrev pub names_with : Objects → List (Option (List ℕ)) → List (Option (List ℕ))
names_with (one name) others = Some name ∷ others
names_with (several names) others = others ++ map Some names

-- what the files gave
abbrev pub GaveObjects : Content → Objects → Given → Type 0
GaveObjects content (one name) (alone object) = Gave (content name) object
GaveObjects content (several names) (joined objects) = GaveAll content (map Some names) objects
GaveObjects content objects given = ⊥

-- what the files hold
abbrev pub HoldObjects : Content → Objects → Given → Type 0
HoldObjects content (one name) (alone object) = IsHeld (content name) object
HoldObjects content (several names) (joined objects) = AreHeld content (map Some names) objects
HoldObjects content objects given = ⊥

-- objects as the tool keeps them, by their names
abbrev pub objects_asked : R.Objects → Objects
objects_asked (kept.Alone name) = one name.now
objects_asked (kept.Joined names) = several (map (λ name. name.now) names.items)
