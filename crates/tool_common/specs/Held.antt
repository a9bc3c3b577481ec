-- What files hold, of which none is longer than it may be.
use Rattle.std.specs.Prelude.{◌≡◌, ℕ, ◌≤◌, List, [], ◌∷◌, length, ⊤, Option, Some, None}
use Rattle.tool_common.specs.Reads.{Content, file_limit}

-- a file holds these bytes, and they are no more than it may have
pub record IsHeld (held : Option (List ℕ)) (bytes : List ℕ) : Type 0 where
  pub told : held ≡ Some bytes
  pub within : length bytes ≤ file_limit

-- where no file is named there are none
abbrev pub IsHeldNamed : Content → Option (List ℕ) → List ℕ → Type 0
IsHeldNamed content None bytes = bytes ≡ []
IsHeldNamed content (Some name) bytes = IsHeld (content name) bytes

-- so each of several names, in their order
abbrev pub AreHeld : Content → List (Option (List ℕ)) → List (List ℕ) → Type 0
AreHeld content [] [] = ⊤
AreHeld content [] (bytes ∷ others) = ⊥
AreHeld content (name ∷ names) [] = ⊥
AreHeld content (name ∷ names) (bytes ∷ others) = IsHeldNamed content name bytes × AreHeld content names others
