-- The names of the files that were read, one after the other, where they are told: `None` tells nothing.
use Rattle.std.specs.Prelude.{◌≡◌, ◌++◌, ℕ, List, take, ⊤, None, Some}
use Rattle.std.specs.declared.option.Option.{Option}

-- names that were told go on with these
abbrev pub GoOn : Option (List (List ℕ)) → Option (List (List ℕ)) → List (List ℕ) → Type 0
GoOn None now names = ⊤
GoOn (Some told) now names = now ≡ Some (told ++ names)

-- files of these names were read, each once and in this order, and no other: all of them where `all` holds, and else the first of them
pub record AreRead (before now : Option (List (List ℕ))) (names : List (List ℕ)) (all : Type 0) : Type 0 where
  pub first : (count : ℕ) × GoOn before now (take count names)
  pub whole : all → GoOn before now names
