-- A table of names: a NUL, and then each name with its own (System V gABI, "String Table").
use Rattle.std.specs.Prelude.{ℕ, zero, suc, ◌+◌, ◌==◌, Bool, not, List, [], ◌∷◌, ◌++◌, length}
use Rattle.std.specs.List.{flat_map, list_all}

-- a name and its NUL
abbrev pub ended : List ℕ → List ℕ
ended name = name ++ (0 ∷ [])

unfoldable pub string_table : List (List ℕ) → List ℕ
string_table names = 0 ∷ flat_map ended names

-- where the name with this index begins, if the first begins at `at`
unfoldable pub name_place : ℕ → List (List ℕ) → ℕ → ℕ
name_place at [] k = at
name_place at (n ∷ ns) zero = at
name_place at (n ∷ ns) (suc k) = name_place (at + length n + 1) ns k

-- a name that can be written: it has no NUL
abbrev pub is_clean : List ℕ → Bool
is_clean name = list_all (λ b. not (b == 0)) name
