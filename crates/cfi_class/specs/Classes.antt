-- Classes of targets: two targets are of one class when a chain joins them whose neighbours each lie in one set.
use Rattle.std.specs.Prelude.{ℕ, Bool, ◌==◌, Option, List, [], slice_index_or}
use Rattle.std.specs.List.{Contains, list_any, position}

-- the list at index k has the number a
abbrev pub IsIn : List (List ℕ) → ℕ → ℕ → Type 0
IsIn lists k a = Contains (slice_index_or lists k []) a

-- some list has the number; some list has both numbers
abbrev pub IsInSome : List (List ℕ) → ℕ → Type 0
IsInSome lists a = (k : ℕ) × IsIn lists k a

abbrev pub AreInOne : List (List ℕ) → ℕ → ℕ → Type 0
AreInOne lists a b = (k : ℕ) × IsIn lists k a × IsIn lists k b

-- a chain from one target to another
pub data Joined (sets : List (List ℕ)) : ℕ → ℕ → Type 0 where
  here : {a b : ℕ} → AreInOne sets a b → Joined sets a b
  on : {a b c : ℕ} → AreInOne sets a b → Joined sets b c → Joined sets a c

abbrev pub has : ℕ → List ℕ → Bool
has k class = list_any (λ t. t == k) class

-- the class that has a target
abbrev pub class_with : List (List ℕ) → ℕ → Option ℕ
class_with classes k = position (has k) classes
