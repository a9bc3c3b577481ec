-- Words of private contracts: the numbers that targets have while their classes are found.
use Rattle.std.specs.Prelude.{◌≡◌, ◌⊎◌, ◌↔◌, ℕ, ◌<◌, ◌-◌, List, [], length, slice_index, slice_index_or}
use Rattle.std.specs.List.{All, AllPairs, Contains}
use Rattle.std.specs.List.Sorted.{IsStrictlyIncreasing}
use Rattle.cfi_class.specs.Classes.{IsIn, IsInSome, Joined}

-- a set that is the one before it again
abbrev pub IsRepeated : List (List ℕ) → ℕ → Type 0
IsRepeated sets k = (0 < k) × (slice_index_or sets k [] ≡ slice_index_or sets (k - 1) [])

-- a number of a member of the set
abbrev pub IsMarked : List ℕ → List ℕ → List ℕ → ℕ → Type 0
IsMarked set targets numbers number =
    (i : ℕ) × (i < length targets) × Contains set (slice_index targets i) × (slice_index numbers i ≡ number)

-- one number in place of those of the set's members, and no other change
pub record AreJoined (set targets old new : List ℕ) : Type 0 where
  pub same_length : length new ≡ length old
  pub in_range : All (λ number. number < length targets) new
  pub kept : (i j : ℕ) → i < length old → j < length old → slice_index old i ≡ slice_index old j → slice_index new i ≡ slice_index new j
  pub joined : (i j : ℕ) → i < length old → j < length old → Contains set (slice_index targets i) → Contains set (slice_index targets j) → slice_index new i ≡ slice_index new j
  pub only : (i j : ℕ) → i < length old → j < length old → slice_index new i ≡ slice_index new j →
      (slice_index old i ≡ slice_index old j) ⊎ (IsMarked set targets old (slice_index old i) × IsMarked set targets old (slice_index old j))

-- a number for each target: one for the members of each of the first k sets, and one only where a chain joins
pub record AreNumbers (sets : List (List ℕ)) (targets : List ℕ) (k : ℕ) (numbers : List ℕ) : Type 0 where
  pub same_length : length numbers ≡ length targets
  pub in_range : All (λ number. number < length targets) numbers
  pub joined : (m i j : ℕ) → m < k → i < length targets → j < length targets → IsIn sets m (slice_index targets i) → IsIn sets m (slice_index targets j) → slice_index numbers i ≡ slice_index numbers j
  pub only : (i j : ℕ) → i < length targets → j < length targets → slice_index numbers i ≡ slice_index numbers j →
      (i ≡ j) ⊎ Joined sets (slice_index targets i) (slice_index targets j)

-- the targets of each number as one list
pub record AreGroups (targets numbers : List ℕ) (groups : List (List ℕ)) : Type 0 where
  pub found : (i : ℕ) → i < length targets → IsInSome groups (slice_index targets i)
  pub only : (a : ℕ) → IsInSome groups a → Contains targets a
  pub same : (c d i j : ℕ) → i < length targets → j < length targets → IsIn groups c (slice_index targets i) → IsIn groups d (slice_index targets j) →
      (slice_index numbers i ≡ slice_index numbers j) ↔ (c ≡ d)
  pub rising : All IsStrictlyIncreasing groups
  pub some : All (λ group. 0 < length group) groups
  pub in_order : AllPairs (λ group next. slice_index group 0 < slice_index next 0) groups
