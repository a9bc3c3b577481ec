-- Labels: each is the least number from 1 on that no earlier label is and `used` lacks.
use Rattle.std.specs.Prelude.{ℕ, ◌<◌, ◌≤◌, ◌⊎◌, List, length, take, slice_index}
use Rattle.std.specs.List.{Contains}
use Rattle.std.specs.List.Sorted.{IsStrictlyIncreasing}

-- a number is taken when `used` has it or an earlier label is it
abbrev pub IsTaken : List ℕ → List ℕ → ℕ → Type 0
IsTaken used earlier n = Contains used n ⊎ Contains earlier n

-- the least number from 1 on that is not taken
pub record IsLeastFree (used earlier : List ℕ) (label : ℕ) : Type 0 where
  pub from_one : 1 ≤ label
  pub free : IsTaken used earlier label → ⊥
  pub least : (n : ℕ) → 1 ≤ n → n < label → IsTaken used earlier n

-- labels, given one after another
abbrev pub AreLabels : List ℕ → List ℕ → Type 0
AreLabels used labels = (k : ℕ) → k < length labels → IsLeastFree used (take k labels) (slice_index labels k)

-- so they rise
abbrev pub LabelsRise : Type 0
LabelsRise = (used labels : List ℕ) → AreLabels used labels → IsStrictlyIncreasing labels
