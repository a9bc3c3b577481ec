-- Runs of the program's own by places, an instruction a step, and the runs by units to which they come: the stores of a group stand at
-- places one after the other and are one unit, so each of them but the first is a later one, with which no unit begins.
use Rattle.std.specs.Prelude.{◌≡◌, ℕ, suc, ◌+◌, ◌*◌, ◌≤◌, ◌<◌, Bool, true, false, Option, Some, None, List, [], ◌∷◌}
use Rattle.rv_image.specs.MemoryMap.{Profile}
use Rattle.rv_word.specs.Memory.{Memory}
use Rattle.rv_code.specs.declared.turn.Turn.TheVariants.{Ran}
use Rattle.cfi_unit.specs.declared.unit.Unit as U
use Rattle.cfi_runs.specs.Own.{Own, OwnAfter}
use Rattle.cfi_runs.specs.OwnRuns.{OwnRuns, words_along}

-- the steps of these places lead from a state to another; each is tame and goes on
abbrev pub PlacesRun : (ℕ → Own → OwnAfter) → (ℕ → Own → Type 0) → List ℕ → Own → Own → Type 0
PlacesRun own_at tame [] o o' = o' ≡ o
PlacesRun own_at tame (k ∷ ks) o o' = tame k o × ((own_at k o).turn ≡ Ran) × PlacesRun own_at tame ks (own_at k o).state o'

-- a path of units leads from a state to another, with so many words at most for each of n places
pub record Walked (p : Profile) (image : Memory) (most n : ℕ) (o last : Own) : Type 0 where
  pub path : List U.Unit
  pub few : words_along path ≤ most * n
  pub leads : OwnRuns p image path o last

-- which places hold stores, and which of these are later ones of a group
module _ (store later : ℕ → Bool) where
  -- a later store comes after a store alone, and after a store comes the next place. None is where no place is: before the first
  -- one, and at the closing
  abbrev pub Link : Option ℕ → Option ℕ → Type 0
  Link None None = Unit {0}
  Link None (Some j) = later j ≡ false
  Link (Some k) None = store k ≡ false
  Link (Some k) (Some j) = (store k ≡ true → j ≡ k + 1) × (later j ≡ true → store k ≡ true)

  -- places that are linked, from what is before them to what is behind
  abbrev pub Chained : Option ℕ → List ℕ → Option ℕ → Type 0
  Chained before [] end = Link before end
  Chained before (k ∷ ks) end = Link before (Some k) × Chained (Some k) ks end

  -- n places from one on hold a whole group
  pub record IsWhole (k n : ℕ) : Type 0 where
    pub some : 1 ≤ n
    pub stores : (i : ℕ) → i < n → store (k + i) ≡ true
    pub first : later k ≡ false
    pub others : (i : ℕ) → 1 ≤ i → i < n → later (k + i) ≡ true
    pub past : later (k + n) ≡ false

  -- n steps go from place to place, and neither begin nor end at a later store
  pub record GoesAlong (place : ℕ → Option ℕ) (n : ℕ) : Type 0 where
    pub begins : Link None (place 0)
    pub at : (i : ℕ) → i < n → (k : ℕ) × (place i ≡ Some k)
    pub links : (i : ℕ) → i < n → Link (place i) (place (suc i))
    pub ends : Link None (place n)
