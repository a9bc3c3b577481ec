-- Runs of the program's own: tame steps along a path of units.
use Rattle.std.specs.Prelude.{◌≡◌, ℕ, ◌+◌, ◌%◌, ◌^◌, ◌<◌, ◌≤◌, List, [], ◌∷◌, length}
use Rattle.std.specs.List.{AllByRecursion}
use Rattle.rv_image.specs.MemoryMap.{Profile}
use Rattle.rv_word.specs.Memory.{Memory}
use Rattle.rv_code.specs.declared.turn.Turn.TheVariants.{Ran}
use Rattle.cfi_unit.specs.declared.unit.Unit as U
use Rattle.cfi_unit.specs.UnitWords.{word_count}
use Rattle.cfi_unit.specs.Shadow.{MOST_PENDING}
use Rattle.cfi_runs.specs.Own.{Own, own_step}
use Rattle.cfi_runs.specs.Tame.{TameStep}

-- the units' steps lead from a state to another, and each goes on
abbrev pub OwnRuns : Profile → Memory → List U.Unit → Own → Own → Type 0
OwnRuns p image [] o o' = o' ≡ o
OwnRuns p image (unit ∷ path) o o' =
    TameStep p.callee_saves image unit o × ((own_step p o unit).turn ≡ Ran) × OwnRuns p image path (own_step p o unit).state o'

-- how many words the units of a path have
abbrev pub words_along : List U.Unit → ℕ
words_along [] = 0
words_along (unit ∷ path) = word_count unit + words_along path

-- the pending sites are addresses of instructions, and have room
pub record SitesFit (pending : List ℕ) : Type 0 where
  pub each : AllByRecursion (λ site. (site % 2 ≡ 0) × (site < 2 ^ 64)) pending
  pub most : length pending ≤ MOST_PENDING
