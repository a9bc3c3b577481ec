-- What a run to which nothing happens from outside comes to within so many steps: it goes on until then.
use Rattle.std.specs.Prelude.{◌≡◌, ℕ, zero, suc, ◌⊎◌}
use Rattle.rv_image.specs.MemoryMap.{Profile}
use Rattle.rv_code.specs.State.{After}
use Rattle.rv_code.specs.Step.{step}
use Rattle.rv_code.specs.declared.turn.Turn.TheVariants.{Ran}

abbrev pub Within : Profile → ℕ → (After → Type 0) → After → Type 0
Within p zero Q after = Q after
Within p (suc n) Q after = Q after ⊎ ((after.turn ≡ Ran) × Within p n Q (step p after.hart after.shared))
