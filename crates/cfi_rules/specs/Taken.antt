-- The steps that a run takes, one after another: what is said of runs is said of this list.
use Rattle.std.specs.Prelude.{ℕ, List, [], ◌∷◌}
use Rattle.rv_image.specs.MemoryMap.{Profile}
use Rattle.rv_code.specs.Run.{HartStep, disturbed, if_ran}
use Rattle.rv_code.specs.State.{After, Hart, Harts, Shared, with_hart}
use Rattle.rv_code.specs.Step.{step}

-- a step that a run takes: the hart that takes it, that hart before it, what all harts share then, after the
-- changes, and what the step comes to
pub record TakenStep : Type 0 where
  pub hart : ℕ
  pub before : Hart
  pub shared : Shared
  pub after : After

-- the steps of a run, of which a stop of one hart is the last
unfoldable pub steps_taken : Profile → Harts → Shared → List HartStep → List TakenStep
steps_taken p harts s [] = []
steps_taken p harts s (t ∷ rest) =
    let h = harts t.hart in
    let now = disturbed s t.changes in
    let after = step p h now in
    record { hart = t.hart; before = h; shared = now; after = after } ∷ if_ran after.turn (steps_taken p (with_hart harts t.hart after.hart) after.shared rest)
