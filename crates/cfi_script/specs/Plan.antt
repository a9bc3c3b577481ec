-- What a meddler does to a run. Its plan answers, by the number of steps taken, the count of harts and the
-- state then, which hart takes the next step and the changes that come before it: each an address and a byte.
use Rattle.std.specs.Prelude.{◌≡◌, ◌≤◌, ◌<◌, ℕ, zero, suc, ◌+◌, List, [], ◌∷◌, ◌++◌, map}
use Rattle.rv_image.specs.MemoryMap.{Profile}
use Rattle.rv_code.specs.Run.{ByteChange, HartStep, disturbed_step, if_ran}
use Rattle.rv_code.specs.State.{Harts, Shared, with_hart}

pub record Plan : Type 0 where
  pub hart : ℕ → ℕ → Harts → Shared → ℕ
  pub changes : ℕ → ℕ → Harts → Shared → List (ℕ × ℕ)

-- no change comes after `from` steps or more, but fewer than `next`, whatever the state
abbrev pub IsQuietPlan : ℕ → ℕ → Plan → Type 0
IsQuietPlan from next plan =
    (step : ℕ) → from ≤ step → step < next → (count : ℕ) (harts : Harts) (shared : Shared) → plan.changes step count harts shared ≡ []

-- of so many harts, this one takes each step after more than `from` steps, but fewer than `next`, whatever the states
abbrev pub IsOneHart : ℕ → ℕ → ℕ → ℕ → Plan → Type 0
IsOneHart from next count hart plan =
    (step : ℕ) → from < step → step < next → (harts : Harts) (shared : Shared) → plan.hart step count harts shared ≡ hart

-- a step that is planned: the hart that takes it, and the changes before it
abbrev pub Planned : Type 0
Planned = ℕ × List (ℕ × ℕ)

abbrev pub change_of : ℕ × ℕ → ByteChange
change_of c = record { address = c.0; byte = c.1 }

abbrev pub changes_of : List (ℕ × ℕ) → List ByteChange
changes_of cs = map change_of cs

abbrev pub step_of : Planned → HartStep
step_of t = record { hart = t.0; changes = changes_of t.1 }

abbrev pub steps_of : List Planned → List HartStep
steps_of steps = map step_of steps

abbrev pub harts_of : List Planned → List ℕ
harts_of steps = map (λ t. t.0) steps

-- the steps of a run of so many harts, `n` at most, from the step with number `k` on
unfoldable pub planned : Profile → Plan → ℕ → ℕ → Harts → Shared → ℕ → List Planned
planned p plan count k harts s zero = []
planned p plan count k harts s (suc n) =
    let h = plan.hart k count harts s in
    let cs = plan.changes k count harts s in
    let after = disturbed_step p (harts h) s (changes_of cs) in
    let later = planned p plan count (k + 1) (with_hart harts h after.hart) after.shared n in
    (h, cs) ∷ if_ran after.turn later

-- the changes before the steps from the step with number `k` on, each with the number of its step
unfoldable pub numbered : ℕ → List Planned → List (ℕ × (ℕ × ℕ))
numbered k [] = []
numbered k (t ∷ later) = map (λ c. (k, c)) t.1 ++ numbered (k + 1) later
