-- The turns of the steps that a run has taken: those that have ended, and the one that goes on. Only private contracts
-- cite this.
use Rattle.std.specs.Prelude.{◌≡◌, ◌<◌, ◌+◌, ℕ, List, [], ◌∷◌, ◌++◌, length}
use Rattle.cfi_script.specs.Turns.{turns_of}
use Rattle.cfi_step.specs.Report.{last_hart}
use Rattle.cfi_step.specs.declared.turns.TakenTurns.{TakenTurns}

-- so are those of steps by these harts: no step was taken, or the last turn goes on, with some steps
pub data AreTurnsOf (harts : List ℕ) (t : TakenTurns) : Type 0 where
  none_taken : harts ≡ [] → t.ended ≡ [] → t.hart ≡ 0 → t.since ≡ 0 → AreTurnsOf harts t
  goes_on : (steps : ℕ) → 0 < steps → turns_of harts ≡ t.ended ++ (t.hart, steps) ∷ [] → length harts ≡ t.since + steps
      → last_hart harts ≡ t.hart → AreTurnsOf harts t
