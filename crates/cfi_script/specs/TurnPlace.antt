-- Where a script is among its turns. Only private contracts cite this.
use Rattle.std.specs.Prelude.{◌≡◌, ◌≤◌, ◌<◌, ◌+◌, ◌^◌, ℕ, ◌-◌, drop, get_or, length}
use Rattle.cfi_script.specs.Turns.{Turns, hart_in_turn}

-- the turn with this index comes after `before` steps: from there on the harts are those of the turns from it on
abbrev pub ComesAfter : Turns → ℕ → ℕ → Type 0
ComesAfter turns index before = (step : ℕ) → before ≤ step → hart_in_turn turns step ≡ hart_in_turn (drop index turns) (step - before)

-- such a turn, with a number of steps that it does not go past: the steps up to there are its hart's, and the next turn
-- comes after them, unless they are more than a number of 64 bits tells
pub record IsTurnAt (turns : Turns) (index before end : ℕ) : Type 0 where
  pub within : index ≤ length turns
  pub after : ComesAfter turns index before
  pub own : (step : ℕ) → before ≤ step → step < end → hart_in_turn turns step ≡ (get_or turns index (0, 0)).0
  pub next : index < length turns → end + 1 < 2 ^ 64 → ComesAfter turns (index + 1) end

-- the hart of the step after `step` steps, and a number of steps, more than these, up to which each is its own
pub record IsTurnOf (turns : Turns) (step : ℕ) (turn : ℕ × ℕ) : Type 0 where
  pub hart : turn.0 ≡ hart_in_turn turns step
  pub own : (later : ℕ) → step ≤ later → later < turn.1 → hart_in_turn turns later ≡ turn.0
  pub more : step + 1 < 2 ^ 64 → step < turn.1
