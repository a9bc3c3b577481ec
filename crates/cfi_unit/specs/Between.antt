-- What may happen to what harts share between two words of a unit, outside of the hart's own steps.
use Rattle.std.specs.Prelude.{◌≡◌, ℕ, ◌≤◌}
use Rattle.rv_image.specs.MemoryMap.{DATA_END}
use Rattle.rv_code.specs.State.{Shared}

-- nothing happens
abbrev pub Unchanged : Shared → Shared → Type 0
Unchanged s s' = s' ≡ s

-- data may change, and nothing else
pub record DataChanged (s s' : Shared) : Type 0 where
  pub memory : (k : ℕ) → DATA_END ≤ k → s'.memory k ≡ s.memory k
  pub left : s'.left ≡ s.left
  pub output : s'.output ≡ s.output
  pub events : s'.events ≡ s.events
