-- What a run has to do with the world, beside its registers and its memory.
use Rattle.std.specs.Prelude.{◌≡◌}
use Rattle.rv_code.specs.State.{Shared}

-- it is the same: the input that is left, the output and the system calls
pub record SameWorld (s t : Shared) : Type 0 where
  pub left : s.left ≡ t.left
  pub output : s.output ≡ t.output
  pub events : s.events ≡ t.events
