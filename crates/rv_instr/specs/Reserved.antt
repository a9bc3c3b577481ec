-- The registers that units keep for themselves, and programs may not name. In the names of the RISC-V
-- calling convention ("Integer Register Convention"): x3 (gp) points to the shadow stack; x4 (tp),
-- x30 (t5) and x31 (t6) are scratch.
use Rattle.std.specs.Prelude.{ℕ, Bool, ◌||◌, ◌==◌}

abbrev pub is_reserved : ℕ → Bool
is_reserved r = r == 3 || (r == 4 || (r == 30 || r == 31))
