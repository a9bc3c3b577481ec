-- Two memories that are the same in a part.
use Rattle.std.specs.Prelude.{◌≡◌, ℕ, ◌≤◌, ◌<◌}
use Rattle.rv_word.specs.Memory.{Memory}

-- two memories are the same from `low` on and below `high`
abbrev pub SameOn : ℕ → ℕ → Memory → Memory → Type 0
SameOn low high m m' = (k : ℕ) → low ≤ k → k < high → m' k ≡ m k
