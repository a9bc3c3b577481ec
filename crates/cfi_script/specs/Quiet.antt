-- Between which numbers of steps a script has no change. Only private contracts cite this.
use Rattle.std.specs.Prelude.{ℕ, ◌<◌, ◌≤◌, ◌⊎◌}
use Rattle.std.specs.List.{All}
use Rattle.cfi_script.specs.Script.{Changes}

-- no change comes after `from` steps or more, but fewer than `next`
abbrev pub IsQuiet : ℕ → ℕ → Changes → Type 0
IsQuiet from next changes = All (λ c. (c.0 < from) ⊎ (next ≤ c.0)) changes
