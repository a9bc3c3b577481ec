-- How a table keeps a number or none. Only a model cites this.
use Rattle.std.specs.Prelude.{ℕ, ◌-◌, ◌==◌, if◌then◌else◌, Option, Some, None}

-- 0 for none, and what comes after a number
abbrev pub number_in : ℕ → Option ℕ
number_in next = if next == 0 then None else Some (next - 1)
