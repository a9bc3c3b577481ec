-- A script: how many harts run, the turns in which they step, and changes of data bytes, each with the
-- number of steps of all harts that are taken before it. A change is an address and what its byte becomes.
use Rattle.std.specs.Prelude.{ℕ, nat_lt, ◌==◌, List, map, if◌then◌else◌}
use Rattle.std.specs.List.{filter}
use Rattle.std.specs.List.Sorted.{IsNonDecreasingBy}
use Rattle.cfi_script.specs.Plan.{Plan}
use Rattle.cfi_script.specs.Turns.{Turns, hart_in_turn}

abbrev pub Changes : Type 0
Changes = List (ℕ × (ℕ × ℕ))

pub record ScriptParts : Type 0 where
  pub harts : ℕ
  pub turns : Turns
  pub changes : Changes

-- the numbers of steps do not fall
abbrev pub IsScript : Changes → Type 0
IsScript changes = IsNonDecreasingBy (λ c. c.0) changes

-- hart 0 in place of one that there is not
abbrev pub hart_below : ℕ → ℕ → ℕ
hart_below count h = if nat_lt h count then h else 0

-- the hart whose turn it is, and the changes that come after just `step` steps, in their order, whatever the state then
abbrev pub script_plan : ScriptParts → Plan
script_plan script = record {
  hart = λ step count harts shared. hart_below count (hart_in_turn script.turns step);
  changes = λ step count harts shared. map (λ c. c.1) (filter (λ c. c.0 == step) script.changes);
}
