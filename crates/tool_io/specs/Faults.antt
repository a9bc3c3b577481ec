-- Counts of faults: a count never falls, and rises where its fault is answered and nowhere else.
use Rattle.std.specs.Prelude.{◌≡◌, ◌⊎◌, ℕ, ◌-◌, ◌^◌, ◌<◌, ◌≤◌}

-- a count rose: it is greater than before, or stands at the end of its type
abbrev pub Rose : ℕ → ℕ → Type 0
Rose before now = (before < now) ⊎ (now ≡ 2 ^ 64 - 1)

-- a count rose where the fault was answered, and is as before at every other answer
pub record Counts (answered : Type 0) (before now : ℕ) : Type 0 where
  pub later : before ≤ now
  pub rose : answered → Rose before now
  pub same : ¬ answered → now ≡ before
