-- What is kept of a walk: the number of its addresses, and the last of them. Only private contracts cite this.
use Rattle.std.specs.Prelude.{◌≡◌, ℕ, List, ◌++◌, drop, length, take}
use Rattle.cfi_step.specs.Report.{trail}
use Rattle.cfi_step.specs.declared.report.HartWalk.{HartWalk}

pub record TrailParts : Type 0 where
  pub count : ℕ
  pub last : List ℕ

abbrev pub IsTrailOf : List ℕ → TrailParts → Type 0
IsTrailOf walk parts = (parts.count ≡ length walk) × (parts.last ≡ trail walk)

-- what is told of a walk of which so much is kept
abbrev pub told_of : TrailParts → HartWalk
told_of parts = record { walk = parts.count; trail = parts.last }

-- a ring read from a place on, round to it
abbrev pub turned : ℕ → List ℕ → List ℕ
turned at ring = drop at ring ++ take at ring
