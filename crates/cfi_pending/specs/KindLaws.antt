-- Where units meet what their kinds ask, each may stand at its start, and leads to starts of the kind that it is to lead to.
use Rattle.std.specs.Prelude.{◌≡◌, ◌⊎◌, ℕ, true, Option, Some, List}
use Rattle.cfi_unit.specs.declared.unit.SystemOp.TheVariants as S
use Rattle.cfi_unit.specs.declared.unit.Unit as U
use Rattle.cfi_unit.specs.Flow as F
use Rattle.cfi_unit.specs.Flow.{Exit, flow_of}
use Rattle.cfi_unit.specs.UnitWords.{after_unit}
use Rattle.cfi_pending.specs.Kinds.{IsOfItsKind, Leaf, start_at}
use Rattle.cfi_pending.specs.Starts.{may_stand, next_start, saved}

abbrev pub MayStandThere : Type 0
MayStandThere =
    (unit_at : ℕ → Option U.Unit) (leaves : List Leaf) (a : ℕ) (unit : U.Unit) → unit_at a ≡ Some unit → IsOfItsKind unit_at leaves a unit →
    may_stand (start_at unit_at leaves a) unit ≡ true

-- a direct target, or the unit behind, to which an exit leads
abbrev pub LeadsTo : Exit → ℕ → ℕ → Type 0
LeadsTo F.on following v = v ≡ following
LeadsTo (F.either op rs1 rs2 met target) following v = (v ≡ following) ⊎ (v ≡ target)
LeadsTo (F.to target) following v = v ≡ target
LeadsTo (F.after S.Ecall) following v = v ≡ following
LeadsTo other following v = ⊥

abbrev pub KindsAgree : Type 0
KindsAgree =
    (unit_at : ℕ → Option U.Unit) (leaves : List Leaf) (a v : ℕ) (unit : U.Unit) → unit_at a ≡ Some unit → IsOfItsKind unit_at leaves a unit →
    LeadsTo (flow_of unit).exit (after_unit unit a) v → start_at unit_at leaves v ≡ next_start (start_at unit_at leaves a) unit

-- what a call comes back to is saved
abbrev pub SitesAreSaved : Type 0
SitesAreSaved =
    (unit_at : ℕ → Option U.Unit) (leaves : List Leaf) (a : ℕ) (unit : U.Unit) → unit_at a ≡ Some unit → IsOfItsKind unit_at leaves a unit →
    (flow_of unit).sites ≡ F.links → start_at unit_at leaves (after_unit unit a) ≡ saved
