-- Which starts are fresh, where units stand at addresses and functions that call nothing are given as leaves: from an address up to
-- another one. And what the units of code have to meet so that each leads to starts of its own kind.
use Rattle.std.specs.Prelude.{◌≡◌, ℕ, ◌+◌, nat_le, nat_lt, ◌==◌, Bool, true, false, not, ◌&&◌, ◌||◌, Option, Some, None, is_some, List}
use Rattle.std.specs.List.{find, list_any}
use Rattle.cfi_unit.specs.declared.unit.SystemOp.TheVariants as S
use Rattle.cfi_unit.specs.declared.unit.Unit as U
use Rattle.cfi_unit.specs.declared.unit.Unit.TheVariants as V
use Rattle.cfi_unit.specs.Flow as F
use Rattle.cfi_unit.specs.Flow.{Exit, Sites, flow_of}
use Rattle.cfi_unit.specs.UnitWords.{after_unit}
use Rattle.cfi_pending.specs.Starts.{Start, fresh, may_stand, saved}

-- a function that calls nothing
pub record Leaf : Type 0 where
  pub from : ℕ
  pub to : ℕ

-- an address lies in a leaf, and the leaf in which it lies
abbrev pub in_leaf : ℕ → Leaf → Bool
in_leaf a leaf = nat_le leaf.from a && nat_lt a leaf.to

abbrev pub leaf_of : List Leaf → ℕ → Option Leaf
leaf_of leaves a = find (in_leaf a) leaves

-- what saves a site
abbrev pub saves : Sites → Bool
saves F.saves = true
saves other = false

abbrev pub is_enter : Option U.Unit → Bool
is_enter None = false
is_enter (Some unit) = saves (flow_of unit).sites

abbrev pub is_gate : U.Unit → Bool
is_gate (V.Gate label) = true
is_gate other = false

abbrev pub is_gate_there : Option U.Unit → Bool
is_gate_there None = false
is_gate_there (Some unit) = is_gate unit

-- a start is fresh in a leaf, at what saves a site, and at a gate directly before that
abbrev pub is_fresh : (ℕ → Option U.Unit) → List Leaf → ℕ → Bool
is_fresh unit_at leaves a =
    is_some (leaf_of leaves a) || (is_enter (unit_at a) || (is_gate_there (unit_at a) && is_enter (unit_at (a + 4))))

abbrev pub start_if : Bool → Start
start_if true = fresh
start_if false = saved

abbrev pub start_at : (ℕ → Option U.Unit) → List Leaf → ℕ → Start
start_at unit_at leaves a = start_if (is_fresh unit_at leaves a)

-- in a leaf stand units of fresh starts that neither save a site nor are gates; outside of all leaves no site is returned to unchecked
abbrev pub stands_by : Option Leaf → U.Unit → Bool
stands_by (Some leaf) unit = may_stand fresh unit && not (saves (flow_of unit).sites || is_gate unit)
stands_by None unit = may_stand saved unit || saves (flow_of unit).sites

-- a unit may go on to the one behind it, or a call come back there
abbrev pub goes_on_by : Sites → Exit → Bool
goes_on_by F.links exit = true
goes_on_by sites F.on = true
goes_on_by sites (F.either op rs1 rs2 met target) = true
goes_on_by sites (F.after S.Ecall) = true
goes_on_by sites other = false

abbrev pub goes_on : U.Unit → Bool
goes_on unit = goes_on_by (flow_of unit).sites (flow_of unit).exit

-- what stands behind it is of its kind: in its leaf, behind a gate what saves a site, and else saved
abbrev pub is_right_behind : (ℕ → Option U.Unit) → List Leaf → Option Leaf → ℕ → U.Unit → Bool
is_right_behind unit_at leaves (Some leaf) a unit = in_leaf (after_unit unit a) leaf
is_right_behind unit_at leaves None a unit =
    (is_gate unit && is_enter (unit_at (a + 4))) || not (is_fresh unit_at leaves (after_unit unit a))

-- a direct target is of its kind: a call's saves a site or begins a leaf; another one's is saved, or in the same leaf
abbrev pub begins_at : ℕ → Leaf → Bool
begins_at t leaf = leaf.from == t && nat_lt leaf.from leaf.to

abbrev pub may_be_called : (ℕ → Option U.Unit) → List Leaf → ℕ → Bool
may_be_called unit_at leaves t = is_enter (unit_at t) || list_any (begins_at t) leaves

abbrev pub may_be_reached : (ℕ → Option U.Unit) → List Leaf → Option Leaf → ℕ → Bool
may_be_reached unit_at leaves (Some leaf) t = in_leaf t leaf
may_be_reached unit_at leaves None t = not (is_fresh unit_at leaves t)

abbrev pub is_right_target : (ℕ → Option U.Unit) → List Leaf → ℕ → Sites → Exit → Bool
is_right_target unit_at leaves a F.links (F.to t) = may_be_called unit_at leaves t
is_right_target unit_at leaves a sites (F.to t) = may_be_reached unit_at leaves (leaf_of leaves a) t
is_right_target unit_at leaves a sites (F.either op rs1 rs2 met t) = may_be_reached unit_at leaves (leaf_of leaves a) t
is_right_target unit_at leaves a sites other = true

-- the unit at an address meets all this
pub record IsOfItsKind (unit_at : ℕ → Option U.Unit) (leaves : List Leaf) (a : ℕ) (unit : U.Unit) : Type 0 where
  pub stands : stands_by (leaf_of leaves a) unit ≡ true
  pub behind : goes_on unit ≡ true → is_right_behind unit_at leaves (leaf_of leaves a) a unit ≡ true
  pub target : is_right_target unit_at leaves a (flow_of unit).sites (flow_of unit).exit ≡ true
