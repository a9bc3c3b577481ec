-- Which units stand in an image: in some the caller saves a call's site and masks shift; in others, lean ones, the callee saves it, and
-- x4 holds the mask of stores at the start of each unit.
use Rattle.std.specs.Prelude.{◌≡◌, ℕ, ◌+◌, ◌<◌, ◌^◌, Bool, true, false}
use Rattle.rv_instr.specs.Registers.{Registers}
use Rattle.cfi_unit.specs.declared.mask.Mask.{Mask}
use Rattle.cfi_unit.specs.declared.mask.Mask.TheVariants.{Shifts, Short, Long}
use Rattle.cfi_unit.specs.declared.unit.Unit as U
use Rattle.cfi_unit.specs.declared.unit.Unit.TheVariants as V
use Rattle.cfi_unit.specs.UnitWords.{STORE_MASK, after_unit}
use Rattle.cfi_unit.specs.Place.{Place, body}

-- where callers save sites
abbrev pub is_full : U.Unit → Bool
is_full (V.Stores Short rs1 imm members) = false
is_full (V.Stores Long rs1 imm members) = false
is_full (V.LinkCall target) = false
is_full V.Enter = false
is_full (V.LeanIjump rs1 imm label) = false
is_full (V.LeanIcall rs1 imm label) = false
is_full V.LeafReturn = false
is_full other = true

-- where callees do
abbrev pub is_lean : U.Unit → Bool
is_lean (V.Stores Shifts rs1 imm members) = false
is_lean (V.Call target) = false
is_lean (V.Ijump which rs1 imm label) = false
is_lean (V.Icall rs1 imm label) = false
is_lean other = true

-- what a mask asks of x4
abbrev pub MaskAsks : Mask → Registers → Type 0
MaskAsks Shifts r = Unit {0}
MaskAsks other r = r 4 ≡ STORE_MASK

-- what a unit asks of the registers at its start, besides x3: the mask of stores in x4, and in x1 a site
abbrev pub Asks : U.Unit → Registers → Type 0
Asks (V.Stores mask rs1 imm members) r = MaskAsks mask r
Asks V.Enter r = r 1 < 2 ^ 64
Asks other r = Unit {0}

-- with which registers what stands at an address is left: a call that leaves its site in x1, a transfer that makes the mask again
abbrev pub LeftWith : Place → ℕ → Registers → Type 0
LeftWith (body (V.LinkCall target)) at r = r 1 ≡ after_unit (V.LinkCall target) at
LeftWith (body (V.LeanIjump rs1 imm label)) at r = r 4 ≡ STORE_MASK
LeftWith (body (V.LeanIcall rs1 imm label)) at r = (r 1 ≡ after_unit (V.LeanIcall rs1 imm label) at) × (r 4 ≡ STORE_MASK)
LeftWith other at r = Unit {0}
