-- The stores behind one mask: each stores off x31, which holds the masked address, at a distance
-- below 2^11; as many as follow belong to it, up to sixteen.
use Rattle.std.specs.Prelude.{ℕ, ◌<◌, ◌≤◌, ◌^◌, ◌==◌, ◌&&◌, List, Option, Some, None, length, if◌then◌else◌, nat_lt}
use Rattle.std.specs.List.{AllByRecursion}
use Rattle.rv_instr.specs.declared.instr.Instr.{Instr}
use Rattle.rv_instr.specs.declared.instr.Instr.TheVariants.{Store}
use Rattle.rv_instr.specs.declared.instr.StoreOp.TheVariants.{Sb}
use Rattle.cfi_unit.specs.declared.members.Member.{Member}
use Rattle.cfi_unit.specs.declared.members.TheConstants as counts

-- how many there may be
abbrev pub MOST_MEMBERS : ℕ
MOST_MEMBERS = counts.MOST_MEMBERS

-- what stands in the places of a list that hold no member
abbrev pub FILLER : Member
FILLER = record { op = Sb; value = 0; distance = 0 }

-- a member's fields are in range
abbrev pub IsMember : Member → Type 0
IsMember m = (m.value < 32) × (m.distance < 2 ^ 11)

-- the members of a unit: at least one
pub record AreMembers (members : List Member) : Type 0 where
  pub some : 0 < length members
  pub most : length members ≤ MOST_MEMBERS
  pub each : AllByRecursion IsMember members

-- a member's instruction
abbrev pub member_instr : Member → Instr
member_instr m = Store m.op 31 m.value m.distance

-- the member that an instruction is
abbrev pub member_of : Option Instr → Option Member
member_of (Some (Store op rs1 rs2 imm)) =
    if (rs1 == 31) && nat_lt imm 2048 then Some (record { op = op; value = rs2; distance = imm }) else None
member_of other = None
