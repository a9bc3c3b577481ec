-- Which steps of the program's own its units keep: those that load in the window of data, [0, 2 ^ 28),
-- store past an address in it, make no system call that is not listed where calls are, call no deeper
-- than the shadow stack, go to a target of their class and return to their newest site, and name no
-- register that units keep for themselves. What a unit asks of the registers has to hold whatever those hold, but for the mask of
-- stores in x4.
use Rattle.std.specs.Prelude.{◌≡◌, ℕ, ◌+◌, ◌%◌, ◌^◌, ◌≤◌, ◌<◌, ◌==◌, ◌||◌, Bool, true, false, List, [], ◌∷◌, length}
use Rattle.std.specs.List.{list_any}
use Rattle.rv_word.specs.Memory.{Memory}
use Rattle.rv_word.specs.Numbers.{is_listed}
use Rattle.rv_instr.specs.Operands.{names}
use Rattle.rv_instr.specs.Registers.{Registers}
use Rattle.rv_instr.specs.Reserved.{is_reserved}
use Rattle.rv_instr.specs.declared.instr.Instr.{Instr}
use Rattle.rv_instr.specs.declared.instr.Instr.TheVariants.{Load, Store}
use Rattle.rv_code.specs.Arithmetic.{load_size, store_size}
use Rattle.cfi_unit.specs.declared.members.Member.{Member}
use Rattle.cfi_unit.specs.declared.unit.Unit as U
use Rattle.cfi_unit.specs.Flow as F
use Rattle.cfi_unit.specs.Flow.{Act, Exit, Flow, Sites, Test, flow_of}
use Rattle.cfi_unit.specs.UnitWords.{Fits, instrs_of}
use Rattle.cfi_unit.specs.Shadow.{MOST_PENDING}
use Rattle.cfi_unit.specs.Stand.{Stand}
use Rattle.cfi_unit.specs.Leads.{HasLabel, sum_of}
use Rattle.cfi_unit.specs.Leaving.{SameRegisters}
use Rattle.cfi_unit.specs.EffectLaw.{AsksSite}
use Rattle.cfi_unit.specs.Templates.{Asks, is_lean}
use Rattle.cfi_runs.specs.Mask.{HoldsMask}
use Rattle.cfi_runs.specs.Own.{Own, computed}

-- the end of the bytes that a load or a store touches
abbrev pub touched : Instr → Registers → ℕ
touched (Load op rd rs1 imm) r = sum_of r rs1 imm + load_size op
touched (Store op rs1 rs2 imm) r = sum_of r rs1 imm + store_size op
touched other r = 0

-- a site is put on top where there is room, from x1 where that is an instruction's address
abbrev pub SitesTame : Sites → List ℕ → Registers → Type 0
SitesTame F.pushes pending r = length pending < MOST_PENDING
SitesTame F.saves pending r = (length pending < MOST_PENDING) × (r 1 % 2 ≡ 0) × (r 1 < 2 ^ 64)
SitesTame other pending r = Unit {0}

-- a stop is a section's end
abbrev pub ExitTame : Exit → Sites → List ℕ → Registers → Type 0
ExitTame (F.halts stop) sites pending r = ⊥
ExitTame other sites pending r = SitesTame sites pending r

abbrev pub ActTame : Act → Exit → Sites → List ℕ → Registers → Type 0
ActTame (F.does instr) exit sites pending r = touched instr r ≤ 2 ^ 28
ActTame (F.stores rs1 imm members) exit sites pending r = sum_of r rs1 imm < 2 ^ 28
ActTame other exit sites pending r = ExitTame exit sites pending r

abbrev pub LabelTame : Sites → List ℕ → Type 0 → Type 0
LabelTame F.pushes pending borne = borne × (length pending < MOST_PENDING)
LabelTame other pending borne = borne

abbrev pub ReturnTame : List ℕ → Registers → Type 0
ReturnTame [] r = ⊥
ReturnTame (site ∷ pending) r = r 1 ≡ site

-- a unit's test holds
abbrev pub TestTame : Memory → Test → Flow → List ℕ → Registers → Type 0
TestTame image F.always f pending r = ActTame f.act f.exit f.sites pending r
TestTame image (F.listed numbers) f pending r = is_listed (r 17) numbers ≡ true
TestTame image (F.borne which rs1 imm label) f pending r = LabelTame f.sites pending (HasLabel image which label (computed r rs1 imm))
TestTame image F.newest f pending r = ReturnTame pending r

abbrev pub IsTame : Memory → U.Unit → List ℕ → Registers → Type 0
IsTame image unit pending r = TestTame image (flow_of unit).test (flow_of unit) pending r

-- the registers that the program's own instructions name
abbrev pub exit_names : Exit → ℕ → Bool
exit_names (F.either op rs1 rs2 met target) k = rs1 == k || rs2 == k
exit_names (F.computed rs1 imm) k = rs1 == k
exit_names (F.beyond rs1 imm) k = rs1 == k
exit_names other k = false

abbrev pub act_names : Act → Exit → ℕ → Bool
act_names (F.does instr) exit k = names instr k
act_names (F.stores rs1 imm members) exit k = rs1 == k || list_any (λ (m : Member). m.value == k) members
act_names other exit k = exit_names exit k

abbrev pub own_names : U.Unit → ℕ → Bool
own_names unit k = act_names (flow_of unit).act (flow_of unit).exit k

abbrev pub NamesNoReserved : U.Unit → Type 0
NamesNoReserved unit = (k : ℕ) → own_names unit k ≡ true → is_reserved k ≡ false

-- a unit whose words stand at the pc takes a tame step. What it asks of the registers the program's own tell, with x4 where that holds
-- the mask of stores: there the unit is one that leaves it so
pub record TameStep (masked : Bool) (image : Memory) (unit : U.Unit) (o : Own) : Type 0 where
  pub fits : Fits unit o.pc
  pub stands : Stand image o.pc (instrs_of unit o.pc)
  pub free : NamesNoReserved unit
  pub some : AsksSite unit o.pending
  pub leaves : masked ≡ true → is_lean unit ≡ true
  pub asks : (r : Registers) → SameRegisters o.regs r → HoldsMask masked r → Asks unit r
  pub tame : IsTame image unit o.pending o.regs
