-- The flows that units have: which of the parts go together, and what the fields of a unit that fits tell of
-- them. What holds of each of these flows holds of each unit.
use Rattle.std.proofs.Common.{◌≡◌, ℕ, ◌==◌, ◌^◌, ◌<◌, Bool, true, false, List, refl, arith}
use Rattle.std.specs.Prelude.{◌&&◌, IsTrue}
use Rattle.cfi_unit.specs.declared.target_word.TargetWord.{TargetWord}
use Rattle.cfi_unit.specs.declared.target_word.TargetWord.TheVariants.{First, Third}
use Rattle.cfi_unit.specs.declared.unit.Unit as U
use Rattle.cfi_unit.specs.declared.unit.Unit.TheVariants as V
use Rattle.cfi_unit.specs.Flow as F
use Rattle.cfi_unit.specs.Flow.{Act, Exit, Flow, Sites, Test, flow, flow_of}
use Rattle.cfi_unit.specs.UnitWords.{BAD_TARGET, Fits, is_plain, word_count}

-- what stands behind no test goes to no computed destination or site, and halts at one handler alone
abbrev pub is_untested : Exit → Bool
is_untested (F.computed rs1 imm) = false
is_untested F.back = false
is_untested (F.beyond rs1 imm) = false
is_untested F.linked = false
is_untested (F.halts stop) = stop == BAD_TARGET
is_untested other = true

pub data Suits : Flow → Type 0 where
  untested : (exit : Exit) (act : Act) → is_untested exit ≡ true → Suits (flow F.always exit F.keeps act)
  direct_call : (target : ℕ) → Suits (flow F.always (F.to target) F.pushes F.none)
  guarded_call : (numbers : List ℕ) → Suits (flow (F.listed numbers) F.on F.keeps F.calls)
  computed_jump : (which : TargetWord) (rs1 imm label : ℕ) → Suits (flow (F.borne which rs1 imm label) (F.computed rs1 imm) F.keeps F.none)
  computed_call : (rs1 imm label : ℕ) → Suits (flow (F.borne First rs1 imm label) (F.computed rs1 imm) F.pushes F.none)
  turned_back : Suits (flow F.newest F.back F.pops F.none)
  linking_call : (target : ℕ) → Suits (flow F.always (F.to target) F.links F.none)
  entered : Suits (flow F.always F.on F.saves F.none)
  linking_computed_call : (rs1 imm label : ℕ) → Suits (flow (F.borne Third rs1 imm label) (F.beyond rs1 imm) F.links F.none)
  linked_back : Suits (flow F.always F.linked F.keeps F.none)

pub suits : (unit : U.Unit) → Suits (flow_of unit)
suits (V.Gate label) = untested F.on F.none refl
suits (V.Plain instr) = untested F.on (F.does instr) refl
suits (V.Branch op rs1 rs2 target) = untested (F.either op rs1 rs2 false target) F.none refl
suits (V.Near op rs1 rs2 target) = untested (F.either op rs1 rs2 true target) F.none refl
suits (V.Jump target) = untested (F.to target) F.none refl
suits V.Stop = untested (F.halts BAD_TARGET) F.none refl
suits (V.System op) = untested (F.after op) (F.system op) refl
suits (V.Guarded numbers) = guarded_call numbers
suits (V.Stores mask rs1 imm members) = untested F.on (F.stores rs1 imm members) refl
suits (V.Call target) = direct_call target
suits (V.Ijump which rs1 imm label) = computed_jump which rs1 imm label
suits (V.Icall rs1 imm label) = computed_call rs1 imm label
suits V.Return = turned_back
suits (V.LinkCall target) = linking_call target
suits V.Enter = entered
suits (V.LeanIjump rs1 imm label) = computed_jump First rs1 imm label
suits (V.LeanIcall rs1 imm label) = linking_computed_call rs1 imm label
suits V.LeafReturn = linked_back

-- what is one instruction of the program's is one word
abbrev pub is_single : Act → Bool
is_single (F.does instr) = true
is_single (F.system op) = true
is_single other = false

pub single_word : (unit : U.Unit) → is_single (flow_of unit).act ≡ true → word_count unit ≡ 1
single_word (V.Plain instr) single = refl
single_word (V.System op) single = refl
single_word other single = absurd (cc)

-- a label that is tested has twenty bits, and an instruction of a unit's own is plain
abbrev pub TestFits : Test → Type 0
TestFits (F.borne which rs1 imm label) = label < 2 ^ 20
TestFits other = Unit {0}

abbrev pub ActFits : Act → Type 0
ActFits (F.does instr) = IsTrue (is_plain instr)
ActFits other = Unit {0}

pub test_fits : (unit : U.Unit) (at : ℕ) → Fits unit at → TestFits (flow_of unit).test
test_fits (V.Ijump which rs1 imm label) at f = f.2
test_fits (V.Icall rs1 imm label) at f = f.0.2
test_fits (V.LeanIjump rs1 imm label) at f = f.2
test_fits (V.LeanIcall rs1 imm label) at f = f.2
test_fits other at f = tt

pub act_fits : (unit : U.Unit) (at : ℕ) → Fits unit at → ActFits (flow_of unit).act
act_fits (V.Plain instr) at f = f.1
act_fits other at f = tt

-- the flows of units that stand where callers save sites
abbrev pub saved_by_caller : Sites → Bool
saved_by_caller F.links = false
saved_by_caller F.saves = false
saved_by_caller other = true

abbrev pub left_by_caller : Exit → Bool
left_by_caller (F.beyond rs1 imm) = false
left_by_caller F.linked = false
left_by_caller other = true

abbrev pub by_caller : Flow → Bool
by_caller f = saved_by_caller f.sites && left_by_caller f.exit
