-- The flow of a unit: what it tests first, where it goes on, what becomes of the pending sites, and what it does besides. Where a unit
-- leads, what it does, its lines in a graph and its step of the program's own are all said by these.
use Rattle.std.specs.Prelude.{ℕ, Bool, true, false, List}
use Rattle.rv_instr.specs.declared.instr.BranchOp.{BranchOp}
use Rattle.rv_instr.specs.declared.instr.Instr.{Instr}
use Rattle.cfi_unit.specs.declared.members.Member.{Member}
use Rattle.cfi_unit.specs.declared.target_word.TargetWord.{TargetWord}
use Rattle.cfi_unit.specs.declared.target_word.TargetWord.TheVariants.{First, Third}
use Rattle.cfi_unit.specs.declared.unit.SystemOp.{SystemOp}
use Rattle.cfi_unit.specs.declared.unit.Unit as U
use Rattle.cfi_unit.specs.declared.unit.Unit.TheVariants as V
use Rattle.cfi_unit.specs.UnitWords.{BAD_TARGET}

-- what a unit tests before it goes on; where the test fails it goes to a handler
pub data Test : Type 0 where
  always : Test
  -- x17 is one of these numbers
  listed : List ℕ → Test
  -- a word of the computed destination, past a register, bears this label
  borne : TargetWord → ℕ → ℕ → ℕ → Test
  -- x1 is the newest pending site
  newest : Test

-- where it goes on
pub data Exit : Type 0 where
  -- to the next unit
  on : Exit
  -- to the next unit or to a target, by a condition: whether the target is where it is met
  either : BranchOp → ℕ → ℕ → Bool → ℕ → Exit
  -- to a target
  to : ℕ → Exit
  -- to a handler
  halts : ℕ → Exit
  -- to a computed destination, past a register
  computed : ℕ → ℕ → Exit
  -- eight bytes past one
  beyond : ℕ → ℕ → Exit
  -- to the newest pending site
  back : Exit
  -- to the address in x1
  linked : Exit
  -- to the next unit after a system call, and nowhere after a break
  after : SystemOp → Exit

-- what becomes of the pending sites
pub data Sites : Type 0 where
  keeps : Sites
  -- the address after the unit is put on top, where there is room
  pushes : Sites
  -- the newest is taken off
  pops : Sites
  -- they stay, and the address after the unit is put into x1
  links : Sites
  -- the address in x1 is put on top, where there is room
  saves : Sites

-- what it does besides
pub data Act : Type 0 where
  -- nothing but with scratch registers and its site
  none : Act
  -- its one instruction
  does : Instr → Act
  -- a system call or a break
  system : SystemOp → Act
  -- a system call behind tests
  calls : Act
  -- stores past a masked address
  stores : ℕ → ℕ → List Member → Act

pub record Flow : Type 0 where
  pub test : Test
  pub exit : Exit
  pub sites : Sites
  pub act : Act

abbrev pub flow : Test → Exit → Sites → Act → Flow
flow test exit sites act = record { test = test; exit = exit; sites = sites; act = act }

abbrev pub flow_of : U.Unit → Flow
flow_of (V.Gate label) = flow always on keeps none
flow_of (V.Plain instr) = flow always on keeps (does instr)
flow_of (V.Branch op rs1 rs2 target) = flow always (either op rs1 rs2 false target) keeps none
flow_of (V.Near op rs1 rs2 target) = flow always (either op rs1 rs2 true target) keeps none
flow_of (V.Jump target) = flow always (to target) keeps none
flow_of V.Stop = flow always (halts BAD_TARGET) keeps none
flow_of (V.System op) = flow always (after op) keeps (system op)
flow_of (V.Guarded numbers) = flow (listed numbers) on keeps calls
flow_of (V.Stores mask rs1 imm members) = flow always on keeps (stores rs1 imm members)
flow_of (V.Call target) = flow always (to target) pushes none
flow_of (V.Ijump which rs1 imm label) = flow (borne which rs1 imm label) (computed rs1 imm) keeps none
flow_of (V.Icall rs1 imm label) = flow (borne First rs1 imm label) (computed rs1 imm) pushes none
flow_of V.Return = flow newest back pops none
flow_of (V.LinkCall target) = flow always (to target) links none
flow_of V.Enter = flow always on saves none
flow_of (V.LeanIjump rs1 imm label) = flow (borne First rs1 imm label) (computed rs1 imm) keeps none
flow_of (V.LeanIcall rs1 imm label) = flow (borne Third rs1 imm label) (beyond rs1 imm) links none
flow_of V.LeafReturn = flow always linked keeps none
