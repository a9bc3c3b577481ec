-- The program's own run, one instruction a step: what each unit stands for, on registers and memory in
-- which no word of a unit has a part. The pending sites are a list of their own, the newest first; where callees save sites, one is
-- pending there from its enter on.
use Rattle.std.specs.Prelude.{ℕ, ◌+◌, ◌*◌, ◌/◌, true, false, if◌then◌else◌, List, [], ◌∷◌}
use Rattle.rv_image.specs.MemoryMap.{Profile}
use Rattle.rv_instr.specs.Registers.{Registers, get_reg, set_reg}
use Rattle.rv_instr.specs.declared.instr.Instr.{Instr}
use Rattle.rv_instr.specs.declared.instr.Instr.TheVariants.{Ecall}
use Rattle.rv_code.specs.Arithmetic.{branch_taken}
use Rattle.rv_code.specs.State.{Shared}
use Rattle.rv_code.specs.Step.{exec}
use Rattle.rv_code.specs.declared.turn.Turn.{Turn}
use Rattle.rv_code.specs.declared.turn.Turn.TheVariants.{Ran}
use Rattle.cfi_unit.specs.declared.members.Member.{Member}
use Rattle.cfi_unit.specs.declared.unit.Unit as U
use Rattle.cfi_unit.specs.Flow as F
use Rattle.cfi_unit.specs.Flow.{Act, Exit, Sites, flow_of}
use Rattle.cfi_unit.specs.UnitWords.{BAD_RETURN, after_unit, system_instr}
use Rattle.cfi_unit.specs.Leads.{sum_of}
use Rattle.cfi_unit.specs.Leaving.{stored_at}
use Rattle.cfi_unit.specs.PrologueEffect.{stack_of}
use Rattle.cfi_runs.specs.Openings.{entry_pending}

pub record Own : Type 0 where
  pub pc : ℕ
  pub regs : Registers
  pub shared : Shared
  pub pending : List ℕ

pub record OwnAfter : Type 0 where
  pub state : Own
  pub turn : Turn

-- where a computed transfer goes: bit 0 is cleared
abbrev pub computed : Registers → ℕ → ℕ → ℕ
computed r rs1 imm = sum_of r rs1 imm / 2 * 2

-- stores, one after the other, each at its distance past an address
abbrev pub stored_all : ℕ → Registers → List Member → Shared → Shared
stored_all a r [] s = s
stored_all a r (m ∷ members) s = stored_all a r members (stored_at a r m s)

module _ (p : Profile) (o : Own) where
  abbrev pub goes : ℕ → OwnAfter
  goes next = record { state = record o { pc = next }; turn = Ran }

  -- an instruction at this pc, after which the next is at `past`
  abbrev pub executes : Instr → Registers → ℕ → OwnAfter
  executes instr r past =
      let after = exec p instr (record { pc = o.pc; regs = r }) o.shared in
      record { state = record o { pc = past; regs = after.hart.regs; shared = after.shared }; turn = after.turn }

  -- a call puts its site into x1
  abbrev pub calls : ℕ → ℕ → OwnAfter
  calls target site =
      record { state = record o { pc = target; regs = set_reg o.regs 1 site; pending = site ∷ o.pending }; turn = Ran }

  -- a call that leaves its site to the callee, and the enter that saves it from x1
  abbrev pub links : ℕ → ℕ → OwnAfter
  links target site = record { state = record o { pc = target; regs = set_reg o.regs 1 site }; turn = Ran }

  abbrev pub saves : ℕ → OwnAfter
  saves next = record { state = record o { pc = next; pending = o.regs 1 ∷ o.pending }; turn = Ran }

  -- a return goes to the newest site; with none it is not tame
  abbrev pub returns : List ℕ → OwnAfter
  returns [] = goes BAD_RETURN
  returns (site ∷ pending) = record { state = record o { pc = site; pending = pending }; turn = Ran }

  -- to a target, with the site put on top, left in x1 or saved from there where the unit does so
  abbrev pub own_to : Sites → ℕ → ℕ → OwnAfter
  own_to F.pushes past target = calls target past
  own_to F.links past target = links target past
  own_to F.saves past target = saves target
  own_to other past target = goes target

  -- where a unit goes on; a stop is a section's end, where no step is tame
  abbrev pub own_exit : Exit → Sites → ℕ → OwnAfter
  own_exit (F.either op rs1 rs2 true target) sites past =
      goes (if branch_taken op (get_reg o.regs rs1) (get_reg o.regs rs2) then target else past)
  own_exit (F.either op rs1 rs2 false target) sites past =
      goes (if branch_taken op (get_reg o.regs rs1) (get_reg o.regs rs2) then past else target)
  own_exit F.on sites past = own_to sites past past
  own_exit (F.to target) sites past = own_to sites past target
  own_exit (F.halts stop) sites past = goes stop
  own_exit (F.computed rs1 imm) sites past = own_to sites past (computed o.regs rs1 imm)
  own_exit (F.beyond rs1 imm) sites past = own_to sites past (computed o.regs rs1 imm + 8)
  own_exit F.linked sites past = goes (computed o.regs 1 0)
  own_exit F.back sites past = returns o.pending
  own_exit other sites past = goes past

  abbrev pub own_act : Act → Exit → Sites → ℕ → OwnAfter
  own_act F.none exit sites past = own_exit exit sites past
  own_act (F.does instr) exit sites past = executes instr o.regs past
  own_act (F.system op) exit sites past = executes (system_instr op) o.regs past
  own_act F.calls exit sites past = executes Ecall o.regs past
  own_act (F.stores rs1 imm members) exit sites past =
      record { state = record o { pc = past; shared = stored_all (sum_of o.regs rs1 imm) o.regs members o.shared }; turn = Ran }

  abbrev pub own_past : U.Unit → ℕ → OwnAfter
  own_past unit past = let f = flow_of unit in own_act f.act f.exit f.sites past

  -- of a unit that stands at the pc
  abbrev pub own_step : U.Unit → OwnAfter
  own_step unit = own_past unit (after_unit unit o.pc)

  -- of the closing: system call 93
  abbrev pub own_closing : OwnAfter
  own_closing = executes Ecall (set_reg o.regs 17 93) o.pc

-- a hart's run starts at the entry, x1 has it return to the closing, which is pending where the opening has saved it, and x2 is the end
-- of the hart's stack of data
abbrev pub own_start : Profile → ℕ → ℕ → Registers → Shared → Own
own_start p hart entry r t = record {
  pc = entry;
  regs = set_reg (set_reg r 2 (stack_of hart)) 1 p.closing;
  shared = t;
  pending = entry_pending p.callee_saves p.closing;
}
