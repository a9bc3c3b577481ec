-- What a unit does, a row a unit: where it is left to, with which registers and pending sites, and
-- what harts then share. `h` and `s` are the hart and what is shared at the unit's first word, and
-- `may` is what may happen between its words; `following` is the address after the unit.
use Rattle.std.specs.Prelude.{◌≡◌, ◌≢◌, ℕ, ◌+◌, ◌-◌, ◌<◌, ◌⊎◌, true, false, if◌then◌else◌, List, [], ◌∷◌, length}
use Rattle.rv_image.specs.MemoryMap.{Profile}
use Rattle.rv_word.specs.Memory.{Memory}
use Rattle.rv_instr.specs.Registers.{get_reg, set_reg}
use Rattle.rv_code.specs.Arithmetic.{branch_taken}
use Rattle.rv_code.specs.State.{Hart, Shared, After}
use Rattle.cfi_unit.specs.declared.unit.Unit as U
use Rattle.cfi_unit.specs.UnitWords.{BAD_TARGET, BAD_RETURN, DEEP, after_unit, system_instr}
use Rattle.cfi_unit.specs.Shadow.{MOST_PENDING}
use Rattle.cfi_unit.specs.Flow as F
use Rattle.cfi_unit.specs.Flow.{Act, Exit, Flow, Sites, flow_of}
use Rattle.cfi_unit.specs.Leads.{Decides, by_label, destination, linked_to}
use Rattle.cfi_unit.specs.Leaving.{LeftTo, HaltsAt, CallsAt, Executes, StoresEach, masked, pushed}

module _ (p : Profile) (part : ℕ) (image base : Memory) (may : Shared → Shared → Type 0) (h : Hart) (s : Shared) where
  -- a call puts its site into x1 and onto the shadow stack and goes to its target, or halts where the
  -- shadow stack is full
  abbrev pub CallDoes : ℕ → ℕ → List ℕ → After → Type 0
  CallDoes target site pending after =
      ((length pending < MOST_PENDING)
      × LeftTo part image base target (site ∷ pending) (set_reg h.regs 1 site) (may (pushed part (length pending) site s)) after)
      ⊎ ((length pending ≡ MOST_PENDING) × HaltsAt part image base DEEP pending h.regs (may s) after)

  -- an enter puts the site in x1 onto the shadow stack and goes on, or halts where the shadow stack is full
  abbrev pub EnterDoes : ℕ → List ℕ → After → Type 0
  EnterDoes following pending after =
      ((length pending < MOST_PENDING)
      × LeftTo part image base following (h.regs 1 ∷ pending) h.regs (may (pushed part (length pending) (h.regs 1) s)) after)
      ⊎ ((length pending ≡ MOST_PENDING) × HaltsAt part image base DEEP pending h.regs (may s) after)

  -- a return goes to the newest site and takes it off, or halts where x1 is another address
  abbrev pub ReturnDoes : List ℕ → After → Type 0
  ReturnDoes [] after = ⊥
  ReturnDoes (site ∷ pending) after =
      ((h.regs 1 ≡ site) × LeftTo part image base site pending h.regs (may s) after)
      ⊎ ((h.regs 1 ≢ site) × HaltsAt part image base BAD_RETURN (site ∷ pending) h.regs (may s) after)

  -- to a target, with the sites as the unit leaves them
  abbrev pub SitesDo : Sites → ℕ → List ℕ → After → ℕ → Type 0
  SitesDo F.pushes following pending after target = CallDoes target following pending after
  SitesDo F.links following pending after target = LeftTo part image base target pending (set_reg h.regs 1 following) (may s) after
  SitesDo F.saves following pending after target = EnterDoes target pending after
  SitesDo other following pending after target = LeftTo part image base target pending h.regs (may s) after

  -- a branch over a jump goes to its target where its condition is not met, a near one where it is
  abbrev pub ExitDoes : Exit → Sites → ℕ → List ℕ → After → Type 0
  ExitDoes (F.either op rs1 rs2 true target) sites following pending after =
      LeftTo part image base (if branch_taken op (get_reg h.regs rs1) (get_reg h.regs rs2) then target else following) pending h.regs (may s) after
  ExitDoes (F.either op rs1 rs2 false target) sites following pending after =
      LeftTo part image base (if branch_taken op (get_reg h.regs rs1) (get_reg h.regs rs2) then following else target) pending h.regs (may s) after
  ExitDoes (F.to target) sites following pending after = SitesDo sites following pending after target
  ExitDoes (F.halts stop) sites following pending after = HaltsAt part image base stop pending h.regs (may s) after
  ExitDoes F.on sites following pending after = SitesDo sites following pending after following
  ExitDoes (F.computed rs1 imm) sites following pending after = SitesDo sites following pending after (destination h.regs rs1 imm)
  ExitDoes (F.beyond rs1 imm) sites following pending after = SitesDo sites following pending after (destination h.regs rs1 imm + 8)
  ExitDoes F.back sites following pending after = ReturnDoes pending after
  ExitDoes F.linked sites following pending after = LeftTo part image base (linked_to h.regs) pending h.regs (may s) after
  ExitDoes other sites following pending after = LeftTo part image base following pending h.regs (may s) after

  abbrev pub ActDoes : Act → Exit → Sites → ℕ → List ℕ → After → Type 0
  ActDoes F.none exit sites following pending after = ExitDoes exit sites following pending after
  ActDoes (F.does instr) exit sites following pending after = Executes p part image base instr pending h (may s) after
  ActDoes (F.system op) exit sites following pending after = Executes p part image base (system_instr op) pending h (may s) after
  ActDoes F.calls exit sites following pending after = CallsAt p part image base (following - 4) pending h.regs (may s) after
  ActDoes (F.stores rs1 imm members) exit sites following pending after =
      LeftTo part image base following pending h.regs
      (StoresEach may (masked h.regs rs1 imm) (set_reg h.regs 31 (masked h.regs rs1 imm)) members s) after

  abbrev pub FlowDoes : Flow → ℕ → List ℕ → After → Type 0
  FlowDoes f following pending after =
      Decides (by_label image) h.regs f.test f.sites (ActDoes f.act f.exit f.sites following pending after)
      (HaltsAt part image base BAD_TARGET pending h.regs (may s) after)

  -- from a unit before an address
  abbrev pub DoesPast : U.Unit → ℕ → List ℕ → After → Type 0
  DoesPast unit following pending after = FlowDoes (flow_of unit) following pending after

  -- from a unit at an address
  abbrev pub UnitDoes : U.Unit → ℕ → List ℕ → After → Type 0
  UnitDoes unit at pending after = DoesPast unit (after_unit unit at) pending after
