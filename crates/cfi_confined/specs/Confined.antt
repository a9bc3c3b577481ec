-- Confined runs: of each executed instruction, where it leads, what it writes and how it ends, said by the
-- word at the pc and the graph's lines alone.
use Rattle.std.specs.Prelude.{◌≡◌, ℕ, Bool, true, false, ◌+◌, ◌-◌, ◌<◌, ◌≤◌, ◌==◌, ◌⊎◌, IsTrue, List, [], ◌∷◌, length, Option, Some, None, if◌then◌else◌}
use Rattle.std.specs.List.{Contains}
use Rattle.rv_image.specs.Image.{Contents}
use Rattle.rv_image.specs.declared.version.GraphVersion.{GraphVersion}
use Rattle.rv_image.specs.declared.version.GraphVersion.TheVariants.{OneLabel, TwoLabels, CalleeSaves}
use Rattle.rv_image.specs.MemoryMap.{CODE_START, DATA_END, PART_SIZE, START, MayRun, Profile, part_of}
use Rattle.rv_word.specs.Memory.{Memory, read}
use Rattle.rv_word.specs.Numbers.{is_listed}
use Rattle.rv_instr.specs.declared.instr.Instr.{Instr}
use Rattle.rv_instr.specs.declared.instr.Instr.TheVariants.{Branch, Jal, Jalr, Ecall}
use Rattle.rv_code.specs.Decode.{decoded}
use Rattle.rv_code.specs.Run.{HartStep}
use Rattle.rv_code.specs.State.{Harts, Shared}
use Rattle.rv_code.specs.declared.turn.Turn.{Turn}
use Rattle.rv_code.specs.declared.turn.Turn.TheVariants.{Ran, Exit, Break, LoadFault, StoreFault, FetchFault, Illegal}
use Rattle.cfi_graph.specs.declared.line.GraphLine.{GraphLine}
use Rattle.cfi_graph.specs.declared.line.Sort.{Sort}
use Rattle.cfi_graph.specs.declared.line.Sort.TheVariants as sorts
use Rattle.cfi_graph.specs.declared.line.GraphLine.TheVariants.{Class, Site, Edge, Call}
use Rattle.cfi_graph.specs.declared.line.SiteKind.{SiteKind}
use Rattle.cfi_graph.specs.declared.line.SiteKind.TheVariants as K
use Rattle.cfi_graph.specs.Graph.{GraphParts, calls_in}
use Rattle.cfi_unit.specs.Shadow.{slot, MOST_PENDING}
use Rattle.cfi_rules.specs.Along.{AreStepsOf, MayStart}
use Rattle.cfi_rules.specs.Taken.{TakenStep, steps_taken}

-- Distances in code, by the version of its graph: how far before a computed transfer the address of its site
-- line is, how far before a direct call that of its call line, how far past a class's target a computed transfer
-- leads, and how far ahead the `ecall` may be to which a branch leads
abbrev pub before_site : GraphVersion → SiteKind → ℕ
before_site OneLabel K.Jump = 48
before_site OneLabel K.Call = 76
before_site TwoLabels K.Jump = 48
before_site TwoLabels K.Call = 76
before_site CalleeSaves kind = 56

abbrev pub before_call : GraphVersion → ℕ
before_call OneLabel = 28
before_call TwoLabels = 28
before_call CalleeSaves = 0

abbrev pub past_target : GraphVersion → SiteKind → ℕ
past_target CalleeSaves K.Call = 8
past_target CalleeSaves K.Jump = 0
past_target OneLabel kind = 0
past_target TwoLabels kind = 0

abbrev pub most_skip : GraphVersion → ℕ
most_skip OneLabel = 64
most_skip TwoLabels = 64
most_skip CalleeSaves = 64

-- how many calls may be pending: where callees save their return addresses one more, whose own is in x1 alone
abbrev pub most_calls : Profile → ℕ
most_calls p = if p.callee_saves then MOST_PENDING + 1 else MOST_PENDING

-- the sort of the classes that serve one kind of computed transfers alone, and the line of such a class
abbrev pub sort_of : SiteKind → Sort
sort_of K.Call = sorts.Calls
sort_of K.Jump = sorts.Jumps

abbrev pub class_line : SiteKind → ℕ → List ℕ → GraphLine
class_line kind label targets = Class (sort_of kind) label targets

-- the graph has a site line at an address, and the class with its label has a target that leads there
pub record IsSiteTo (version : GraphVersion) (lines : List GraphLine) (kind : SiteKind) (site to : ℕ) : Type 0 where
  pub label : ℕ
  pub targets : List ℕ
  pub gate : ℕ
  pub listed : Contains lines (Site site kind label)
  pub class : Contains lines (Class sorts.Both label targets) ⊎ Contains lines (class_line kind label targets)
  pub target : Contains targets gate
  pub behind : to ≡ gate + past_target version kind

-- the graph has no site line at an address
abbrev pub NoSite : List GraphLine → ℕ → Type 0
NoSite lines site = (kind : SiteKind) (label : ℕ) → ¬ Contains lines (Site site kind label)

-- the address of the call line of a `jal x1`: the opening's line stands at the opening's first word
abbrev pub call_line : Profile → GraphVersion → ℕ → ℕ
call_line p version pc = if pc == p.opening_call then START else pc - before_call version

-- a branch that goes along no edge leads to the next instruction, or over it, or ahead to an `ecall`
abbrev pub IsSkip : GraphVersion → (ℕ → Option Instr) → ℕ → ℕ → Type 0
IsSkip version code pc to = (to ≡ pc + 4) ⊎ ((to ≡ pc + 8) ⊎ ((pc < to) × (to ≤ pc + most_skip version) × (code to ≡ Some Ecall)))

-- the code's first three words are the handlers
abbrev pub IsHandler : ℕ → Type 0
IsHandler a = (CODE_START ≤ a) × (a < START)

-- a branch over the next instruction: its field counts in multiples of two bytes
abbrev pub LeadsOver : Option Instr → Type 0
LeadsOver (Some (Branch op rs1 rs2 imm)) = imm ≡ 4
LeadsOver other = ⊥

-- where a branch may lead
abbrev pub BranchMoves : GraphParts → (ℕ → Option Instr) → ℕ → ℕ → Type 0
BranchMoves graph code pc to = IsSkip graph.version code pc to ⊎ Contains graph.lines (Edge pc to)

-- where a `jal x0` may lead: to a handler, by its own edge, or by that of the branch over it
abbrev pub JumpMoves : GraphParts → (ℕ → Option Instr) → ℕ → ℕ → Type 0
JumpMoves graph code pc to =
    IsHandler to ⊎ (Contains graph.lines (Edge pc to) ⊎ (LeadsOver (code (pc - 4)) × Contains graph.lines (Edge (pc - 4) to)))

-- where a `jalr x0` may lead, and the calls pending there: it is a jump where the graph has a site line for it,
-- and a return to the newest pending call where it has none
abbrev pub ComputedMoves : GraphParts → ℕ → List ℕ → ℕ → List ℕ → Type 0
ComputedMoves graph pc pending to newer =
    let site = pc - before_site graph.version K.Jump in
    (NoSite graph.lines site × (pending ≡ to ∷ newer)) ⊎ (IsSiteTo graph.version graph.lines K.Jump site to × (newer ≡ pending))

-- where an instruction at a pc may lead, and the return addresses of the calls pending there, the newest first.
-- No other `jal` or `jalr` is executed, and no word that is no instruction
abbrev pub Moves : Profile → GraphParts → (ℕ → Option Instr) → Option Instr → ℕ → List ℕ → ℕ → List ℕ → Type 0
Moves p graph code None pc pending to newer = ⊥
Moves p graph code (Some (Branch op rs1 rs2 imm)) pc pending to newer = BranchMoves graph code pc to × (newer ≡ pending)
Moves p graph code (Some (Jal rd imm)) pc pending to newer =
    ((rd ≡ 0) × JumpMoves graph code pc to × (newer ≡ pending))
    ⊎ ((rd ≡ 1) × Contains graph.lines (Call (call_line p graph.version pc) to) × (newer ≡ (pc + 4) ∷ pending))
Moves p graph code (Some (Jalr rd rs1 imm)) pc pending to newer =
    ((rd ≡ 0) × ComputedMoves graph pc pending to newer)
    ⊎ ((rd ≡ 1) × IsSiteTo graph.version graph.lines K.Call (pc - before_site graph.version K.Call) to × (newer ≡ (pc + 4) ∷ pending))
Moves p graph code (Some other) pc pending to newer = (to ≡ pc + 4) × (newer ≡ pending)

-- how an instruction at a pc may end: no handler runs on, and past the prologue the program may break or load
-- where nothing is; no store and no fetch fails, and no word is illegal
abbrev pub MayStop : Profile → ℕ → Turn → Type 0
MayStop p pc Ran = START ≤ pc
MayStop p pc (Exit status) = START ≤ pc
MayStop p pc (Break at) = IsHandler pc ⊎ (p.units_from ≤ pc)
MayStop p pc (LoadFault at a) = p.units_from ≤ pc
MayStop p pc (StoreFault at a) = ⊥
MayStop p pc (FetchFault at) = ⊥
MayStop p pc (Illegal at) = ⊥

-- the numbers of system calls: any, or those that the graph lists
abbrev pub IsAllowed : Option (List ℕ) → ℕ → Type 0
IsAllowed None number = Unit {0}
IsAllowed (Some calls) number = IsTrue (is_listed number calls)

-- an `ecall` stands past the prologue and its number is allowed, or it is the closing's, which exits
abbrev pub MayEcall : Profile → GraphParts → Option Instr → ℕ → ℕ → Type 0
MayEcall p graph (Some Ecall) pc number =
    ((p.units_from ≤ pc) × IsAllowed (calls_in graph.lines) number) ⊎ ((pc ≡ p.closing + 4) × (number ≡ 93))
MayEcall p graph other pc number = Unit {0}

-- the instruction at each address of a memory
abbrev pub fetched : Memory → ℕ → Option Instr
fetched m a = decoded (read 4 m a)

-- memory is as it was outside of data
abbrev pub WritesData : Memory → Memory → Type 0
WritesData before after = (a : ℕ) → DATA_END ≤ a → after a ≡ before a

-- memory is as it was outside of data and of a slot in a hart's own part of the shadow stack
abbrev pub WritesOwn : ℕ → ℕ → Memory → Memory → Type 0
WritesOwn part n before after =
    (a : ℕ) → DATA_END ≤ a → (a < slot part n) ⊎ ((slot part n + 8 ≤ a) ⊎ (part + PART_SIZE ≤ a)) → after a ≡ before a

-- what may be written, by the calls that are pending: data, and the slot of the next call; where callees save, that of
-- the newest call, and there its return address, and no slot where none is pending
abbrev pub Writes : Bool → ℕ → List ℕ → Memory → Memory → Type 0
Writes false part pending before after = WritesOwn part (length pending) before after
Writes true part [] before after = WritesData before after
Writes true part (site ∷ older) before after =
    let slot_at = slot part (length older) in
    WritesOwn part (length older) before after × ((read 8 after slot_at ≡ read 8 before slot_at) ⊎ (read 8 after slot_at ≡ site))

-- a step is confined: how it ends, which system call it makes, what it writes, and, where the next step may come,
-- where it leads; `pending` are the return addresses of the hart's calls before it, `newer` those after it
pub record IsConfinedStep (p : Profile) (graph : GraphParts) (pending : List ℕ) (t : TakenStep) (newer : List ℕ) : Type 0 where
  pub ends : MayStop p t.before.pc t.after.turn
  pub calls : MayEcall p graph (fetched t.shared.memory t.before.pc) t.before.pc (t.before.regs 17)
  pub writes : Writes p.callee_saves (part_of t.hart) pending t.shared.memory t.after.shared.memory
  pub leads : t.after.turn ≡ Ran
      → (length newer ≤ most_calls p)
      × Moves p graph (fetched t.shared.memory) (fetched t.shared.memory t.before.pc) t.before.pc pending t.after.hart.pc newer

-- the return addresses of the pending calls of each hart
abbrev pub Pending : Type 0
Pending = ℕ → List ℕ

abbrev pub with_pending : Pending → ℕ → List ℕ → Pending
with_pending pending k newer = λ j. if j == k then newer else pending j

-- the steps of a run are confined, one after another
abbrev pub ConfinedAlong : Profile → GraphParts → Pending → List TakenStep → Type 0
ConfinedAlong p graph pending [] = Unit {0}
ConfinedAlong p graph pending (t ∷ rest) =
    (newer : List ℕ)
    × IsConfinedStep p graph (pending t.hart) t newer
    × ConfinedAlong p graph (with_pending pending t.hart newer) rest

-- confined: for every count of harts, every start, with no call pending, and every list of the harts' steps,
-- between which data change
abbrev pub IsConfined : Profile → Contents → GraphParts → Type 0
IsConfined p image graph =
    (count : ℕ) → MayRun p count → (harts : Harts) (s : Shared) → MayStart image count harts s → (steps : List HartStep) → AreStepsOf count steps
    → ConfinedAlong p graph (λ k. []) (steps_taken p harts s steps)
