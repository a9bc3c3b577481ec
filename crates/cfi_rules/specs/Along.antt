-- A run along a graph, and safety. The walk of a hart is the list of the pcs of its begun instructions
-- at which something starts: the opening, the closing, a handler or a unit.
use Rattle.std.specs.Prelude.{◌≡◌, ℕ, Bool, true, false, ◌<◌, ◌==◌, List, [], ◌∷◌, length, Option, Some, None, if◌then◌else◌}
use Rattle.std.specs.List.{AllByRecursion}
use Rattle.rv_image.specs.MemoryMap.{START, MayRun, Profile, part_of}
use Rattle.rv_image.specs.Image.{Contents, loaded}
use Rattle.rv_word.specs.Memory.{Memory}
use Rattle.rv_instr.specs.Registers.{Registers}
use Rattle.rv_code.specs.Run.{HartStep, IsStepOf}
use Rattle.rv_code.specs.State.{Hart, Harts, Shared, last_exit}
use Rattle.rv_code.specs.declared.turn.Turn.{Turn}
use Rattle.rv_code.specs.declared.turn.Turn.TheVariants.{Ran, Exit, Break, LoadFault, StoreFault, FetchFault, Illegal}
use Rattle.cfi_graph.specs.declared.line.GraphLine.{GraphLine}
use Rattle.cfi_graph.specs.Graph.{GraphParts}
use Rattle.cfi_unit.specs.declared.unit.Unit as U
use Rattle.cfi_unit.specs.declared.unit.SystemOp.TheVariants as S
use Rattle.cfi_unit.specs.declared.place.Place.{Place}
use Rattle.cfi_unit.specs.declared.place.Place.TheVariants.{Handler as handler, Opening as opening, Closing as closing, Body as body}
use Rattle.cfi_unit.specs.Place.{IsWordOf}
use Rattle.cfi_unit.specs.Prologue.{OPENING}
use Rattle.cfi_unit.specs.Context.{IsCodeOf, SameOutside}
use Rattle.cfi_unit.specs.EventLaw.{Adds}
use Rattle.cfi_unit.specs.Flow as F
use Rattle.cfi_unit.specs.Flow.{Act, flow_of}
use Rattle.cfi_unit.specs.Leads.{Calls, Legal}
use Rattle.cfi_unit.specs.Shadow.{slot, Holds}
use Rattle.cfi_unit.specs.UnitWords.{STORE_MASK, after_unit}
use Rattle.cfi_pending.specs.Kinds.{start_at}
use Rattle.cfi_pending.specs.PendingLeads.{Links, PendingLeads}
use Rattle.cfi_pending.specs.Starts.{Start, StandsBy, saved}
use Rattle.cfi_rules.specs.Lines.{leaves_in}
use Rattle.cfi_rules.specs.Reading.{AreUnitsOf, place_in}
use Rattle.cfi_rules.specs.Split.{code_words}
use Rattle.cfi_rules.specs.Taken.{TakenStep, steps_taken}
use Rattle.cfi_rules.specs.Walk.{by_class}

-- the newest address of a hart's walk, the sites pending there, and the registers when it was reached
pub record Walk : Type 0 where
  pub at : ℕ
  pub pending : List ℕ
  pub regs : Registers

-- where callees save sites, x4 holds the mask of stores
abbrev pub MaskStands : Bool → Registers → Type 0
MaskStands false r = Unit {0}
MaskStands true r = r 4 ≡ STORE_MASK

-- the shadow stack: of the pending sites it holds those that stand there at a start of this kind, each in its slot, and x3 points past
-- the newest of them; at a fresh start x1 holds the newest pending site
pub record StackStands (part : ℕ) (start : Start) (h : Hart) (m : Memory) (pending : List ℕ) : Type 0 where
  pub stacked : List ℕ
  pub stands : StandsBy start h.regs pending stacked
  pub pointer : h.regs 3 ≡ slot part (length stacked)
  pub holds : Holds part m stacked

-- where callers save sites each start is saved
abbrev pub start_under : Bool → Start → Start
start_under false start = saved
start_under true start = start

-- so it stands where a unit or the closing starts; a site is pending where a unit starts, and none where the closing does
abbrev pub ShadowStands : Profile → ℕ → Start → Place → Hart → Memory → List ℕ → Type 0
ShadowStands p part start handler h m pending = Unit {0}
ShadowStands p part start (opening entry) h m pending = Unit {0}
ShadowStands p part start closing h m pending = StackStands part saved h m pending × MaskStands p.callee_saves h.regs × (pending ≡ [])
ShadowStands p part start (body unit) h m pending =
    StackStands part (start_under p.callee_saves start) h m pending × MaskStands p.callee_saves h.regs × (0 < length pending)

-- where what stands at an address leads, with all pending sites: handlers and the closing end the run, the opening calls the entry
abbrev pub OpeningLeads : Bool → ℕ → ℕ → List ℕ → List ℕ → ℕ → Type 0
OpeningLeads false site entry pending after next = Calls site pending after next entry
OpeningLeads true site entry pending after next = Links site pending after next entry

abbrev pub PlaceLeads : Profile → Legal → Place → ℕ → List ℕ → Registers → List ℕ → ℕ → Type 0
PlaceLeads p legal handler at pending r after next = ⊥
PlaceLeads p legal (opening entry) at pending r after next = OpeningLeads p.callee_saves p.closing entry pending after next
PlaceLeads p legal closing at pending r after next = ⊥
PlaceLeads p legal (body unit) at pending r after next = PendingLeads legal unit (after_unit unit at) pending r after next

-- the walk arrives where something starts: where the place before leads, with the class's targets for computed
-- destinations, or at the opening with nothing pending
abbrev pub Arrives : Profile → (ℕ → Option Place) → List GraphLine → Option Walk → ℕ → List ℕ → Type 0
Arrives p places lines None v pending = (v ≡ OPENING) × (pending ≡ [])
Arrives p places lines (Some w) v pending =
    (place : Place) × (places w.at ≡ Some place) × PlaceLeads p (by_class lines) place w.at w.pending w.regs pending v

-- the kind of the start at an address, by what stands there and the leaves
abbrev pub unit_of : Option Place → Option U.Unit
unit_of (Some (body unit)) = Some unit
unit_of other = None

abbrev pub start_in : (ℕ → Option Place) → List GraphLine → ℕ → Start
start_in places lines a = start_at (λ b. unit_of (places b)) (leaves_in lines) a

-- before a step: where something starts the walk goes on to it, else it stays
abbrev pub GoesOn : Profile → (ℕ → Option Place) → List GraphLine → Option Walk → Option Place → TakenStep → Walk → Type 0
GoesOn p places lines before None t w = before ≡ Some w
GoesOn p places lines before (Some place) t w =
    (w.at ≡ t.before.pc) × (w.regs ≡ t.before.regs)
    × Arrives p places lines before t.before.pc w.pending
    × ShadowStands p (part_of t.hart) (start_in places lines t.before.pc) place t.before t.shared.memory w.pending

-- the stops that may come at each place: an exit only at the closing and at an `ecall`, guarded or not, a
-- break only at a handler and at an `ebreak`, a fault only at a plain instruction, and no other stop
abbrev pub ActExits : Act → Type 0
ActExits (F.system S.Ecall) = Unit {0}
ActExits F.calls = Unit {0}
ActExits other = ⊥

abbrev pub MayExit : Place → Type 0
MayExit closing = Unit {0}
MayExit (body unit) = ActExits (flow_of unit).act
MayExit other = ⊥

abbrev pub ActBreaks : Act → Type 0
ActBreaks (F.system S.Ebreak) = Unit {0}
ActBreaks other = ⊥

abbrev pub MayBreak : Place → Type 0
MayBreak handler = Unit {0}
MayBreak (body unit) = ActBreaks (flow_of unit).act
MayBreak other = ⊥

abbrev pub ActFaults : Act → Type 0
ActFaults (F.does instr) = Unit {0}
ActFaults other = ⊥

abbrev pub MayFault : Place → Type 0
MayFault (body unit) = ActFaults (flow_of unit).act
MayFault other = ⊥

-- the end of an instruction at `pc`, which the stops name that tell where they came
abbrev pub MayEnd : Place → ℕ → Turn → Type 0
MayEnd place pc Ran = Unit {0}
MayEnd place pc (Exit status) = MayExit place
MayEnd place pc (Break at) = (at ≡ pc) × MayBreak place
MayEnd place pc (LoadFault at a) = (at ≡ pc) × MayFault place
MayEnd place pc (StoreFault at a) = ⊥
MayEnd place pc (FetchFault at) = ⊥
MayEnd place pc (Illegal at) = ⊥

-- a begun instruction is a word of what stands at the newest address of the walk, it ends as it may
-- there, and before and after it code is the image's. Of memory it writes data and the hart's own part of the
-- shadow stack alone, and it makes no system call but, where what stands there may make one, one with the
-- number in x17
abbrev pub Begun : Profile → Contents → (ℕ → Option Place) → Walk → TakenStep → Type 0
Begun p image places w t =
    (place : Place) × (places w.at ≡ Some place) × IsWordOf p place w.at t.before.pc
    × MayEnd place t.before.pc t.after.turn
    × IsCodeOf (loaded image) t.shared.memory × IsCodeOf (loaded image) t.after.shared.memory
    × SameOutside (part_of t.hart) t.shared.memory t.after.shared.memory
    × Adds place w.at t.before t.shared.events t.after.shared.events

-- the walks of all harts so far: none before a hart's first step
abbrev pub Walks : Type 0
Walks = ℕ → Option Walk

abbrev pub with_walk : Walks → ℕ → Walk → Walks
with_walk walks k w = λ j. if j == k then Some w else walks j

-- the steps of a run go along the graph, each hart by its own walk and with its own part of the shadow
-- stack. `places` tells what stands at each address
abbrev pub RunsAlong : Profile → Contents → (ℕ → Option Place) → List GraphLine → Walks → List TakenStep → Type 0
RunsAlong p image places lines walks [] = Unit {0}
RunsAlong p image places lines walks (t ∷ rest) =
    (w : Walk)
    × GoesOn p places lines (walks t.hart) (places t.before.pc) t w
    × Begun p image places w t
    × RunsAlong p image places lines (with_walk walks t.hart w) rest

abbrev pub AreStepsOf : ℕ → List HartStep → Type 0
AreStepsOf harts steps = AllByRecursion (IsStepOf harts) steps

-- where runs may start: each hart at the opening with its number in x10, and the image's code in memory.
-- The other registers, data and the shadow stack hold anything
pub record MayStart (image : Contents) (count : ℕ) (harts : Harts) (s : Shared) : Type 0 where
  pub pc : (k : ℕ) → k < count → (harts k).pc ≡ START
  pub number : (k : ℕ) → k < count → (harts k).regs 10 ≡ k
  pub code : IsCodeOf (loaded image) s.memory
  pub going : last_exit s.events ≡ None

-- for every count of harts, every such start and every list of the harts' steps, between which data change,
-- the run goes along the graph, with what stands at each address
abbrev pub AllRunAlong : Profile → Contents → (ℕ → Option Place) → List GraphLine → Type 0
AllRunAlong p image places lines =
    (count : ℕ) → MayRun p count → (harts : Harts) (s : Shared) → MayStart image count harts s → (steps : List HartStep) → AreStepsOf count steps
    → RunsAlong p image places lines (λ k. None) (steps_taken p harts s steps)

-- safe: there are units that the code's instructions are, one after another, and all runs go along the graph
-- from unit to unit
abbrev pub IsSafe : Profile → Contents → GraphParts → Type 0
IsSafe p image graph =
    let words = code_words image.code in
    (units : List U.Unit) × AreUnitsOf p words units × AllRunAlong p image (place_in p words units) graph.lines
