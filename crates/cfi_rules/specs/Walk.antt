-- The walk along a graph: from what stands at an address, with the sites that are pending, to the
-- next address and the sites pending there, whatever the registers are. Pending sites stand newest first.
use Rattle.std.specs.Prelude.{◌≡◌, ℕ, ◌+◌, ◌<◌, ◌≤◌, ◌⊎◌, Bool, true, false, IsTrue, List, [], ◌∷◌, length}
use Rattle.rv_image.specs.MemoryMap.{Profile}
use Rattle.cfi_graph.specs.declared.line.GraphLine.{GraphLine}
use Rattle.cfi_graph.specs.declared.line.SiteKind.{SiteKind}
use Rattle.cfi_graph.specs.declared.line.SiteKind.TheVariants as K
use Rattle.cfi_unit.specs.declared.unit.SystemOp.TheVariants as S
use Rattle.cfi_unit.specs.declared.unit.Unit as U
use Rattle.cfi_unit.specs.declared.place.Place.{Place}
use Rattle.cfi_unit.specs.declared.place.Place.TheVariants.{Handler as handler, Opening as opening, Closing as closing, Body as body}
use Rattle.cfi_unit.specs.declared.target_word.TargetWord.{TargetWord}
use Rattle.cfi_unit.specs.declared.target_word.TargetWord.TheVariants.{First}
use Rattle.cfi_unit.specs.Flow as F
use Rattle.cfi_unit.specs.Flow.{Exit, Flow, Sites, Test, flow_of}
use Rattle.cfi_unit.specs.Leads.{Legal}
use Rattle.cfi_unit.specs.Shadow.{MOST_PENDING}
use Rattle.cfi_unit.specs.UnitWords.{BAD_TARGET, BAD_RETURN, DEEP, after_unit}
use Rattle.cfi_rules.specs.Lines.{holds_of, targets_for, is_among}

-- an address is a target of the class with a label that serves such a transfer
abbrev pub InClass : List GraphLine → SiteKind → TargetWord → ℕ → ℕ → Type 0
InClass lines kind which label v = IsTrue (holds_of (targets_for lines kind which label) (is_among v))

-- the computed destinations that are legal for the walk: a transfer that puts its site on top is a call
abbrev pub by_class : List GraphLine → Legal
by_class lines F.pushes which label v = InClass lines K.Call which label v
by_class lines F.links which label v = InClass lines K.Call which label v
by_class lines other which label v = InClass lines K.Jump which label v

abbrev pub is_some_target : List ℕ → Bool
is_some_target [] = false
is_some_target (x ∷ xs) = true

-- this class has a target
abbrev pub HasTarget : List GraphLine → SiteKind → TargetWord → ℕ → Type 0
HasTarget lines kind which label = IsTrue (holds_of (targets_for lines kind which label) is_some_target)

-- to an address, with the same sites pending
abbrev pub To : ℕ → List ℕ → ℕ → List ℕ → Type 0
To target pending v after = (v ≡ target) × (after ≡ pending)

-- a call: to its target with its site put on top, or to the handler where there is no room
abbrev pub CallGoes : ℕ → ℕ → List ℕ → ℕ → List ℕ → Type 0
CallGoes site target pending v after =
    ((length pending < MOST_PENDING) × (v ≡ target) × (after ≡ site ∷ pending))
    ⊎ ((length pending ≡ MOST_PENDING) × To DEEP pending v after)

-- a computed jump: to a target of its class, or to the handler
abbrev pub JumpGoes : List GraphLine → TargetWord → ℕ → List ℕ → ℕ → List ℕ → Type 0
JumpGoes lines which label pending v after =
    (InClass lines K.Jump which label v × (after ≡ pending)) ⊎ To BAD_TARGET pending v after

-- a computed call: to the handler of bad targets; to a target of its class with its site put on top;
-- or to the handler where there is no room
abbrev pub ComputedCallGoes : List GraphLine → ℕ → ℕ → List ℕ → ℕ → List ℕ → Type 0
ComputedCallGoes lines site label pending v after =
    To BAD_TARGET pending v after
    ⊎ (((length pending < MOST_PENDING) × InClass lines K.Call First label v × (after ≡ site ∷ pending))
    ⊎ ((length pending ≡ MOST_PENDING) × HasTarget lines K.Call First label × To DEEP pending v after))

-- a call that leaves its site in x1: to its target, the site put on top of those on the shadow stack
abbrev pub LinkGoes : ℕ → ℕ → List ℕ → ℕ → List ℕ → Type 0
LinkGoes site target pending v after = (length pending ≤ MOST_PENDING) × (v ≡ target) × (after ≡ site ∷ pending)

-- a computed one: to the handler of bad targets, or to the gate that stands 8 bytes behind a target of its class
abbrev pub ComputedLinkGoes : List GraphLine → TargetWord → ℕ → ℕ → List ℕ → ℕ → List ℕ → Type 0
ComputedLinkGoes lines which site label pending v after =
    To BAD_TARGET pending v after ⊎ ((t : ℕ) × InClass lines K.Call which label t × LinkGoes site (t + 8) pending v after)

-- the newest site is saved: the walk goes on, or to the handler where there is no room for it beside the others
abbrev pub SaveGoes : ℕ → List ℕ → ℕ → List ℕ → Type 0
SaveGoes following pending v after =
    ((length pending ≤ MOST_PENDING) × To following pending v after)
    ⊎ ((length pending ≡ MOST_PENDING + 1) × To DEEP pending v after)

-- a return from a function that calls nothing: to the newest site, which is taken off
abbrev pub LeafGoes : List ℕ → ℕ → List ℕ → Type 0
LeafGoes [] v after = ⊥
LeafGoes (site ∷ pending) v after = To site pending v after

-- a return: to the newest site, which is taken off, or to the handler
abbrev pub ReturnGoes : List ℕ → ℕ → List ℕ → Type 0
ReturnGoes [] v after = To BAD_RETURN [] v after
ReturnGoes (site ∷ pending) v after =
    To site pending v after ⊎ To BAD_RETURN (site ∷ pending) v after

-- to a target, with what becomes of the sites
abbrev pub SitesGo : Sites → ℕ → List ℕ → ℕ → List ℕ → ℕ → Type 0
SitesGo F.pushes following pending v after target = CallGoes following target pending v after
SitesGo F.links following pending v after target = LinkGoes following target pending v after
SitesGo F.saves following pending v after target = SaveGoes target pending v after
SitesGo other following pending v after target = To target pending v after

abbrev pub ExitGoes : Exit → Sites → ℕ → List ℕ → ℕ → List ℕ → Type 0
ExitGoes F.on sites following pending v after = SitesGo sites following pending v after following
ExitGoes (F.either op rs1 rs2 met target) sites following pending v after = To following pending v after ⊎ To target pending v after
ExitGoes (F.to target) sites following pending v after = SitesGo sites following pending v after target
ExitGoes (F.halts stop) sites following pending v after = To stop pending v after
ExitGoes F.back sites following pending v after = ReturnGoes pending v after
ExitGoes F.linked sites following pending v after = LeafGoes pending v after
ExitGoes (F.after S.Ecall) sites following pending v after = To following pending v after
ExitGoes other sites following pending v after = ⊥

abbrev pub ClassGoes : List GraphLine → Sites → TargetWord → ℕ → ℕ → List ℕ → ℕ → List ℕ → Type 0
ClassGoes lines F.pushes which label following pending v after = ComputedCallGoes lines following label pending v after
ClassGoes lines F.links which label following pending v after = ComputedLinkGoes lines which following label pending v after
ClassGoes lines other which label following pending v after = JumpGoes lines which label pending v after

-- a computed transfer goes by its class, whatever its destination
abbrev pub TestGoes : List GraphLine → Test → Exit → Sites → ℕ → List ℕ → ℕ → List ℕ → Type 0
TestGoes lines (F.listed numbers) exit sites following pending v after =
    ExitGoes exit sites following pending v after ⊎ To BAD_TARGET pending v after
TestGoes lines (F.borne which rs1 imm label) exit sites following pending v after = ClassGoes lines sites which label following pending v after
TestGoes lines other exit sites following pending v after = ExitGoes exit sites following pending v after

abbrev pub FlowGoes : List GraphLine → Flow → ℕ → List ℕ → ℕ → List ℕ → Type 0
FlowGoes lines f following pending v after = TestGoes lines f.test f.exit f.sites following pending v after

-- the step of the walk from a unit with `following` the address after it
abbrev pub GoesPast : List GraphLine → U.Unit → ℕ → List ℕ → ℕ → List ℕ → Type 0
GoesPast lines unit following pending v after = FlowGoes lines (flow_of unit) following pending v after

-- the step of the walk from a unit at an address
abbrev pub UnitGoes : List GraphLine → U.Unit → ℕ → List ℕ → ℕ → List ℕ → Type 0
UnitGoes lines unit at pending v after = GoesPast lines unit (after_unit unit at) pending v after

-- the opening calls the entry as other calls do
abbrev pub OpeningGoes : Bool → ℕ → ℕ → List ℕ → ℕ → List ℕ → Type 0
OpeningGoes false site entry pending v after = CallGoes site entry pending v after
OpeningGoes true site entry pending v after = LinkGoes site entry pending v after

-- the step of the walk from what stands at an address: handlers and the closing have none
abbrev pub Goes : Profile → List GraphLine → Place → ℕ → List ℕ → ℕ → List ℕ → Type 0
Goes p lines handler at pending v after = ⊥
Goes p lines (opening entry) at pending v after = OpeningGoes p.callee_saves p.closing entry pending v after
Goes p lines closing at pending v after = ⊥
Goes p lines (body unit) at pending v after = UnitGoes lines unit at pending v after
