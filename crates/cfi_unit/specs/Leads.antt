-- Where a unit leads: the next address, and the pending sites there. `r` holds the registers at the
-- unit's start, `following` is the address after it. Which computed destinations are legal is a parameter: by a unit's
-- words alone those that bear its label, for the walk along a graph the targets of its class.
use Rattle.std.specs.Prelude.{◌≡◌, ◌≢◌, ℕ, ◌+◌, ◌*◌, ◌/◌, ◌%◌, ◌≤◌, ◌<◌, ◌⊎◌, true, false, List, [], ◌∷◌, length}
use Rattle.rv_word.specs.Bits.{wrap}
use Rattle.rv_image.specs.MemoryMap.{CODE_START, CODE_SIZE, Profile}
use Rattle.rv_word.specs.Memory.{Memory, read}
use Rattle.rv_word.specs.Numbers.{is_listed}
use Rattle.rv_instr.specs.Registers.{Registers, get_reg}
use Rattle.rv_code.specs.Step.{offset}
use Rattle.cfi_unit.specs.declared.target_word.TargetWord.{TargetWord}
use Rattle.cfi_unit.specs.declared.unit.SystemOp.TheVariants as S
use Rattle.cfi_unit.specs.UnitWords.{BAD_TARGET, BAD_RETURN, DEEP, after_unit, past}
use Rattle.cfi_unit.specs.Flow as F
use Rattle.cfi_unit.specs.Flow.{Exit, Flow, Sites, Test, flow_of}
use Rattle.cfi_unit.specs.Place.{Place, handler, opening, closing, body}
use Rattle.cfi_unit.specs.Shadow.{MOST_PENDING}

-- an address lies in code, and this word of it is `lui x0,label`
pub record HasLabel (image : Memory) (which : TargetWord) (label v : ℕ) : Type 0 where
  pub round : v % 4 ≡ 0
  pub low : CODE_START ≤ v
  pub high : v + 4 ≤ CODE_START + CODE_SIZE
  pub word : read 4 image (v + past which) ≡ label * 4096 + 55

-- which computed destinations are legal, by what becomes of the sites, by the word that is read and by the label
abbrev pub Legal : Type 1
Legal = Sites → TargetWord → ℕ → ℕ → Type 0

abbrev pub by_label : Memory → Legal
by_label image sites which label v = HasLabel image which label v

-- the destination of a computed transfer before and after its low two bits are cleared
abbrev pub sum_of : Registers → ℕ → ℕ → ℕ
sum_of r rs1 imm = wrap (get_reg r rs1 + offset 12 imm)

abbrev pub destination : Registers → ℕ → ℕ → ℕ
destination r rs1 imm = sum_of r rs1 imm / 4 * 4

-- the pending sites stay
abbrev pub Goes : List ℕ → List ℕ → ℕ → ℕ → Type 0
Goes pending after next to = (after ≡ pending) × (next ≡ to)

-- a call adds its site and goes to its target, or halts where the shadow stack is full
abbrev pub Calls : ℕ → List ℕ → List ℕ → ℕ → ℕ → Type 0
Calls site pending after next target =
    ((length pending < MOST_PENDING) × (after ≡ site ∷ pending) × (next ≡ target))
    ⊎ ((length pending ≡ MOST_PENDING) × (after ≡ pending) × (next ≡ DEEP))

-- a computed transfer goes on where its destination is legal, and halts where not
abbrev pub Checks : Type 0 → Type 0 → Type 0 → Type 0
Checks legal made halted = (legal × made) ⊎ ((legal → ⊥) × halted)

-- a system call is made where its number is listed, and not where it is not
abbrev pub Guards : List ℕ → ℕ → Type 0 → Type 0 → Type 0
Guards numbers x made halted = ((is_listed x numbers ≡ true) × made) ⊎ ((is_listed x numbers ≡ false) × halted)

-- a return, where a site is pending, goes to the newest one and takes it off, or halts where x1 is another address
abbrev pub Returns : Registers → List ℕ → List ℕ → ℕ → Type 0
Returns r [] after next = ⊥
Returns r (site ∷ pending) after next =
    ((r 1 ≡ site) × Goes pending after next site)
    ⊎ ((r 1 ≢ site) × Goes (site ∷ pending) after next BAD_RETURN)

-- where the address in a register leads, which is a multiple of two
abbrev pub linked_to : Registers → ℕ
linked_to r = sum_of r 1 0 / 2 * 2

-- to a target, with the sites as the unit leaves them
abbrev pub SitesLead : Sites → ℕ → List ℕ → Registers → List ℕ → ℕ → ℕ → Type 0
SitesLead F.pushes following pending r after next target = Calls following pending after next target
SitesLead F.saves following pending r after next target = Calls (r 1) pending after next target
SitesLead other following pending r after next target = Goes pending after next target

abbrev pub ExitLeads : Exit → Sites → ℕ → List ℕ → Registers → List ℕ → ℕ → Type 0
ExitLeads F.on sites following pending r after next = SitesLead sites following pending r after next following
ExitLeads (F.either op rs1 rs2 met target) sites following pending r after next =
    Goes pending after next following ⊎ Goes pending after next target
ExitLeads (F.to target) sites following pending r after next = SitesLead sites following pending r after next target
ExitLeads (F.halts stop) sites following pending r after next = Goes pending after next stop
ExitLeads (F.computed rs1 imm) sites following pending r after next = SitesLead sites following pending r after next (destination r rs1 imm)
ExitLeads (F.beyond rs1 imm) sites following pending r after next = SitesLead sites following pending r after next (destination r rs1 imm + 8)
ExitLeads F.linked sites following pending r after next = Goes pending after next (linked_to r)
ExitLeads F.back sites following pending r after next = Returns r pending after next
ExitLeads (F.after S.Ecall) sites following pending r after next = Goes pending after next following
ExitLeads (F.after S.Ebreak) sites following pending r after next = ⊥

-- what a test decides: a return's is in where it goes back to
abbrev pub Decides : Legal → Registers → Test → Sites → Type 0 → Type 0 → Type 0
Decides legal r (F.listed numbers) sites made halted = Guards numbers (r 17) made halted
Decides legal r (F.borne which rs1 imm label) sites made halted = Checks (legal sites which label (destination r rs1 imm)) made halted
Decides legal r other sites made halted = made

abbrev pub FlowLeads : Legal → Flow → ℕ → List ℕ → Registers → List ℕ → ℕ → Type 0
FlowLeads legal f following pending r after next =
    Decides legal r f.test f.sites (ExitLeads f.exit f.sites following pending r after next) (Goes pending after next BAD_TARGET)

-- from what stands at an address: handlers and the closing end the run, the opening calls the entry
abbrev pub Leads : Profile → Legal → Place → ℕ → List ℕ → Registers → List ℕ → ℕ → Type 0
Leads p legal handler at pending r after next = ⊥
Leads p legal (opening entry) at pending r after next = Calls p.closing pending after next entry
Leads p legal closing at pending r after next = ⊥
Leads p legal (body unit) at pending r after next = FlowLeads legal (flow_of unit) (after_unit unit at) pending r after next
