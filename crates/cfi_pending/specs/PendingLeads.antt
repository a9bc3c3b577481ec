-- Where a unit leads, and what becomes of all pending sites, one in x1 among them: `Leads`, which tells of those on the shadow stack,
-- but where the newest comes into x1 or leaves it.
use Rattle.std.specs.Prelude.{◌≡◌, ℕ, ◌+◌, ◌≤◌, ◌⊎◌, List, [], ◌∷◌, length}
use Rattle.rv_instr.specs.Registers.{Registers}
use Rattle.cfi_unit.specs.declared.unit.Unit as U
use Rattle.cfi_unit.specs.Flow as F
use Rattle.cfi_unit.specs.Flow.{Exit, Flow, Sites, flow_of}
use Rattle.cfi_unit.specs.Leads.{Decides, ExitLeads, Goes, Legal, destination}
use Rattle.cfi_unit.specs.Shadow.{MOST_PENDING}
use Rattle.cfi_unit.specs.UnitWords.{BAD_TARGET, DEEP}

-- a call goes to its target, its site the newest: the others stand on the shadow stack
abbrev pub Links : ℕ → List ℕ → List ℕ → ℕ → ℕ → Type 0
Links site pending after next target = (length pending ≤ MOST_PENDING) × (after ≡ site ∷ pending) × (next ≡ target)

-- the newest site is saved, or the run halts where the shadow stack is full of the others
abbrev pub Saves : ℕ → List ℕ → List ℕ → ℕ → Type 0
Saves following pending after next =
    ((length pending ≤ MOST_PENDING) × Goes pending after next following)
    ⊎ ((length pending ≡ MOST_PENDING + 1) × Goes pending after next DEEP)

-- to the newest site, which is taken off
abbrev pub GoesBack : List ℕ → List ℕ → ℕ → Type 0
GoesBack [] after next = ⊥
GoesBack (site ∷ pending) after next = Goes pending after next site

-- calls that leave their site in x1
abbrev pub LinkLeads : Exit → ℕ → List ℕ → Registers → List ℕ → ℕ → Type 0
LinkLeads (F.to target) following pending r after next = Links following pending after next target
LinkLeads (F.beyond rs1 imm) following pending r after next = Links following pending after next (destination r rs1 imm + 8)
LinkLeads other following pending r after next = ⊥

abbrev pub SiteLeads : Sites → Exit → ℕ → List ℕ → Registers → List ℕ → ℕ → Type 0
SiteLeads F.links exit following pending r after next = LinkLeads exit following pending r after next
SiteLeads F.saves exit following pending r after next = Saves following pending after next
SiteLeads sites F.linked following pending r after next = GoesBack pending after next
SiteLeads sites exit following pending r after next = ExitLeads exit sites following pending r after next

abbrev pub PendingLeads : Legal → U.Unit → ℕ → List ℕ → Registers → List ℕ → ℕ → Type 0
PendingLeads legal unit following pending r after next =
    Decides legal r (flow_of unit).test (flow_of unit).sites (SiteLeads (flow_of unit).sites (flow_of unit).exit following pending r after next)
    (Goes pending after next BAD_TARGET)
