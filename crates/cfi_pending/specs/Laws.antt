-- What a unit does to the shadow stack and to x1 is what it does to the pending sites.
use Rattle.std.specs.Prelude.{◌≡◌, ℕ, ◌<◌, ◌≤◌, ◌⊎◌, true, List, length}
use Rattle.rv_word.specs.Memory.{Memory}
use Rattle.rv_instr.specs.Registers.{Registers}
use Rattle.cfi_unit.specs.declared.unit.Unit as U
use Rattle.cfi_unit.specs.Flow.{flow_of}
use Rattle.cfi_unit.specs.Leads.{FlowLeads, Legal, by_label}
use Rattle.cfi_unit.specs.declared.place.Place.TheVariants.{Body as body}
use Rattle.cfi_unit.specs.Prologue.{OPENING}
use Rattle.cfi_unit.specs.Shadow.{MOST_PENDING}
use Rattle.cfi_unit.specs.Templates.{LeftWith}
use Rattle.cfi_unit.specs.UnitLaw.{ReturnsTo}
use Rattle.cfi_unit.specs.UnitWords.{after_unit}
use Rattle.cfi_pending.specs.PendingLeads.{PendingLeads}
use Rattle.cfi_pending.specs.Starts.{Start, StandsBy, may_stand, next_start, fresh}

-- at a fresh start a unit leaves x1 as it was
abbrev pub KeepsLink : Start → Registers → Registers → Type 0
KeepsLink start r left = start ≡ fresh → left 1 ≡ r 1

-- pending sites, the registers and where the unit led agree again
pub record StaysBy (legal : Legal) (unit : U.Unit) (at : ℕ) (start : Start) (pending : List ℕ) (r left : Registers) (stacked : List ℕ) (next : ℕ) : Type 0 where
  pub newer : List ℕ
  pub leads : PendingLeads legal unit (after_unit unit at) pending r newer next
  pub stands : StandsBy (next_start start unit) left newer stacked ⊎ (next < OPENING)

-- for any choice of legal destinations
abbrev pub PendingLawOf : Legal → Type 0
PendingLawOf legal =
    (unit : U.Unit) (at : ℕ) (start : Start) (pending before stacked : List ℕ) (r left : Registers) (next : ℕ) →
    may_stand start unit ≡ true → ReturnsTo pending → StandsBy start r pending before → length before ≤ MOST_PENDING →
    FlowLeads legal (flow_of unit) (after_unit unit at) before r stacked next →
    LeftWith (body unit) at left ⊎ (next < OPENING) → KeepsLink start r left →
    StaysBy legal unit at start pending r left stacked next

-- for those that bear a unit's label
abbrev pub PendingLaw : Type 0
PendingLaw = (image : Memory) → PendingLawOf (by_label image)
