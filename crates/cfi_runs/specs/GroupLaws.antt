-- A run by places comes to a run by units: the places that hold no store have units of their own, the stores of a whole group are one
-- step of one unit, however it masks, and the field of its mask is that of the least offset among them, or none where no offset is
-- negative.
use Rattle.std.specs.Prelude.{◌≡◌, ℕ, suc, ◌+◌, ◌^◌, ◌≤◌, ◌<◌, Bool, true, false, Option, Some}
use Rattle.rv_image.specs.MemoryMap.{Profile}
use Rattle.rv_word.specs.Memory.{Memory}
use Rattle.rv_code.specs.declared.turn.Turn.TheVariants.{Ran}
use Rattle.cfi_unit.specs.declared.mask.Mask.{Mask}
use Rattle.cfi_unit.specs.declared.members.Member.{Member}
use Rattle.cfi_unit.specs.declared.unit.Unit.TheVariants as V
use Rattle.cfi_unit.specs.UnitWords.{after_unit}
use Rattle.cfi_unit.specs.Leads.{sum_of}
use Rattle.cfi_runs.specs.Distances.{level, lowest}
use Rattle.cfi_runs.specs.GroupRuns.{GoesAlong, IsWhole, Walked}
use Rattle.cfi_runs.specs.GroupStores.{IsMasked, IsPast, StoresRun, TellsLow, members_from}
use Rattle.cfi_runs.specs.Own.{Own, own_step}

module _ (p : Profile) (image : Memory) (most : ℕ) (store later : ℕ → Bool) (place : ℕ → Option ℕ) (state : ℕ → Own) (n : ℕ) where
  -- each step from a place that holds no store is walked
  abbrev pub SinglesWalked : Type 0
  SinglesWalked = (i k : ℕ) → i < n → place i ≡ Some k → store k ≡ false → Walked p image most 1 (state i) (state (suc i))

  -- so are the steps of each whole group, as one
  abbrev pub GroupsWalked : Type 0
  GroupsWalked =
      (i k count : ℕ) → i + count ≤ n → ((j : ℕ) → j < count → place (i + j) ≡ Some (k + j)) → IsWhole store later k count →
      Walked p image most 1 (state i) (state (i + count))

-- n steps of places are walked with so many words for each
abbrev pub PlacesWalked : Type 0
PlacesWalked =
    (p : Profile) (image : Memory) (most : ℕ) (store later : ℕ → Bool) (place : ℕ → Option ℕ) (state : ℕ → Own) (n : ℕ) →
    ((k : ℕ) → later k ≡ true → store k ≡ true) → GoesAlong store later place n → SinglesWalked p image most store later place state n →
    GroupsWalked p image most store later place state n → Walked p image most n (state 0) (state n)

-- a unit of stores that ends at the gate behind the group makes the group's stores at once, and its mask changes nothing
abbrev pub GroupIsOneStep : Type 0
GroupIsOneStep =
    (p : Profile) (how : Mask) (rs1 mask : ℕ) (member : ℕ → Member) (imm gate : ℕ → ℕ) (k n : ℕ) (o last : Own) (at : ℕ) →
    1 ≤ n → ((i : ℕ) → i < n → IsPast mask (imm (k + i)) (member (k + i)).distance) → TellsLow rs1 mask member k n o.regs →
    gate (k + n) ≡ after_unit (V.Stores how rs1 mask (members_from member k n)) at → StoresRun p rs1 member imm gate k n o last →
    (sum_of o.regs rs1 mask < 2 ^ 28)
    × (own_step p (record o { pc = at }) (V.Stores how rs1 mask (members_from member k n)) ≡ record { state = last; turn = Ran })

-- offsets that lie no more than 2047 apart are masked by the least of them
abbrev pub GroupsAreMasked : Type 0
GroupsAreMasked =
    (imm : ℕ → ℕ) (first n : ℕ) → ((i : ℕ) → i ≤ n → imm (first + i) < 2 ^ 12) →
    ((i j : ℕ) → i ≤ n → j ≤ n → level (imm (first + i)) ≤ level (imm (first + j)) + 2047) →
    IsMasked imm first n (lowest (λ (j : ℕ). level (imm j)) first n)

-- an offset that is not negative is its own distance past a mask without an offset
abbrev pub OffsetsArePast : Type 0
OffsetsArePast = (imm : ℕ) → imm < 2 ^ 11 → IsPast 0 imm imm
