-- Stores off one register at places one after the other, each a step of its own, and the unit of them all: each stands at a distance
-- past the one address that is masked.
use Rattle.std.specs.Prelude.{◌≡◌, ℕ, zero, suc, ◌+◌, ◌-◌, ◌^◌, ◌≤◌, ◌<◌, ◌⊎◌, List, map}
use Rattle.std.specs.List.{range_with_len}
use Rattle.rv_word.specs.Bits.{wrap}
use Rattle.rv_image.specs.MemoryMap.{Profile}
use Rattle.rv_instr.specs.Registers.{Registers, get_reg}
use Rattle.rv_instr.specs.declared.instr.Instr.{Instr}
use Rattle.rv_instr.specs.declared.instr.Instr.TheVariants.{Store}
use Rattle.rv_code.specs.Step.{offset}
use Rattle.cfi_unit.specs.declared.members.Member.{Member}
use Rattle.cfi_runs.specs.Distances.{field, level}
use Rattle.cfi_runs.specs.Own.{Own, executes}
use Rattle.cfi_runs.specs.Tame.{touched}

-- the members at n places from one on
abbrev pub members_from : (ℕ → Member) → ℕ → ℕ → List Member
members_from member k n = map member (range_with_len k n)

-- an offset's field leads as far as another field and a distance do
pub record IsPast (mask imm distance : ℕ) : Type 0 where
  pub low : distance < 2 ^ 11
  pub sums : (y : ℕ) → wrap (y + offset 12 imm) ≡ wrap (wrap (y + offset 12 mask) + distance)

-- the field at a level leads, with the distance from there to its own level, as far as each of n more fields after the first one does,
-- and one of them is at that level
pub record IsMasked (imm : ℕ → ℕ) (first n low : ℕ) : Type 0 where
  pub small : low < 2 ^ 12
  pub past : (i : ℕ) → i ≤ n → IsPast (field low) (imm (first + i)) (level (imm (first + i)) - low)
  pub index : ℕ
  pub inside : index ≤ n
  pub none : level (imm (first + index)) - low ≡ 0

-- what tells that the address that is masked lies in the window of data, of n members from one on: one of them stores just there, or
-- no offset is added and the base register lies there
abbrev pub TellsLow : ℕ → ℕ → (ℕ → Member) → ℕ → ℕ → Registers → Type 0
TellsLow rs1 mask member k n r =
    ((index : ℕ) × (index < n) × ((member (k + index)).distance ≡ 0)) ⊎ ((mask ≡ 0) × (get_reg r rs1 < 2 ^ 28))

-- the program's own store at a place
abbrev pub own_store : ℕ → (ℕ → Member) → (ℕ → ℕ) → ℕ → Instr
own_store rs1 member imm k = Store (member k).op rs1 (member k).value (imm k)

module _ (p : Profile) (rs1 : ℕ) (member : ℕ → Member) (imm gate : ℕ → ℕ) where
  -- n stores from a place on, each in the window of data, lead from a state to another
  abbrev pub StoresRun : ℕ → ℕ → Own → Own → Type 0
  StoresRun k zero o last = last ≡ o
  StoresRun k (suc n) o last =
      (touched (own_store rs1 member imm k) o.regs ≤ 2 ^ 28)
      × StoresRun (k + 1) n (executes p o (own_store rs1 member imm k) o.regs (gate (k + 1))).state last
