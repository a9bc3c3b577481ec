-- The unit that begins a list of words: its shape is the one of the table that is found there, and its fields are read
-- from the words that the shape leaves open. It is the unit that `Begins` the list.
use Rattle.std.specs.Prelude.{ℕ, zero, suc, ◌+◌, List, [], ◌∷◌, Option, Some, None, option_map, if◌then◌else◌, nat_lt, option_and_then}
use Rattle.rv_word.specs.Numbers.{MOST_NUMBERS}
use Rattle.rv_instr.specs.declared.instr.Instr.{Instr}
use Rattle.rv_instr.specs.declared.instr.Instr.TheVariants.{Upper, Branch, Immediate, Register}
use Rattle.cfi_unit.specs.declared.pattern.End.{End}
use Rattle.cfi_unit.specs.declared.pattern.End.TheVariants as E
use Rattle.cfi_unit.specs.declared.unit.Unit as U
use Rattle.cfi_unit.specs.declared.unit.Unit.TheVariants as V
use Rattle.cfi_unit.specs.declared.unit.SystemOp.TheVariants as S
use Rattle.cfi_unit.specs.declared.mask.Mask.{Mask}
use Rattle.cfi_unit.specs.declared.mask.Mask.TheVariants.{Short}
use Rattle.cfi_unit.specs.declared.members.Member.{Member}
use Rattle.cfi_unit.specs.Members.{MOST_MEMBERS, member_of}
use Rattle.cfi_unit.specs.UnitWords.{instr_at, mask_words}
pub use Rattle.cfi_unit.specs.Reach.{led_to, near_to, target_in}
use Rattle.cfi_unit.specs.FoundShape.{found_shape}

-- the label of a `lui`
abbrev pub label_in : Option Instr → Option ℕ
label_in (Some (Upper op rd imm)) = Some imm
label_in other = None

-- a branch, with a target or over a jump
abbrev pub near_in : ℕ → Option Instr → Option U.Unit
near_in at (Some (Branch op rs1 rs2 imm)) = Some (V.Near op rs1 rs2 (near_to at imm))
near_in at other = None

abbrev pub branch_in : Option Instr → ℕ → Option U.Unit
branch_in (Some (Branch op rs1 rs2 imm)) target = Some (V.Branch op rs1 rs2 target)
branch_in other target = None

-- the register and the offset of an address
abbrev pub address_in : Option Instr → Option (ℕ × ℕ)
address_in (Some (Immediate op rd rs1 imm)) = Some (rs1, imm)
address_in other = None

-- the first operand of an instruction on two registers
abbrev pub base_in : Option Instr → Option ℕ
base_in (Some (Register op rd rs1 rs2)) = Some rs1
base_in other = None

-- the register and the offset that a mask begins with
abbrev pub masked_in : Mask → Option Instr → Option (ℕ × ℕ)
masked_in Short first = option_map (λ rs1. (rs1, 0)) (base_in first)
masked_in other first = address_in first

-- the number that a test loads
abbrev pub number_in : Option Instr → Option ℕ
number_in (Some (Immediate op rd rs1 n)) = if nat_lt n 2048 then Some n else None
number_in other = None

abbrev pub put_first : {A : Type 0} → Option A → List A → List A
put_first None items = []
put_first (Some item) items = item ∷ items

-- what is read of the word at a place, and then of each that is so many words on, until nothing is, at most so often
unfoldable pub read_each : {A : Type 0} → (Option Instr → Option A) → ℕ → List ℕ → ℕ → ℕ → List A
read_each read step words k zero = []
read_each read step words k (suc most) = put_first (read (instr_at words k)) (read_each read step words (k + step) most)

abbrev pub numbers_in : List ℕ → List ℕ
numbers_in words = read_each number_in 2 words 0 MOST_NUMBERS

abbrev pub members_in : Mask → List ℕ → List Member
members_in mask words = read_each member_of 1 words (mask_words mask) MOST_MEMBERS

-- the register and the offset of a computed transfer, and its label
abbrev pub transfer_in : List ℕ → Option (ℕ × ℕ × ℕ)
transfer_in words =
    option_and_then (λ label. option_map (λ a. (a.0, a.1, label)) (address_in (instr_at words 0))) (label_in (instr_at words 8))

abbrev pub stores_in : Mask → List ℕ → Option U.Unit
stores_in mask words = option_map (λ a. V.Stores mask a.0 a.1 (members_in mask words)) (masked_in mask (instr_at words 0))

-- the unit of a kind whose words these are
abbrev pub unit_of : End → List ℕ → ℕ → Option U.Unit
unit_of E.Gate words at = option_map V.Gate (label_in (instr_at words 0))
unit_of E.Plain words at = option_map V.Plain (instr_at words 0)
unit_of E.Stop words at = Some V.Stop
unit_of E.Jump words at = option_map V.Jump (target_in at (instr_at words 0))
unit_of E.Ecall words at = Some (V.System S.Ecall)
unit_of E.Ebreak words at = Some (V.System S.Ebreak)
unit_of E.Near words at = near_in at (instr_at words 0)
unit_of E.Over words at = near_in at (instr_at words 0)
unit_of E.Branch words at = option_and_then (branch_in (instr_at words 0)) (target_in (at + 4) (instr_at words 1))
unit_of E.Call words at = option_map V.Call (target_in (at + 28) (instr_at words 7))
unit_of (E.Ijump which) words at = option_map (λ t. V.Ijump which t.0 t.1 t.2) (transfer_in words)
unit_of E.Icall words at = option_map (λ t. V.Icall t.0 t.1 t.2) (transfer_in words)
unit_of E.Return words at = Some V.Return
unit_of E.Guarded words at = Some (V.Guarded (numbers_in words))
unit_of (E.Stores mask) words at = stores_in mask words
unit_of (E.Full mask) words at = stores_in mask words
unit_of E.LinkCall words at = option_map V.LinkCall (target_in at (instr_at words 0))
unit_of E.Enter words at = Some V.Enter
unit_of E.LeanIjump words at = option_map (λ t. V.LeanIjump t.0 t.1 t.2) (transfer_in words)
unit_of E.LeanIcall words at = option_map (λ t. V.LeanIcall t.0 t.1 t.2) (transfer_in words)
unit_of E.LeafReturn words at = Some V.LeafReturn

unfoldable pub recognised : List ℕ → ℕ → Option U.Unit
recognised words at = option_and_then (λ s. unit_of s.end words at) (found_shape words at)
