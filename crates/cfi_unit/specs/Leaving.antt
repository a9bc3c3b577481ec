-- How a unit is left: to where, with which registers and pending sites, and what harts then share.
use Rattle.std.specs.Prelude.{◌≡◌, ℕ, ◌+◌, ◌==◌, ◌%◌, ◌^◌, Bool, false, List, [], ◌∷◌, length, Option, Some, None}
use Rattle.std.specs.List.{list_any}
use Rattle.rv_image.specs.MemoryMap.{Profile}
use Rattle.rv_word.specs.Memory.{Memory, write}
use Rattle.rv_instr.specs.Operands.{written}
use Rattle.rv_instr.specs.Registers.{Registers, get_reg}
use Rattle.rv_instr.specs.Reserved.{is_reserved}
use Rattle.rv_instr.specs.declared.instr.Instr.{Instr}
use Rattle.rv_instr.specs.declared.instr.Instr.TheVariants.{Ecall}
use Rattle.rv_code.specs.Arithmetic.{store_size}
use Rattle.rv_code.specs.State.{Hart, Shared, After}
use Rattle.rv_code.specs.Step.{exec}
use Rattle.rv_code.specs.declared.turn.Turn.TheVariants.{Ran}
use Rattle.cfi_unit.specs.declared.members.Member.{Member}
use Rattle.cfi_unit.specs.Shadow.{slot}
use Rattle.cfi_unit.specs.Context.{Kept, Context}
use Rattle.cfi_unit.specs.Leads.{sum_of}

-- the program's registers are the same: all but those that units keep for themselves
pub record SameRegisters (r regs : Registers) : Type 0 where
  pub same : (k : ℕ) → is_reserved k ≡ false → regs k ≡ r k

-- memory is this one, all else that is shared is the same
abbrev pub with_memory : Shared → Memory → Shared
with_memory s m = record s { memory = m }

-- a site is put into the slot past `n` pending sites
abbrev pub pushed : ℕ → ℕ → ℕ → Shared → Shared
pushed part n site s = with_memory s (write 8 s.memory (slot part n) site)

-- the register that an instruction puts its result into: x10 at a system call
abbrev pub result_register : Instr → Option ℕ
result_register Ecall = Some 10
result_register other = written other

-- some of these instructions puts its result into a register
abbrev pub is_this : Option ℕ → ℕ → Bool
is_this (Some rd) k = rd == k
is_this None k = false

abbrev pub write_register : List Instr → ℕ → Bool
write_register instrs k = list_any (λ i. is_this (result_register i) k) instrs

-- the scratch registers are the same, but for those into which some of these instructions puts its result
pub record SameScratch (instrs : List Instr) (r regs : Registers) : Type 0 where
  pub x4 : write_register instrs 4 ≡ false → regs 4 ≡ r 4
  pub x30 : write_register instrs 30 ≡ false → regs 30 ≡ r 30
  pub x31 : write_register instrs 31 ≡ false → regs 31 ≡ r 31

-- the unit is left to `next`: the program's registers are `r`, x3 is past the newest pending site
pub record LeftTo (part : ℕ) (image base : Memory) (next : ℕ) (pending : List ℕ) (r : Registers) (IsShared : Shared → Type 0) (after : After) : Type 0 where
  pub turn : after.turn ≡ Ran
  pub pc : after.hart.pc ≡ next
  pub regs : SameRegisters r after.hart.regs
  pub pointer : after.hart.regs 3 ≡ slot part (length pending)
  pub shared : IsShared after.shared
  pub context : Context part image base pending after.shared

-- the unit is left to a handler, which ends the run; the program's registers are `r`
pub record HaltsAt (part : ℕ) (image base : Memory) (handler : ℕ) (pending : List ℕ) (r : Registers) (IsShared : Shared → Type 0) (after : After) : Type 0 where
  pub turn : after.turn ≡ Ran
  pub pc : after.hart.pc ≡ handler
  pub regs : SameRegisters r after.hart.regs
  pub shared : IsShared after.shared
  pub context : Context part image base pending after.shared

-- one instruction is executed, on what is shared then: so it ends as that does, and no register but
-- its result's is written, and not x3; where it ran, the next word is next
pub record Executes (p : Profile) (part : ℕ) (image base : Memory) (instr : Instr) (pending : List ℕ) (h : Hart) (IsShared : Shared → Type 0) (after : After) : Type 0 where
  pub seen : Shared
  pub may_see : IsShared seen
  pub executed : after ≡ exec p instr h seen
  pub others : (k : ℕ) → (result_register instr ≡ Some k → ⊥) → after.hart.regs k ≡ h.regs k
  pub pointer : after.hart.regs 3 ≡ h.regs 3
  pub kept : Kept part image base pending after.shared.memory
  pub context : after.turn ≡ Ran → Context part image base pending after.shared
  pub pc : after.turn ≡ Ran → after.hart.pc ≡ h.pc + 4

-- a system call is made behind other words of its unit: the program's registers are `r` where it is
pub record CallsAt (p : Profile) (part : ℕ) (image base : Memory) (at : ℕ) (pending : List ℕ) (r : Registers) (IsShared : Shared → Type 0) (after : After) : Type 0 where
  pub hart : Hart
  pub here : hart.pc ≡ at
  pub same : SameRegisters r hart.regs
  pub pointer : hart.regs 3 ≡ slot part (length pending)
  pub executes : Executes p part image base Ecall pending hart IsShared after

-- the address of stores behind one mask
abbrev pub masked : Registers → ℕ → ℕ → ℕ
masked r rs1 imm = sum_of r rs1 imm % 2 ^ 28

-- a member of them writes memory alone: its register's value, at its distance past the masked address
abbrev pub stored_at : ℕ → Registers → Member → Shared → Shared
stored_at a r m s = with_memory s (write (store_size m.op) s.memory (a + m.distance) (get_reg r m.value))

-- one after the other, each on what is shared then. Of x31, which holds the masked address, a member
-- stores this address
abbrev pub StoresEach : (Shared → Shared → Type 0) → ℕ → Registers → List Member → Shared → Shared → Type 0
StoresEach may a r [] s s' = s' ≡ s
StoresEach may a r (m ∷ members) s s' = (seen : Shared) × may s seen × StoresEach may a r members (stored_at a r m seen) s'
