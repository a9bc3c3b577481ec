-- What holds of a hart at each word of a unit: a constructor a word, named by its instruction, with
-- the pc, the shadow pointer x3, the scratch registers that the next words read, and what the unit
-- has found out. `n` counts the pending sites, `r` holds the registers at the unit's start.
use Rattle.std.specs.Prelude.{◌≡◌, ◌≢◌, ℕ, suc, ◌+◌, ◌*◌, ◌/◌, ◌^◌, ◌<◌, ◌≤◌, true, false, List, [], ◌∷◌, Some, length, slice_get, take}
use Rattle.rv_word.specs.Bits.{wrap}
use Rattle.rv_image.specs.MemoryMap.{CODE_START, CODE_SIZE, SHADOW_START, Profile, part_of, version_1, version_2}
use Rattle.rv_word.specs.Memory.{Memory, read}
use Rattle.rv_word.specs.Numbers.{is_listed}
use Rattle.rv_instr.specs.Registers.{Registers}
use Rattle.rv_code.specs.Arithmetic.{difference}
use Rattle.rv_code.specs.State.{Hart}
use Rattle.rv_code.specs.Step.{offset}
use Rattle.cfi_unit.specs.declared.mask.Mask.{Mask}
use Rattle.cfi_unit.specs.declared.mask.Mask.TheVariants.{Shifts, Short, Long}
use Rattle.cfi_unit.specs.declared.target_word.TargetWord.{TargetWord}
use Rattle.cfi_unit.specs.declared.target_word.TargetWord.TheVariants.{First, Third}
use Rattle.cfi_unit.specs.declared.unit.Unit as U
use Rattle.cfi_unit.specs.declared.unit.Unit.TheVariants as V
use Rattle.cfi_unit.specs.UnitWords.{STORE_MASK, mask_words, past}
use Rattle.cfi_unit.specs.Prologue.{OPENING, call_at}
use Rattle.cfi_unit.specs.Place.{Place, handler, opening, closing, body}
use Rattle.cfi_unit.specs.Shadow.{slot, MOST_PENDING}
use Rattle.cfi_unit.specs.Leads.{HasLabel, sum_of, destination}

-- the only word of a unit
pub data InWord (part at n : ℕ) (h : Hart) : Type 0 where
  only : h.pc ≡ at → h.regs 3 ≡ slot part n → InWord part at n h

pub data InBranch (part at n : ℕ) (h : Hart) : Type 0 where
  branch_test : h.pc ≡ at → h.regs 3 ≡ slot part n → InBranch part at n h
  branch_jump : h.pc ≡ at + 4 → h.regs 3 ≡ slot part n → InBranch part at n h

-- the tests of a system call's number, each two words, then the jump and the call: `x` is the number
pub data InGuarded (part at : ℕ) (numbers : List ℕ) (x n : ℕ) (h : Hart) : Type 0 where
  guarded_load : (k : ℕ) → k < length numbers → h.pc ≡ at + 4 * (2 * k) → h.regs 3 ≡ slot part n → h.regs 17 ≡ x →
      is_listed x (take k numbers) ≡ false → InGuarded part at numbers x n h
  guarded_test : (k number : ℕ) → slice_get numbers k ≡ Some number → h.pc ≡ at + 4 * (2 * k + 1) → h.regs 3 ≡ slot part n →
      h.regs 17 ≡ x → is_listed x (take k numbers) ≡ false → h.regs 31 ≡ number → InGuarded part at numbers x n h
  guarded_other : h.pc ≡ at + 4 * (2 * length numbers) → h.regs 3 ≡ slot part n → is_listed x numbers ≡ false →
      InGuarded part at numbers x n h
  guarded_call : h.pc ≡ at + 4 * (2 * length numbers + 1) → h.regs 3 ≡ slot part n → h.regs 17 ≡ x → is_listed x numbers ≡ true →
      InGuarded part at numbers x n h

-- the words of a mask
pub data InShifts (part at n : ℕ) (h : Hart) : Type 0 where
  shifts_addi : h.pc ≡ at → h.regs 3 ≡ slot part n → InShifts part at n h
  shifts_slli : h.pc ≡ at + 4 → h.regs 3 ≡ slot part n → InShifts part at n h
  shifts_srli : h.pc ≡ at + 8 → h.regs 3 ≡ slot part n → h.regs 31 < 2 ^ 64 → InShifts part at n h

pub data InShort (part at n : ℕ) (h : Hart) : Type 0 where
  short_and : h.pc ≡ at → h.regs 3 ≡ slot part n → h.regs 4 ≡ STORE_MASK → InShort part at n h

pub data InLong (part at n : ℕ) (h : Hart) : Type 0 where
  long_addi : h.pc ≡ at → h.regs 3 ≡ slot part n → h.regs 4 ≡ STORE_MASK → InLong part at n h
  long_and : h.pc ≡ at + 4 → h.regs 3 ≡ slot part n → h.regs 4 ≡ STORE_MASK → InLong part at n h

abbrev pub InMask : Mask → ℕ → ℕ → ℕ → Hart → Type 0
InMask Shifts part at n h = InShifts part at n h
InMask Short part at n h = InShort part at n h
InMask Long part at n h = InLong part at n h

-- stores: as many as `count` say
pub data InStores (mask : Mask) (part at count n : ℕ) (h : Hart) : Type 0 where
  stores_mask : InMask mask part at n h → InStores mask part at count n h
  stores_store : (k : ℕ) → k < count → h.pc ≡ at + 4 * (mask_words mask + k) → h.regs 3 ≡ slot part n → h.regs 31 < 2 ^ 28 →
      InStores mask part at count n h

-- the push of a site: x31 keeps `v` meanwhile
pub data InPush (part at v n : ℕ) (h : Hart) (m : Memory) : Type 0 where
  push_slli : h.pc ≡ at → h.regs 31 ≡ v → h.regs 3 ≡ slot part n → InPush part at v n h m
  push_bne : h.pc ≡ at + 4 → h.regs 31 ≡ v → h.regs 3 ≡ slot part n → h.regs 30 ≡ wrap (slot part n * 2 ^ 48) →
      InPush part at v n h m
  push_deep : h.pc ≡ at + 8 → h.regs 31 ≡ v → h.regs 3 ≡ slot part n → n ≡ MOST_PENDING → InPush part at v n h m
  push_auipc : h.pc ≡ at + 12 → h.regs 31 ≡ v → h.regs 3 ≡ slot part n → n < MOST_PENDING → InPush part at v n h m
  push_addi : h.pc ≡ at + 16 → h.regs 31 ≡ v → h.regs 3 ≡ slot part n → n < MOST_PENDING → h.regs 30 ≡ at + 12 →
      InPush part at v n h m
  push_store : h.pc ≡ at + 20 → h.regs 31 ≡ v → h.regs 3 ≡ slot part n → n < MOST_PENDING → h.regs 30 ≡ at + 32 →
      InPush part at v n h m
  push_grow : h.pc ≡ at + 24 → h.regs 31 ≡ v → h.regs 3 ≡ slot part n → n < MOST_PENDING →
      read 8 m (slot part n) ≡ at + 32 → InPush part at v n h m

-- after the push: the site stands in its slot, and x3 is past it
pub record Pushed (part site v n : ℕ) (h : Hart) (m : Memory) : Type 0 where
  pub kept : h.regs 31 ≡ v
  pub pointer : h.regs 3 ≡ slot part (suc n)
  pub room : n < MOST_PENDING
  pub site_is : read 8 m (slot part n) ≡ site

pub data InCall (part at v n : ℕ) (h : Hart) (m : Memory) : Type 0 where
  call_push : InPush part at v n h m → InCall part at v n h m
  call_jump : h.pc ≡ at + 28 → Pushed part (at + 32) v n h m → InCall part at v n h m

-- an address in the region of code
pub record IsCodeAddress (v : ℕ) : Type 0 where
  pub low : CODE_START ≤ v
  pub high : v < CODE_START + CODE_SIZE

-- the check of a computed transfer: `sum` is its destination before its low two bits are cleared, v
-- the same after, and `which` the word of it that is read
pub data InCheck (part : ℕ) (image : Memory) (which : TargetWord) (at rs1 imm label sum v n : ℕ) (h : Hart) : Type 0 where
  check_addi : h.pc ≡ at → h.regs 3 ≡ slot part n → sum_of h.regs rs1 imm ≡ sum →
      InCheck part image which at rs1 imm label sum v n h
  check_andi : h.pc ≡ at + 4 → h.regs 3 ≡ slot part n → h.regs 31 ≡ sum →
      InCheck part image which at rs1 imm label sum v n h
  check_lui : h.pc ≡ at + 8 → h.regs 3 ≡ slot part n → h.regs 31 ≡ v →
      InCheck part image which at rs1 imm label sum v n h
  check_sub : h.pc ≡ at + 12 → h.regs 3 ≡ slot part n → h.regs 31 ≡ v → h.regs 30 ≡ CODE_START →
      InCheck part image which at rs1 imm label sum v n h
  check_srli : h.pc ≡ at + 16 → h.regs 3 ≡ slot part n → h.regs 31 ≡ v → h.regs 30 ≡ difference v CODE_START →
      InCheck part image which at rs1 imm label sum v n h
  check_region : h.pc ≡ at + 20 → h.regs 3 ≡ slot part n → h.regs 31 ≡ v → h.regs 30 ≡ difference v CODE_START / 2 ^ 20 →
      InCheck part image which at rs1 imm label sum v n h
  check_outside : h.pc ≡ at + 24 → h.regs 3 ≡ slot part n → (IsCodeAddress v → ⊥) →
      InCheck part image which at rs1 imm label sum v n h
  check_lw : h.pc ≡ at + 28 → h.regs 3 ≡ slot part n → h.regs 31 ≡ v → IsCodeAddress v →
      InCheck part image which at rs1 imm label sum v n h
  check_label : h.pc ≡ at + 32 → h.regs 3 ≡ slot part n → h.regs 31 ≡ v → IsCodeAddress v →
      h.regs 30 ≡ offset 32 (read 4 image (v + past which)) → InCheck part image which at rs1 imm label sum v n h
  check_opcode : h.pc ≡ at + 36 → h.regs 3 ≡ slot part n → h.regs 31 ≡ v → IsCodeAddress v →
      h.regs 30 ≡ offset 32 (read 4 image (v + past which)) → h.regs 4 ≡ offset 32 (label * 2 ^ 12) →
      InCheck part image which at rs1 imm label sum v n h
  check_word : h.pc ≡ at + 40 → h.regs 3 ≡ slot part n → h.regs 31 ≡ v → IsCodeAddress v →
      h.regs 30 ≡ offset 32 (read 4 image (v + past which)) → h.regs 4 ≡ wrap (offset 32 (label * 2 ^ 12) + 55) →
      InCheck part image which at rs1 imm label sum v n h
  check_other : h.pc ≡ at + 44 → h.regs 3 ≡ slot part n → (HasLabel image which label v → ⊥) →
      InCheck part image which at rs1 imm label sum v n h

-- after the check: x31 is the destination, whose word bears the label
pub record Checked (part : ℕ) (image : Memory) (which : TargetWord) (label v n : ℕ) (h : Hart) : Type 0 where
  pub destination_is : h.regs 31 ≡ v
  pub pointer : h.regs 3 ≡ slot part n
  pub legal : HasLabel image which label v

pub data InIjump (part : ℕ) (image : Memory) (which : TargetWord) (at rs1 imm label sum v n : ℕ) (h : Hart) : Type 0 where
  ijump_check : InCheck part image which at rs1 imm label sum v n h → InIjump part image which at rs1 imm label sum v n h
  ijump_jump : h.pc ≡ at + 48 → Checked part image which label v n h → InIjump part image which at rs1 imm label sum v n h

pub data InIcall (part : ℕ) (image : Memory) (at rs1 imm label sum v n : ℕ) (h : Hart) (m : Memory) : Type 0 where
  icall_check : InCheck part image First at rs1 imm label sum v n h → InIcall part image at rs1 imm label sum v n h m
  icall_push : HasLabel image First label v → InPush part (at + 48) v n h m → InIcall part image at rs1 imm label sum v n h m
  icall_jump : h.pc ≡ at + 76 → HasLabel image First label v → Pushed part (at + 80) v n h m →
      InIcall part image at rs1 imm label sum v n h m

-- a computed transfer that makes the mask of stores again behind its check
pub data InLean (part : ℕ) (image : Memory) (which : TargetWord) (at rs1 imm label sum v n : ℕ) (h : Hart) : Type 0 where
  lean_check : InCheck part image which at rs1 imm label sum v n h → InLean part image which at rs1 imm label sum v n h
  lean_upper : h.pc ≡ at + 48 → Checked part image which label v n h → InLean part image which at rs1 imm label sum v n h
  lean_lower : h.pc ≡ at + 52 → Checked part image which label v n h → h.regs 4 ≡ STORE_MASK + 1 →
      InLean part image which at rs1 imm label sum v n h
  lean_jump : h.pc ≡ at + 56 → Checked part image which label v n h → h.regs 4 ≡ STORE_MASK →
      InLean part image which at rs1 imm label sum v n h

-- an enter: `link` is x1
pub data InEnter (part at link n : ℕ) (h : Hart) (m : Memory) : Type 0 where
  enter_slli : h.pc ≡ at → h.regs 3 ≡ slot part n → h.regs 1 ≡ link → InEnter part at link n h m
  enter_bne : h.pc ≡ at + 4 → h.regs 3 ≡ slot part n → h.regs 1 ≡ link → h.regs 30 ≡ wrap (slot part n * 2 ^ 48) → InEnter part at link n h m
  enter_deep : h.pc ≡ at + 8 → h.regs 3 ≡ slot part n → n ≡ MOST_PENDING → InEnter part at link n h m
  enter_store : h.pc ≡ at + 12 → h.regs 3 ≡ slot part n → h.regs 1 ≡ link → n < MOST_PENDING → InEnter part at link n h m
  enter_grow : h.pc ≡ at + 16 → h.regs 3 ≡ slot part n → n < MOST_PENDING → read 8 m (slot part n) ≡ link → InEnter part at link n h m

-- a return to the site in x1
pub data InLeafReturn (part at link n : ℕ) (h : Hart) : Type 0 where
  leaf_jump : h.pc ≡ at → h.regs 3 ≡ slot part n → h.regs 1 ≡ link → InLeafReturn part at link n h

-- a return: `link` is x1 at its start, `site` the newest site, and `n` counts the older ones
pub data InReturn (part at link site n : ℕ) (h : Hart) : Type 0 where
  return_ld : h.pc ≡ at → h.regs 3 ≡ slot part (suc n) → h.regs 1 ≡ link → InReturn part at link site n h
  return_addi : h.pc ≡ at + 4 → h.regs 3 ≡ slot part (suc n) → h.regs 1 ≡ link → h.regs 31 ≡ site →
      InReturn part at link site n h
  return_beq : h.pc ≡ at + 8 → h.regs 3 ≡ slot part n → h.regs 1 ≡ link → h.regs 31 ≡ site →
      InReturn part at link site n h
  return_other : h.pc ≡ at + 12 → h.regs 3 ≡ slot part n → link ≢ site → InReturn part at link site n h
  return_jump : h.pc ≡ at + 16 → h.regs 3 ≡ slot part n → link ≡ site → h.regs 31 ≡ site →
      InReturn part at link site n h

-- the opening's words before its call: of a lone hart
pub data InLoneSetUp (h : Hart) : Type 0 where
  lone_stack : h.pc ≡ OPENING → InLoneSetUp h
  lone_shadow : h.pc ≡ OPENING + 4 → InLoneSetUp h
  lone_slot : h.pc ≡ OPENING + 8 → h.regs 3 ≡ SHADOW_START → InLoneSetUp h

-- and of one of several, whose own part is that of the number in x10
pub data InOwnSetUp (part : ℕ) (h : Hart) : Type 0 where
  own_stack : h.pc ≡ OPENING → part ≡ part_of (h.regs 10) → InOwnSetUp part h
  own_stack_offset : h.pc ≡ OPENING + 4 → part ≡ part_of (h.regs 10) → InOwnSetUp part h
  own_stack_end : h.pc ≡ OPENING + 8 → part ≡ part_of (h.regs 10) → InOwnSetUp part h
  own_shadow : h.pc ≡ OPENING + 12 → part ≡ part_of (h.regs 10) → InOwnSetUp part h
  own_offset : h.pc ≡ OPENING + 16 → part ≡ part_of (h.regs 10) → h.regs 3 ≡ SHADOW_START → InOwnSetUp part h
  own_part : h.pc ≡ OPENING + 20 → part ≡ SHADOW_START + h.regs 31 → h.regs 3 ≡ SHADOW_START → InOwnSetUp part h
  own_slot : h.pc ≡ OPENING + 24 → h.regs 3 ≡ part → InOwnSetUp part h

-- `v` is whatever x31 holds before the call
pub data InOpening (p : Profile) (part : ℕ) (h : Hart) (m : Memory) : Type 0 where
  opening_lone : p ≡ version_1 → InLoneSetUp h → InOpening p part h m
  opening_own : p ≡ version_2 → InOwnSetUp part h → InOpening p part h m
  opening_call : (v : ℕ) → InCall part (call_at p) v 0 h m → InOpening p part h m

pub data InClosing (at : ℕ) (h : Hart) : Type 0 where
  closing_number : h.pc ≡ at → InClosing at h
  closing_ecall : h.pc ≡ at + 4 → h.regs 17 ≡ 93 → InClosing at h

-- any other unit is one word
abbrev pub InUnit : ℕ → Memory → U.Unit → ℕ → List ℕ → Registers → Hart → Memory → Type 0
InUnit part image (V.Branch op rs1 rs2 target) at pending r h m = InBranch part at (length pending) h
InUnit part image (V.Guarded numbers) at pending r h m = InGuarded part at numbers (r 17) (length pending) h
InUnit part image (V.Stores mask rs1 imm members) at pending r h m = InStores mask part at (length members) (length pending) h
InUnit part image (V.Call target) at pending r h m = InCall part at (r 31) (length pending) h m
InUnit part image (V.Ijump which rs1 imm label) at pending r h m =
    InIjump part image which at rs1 imm label (sum_of r rs1 imm) (destination r rs1 imm) (length pending) h
InUnit part image (V.Icall rs1 imm label) at pending r h m =
    InIcall part image at rs1 imm label (sum_of r rs1 imm) (destination r rs1 imm) (length pending) h m
InUnit part image V.Enter at pending r h m = (r 1 < 2 ^ 64) × InEnter part at (r 1) (length pending) h m
InUnit part image (V.LeanIjump rs1 imm label) at pending r h m =
    InLean part image First at rs1 imm label (sum_of r rs1 imm) (destination r rs1 imm) (length pending) h
InUnit part image (V.LeanIcall rs1 imm label) at pending r h m =
    InLean part image Third at rs1 imm label (sum_of r rs1 imm) (destination r rs1 imm) (length pending) h
InUnit part image V.LeafReturn at pending r h m = InLeafReturn part at (r 1) (length pending) h
InUnit part image V.Return at [] r h m = ⊥
InUnit part image V.Return at (site ∷ pending) r h m = InReturn part at (r 1) site (length pending) h
InUnit part image other at pending r h m = InWord part at (length pending) h

abbrev pub InPlace : Profile → ℕ → Memory → Place → ℕ → List ℕ → Registers → Hart → Memory → Type 0
InPlace p part image handler at pending r h m = h.pc ≡ at
InPlace p part image (opening entry) at pending r h m = InOpening p part h m
InPlace p part image closing at pending r h m = InClosing at h
InPlace p part image (body unit) at pending r h m = InUnit part image unit at pending r h m
