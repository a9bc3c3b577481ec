-- The units: what instructions each is, at an address. x3 points to the shadow stack; x4, x30 and
-- x31 are scratch, but that x4 holds the mask of stores where units use it so; no plain unit's instruction writes one of these four.
use Rattle.std.specs.Prelude.{◌≡◌, ℕ, ◌+◌, ◌-◌, ◌*◌, ◌/◌, ◌%◌, ◌^◌, ◌<◌, ◌==◌, ◌&&◌, ◌||◌, Bool, true, false, is_none, length, nat_le, not, IsTrue, List, [], ◌∷◌, ◌++◌, map, take, drop, ◌≢◌, Option, Some, slice_get, option_and_then}
use Rattle.rv_word.specs.Bits.{wrap}
use Rattle.rv_image.specs.declared.unit_words.TheConstants as counts
use Rattle.rv_instr.specs.InRange.{IsInstr}
use Rattle.rv_instr.specs.Reserved.{is_reserved}
use Rattle.rv_instr.specs.declared.instr.Instr.{Instr}
use Rattle.rv_instr.specs.declared.instr.Instr.TheVariants.{Upper, Jal, Jalr, Branch, Load, Store, Immediate, Shift, ShiftWord, Register, Fence, Ecall, Ebreak}
use Rattle.rv_instr.specs.declared.instr.UpperOp.{UpperOp}
use Rattle.rv_instr.specs.declared.instr.UpperOp.TheVariants.{Lui, Auipc}
use Rattle.rv_instr.specs.declared.instr.ImmediateOp.TheVariants.{Addi, Andi}
use Rattle.rv_instr.specs.declared.instr.ShiftOp.TheVariants.{Slli, Srli}
use Rattle.rv_instr.specs.declared.instr.RegisterOp.TheVariants.{And, Sub}
use Rattle.rv_instr.specs.declared.instr.BranchOp.TheVariants.{Beq, Bne}
use Rattle.rv_instr.specs.declared.instr.LoadOp.TheVariants.{Lw, Ld}
use Rattle.rv_instr.specs.declared.instr.StoreOp.TheVariants.{Sd}
use Rattle.rv_code.specs.Decode.{decoded}
use Rattle.rv_code.specs.Encode.{code_of}
use Rattle.rv_code.specs.Step.{offset}
use Rattle.cfi_unit.specs.Members.{AreMembers, MOST_MEMBERS, member_instr, member_of}
use Rattle.cfi_unit.specs.Guarded.{AreNumbers, guards}
use Rattle.cfi_unit.specs.declared.handlers.TheConstants as handlers
use Rattle.cfi_unit.specs.declared.target_word.TargetWord.{TargetWord}
use Rattle.cfi_unit.specs.declared.mask.Mask.{Mask}
use Rattle.cfi_unit.specs.declared.mask.Mask.TheVariants.{Shifts, Short, Long}
use Rattle.cfi_unit.specs.declared.target_word.TargetWord.TheVariants.{First, Second, Third}
use Rattle.cfi_unit.specs.declared.unit.Unit as U
use Rattle.cfi_unit.specs.declared.unit.Unit.TheVariants as V
use Rattle.cfi_unit.specs.declared.unit.SystemOp.{SystemOp}
use Rattle.cfi_unit.specs.declared.unit.SystemOp.TheVariants as S

-- the handlers, and where they stand
abbrev pub BAD_TARGET : ℕ
BAD_TARGET = handlers.BAD_TARGET

abbrev pub BAD_RETURN : ℕ
BAD_RETURN = handlers.BAD_RETURN

abbrev pub DEEP : ℕ
DEEP = handlers.DEEP

-- the offset field of a jump from one address to another: it counts in multiples of two bytes
abbrev pub jump_offset : ℕ → ℕ → ℕ
jump_offset from to = wrap (to + (2 ^ 64 - wrap from)) / 2 % 2 ^ 20

-- a jump from one address reaches another: its offset, as the hart reads it, leads there
abbrev pub Reaches : ℕ → ℕ → Type 0
Reaches from to = wrap (from + offset 21 (jump_offset from to * 2)) ≡ to

-- the same of a branch, whose field has 12 bits
abbrev pub near_offset : ℕ → ℕ → ℕ
near_offset from to = wrap (to + (2 ^ 64 - wrap from)) / 2 % 2 ^ 12

abbrev pub IsNear : ℕ → ℕ → Type 0
IsNear from to = wrap (from + offset 13 (near_offset from to * 2)) ≡ to

-- `jal x0` from an address to another
abbrev pub jump : ℕ → ℕ → Instr
jump from to = Jal 0 (jump_offset from to)

-- `lui x0, label`
abbrev pub gate : ℕ → Instr
gate label = Upper Lui 0 label

-- the offset field of a branch over one instruction: eight bytes, in multiples of two
abbrev pub skip_offset : ℕ
skip_offset = 4

-- the constants -8 and -4 as 12-bit fields
abbrev pub MINUS_EIGHT : ℕ
MINUS_EIGHT = 0xff8

abbrev pub MINUS_FOUR : ℕ
MINUS_FOUR = 0xffc

-- the first seven words of a call: halt where the shadow stack is full, else put the address that
-- lies 32 bytes on, after the transfer, onto it
abbrev pub push : ℕ → List Instr
push at =
    Shift Slli 30 3 48
    ∷ Branch Bne 30 0 skip_offset
    ∷ jump (at + 8) DEEP
    ∷ Upper Auipc 30 0
    ∷ Immediate Addi 30 30 20
    ∷ Store Sd 3 30 0
    ∷ Immediate Addi 3 3 8
    ∷ []

-- how far behind its destination a check reads
abbrev pub past : TargetWord → ℕ
past First = 0
past Second = 4
past Third = 8

-- the check of a computed transfer: clear the low two bits of the destination, halt unless it lies
-- in code, halt unless this word of it is `lui x0, label`
abbrev pub check : ℕ → ℕ → ℕ → ℕ → TargetWord → List Instr
check at rs1 imm label which =
    Immediate Addi 31 rs1 imm
    ∷ Immediate Andi 31 31 MINUS_FOUR
    ∷ Upper Lui 30 0x40000
    ∷ Register Sub 30 31 30
    ∷ Shift Srli 30 30 20
    ∷ Branch Beq 30 0 skip_offset
    ∷ jump (at + 24) BAD_TARGET
    ∷ Load Lw 30 31 (past which)
    ∷ Upper Lui 4 label
    ∷ Immediate Addi 4 4 55
    ∷ Branch Beq 30 4 skip_offset
    ∷ jump (at + 44) BAD_TARGET
    ∷ []

-- the constant -1 as a 12-bit field
abbrev pub MINUS_ONE : ℕ
MINUS_ONE = 0xfff

-- what x4 holds where units mask by it: 2^28 - 1
abbrev pub STORE_MASK : ℕ
STORE_MASK = 2 ^ 28 - 1

-- the two words that put it there
abbrev pub mask_made : List Instr
mask_made = Upper Lui 4 0x10000 ∷ Immediate Addi 4 4 MINUS_ONE ∷ []

-- an address modulo 2^28, into x31
abbrev pub mask_instrs : Mask → ℕ → ℕ → List Instr
mask_instrs Shifts rs1 imm = Immediate Addi 31 rs1 imm ∷ Shift Slli 31 31 36 ∷ Shift Srli 31 31 36 ∷ []
mask_instrs Short rs1 imm = Register And 31 rs1 4 ∷ []
mask_instrs Long rs1 imm = Immediate Addi 31 rs1 imm ∷ Register And 31 31 4 ∷ []

abbrev pub mask_words : Mask → ℕ
mask_words Shifts = 3
mask_words Short = 1
mask_words Long = 2

-- a short mask has no offset
abbrev pub MaskFits : Mask → ℕ → Type 0
MaskFits Short imm = imm ≡ 0
MaskFits other imm = Unit {0}

abbrev pub system_instr : SystemOp → Instr
system_instr S.Ecall = Ecall
system_instr S.Ebreak = Ebreak

-- the instructions of a unit at an address
abbrev pub instrs_of : U.Unit → ℕ → List Instr
instrs_of (V.Gate label) at = gate label ∷ []
instrs_of (V.Plain instr) at = instr ∷ []
instrs_of (V.Branch op rs1 rs2 target) at = Branch op rs1 rs2 skip_offset ∷ jump (at + 4) target ∷ []
instrs_of (V.Near op rs1 rs2 target) at = Branch op rs1 rs2 (near_offset at target) ∷ []
instrs_of (V.Jump target) at = jump at target ∷ []
instrs_of V.Stop at = jump at BAD_TARGET ∷ []
instrs_of (V.System op) at = system_instr op ∷ []
instrs_of (V.Guarded numbers) at = guards numbers ++ (jump (at + 8 * length numbers) BAD_TARGET ∷ Ecall ∷ [])
instrs_of (V.Stores mask rs1 imm members) at = mask_instrs mask rs1 imm ++ map member_instr members
instrs_of (V.Call target) at = push at ++ Jal 1 (jump_offset (at + 28) target) ∷ []
instrs_of (V.Ijump which rs1 imm label) at = check at rs1 imm label which ++ Jalr 0 31 0 ∷ []
instrs_of (V.Icall rs1 imm label) at = check at rs1 imm label First ++ push (at + 48) ++ Jalr 1 31 0 ∷ []
instrs_of V.Return at =
    Load Ld 31 3 MINUS_EIGHT
    ∷ Immediate Addi 3 3 MINUS_EIGHT
    ∷ Branch Beq 31 1 skip_offset
    ∷ jump (at + 12) BAD_RETURN
    ∷ Jalr 0 31 0
    ∷ []
instrs_of (V.LinkCall target) at = Jal 1 (jump_offset at target) ∷ []
instrs_of V.Enter at =
    Shift Slli 30 3 48
    ∷ Branch Bne 30 0 skip_offset
    ∷ jump (at + 8) DEEP
    ∷ Store Sd 3 1 0
    ∷ Immediate Addi 3 3 8
    ∷ []
instrs_of (V.LeanIjump rs1 imm label) at = check at rs1 imm label First ++ mask_made ++ Jalr 0 31 0 ∷ []
instrs_of (V.LeanIcall rs1 imm label) at = check at rs1 imm label Third ++ mask_made ++ Jalr 1 31 8 ∷ []
instrs_of V.LeafReturn at = Jalr 0 1 0 ∷ []

-- the words of a unit at an address
unfoldable pub words_of : U.Unit → ℕ → List ℕ
words_of unit at = map code_of (instrs_of unit at)

abbrev pub is_lui : UpperOp → Bool
is_lui Lui = true
is_lui Auipc = false

-- an instruction that may stand alone: no transfer, store, system call, break or gate, and it writes
-- no reserved register
abbrev pub is_plain : Instr → Bool
is_plain (Upper op rd imm) = not (is_reserved rd) && not (is_lui op && (rd == 0))
is_plain (Jal rd imm) = false
is_plain (Jalr rd rs1 imm) = false
is_plain (Branch op rs1 rs2 imm) = false
is_plain (Load op rd rs1 imm) = not (is_reserved rd)
is_plain (Store op rs1 rs2 imm) = false
is_plain (Immediate op rd rs1 imm) = not (is_reserved rd)
is_plain (Shift op rd rs1 amount) = not (is_reserved rd)
is_plain (ShiftWord op rd rs1 amount) = not (is_reserved rd)
is_plain (Register op rd rs1 rs2) = not (is_reserved rd)
is_plain (Fence word) = true
is_plain Ecall = false
is_plain Ebreak = false

-- a check's fields are in range, and its halts reach the handler
abbrev pub CheckFits : ℕ → ℕ → ℕ → ℕ → Type 0
CheckFits at rs1 imm label =
    (rs1 < 32) × (imm < 2 ^ 12) × (label < 2 ^ 20) × Reaches (at + 24) BAD_TARGET × Reaches (at + 44) BAD_TARGET

-- a unit may stand at an address: its fields are in range, its jumps reach their targets
abbrev pub Fits : U.Unit → ℕ → Type 0
Fits (V.Gate label) at = label < 2 ^ 20
Fits (V.Plain instr) at = IsInstr instr × IsTrue (is_plain instr)
Fits (V.Branch op rs1 rs2 target) at = (rs1 < 32) × (rs2 < 32) × Reaches (at + 4) target
Fits (V.Near op rs1 rs2 target) at = (rs1 < 32) × (rs2 < 32) × IsNear at target
Fits (V.Jump target) at = (target ≢ BAD_TARGET) × Reaches at target
Fits V.Stop at = Reaches at BAD_TARGET
Fits (V.System op) at = Unit {0}
Fits (V.Guarded numbers) at = AreNumbers numbers × Reaches (at + 8 * length numbers) BAD_TARGET
Fits (V.Stores mask rs1 imm members) at = (rs1 < 32) × (imm < 2 ^ 12) × AreMembers members × MaskFits mask imm
Fits (V.Call target) at = Reaches (at + 8) DEEP × Reaches (at + 28) target
Fits (V.Ijump which rs1 imm label) at = CheckFits at rs1 imm label
Fits (V.Icall rs1 imm label) at = CheckFits at rs1 imm label × Reaches (at + 56) DEEP
Fits V.Return at = Reaches (at + 12) BAD_RETURN
Fits (V.LinkCall target) at = Reaches at target
Fits V.Enter at = Reaches (at + 8) DEEP
Fits (V.LeanIjump rs1 imm label) at = CheckFits at rs1 imm label
Fits (V.LeanIcall rs1 imm label) at = CheckFits at rs1 imm label
Fits V.LeafReturn at = Unit {0}

-- how many words a unit has
abbrev pub word_count : U.Unit → ℕ
word_count (V.Gate label) = 1
word_count (V.Plain instr) = 1
word_count (V.Branch op rs1 rs2 target) = counts.BRANCH_WORDS
word_count (V.Near op rs1 rs2 target) = 1
word_count (V.Jump target) = 1
word_count V.Stop = 1
word_count (V.System op) = 1
word_count (V.Guarded numbers) = 2 + 2 * length numbers
word_count (V.Stores mask rs1 imm members) = mask_words mask + length members
word_count (V.Call target) = counts.CALL_WORDS
word_count (V.Ijump which rs1 imm label) = counts.IJUMP_WORDS
word_count (V.Icall rs1 imm label) = counts.ICALL_WORDS
word_count V.Return = counts.RETURN_WORDS
word_count (V.LinkCall target) = 1
word_count V.Enter = counts.ENTER_WORDS
word_count (V.LeanIjump rs1 imm label) = counts.LEAN_TRANSFER_WORDS
word_count (V.LeanIcall rs1 imm label) = counts.LEAN_TRANSFER_WORDS
word_count V.LeafReturn = 1

-- the address after it
abbrev pub after_unit : U.Unit → ℕ → ℕ
after_unit unit at = at + 4 * word_count unit

-- the instruction that word k of a list is
abbrev pub instr_at : List ℕ → ℕ → Option Instr
instr_at words k = option_and_then decoded (slice_get words k)

-- the instruction is `jal x0`
abbrev pub is_jump : Option Instr → Bool
is_jump (Some (Jal rd imm)) = rd == 0
is_jump other = false

-- a branch with this offset field leads over the next instruction, and that is a jump
abbrev pub skips_jump : ℕ → Option Instr → Bool
skips_jump imm next = (imm == skip_offset) && is_jump next

-- these words may follow a unit at an address: a near branch and the jump that it leads over are one
-- other unit, and to stores of which there may be more belongs the store that comes next
abbrev pub may_precede : U.Unit → ℕ → List ℕ → Bool
may_precede (V.Near op rs1 rs2 target) at rest = not (skips_jump (near_offset at target) (instr_at rest 0))
may_precede (V.Stores mask rs1 imm members) at rest = nat_le MOST_MEMBERS (length members) || is_none (member_of (instr_at rest 0))
may_precede other at rest = true

-- a unit begins a list of words at an address
pub record Begins (words : List ℕ) (at : ℕ) (unit : U.Unit) : Type 0 where
  pub fits : Fits unit at
  pub words_are : take (word_count unit) words ≡ words_of unit at
  pub ahead : IsTrue (may_precede unit at (drop (word_count unit) words))
