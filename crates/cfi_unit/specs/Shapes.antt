-- The units as lists of patterns: one shape for each mask and number of stores, of numbers that are tested and
-- for each word that a check reads.
use Rattle.std.specs.Prelude.{ℕ, zero, suc, ◌*◌, List, [], ◌∷◌, ◌++◌, replicate}
use Rattle.rv_instr.specs.declared.instr.Instr.{Instr}
use Rattle.rv_instr.specs.declared.instr.Instr.TheVariants.{Upper, Jalr, Branch, Load, Store, Immediate, Shift, Register, Ecall, Ebreak}
use Rattle.rv_instr.specs.declared.instr.UpperOp.TheVariants.{Lui, Auipc}
use Rattle.rv_instr.specs.declared.instr.ImmediateOp.TheVariants.{Addi, Andi}
use Rattle.rv_instr.specs.declared.instr.ShiftOp.TheVariants.{Slli, Srli}
use Rattle.rv_instr.specs.declared.instr.RegisterOp.TheVariants.{And, Sub}
use Rattle.rv_instr.specs.declared.instr.BranchOp.TheVariants.{Beq, Bne}
use Rattle.rv_instr.specs.declared.instr.LoadOp.TheVariants.{Lw, Ld}
use Rattle.rv_instr.specs.declared.instr.StoreOp.TheVariants.{Sd}
use Rattle.rv_code.specs.Encode.{code_of}
use Rattle.cfi_unit.specs.declared.pattern.Pattern.{Pattern}
use Rattle.cfi_unit.specs.declared.pattern.Pattern.TheVariants as P
use Rattle.cfi_unit.specs.declared.pattern.End.{End}
use Rattle.cfi_unit.specs.declared.pattern.End.TheVariants as E
use Rattle.cfi_unit.specs.declared.target_word.TargetWord.{TargetWord}
use Rattle.cfi_unit.specs.declared.mask.Mask.{Mask}
use Rattle.cfi_unit.specs.declared.mask.Mask.TheVariants.{Shifts, Short, Long}
use Rattle.cfi_unit.specs.declared.target_word.TargetWord.TheVariants.{First, Second, Third}
use Rattle.cfi_unit.specs.UnitWords.{BAD_TARGET, BAD_RETURN, DEEP, MINUS_EIGHT, MINUS_FOUR, MINUS_ONE, past, skip_offset}

-- this instruction
abbrev pub is : Instr → Pattern
is instr = P.Is (code_of instr)

-- the words of a unit, and of which kind it is
pub record Shape : Type 0 where
  pub end : End
  pub words : List Pattern

abbrev pub shape : End → List Pattern → Shape
shape end words = record { end = end; words = words }

abbrev pub push : List Pattern
push =
    is (Shift Slli 30 3 48)
    ∷ is (Branch Bne 30 0 skip_offset)
    ∷ P.Halt DEEP
    ∷ is (Upper Auipc 30 0)
    ∷ is (Immediate Addi 30 30 20)
    ∷ is (Store Sd 3 30 0)
    ∷ is (Immediate Addi 3 3 8)
    ∷ []

abbrev pub check : TargetWord → List Pattern
check which =
    P.Address
    ∷ is (Immediate Andi 31 31 MINUS_FOUR)
    ∷ is (Upper Lui 30 0x40000)
    ∷ is (Register Sub 30 31 30)
    ∷ is (Shift Srli 30 30 20)
    ∷ is (Branch Beq 30 0 skip_offset)
    ∷ P.Halt BAD_TARGET
    ∷ is (Load Lw 30 31 (past which))
    ∷ P.Label
    ∷ is (Immediate Addi 4 4 55)
    ∷ is (Branch Beq 30 4 skip_offset)
    ∷ P.Halt BAD_TARGET
    ∷ []

abbrev pub mask : Mask → List Pattern
mask Shifts = P.Address ∷ is (Shift Slli 31 31 36) ∷ is (Shift Srli 31 31 36) ∷ []
mask Short = P.Masked ∷ []
mask Long = P.Address ∷ is (Register And 31 31 4) ∷ []

abbrev pub mask_made : List Pattern
mask_made = is (Upper Lui 4 0x10000) ∷ is (Immediate Addi 4 4 MINUS_ONE) ∷ []

-- the tests of so many numbers
abbrev pub tests : ℕ → List Pattern
tests zero = []
tests (suc n) = P.Number ∷ is (Branch Beq 31 17 (4 * suc n)) ∷ tests n

abbrev pub guarded : ℕ → List Pattern
guarded n = tests n ++ (P.Halt BAD_TARGET ∷ is Ecall ∷ [])

abbrev pub stores : Mask → ℕ → List Pattern
stores m n = mask m ++ replicate n P.Member

abbrev pub call : List Pattern
call = push ++ P.Link ∷ []

abbrev pub ijump : TargetWord → List Pattern
ijump which = check which ++ is (Jalr 0 31 0) ∷ []

abbrev pub icall : List Pattern
icall = check First ++ push ++ is (Jalr 1 31 0) ∷ []

abbrev pub return : List Pattern
return =
    is (Load Ld 31 3 MINUS_EIGHT)
    ∷ is (Immediate Addi 3 3 MINUS_EIGHT)
    ∷ is (Branch Beq 31 1 skip_offset)
    ∷ P.Halt BAD_RETURN
    ∷ is (Jalr 0 31 0)
    ∷ []

abbrev pub enter : List Pattern
enter =
    is (Shift Slli 30 3 48)
    ∷ is (Branch Bne 30 0 skip_offset)
    ∷ P.Halt DEEP
    ∷ is (Store Sd 3 1 0)
    ∷ is (Immediate Addi 3 3 8)
    ∷ []

abbrev pub lean_ijump : List Pattern
lean_ijump = check First ++ mask_made ++ is (Jalr 0 31 0) ∷ []

abbrev pub lean_icall : List Pattern
lean_icall = check Third ++ mask_made ++ is (Jalr 1 31 8) ∷ []

-- from so many on down to one
abbrev pub each_stores : Mask → ℕ → List Shape
each_stores m zero = []
each_stores m (suc n) = shape (E.Stores m) (stores m (suc n)) ∷ each_stores m n

abbrev pub all_stores : Mask → List Shape
all_stores m = shape (E.Full m) (stores m 16) ∷ each_stores m 15

abbrev pub each_guarded : ℕ → List Shape
each_guarded zero = []
each_guarded (suc n) = shape E.Guarded (guarded (suc n)) ∷ each_guarded n

-- all units, a longer one before those that it begins as
abbrev pub SHAPES : List Shape
SHAPES =
    shape E.Gate (P.Gate ∷ [])
    ∷ shape E.Plain (P.Plain ∷ [])
    ∷ shape E.Stop (P.Halt BAD_TARGET ∷ [])
    ∷ shape E.Jump (P.Goto ∷ [])
    ∷ shape E.Ecall (is Ecall ∷ [])
    ∷ shape E.Ebreak (is Ebreak ∷ [])
    ∷ shape E.Near (P.Near ∷ [])
    ∷ shape E.Branch (P.Skip ∷ P.Jump ∷ [])
    ∷ shape E.Over (P.Skip ∷ [])
    ∷ shape E.Call call
    ∷ shape (E.Ijump First) (ijump First)
    ∷ shape (E.Ijump Second) (ijump Second)
    ∷ shape (E.Ijump Third) (ijump Third)
    ∷ shape E.Icall icall
    ∷ shape E.Return return
    ∷ shape E.LinkCall (P.Link ∷ [])
    ∷ shape E.Enter enter
    ∷ shape E.LeanIjump lean_ijump
    ∷ shape E.LeanIcall lean_icall
    ∷ shape E.LeafReturn (is (Jalr 0 1 0) ∷ [])
    ∷ (each_guarded 8 ++ all_stores Shifts ++ all_stores Short ++ all_stores Long)
