-- What holds of units and their words, each law by its name.
use Rattle.std.specs.Prelude.{◌≡◌, ℕ, ◌+◌, ◌%◌, ◌<◌, ◌≤◌, ◌^◌, ◌⊎◌, false, IsTrue, List, ◌∷◌, ◌++◌, length, Some}
use Rattle.std.specs.List.{All}
use Rattle.rv_image.specs.MemoryMap.{CODE_START, CODE_SIZE, CODE_TAIL, PART_SIZE, Profile}
use Rattle.rv_word.specs.Memory.{Memory}
use Rattle.rv_word.specs.Same.{SameOn}
use Rattle.rv_instr.specs.Registers.{Registers}
use Rattle.rv_instr.specs.declared.instr.BranchOp.{BranchOp}
use Rattle.rv_instr.specs.declared.instr.Instr.TheVariants.{Branch}
use Rattle.rv_code.specs.Decode.{decoded}
use Rattle.rv_code.specs.State.{Hart}
use Rattle.cfi_unit.specs.declared.unit.Unit as U
use Rattle.cfi_unit.specs.declared.unit.Unit.TheVariants as V
use Rattle.cfi_unit.specs.Members.{MOST_MEMBERS}
use Rattle.cfi_unit.specs.UnitWords.{Begins, Fits, IsNear, Reaches, instr_at, may_precede, near_offset, skip_offset, skips_jump, words_of}
use Rattle.cfi_unit.specs.Reach.{near_to}
use Rattle.cfi_unit.specs.Recognise.{recognised}
use Rattle.cfi_unit.specs.Split.{IsSplit}
use Rattle.cfi_unit.specs.Place.{Place}
use Rattle.cfi_unit.specs.Shadow.{MOST_PENDING}
use Rattle.cfi_unit.specs.Context.{Kept}
use Rattle.cfi_unit.specs.InPlace.{InPlace}

-- numbers of 32 bits each
abbrev pub AreWords : List ℕ → Type 0
AreWords words = All (λ w. w < 2 ^ 32) words

-- the unit that is recognised begins the list
abbrev pub RecognisedBegins : Type 0
RecognisedBegins =
    (words : List ℕ) (at : ℕ) (unit : U.Unit) → AreWords words → recognised words at ≡ Some unit → Begins words at unit

-- a unit that begins a list is recognised there: so at most one does
abbrev pub BeginsRecognised : Type 0
BeginsRecognised =
    (words : List ℕ) (at : ℕ) (unit : U.Unit) → Begins words at unit → recognised words at ≡ Some unit

-- what is emitted is recognised, whatever follows it that may
abbrev pub EmittedRecognised : Type 0
EmittedRecognised =
    (unit : U.Unit) (at : ℕ) (rest : List ℕ) → Fits unit at → IsTrue (may_precede unit at rest) →
    recognised (words_of unit at ++ rest) at ≡ Some unit

-- a unit that looks at the word after it: a near branch over the next word, and stores of which there
-- may be more
abbrev pub IsOpen : U.Unit → ℕ → Type 0
IsOpen (V.Near op rs1 rs2 target) at = near_offset at target ≡ skip_offset
IsOpen (V.Stores mask rs1 imm members) at = length members < MOST_MEMBERS
IsOpen other at = ⊥

-- no unit's words are a prefix of another's, but those of a near branch over the next word, and those of
-- stores of which there may be more
abbrev pub NoPrefix : Type 0
NoPrefix =
    (u v : U.Unit) (at : ℕ) (rest : List ℕ) → Fits u at → Fits v at → words_of v at ≡ words_of u at ++ rest →
    (u ≡ v) ⊎ IsOpen u at

-- a unit's words determine the unit
abbrev pub WordsDetermine : Type 0
WordsDetermine = (u v : U.Unit) (at : ℕ) → Fits u at → Fits v at → words_of u at ≡ words_of v at → u ≡ v

-- a list of words has at most one split
abbrev pub SplitUnique : Type 0
SplitUnique =
    (words : List ℕ) (at : ℕ) (us vs : List U.Unit) → IsSplit words at us → IsSplit words at vs → us ≡ vs

-- a jump reaches what is near it: the offset field has 20 bits and counts in multiples of two bytes
abbrev pub NearReached : Type 0
NearReached =
    (from to : ℕ) → from < 2 ^ 63 → to < 2 ^ 63 → from % 2 ≡ to % 2 → from ≤ to + 2 ^ 20 → to < from + 2 ^ 20 → Reaches from to

-- and a near branch what is within 2^12 bytes
abbrev pub BranchReached : Type 0
BranchReached =
    (from to : ℕ) → from < 2 ^ 63 → to < 2 ^ 63 → from % 2 ≡ to % 2 → from ≤ to + 2 ^ 12 → to < from + 2 ^ 12 → IsNear from to

-- each branch that does not lead over a jump is a unit, whatever its offset
abbrev pub BranchBegins : Type 0
BranchBegins =
    (word at rs1 rs2 imm : ℕ) (op : BranchOp) (rest : List ℕ) → word < 2 ^ 32 → at < 2 ^ 64 →
    decoded word ≡ Some (Branch op rs1 rs2 imm) → skips_jump imm (instr_at rest 0) ≡ false →
    Begins (word ∷ rest) at (V.Near op rs1 rs2 (near_to at imm))

-- changes outside of code, with the bytes past it that loads may read, and of a hart's own part, as the other harts make them, keep what a word of
-- the hart's code asks, seen from the memory after them
abbrev pub OthersKeep : Type 0
OthersKeep =
    (p : Profile) (part : ℕ) (image base : Memory) (place : Place) (at : ℕ) (pending : List ℕ) (r : Registers) (h : Hart) (m m' : Memory) →
    length pending ≤ MOST_PENDING → SameOn CODE_START (CODE_START + CODE_SIZE + CODE_TAIL) m m' → SameOn part (part + PART_SIZE) m m' →
    (Kept part image base pending m → Kept part image m' pending m')
    × (InPlace p part image place at pending r h m → InPlace p part image place at pending r h m')
