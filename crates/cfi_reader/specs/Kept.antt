-- What is kept of a unit while it is read: the label of a computed transfer, and of the numbers of system calls that it
-- tests how many there are, if they are a list's first.
use Rattle.std.specs.Prelude.{◌≡◌, ℕ, ◌+◌, ◌/◌, ◌^◌, ◌==◌, Bool, true, false, List, [], ◌∷◌, length, take, Option, Some, None, slice_get, if◌then◌else◌}
use Rattle.rv_word.specs.Numbers.{are_same}
use Rattle.rv_instr.specs.declared.instr.Instr.{Instr}
use Rattle.rv_instr.specs.declared.instr.Instr.TheVariants.{Jal}
use Rattle.cfi_unit.specs.declared.pattern.Pattern.{Pattern}
use Rattle.cfi_unit.specs.declared.pattern.Pattern.TheVariants as P
use Rattle.cfi_unit.specs.declared.pattern.End.{End}
use Rattle.cfi_unit.specs.declared.pattern.End.TheVariants as D
use Rattle.cfi_unit.specs.UnitWords.{skip_offset}
use Rattle.cfi_unit.specs.Shapes.{SHAPES, Shape}
use Rattle.cfi_unit.specs.Opens.{Among, Opens}
use Rattle.cfi_reader.specs.Entries.{stores_entry}
use Rattle.cfi_reader.specs.declared.entry.Entry.{Entry}
use Rattle.cfi_reader.specs.declared.entry.Entry.TheVariants as E

-- in place of how many numbers there are, where they are not a list's first
abbrev pub MISSED : ℕ
MISSED = 255

-- how many numbers there are, if they are the first of a list
abbrev pub told_by : List ℕ → List ℕ → ℕ
told_by calls numbers = if are_same numbers (take (length numbers) calls) then length numbers else MISSED

-- what a list has at a place is a number
abbrev pub is_it : Option ℕ → ℕ → Bool
is_it (Some call) n = n == call
is_it None n = false

-- after one number more
abbrev pub count_on : List ℕ → ℕ → ℕ → ℕ
count_on calls count number = if is_it (slice_get calls count) number then count + 1 else MISSED

-- what is kept after a word that is as a pattern says: a number stands in its upper 12 bits, and a label in the upper 20
abbrev pub count_by : List ℕ → Pattern → ℕ → ℕ → ℕ
count_by calls P.Number word count = count_on calls count (word / 2 ^ 20)
count_by calls other word count = count

abbrev pub label_after : Pattern → ℕ → ℕ → ℕ
label_after P.Label word label = word / 2 ^ 12
label_after other word label = label

-- the label that the first words of a unit bear
abbrev pub relabel : Pattern → ℕ → Option ℕ → Option ℕ
relabel P.Label word label = Some (word / 2 ^ 12)
relabel other word label = label

abbrev pub label_by : List Pattern → List ℕ → Option ℕ → Option ℕ
label_by [] words label = label
label_by (p ∷ ps) [] label = label
label_by (p ∷ ps) (w ∷ words) label = label_by ps words (relabel p w label)

-- and the numbers
abbrev pub with_number : Pattern → ℕ → List ℕ → List ℕ
with_number P.Number word numbers = word / 2 ^ 20 ∷ numbers
with_number other word numbers = numbers

abbrev pub numbers_by : List Pattern → List ℕ → List ℕ
numbers_by [] words = []
numbers_by (p ∷ ps) [] = []
numbers_by (p ∷ ps) (w ∷ words) = with_number p w (numbers_by ps words)

-- of each unit that may begin with these words the label is kept, if it is told, and of a system call the numbers
pub record Keeps (calls : List ℕ) (numbers label : ℕ) (held : List ℕ) (at : ℕ) : Type 0 where
  pub label_is : (s : Shape) (left : List Pattern) → Among s SHAPES → Opens s.words held at left →
      (told : ℕ) → label_by s.words held None ≡ Some told → told ≡ label
  pub numbers_are : (s : Shape) (left : List Pattern) → Among s SHAPES → Opens s.words held at left →
      s.end ≡ D.Guarded → numbers ≡ told_by calls (numbers_by s.words held)

-- a unit of this kind may have several words, and is one whatever follows
abbrev pub is_longer : End → Bool
is_longer D.Branch = true
is_longer D.Call = true
is_longer (D.Ijump which) = true
is_longer D.Icall = true
is_longer D.Guarded = true
is_longer (D.Full mask) = true
is_longer D.Return = true
is_longer D.Enter = true
is_longer D.LeanIjump = true
is_longer D.LeanIcall = true
is_longer _ = false

-- the offset field of a jump
abbrev pub field_in : Option Instr → Option ℕ
field_in (Some (Jal rd imm)) = Some imm
field_in other = None

abbrev pub with_field : (ℕ → Entry) → Option ℕ → Entry
with_field entry None = E.Other
with_field entry (Some field) = entry field

-- the entry of such a unit, by what is kept of it and by its last word
abbrev pub entry_by : List ℕ → End → ℕ → ℕ → Option Instr → Entry
entry_by calls D.Branch numbers label last = with_field E.Branch (field_in last)
entry_by calls D.Call numbers label last = with_field E.Call (field_in last)
entry_by calls (D.Ijump which) numbers label last = E.Ijump which label
entry_by calls D.Icall numbers label last = E.Icall label
entry_by calls D.Guarded numbers label last = E.Guarded (numbers == length calls)
entry_by calls D.Enter numbers label last = E.Enter
entry_by calls D.LeanIjump numbers label last = E.LeanIjump label
entry_by calls D.LeanIcall numbers label last = E.LeanIcall label
entry_by calls (D.Full mask) numbers label last = stores_entry mask
entry_by calls D.Return numbers label last = E.Return
entry_by calls _ numbers label last = E.Other

-- and of one that ends before a word that might have gone on with it
abbrev pub open_entry : End → Entry
open_entry D.Over = E.Near skip_offset
open_entry (D.Stores mask) = stores_entry mask
open_entry _ = E.Other
