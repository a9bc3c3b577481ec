-- Units in a row, of words that come one by one: the units that have ended, and how far the one is read
-- that has begun.
use Rattle.std.specs.Prelude.{◌≡◌, ℕ, ◌+◌, ◌*◌, IsTrue, List, [], ◌∷◌, ◌++◌, None}
use Rattle.cfi_unit.specs.declared.unit.Unit as U
use Rattle.cfi_unit.specs.UnitWords.{Fits, after_unit, may_precede, word_count, words_of}
use Rattle.cfi_unit.specs.Recognise.{recognised}
use Rattle.cfi_reader.specs.declared.entry.Entry.{Entry}
use Rattle.cfi_reader.specs.declared.reader.Reader.{Reader}
use Rattle.cfi_reader.specs.Entries.{entries_of, inside}
use Rattle.cfi_reader.specs.Reading.{IsReading}

-- the words of units in a row from an address on, and how many they are
unfoldable pub spelled : List U.Unit → ℕ → List ℕ
spelled [] at = []
spelled (unit ∷ units) at = words_of unit at ++ spelled units (after_unit unit at)

unfoldable pub width : List U.Unit → ℕ
width [] = 0
width (unit ∷ units) = word_count unit + width units

-- where the last of them starts, in words from the first
unfoldable pub last_of : List U.Unit → ℕ
last_of [] = 0
last_of (unit ∷ []) = 0
last_of (unit ∷ next ∷ units) = word_count unit + last_of (next ∷ units)

-- each of them may stand where it does, before what follows it
unfoldable pub AllStand : List U.Unit → ℕ → List ℕ → Type 0
AllStand [] at tail = Unit {0}
AllStand (unit ∷ units) at tail =
    Fits unit at
    × IsTrue (may_precede unit at (spelled units (after_unit unit at) ++ tail))
    × AllStand units (after_unit unit at) tail

-- the words so far, of which `next` are known to follow, are these units and a part of one: one entry
-- for each word that there is room for
pub record Splits (calls : List ℕ) (from : ℕ) (next : List ℕ) (entries : List Entry) (done last : ℕ) (reader : Reader) (words : List ℕ) : Type 0 where
  pub units : List U.Unit
  pub held : List ℕ
  pub room : ℕ
  pub words_are : words ≡ spelled units from ++ held
  pub stand : (rest : List ℕ) → AllStand units from (held ++ (next ++ rest))
  pub entries_are : entries ≡ entries_of calls units from ++ inside room
  pub done_is : done ≡ width units
  pub last_is : last ≡ last_of units
  pub reading : IsReading calls reader held (from + 4 * width units)

-- the words are these units and, past them, words with which no unit begins
pub record IsSplitUp (calls : List ℕ) (from : ℕ) (entries : List Entry) (done last : ℕ) (words : List ℕ) : Type 0 where
  pub units : List U.Unit
  pub past : List ℕ
  pub room : ℕ
  pub words_are : words ≡ spelled units from ++ past
  pub stand : AllStand units from past
  pub entries_are : entries ≡ entries_of calls units from ++ inside room
  pub done_is : done ≡ width units
  pub last_is : last ≡ last_of units
  pub none : recognised past (from + 4 * width units) ≡ None
