-- One unit that is being read, a word at a time: what is held of it, and where one word more leads.
use Rattle.std.specs.Prelude.{◌≡◌, ℕ, ◌+◌, ◌*◌, ◌≤◌, ◌==◌, Bool, true, List, [], ◌∷◌, ◌++◌, length, Option, Some, None}
use Rattle.cfi_unit.specs.declared.unit.Unit as U
use Rattle.cfi_unit.specs.UnitWords.{Begins, Fits, may_precede, word_count, words_of}
use Rattle.cfi_unit.specs.Opens.{Small}
use Rattle.cfi_unit.specs.Recognise.{recognised}
use Rattle.cfi_reader.specs.declared.entry.Entry.{Entry}
use Rattle.cfi_reader.specs.declared.reader.Reader.{Reader}
use Rattle.cfi_reader.specs.declared.reader.Step.{Step}
use Rattle.cfi_reader.specs.declared.reader.Step.TheVariants.{More, Done, Before}
use Rattle.cfi_reader.specs.declared.first.First.{First}
use Rattle.cfi_reader.specs.declared.first.First.TheVariants as F
use Rattle.cfi_reader.specs.Entries.{entry_of}
use Rattle.cfi_reader.specs.Kept.{Keeps}
use Rattle.cfi_reader.specs.Left.{Reads}
use Rattle.cfi_reader.specs.Nodes.{rest_of}

-- nothing is read yet
abbrev pub START : Reader
START = record { node = 1; numbers = 0; label = 0 }

abbrev pub is_new : Reader → Bool
is_new reader = reader.node == 1

-- no unit begins with what is read
abbrev pub is_stuck : Reader → Bool
is_stuck reader = reader.node == 0

-- no unit begins with these words, whatever follows
abbrev pub NeverBegins : List ℕ → ℕ → Type 0
NeverBegins held at = (rest : List ℕ) (unit : U.Unit) → Begins (held ++ rest) at unit → ⊥

-- each that does has them all
abbrev pub AtLeast : List ℕ → ℕ → Type 0
AtLeast held at = (rest : List ℕ) (unit : U.Unit) → Begins (held ++ rest) at unit → length held ≤ word_count unit

-- what is held of a unit that has begun, if one has: the units that may begin so are those of a node, and the label
-- and the numbers that are kept are theirs
pub record IsReading (calls : List ℕ) (reader : Reader) (held : List ℕ) (at : ℕ) : Type 0 where
  pub reads : Reads (rest_of reader.node) held at
  pub least : AtLeast held at
  pub keeps : Keeps calls reader.numbers reader.label held at
  pub begun : reader.node ≡ 1 → held ≡ []
  pub small : Small held

-- words are a unit's at an address, with this entry
pub record IsUnit (calls : List ℕ) (entry : Entry) (words : List ℕ) (at : ℕ) : Type 0 where
  pub unit : U.Unit
  pub fits : Fits unit at
  pub entry_is : entry ≡ entry_of calls unit at
  pub words_are : words ≡ words_of unit at

-- where one word more leads: the unit is read further, or it has ended, and nothing that follows changes it, or it
-- ended before the word
abbrev pub Leads : List ℕ → List ℕ → ℕ → ℕ → Step → Type 0
Leads calls held word at (More reader) = IsReading calls reader (held ++ word ∷ []) at
Leads calls held word at (Done entry) =
    (u : IsUnit calls entry (held ++ word ∷ []) at) × ((rest : List ℕ) → may_precede u.unit at rest ≡ true)
Leads calls held word at (Before entry) =
    (u : IsUnit calls entry held at) × ((rest : List ℕ) → may_precede u.unit at (word ∷ rest) ≡ true)

-- a word of code at an address is the next of a unit that has begun
abbrev pub LeadsOn : List ℕ → Reader → ℕ → ℕ → Step → Type 0
LeadsOn calls reader word here step =
    (held : List ℕ) (at : ℕ) → IsReading calls reader held at → here ≡ at + 4 * length held → Leads calls held word at step

-- and the first word
abbrev pub Opened : List ℕ → ℕ → ℕ → First → Type 0
Opened calls word at (F.More reader) = IsReading calls reader (word ∷ []) at
Opened calls word at (F.Done entry) =
    (u : IsUnit calls entry (word ∷ []) at) × ((rest : List ℕ) → may_precede u.unit at rest ≡ true)

-- where no word follows: what is read is a unit, or none is recognised there
abbrev pub Closes : List ℕ → List ℕ → ℕ → Option Entry → Type 0
Closes calls held at (Some entry) = IsUnit calls entry held at
Closes calls held at None = recognised held at ≡ None
