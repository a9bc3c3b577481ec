-- Words that are taken whatever they are, and the words of a command as they stand among those that follow its name.
use Rattle.std.specs.Prelude.{◌≡◌, ◌≢◌, ◌⊎◌, ◌<◌, ◌==◌, ℕ, Bool, true, false, not, List, [], ◌∷◌, ◌++◌, length, codes}
use Rattle.std.specs.List.{list_all}
use Rattle.clap.specs.Words.{Text, fault_of}
use Rattle.tool_words.specs.Reading.{asks, reading}
use Rattle.tool_words.specs.CommandLine.{Known, command_line, commands}

-- the word is not empty and does not begin with a hyphen (45)
abbrev pub is_plain : Text → Bool
is_plain [] = false
is_plain (x ∷ xs) = not (x == 45)

-- so many words are as many as have names, or more where objects follow
abbrev pub IsNumber : Bool → ℕ → ℕ → Type 0
IsNumber false named number = named ≡ number
IsNumber true named number = named < number

-- a name and words are those of one of the commands, by the number of the words
abbrev pub IsAmong : List Known → Text → List Text → Type 0
IsAmong [] name words = ⊥
IsAmong (c ∷ cs) name words = ((c.name ≡ name) × IsNumber c.has_objects (length c.operands) (length words)) ⊎ IsAmong cs name words

-- a command's name and exactly its words, each of them plain
pub record IsPlainRequest (name : Text) (words : List Text) : Type 0 where
  pub known : IsAmong commands name words
  pub plain : list_all is_plain words ≡ true

-- the values are the words, in their order, but for the first `--`, which may stand before, between or after them
pub data Operands : List Text → List Text → Type 0 where
  none_left : Operands [] []
  one_more : (value : Text) (words values : List Text) → value ≢ codes "--" → Operands words values → Operands (value ∷ words) (value ∷ values)
  mark_left : (words : List Text) → Operands (codes "--" ∷ words) words

-- the words ask for a command: they are the program's name, the command's and its words, as many as it wants, but for one `--`
pub record AsksFor (words : List Text) : Type 0 where
  pub program : Text
  pub name : Text
  pub rest : List Text
  pub values : List Text
  pub words_are : words ≡ program ∷ name ∷ rest
  pub operands : Operands rest values
  pub known : IsAmong commands name values
  pub reading_is : reading words ≡ asks (name ∷ values)

-- words in which `clap` finds no fault ask for a command
abbrev pub AsksIfFaultless : List Text → Type 0
AsksIfFaultless words = fault_of command_line words ≡ [] → AsksFor words

-- so do words that are read as asking for one
abbrev pub AsksAsRead : List Text → Type 0
AsksAsRead words = (request : List Text) → reading words ≡ asks request → AsksFor words

-- a command's name and exactly its words, each of them plain, are taken
abbrev pub TakesPlain : List Text → Type 0
TakesPlain words = (program name : Text) (own : List Text) → IsPlainRequest name own → words ≡ program ∷ name ∷ own → reading words ≡ asks (name ∷ own)

-- so are its words with a `--` before, between or after them, where those before it are plain and those behind it are any
abbrev pub TakesMarked : List Text → Type 0
TakesMarked words =
    (program name : Text) (before after : List Text) → IsAmong commands name (before ++ after) → list_all is_plain before ≡ true
    → words ≡ program ∷ name ∷ before ++ codes "--" ∷ after → reading words ≡ asks (name ∷ before ++ after)
