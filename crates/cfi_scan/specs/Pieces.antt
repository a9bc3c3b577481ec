-- A code that comes in pieces: what is kept of all the bytes that came.
use Rattle.std.specs.Prelude.{◌≡◌, ℕ, ◌+◌, ◌*◌, ◌-◌, ◌/◌, ◌<◌, ◌≤◌, min, List, [], ◌∷◌, length, take, drop}
use Rattle.rv_image.specs.declared.version.Versions.{Versions}
use Rattle.rv_image.specs.MemoryMap.{CODE_SIZE, CODE_START, Profile}
use Rattle.cfi_reader.specs.declared.entry.Entry.{Entry}
use Rattle.cfi_reader.specs.declared.reader.Reader.{Reader}
use Rattle.cfi_scan.specs.Carry.{word_of}
use Rattle.cfi_scan.specs.Stream.{IsSplitUp, Splits}

-- bytes are these words, the lowest byte of each first, and fewer than four bytes that are left
pub data IsCut : List ℕ → List ℕ → List ℕ → Type 0 where
  ends : (left : List ℕ) → length left < 4 → IsCut left [] left
  goes_on : (a b c d : ℕ) (bytes words left : List ℕ) → IsCut bytes words left →
      IsCut (a ∷ b ∷ c ∷ d ∷ bytes) (word_of a b c d ∷ words) left

-- how many words the prologue has
abbrev pub prologue_count : Profile → ℕ
prologue_count p = (p.units_from - CODE_START) / 4

-- so many words has the prologue of a profile, and there its units start
pub record IsFront (p : Profile) (words start : ℕ) : Type 0 where
  pub words_are : words ≡ prologue_count p
  pub start_is : start ≡ p.units_from
  pub most : words ≤ 20
  pub place : start ≡ CODE_START + 4 * words

-- the words after the prologue, an entry for each, lie in code
abbrev pub HasPlace : Profile → List Entry → Type 0
HasPlace p entries = p.units_from + 4 * length entries ≤ CODE_START + CODE_SIZE

-- what a feeder keeps: the versions of the pair, the list of system calls (empty where there is none), the
-- prologue's words, an entry for each word after it that there is room for, how many of these belong to units
-- that have ended, where the last of these starts, how far the next one is read, the bytes of the word that is
-- not whole, and how many bytes came
pub record Sight : Type 0 where
  pub versions : Versions
  pub calls : List ℕ
  pub prologue : List ℕ
  pub entries : List Entry
  pub done : ℕ
  pub last : ℕ
  pub reader : Reader
  pub left : List ℕ
  pub fed : ℕ

-- the words after the prologue are split into units; those past the room are only counted
abbrev pub Follows : Profile → List ℕ → List Entry → ℕ → ℕ → Reader → List ℕ → Type 0
Follows p calls entries done last reader words =
    length words ≤ length entries → Splits calls p.units_from [] entries done last reader words

-- of these words the prologue's are kept, and the units of the others
pub record Keeps (p : Profile) (calls : List ℕ) (prologue : List ℕ) (entries : List Entry) (done last : ℕ) (reader : Reader) (words : List ℕ) : Type 0 where
  pub prologue_is : take (min (length words) (prologue_count p)) prologue ≡ take (prologue_count p) words
  pub split : Follows p calls entries done last reader (drop (prologue_count p) words)

-- all that a feeder has seen are these bytes
pub record HasSeen (p : Profile) (s : Sight) (bytes : List ℕ) : Type 0 where
  pub words : List ℕ
  pub cut : IsCut bytes words s.left
  pub fed : s.fed ≡ length bytes
  pub prologue : s.prologue ≡ take (prologue_count p) words
  pub split : Follows p s.calls s.entries s.done s.last s.reader (drop (prologue_count p) words)

-- what is left of a code that has ended
pub record Listed : Type 0 where
  pub versions : Versions
  pub prologue : List ℕ
  pub entries : List Entry
  pub done : ℕ
  pub last : ℕ
  pub fed : ℕ

-- it is that of a code of these bytes, under a list
pub record IsOf (p : Profile) (calls : List ℕ) (t : Listed) (bytes : List ℕ) : Type 0 where
  pub words : List ℕ
  pub left : List ℕ
  pub cut : IsCut bytes words left
  pub fed : t.fed ≡ length bytes
  pub prologue : t.prologue ≡ take (prologue_count p) words
  pub split : length (drop (prologue_count p) words) ≤ length t.entries →
      IsSplitUp calls p.units_from t.entries t.done t.last (drop (prologue_count p) words)
