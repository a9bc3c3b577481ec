-- A name as it stands in a table (System V gABI, "String Table").
use Rattle.std.specs.Prelude.{◌≡◌, ℕ, ◌*◌, ◌-◌, ◌<◌, ◌≤◌, ◌==◌, if◌then◌else◌, List, [], ◌∷◌, ◌++◌, drop, length, slice_index_or, take}
use Rattle.elf_names.specs.declared.marks.Mark.{Mark}
use Rattle.elf_names.specs.Texts.{Has}

-- the bytes before the first NUL, or all where there is none
unfoldable pub spelled : List ℕ → List ℕ
spelled [] = []
spelled (b ∷ bs) = if b == 0 then [] else b ∷ spelled bs

-- the last `n` bytes
abbrev pub ending : ℕ → List ℕ → List ℕ
ending n bytes = drop (length bytes - n) bytes

-- the name that some bytes begin with is so many of them, fewer than a block, and a text of whole blocks behind them
pub record IsMark (texts : List (List ℕ)) (bytes : List ℕ) (mark : Mark) : Type 0 where
  pub text : List ℕ
  pub there : Has texts mark.tail text
  pub count : ℕ
  pub whole : length text ≡ 64 * count
  pub short : mark.front < 64
  pub inside : mark.front ≤ length bytes
  pub name : spelled bytes ≡ take mark.front bytes ++ text

-- the name that the last 64 * k bytes begin with, for each k
abbrev pub AreMarks : List (List ℕ) → List ℕ → List Mark → Type 0
AreMarks texts table marks =
    (k : ℕ) → k < length marks → IsMark texts (ending (64 * k) table) (slice_index_or marks k (record { front = 0; tail = 0 }))
