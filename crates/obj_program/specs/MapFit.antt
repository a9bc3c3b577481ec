-- What a map asks of a program: the last place is a section's end, and each place has a section's index of 16 bits and the offset
-- of a word. Each word of code is a place but the second of a pair, so a place stands at most two words on for each place before
-- it: offsets have 32 bits where places are few.
use Rattle.std.specs.Prelude.{◌≡◌, ℕ, ◌-◌, ◌*◌, ◌%◌, ◌^◌, ◌<◌, ◌≤◌, true}
use Rattle.obj_program.specs.declared.item.Item.{Item}
use Rattle.obj_program.specs.Program.{Program, count, is_end, item_of}

-- the place with the index `k`, which has `k` places before it
pub record FitsMap (k : ℕ) (item : Item) : Type 0 where
  pub section : item.section < 2 ^ 16
  pub whole : item.offset % 4 ≡ 0
  pub near : item.offset ≤ 8 * k

-- the last place of a program that has any is the end of a section
abbrev pub EndsLast : Program → Type 0
EndsLast program = 0 < count program → is_end (item_of program (count program - 1)).kind ≡ true

pub record FitsMaps (program : Program) : Type 0 where
  pub last : EndsLast program
  pub fits : (k : ℕ) → k < count program → FitsMap k (item_of program k)
