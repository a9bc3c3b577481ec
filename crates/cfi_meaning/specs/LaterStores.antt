-- Where the program is at a later store of a group, which stands behind the mask of the first: the image makes the stores of a group in
-- one go, so it is at no state there that could match.
use Rattle.std.specs.Prelude.{◌==◌, ℕ, ◌+◌, ◌&&◌, Bool, false, Option, Some, None}
use Rattle.obj_program.specs.Program.{item_of}
use Rattle.cfi_map.specs.GraphAtMap.{ProgramAtMap, gate, word}
use Rattle.cfi_map.specs.Groups.{is_store}

-- a later store has one word, and the unit of a first one two at least
abbrev pub is_at_later : ProgramAtMap → Option ℕ → Bool
is_at_later layout None = false
is_at_later layout (Some k) = is_store (item_of layout.program k).kind && gate layout (k + 1) == word layout k + 4
