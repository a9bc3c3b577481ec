-- Which symbol each is, as a list of numbers, and blocks as far as they are merged. Contracts of the calls of joining cite this.
use Rattle.std.specs.Prelude.{ℕ, pos, ◌*◌, List, length, fold, slice_index}
use Rattle.least.specs.Nearest.{joined}
use Rattle.obj_input.specs.declared.parts.Block.{Block}
use Rattle.obj_input.specs.declared.parts.Relocation.{Relocation}
use Rattle.obj_join.specs.Said.{SymbolSaid}
use Rattle.obj_join.specs.Stands.{definition_of}
use Rattle.obj_join.specs.Symbols.{number_if}
use Rattle.obj_join.specs.Blocks.{blocks_below, empty_block, greater_block, merges_with}

-- the function that a list of numbers is
abbrev pub by : List ℕ → ℕ → ℕ
by numbers n = slice_index numbers n

-- what fills the slot with an index, of these symbols' slots
abbrev pub filling_of : (ℕ → ℕ) → List SymbolSaid → List ℕ → ℕ → Relocation
filling_of resolve symbols slots j = record {
  offset = 8 * j;
  number = 2;
  addend = pos 0;
  definition = definition_of resolve symbols (slice_index slots j);
}

-- how many blocks are before that of a symbol
abbrev pub before : (ℕ → ℕ) → List SymbolSaid → ℕ → ℕ
before resolve symbols n = length (blocks_below resolve symbols n)

-- the block of a symbol, by the symbols below a number
unfoldable pub merged_below : (ℕ → ℕ) → List SymbolSaid → ℕ → ℕ → Block
merged_below resolve symbols bound n = fold (greater_block symbols) empty_block (joined (number_if (merges_with resolve symbols n)) bound)
