-- Common blocks (System V gABI, "Special Section Indexes", SHN_COMMON). Let `resolve` say which symbol a use of a symbol is a use
-- of. Then there is a block for each common symbol that is itself, in their order. It is as large as the largest, and as aligned as
-- the most aligned, of the common symbols that it stands for.
use Rattle.std.specs.Prelude.{ℕ, max, Bool, true, false, ◌==◌, ◌&&◌, List, length, fold}
use Rattle.least.specs.Nearest.{joined}
use Rattle.obj_input.specs.declared.parts.Block.{Block}
use Rattle.obj_join.specs.declared.standing.Standing.{Standing}
use Rattle.obj_join.specs.declared.standing.Standing.TheVariants.{AsCommon}
use Rattle.obj_join.specs.Said.{SymbolSaid}
use Rattle.obj_join.specs.Symbols.{number_if, symbol}

abbrev pub is_block : Standing → Bool
is_block AsCommon = true
is_block other = false

abbrev pub has_block : (ℕ → ℕ) → List SymbolSaid → ℕ → Bool
has_block resolve symbols n = is_block (symbol symbols n).standing && resolve n == n

-- the symbols below a number that have one
unfoldable pub blocks_below : (ℕ → ℕ) → List SymbolSaid → ℕ → List ℕ
blocks_below resolve symbols n = joined (number_if (has_block resolve symbols)) n

-- a common symbol that a symbol stands for
abbrev pub merges_with : (ℕ → ℕ) → List SymbolSaid → ℕ → ℕ → Bool
merges_with resolve symbols n m = is_block (symbol symbols m).standing && resolve m == n

-- the value of a common symbol is its alignment
abbrev pub greater_block : List SymbolSaid → Block → ℕ → Block
greater_block symbols b n = record { size = max b.size (symbol symbols n).size; align = max b.align (symbol symbols n).value }

abbrev pub empty_block : Block
empty_block = record { size = 0; align = 0 }

unfoldable pub block_of : (ℕ → ℕ) → List SymbolSaid → ℕ → Block
block_of resolve symbols n = fold (greater_block symbols) empty_block (joined (number_if (merges_with resolve symbols n)) (length symbols))
