-- What symbols stand for. A use of a symbol is a use of the one that `resolve` gives for it.
use Rattle.std.specs.Prelude.{ℕ, List, length}
use Rattle.obj_input.specs.declared.parts.Definition.{Definition}
use Rattle.obj_input.specs.declared.parts.Definition.TheVariants.{Zero, Absolute, Within, Common, Missing}
use Rattle.obj_join.specs.declared.standing.Standing.{Standing}
use Rattle.obj_join.specs.declared.standing.Standing.TheVariants.{IsNone, Nowhere, AsNumber, AsCommon, InSection}
use Rattle.obj_join.specs.Said.{SymbolSaid}
use Rattle.obj_join.specs.Symbols.{symbol}
use Rattle.obj_join.specs.Blocks.{blocks_below}

-- a block by how many are before it
abbrev pub standing_for : (ℕ → ℕ) → List SymbolSaid → ℕ → Standing → Definition
standing_for resolve symbols n IsNone = Zero
standing_for resolve symbols n Nowhere = Missing n
standing_for resolve symbols n AsNumber = Absolute (symbol symbols n).value
standing_for resolve symbols n AsCommon = Common (length (blocks_below resolve symbols n))
standing_for resolve symbols n (InSection k) = Within k (symbol symbols n).value

-- what a symbol stands for by itself
abbrev pub definition_of : (ℕ → ℕ) → List SymbolSaid → ℕ → Definition
definition_of resolve symbols n = standing_for resolve symbols n (symbol symbols n).standing

-- what a use of it is a use of
unfoldable pub definition : (ℕ → ℕ) → List SymbolSaid → ℕ → Definition
definition resolve symbols n = definition_of resolve symbols (resolve n)
