-- What holds of units and the table of their shapes, each law by its name.
use Rattle.std.specs.Prelude.{◌≡◌, ℕ, List, [], length}
use Rattle.cfi_unit.specs.declared.unit.Unit as U
use Rattle.cfi_unit.specs.UnitWords.{Fits, word_count, words_of}
use Rattle.cfi_unit.specs.Shapes.{SHAPES, Shape}
use Rattle.cfi_unit.specs.ShapeOf.{shape_of}
use Rattle.cfi_unit.specs.Opens.{Among, Made, Opens, Small}

-- the shape of a unit that fits is one of the table, it has as many patterns as the unit has words, and the words
-- are as it says
abbrev pub UnitsShaped : Type 0
UnitsShaped =
    (unit : U.Unit) (at : ℕ) → Fits unit at →
    Among (shape_of unit at) SHAPES × (word_count unit ≡ length ((shape_of unit at).words))
    × Opens ((shape_of unit at).words) (words_of unit at) at []

-- words that are as a shape of the table says are those of a unit with this shape
abbrev pub ShapesMade : Type 0
ShapesMade =
    (s : Shape) (words : List ℕ) (at : ℕ) → Among s SHAPES → Small words → Opens s.words words at [] → Made s words at

-- no words are as two shapes of the table say
abbrev pub ShapesApart : Type 0
ShapesApart =
    (r s : Shape) (words : List ℕ) (at : ℕ) → Among r SHAPES → Among s SHAPES → Small words → Opens r.words words at [] →
    Opens s.words words at [] → r ≡ s

-- each shape of the table is one of a unit
abbrev pub ShapesUsed : Type 0
ShapesUsed = (s : Shape) → Among s SHAPES → (unit : U.Unit) × ((at : ℕ) × (Fits unit at × (shape_of unit at ≡ s)))
