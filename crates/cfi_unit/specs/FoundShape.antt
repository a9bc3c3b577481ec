-- The shape of the unit that begins a list of words, by the table: the words begin as it says, and what follows them
-- does not go on with it.
use Rattle.std.specs.Prelude.{ℕ, ◌+◌, ◌&&◌, Bool, true, false, not, if◌then◌else◌, List, [], ◌∷◌, Option, Some, None}
use Rattle.cfi_unit.specs.declared.pattern.Pattern.{Pattern}
use Rattle.cfi_unit.specs.declared.pattern.Pattern.TheVariants as P
use Rattle.cfi_unit.specs.declared.pattern.End.{End}
use Rattle.cfi_unit.specs.declared.pattern.End.TheVariants as E
use Rattle.cfi_unit.specs.Patterns.{matches}
use Rattle.cfi_unit.specs.Shapes.{SHAPES, Shape}

-- a word goes on with a unit of this kind: a jump with a branch over the next word, a store with fewer than sixteen
abbrev pub continues : End → Pattern → Bool
continues E.Over P.Jump = true
continues (E.Stores mask) P.Member = true
continues end p = false

abbrev pub goes_on : End → List ℕ → ℕ → Bool
goes_on E.Over (w ∷ words) at = matches P.Jump w at
goes_on (E.Stores mask) (w ∷ words) at = matches P.Member w at
goes_on end words at = false

-- the first of these words are as patterns say, and all of a unit of this kind
abbrev pub begins_as : List Pattern → End → List ℕ → ℕ → Bool
begins_as [] end words at = not (goes_on end words at)
begins_as (p ∷ ps) end [] at = false
begins_as (p ∷ ps) end (w ∷ words) at = matches p w at && begins_as ps end words (at + 4)

abbrev pub first_of : List Shape → List ℕ → ℕ → Option Shape
first_of [] words at = None
first_of (s ∷ ss) words at = if begins_as s.words s.end words at then Some s else first_of ss words at

abbrev pub found_shape : List ℕ → ℕ → Option Shape
found_shape words at = first_of SHAPES words at
