-- What is held of a unit where a word is asked for the patterns of a node. Only private contracts cite it.
use Rattle.std.specs.Prelude.{◌≡◌, ℕ, true, false, List, [], Option, Some, None}
use Rattle.cfi_unit.specs.declared.pattern.End.{End}
use Rattle.cfi_unit.specs.Shapes.{Shape, shape}
use Rattle.cfi_unit.specs.Opens.{Among, Small}
use Rattle.cfi_reader.specs.declared.reader.Reader.{Reader}
use Rattle.cfi_reader.specs.Kept.{Keeps}
use Rattle.cfi_reader.specs.Left.{Tries, is_alone, none_ended}
use Rattle.cfi_reader.specs.Nodes.{rest_of}
use Rattle.cfi_reader.specs.Reading.{AtLeast}

pub record IsTrying (calls : List ℕ) (reader : Reader) (held : List ℕ) (word at : ℕ) : Type 0 where
  pub tries : Tries (rest_of reader.node) held word at
  pub least : AtLeast held at
  pub keeps : Keeps calls reader.numbers reader.label held at
  pub small : Small held

-- which unit has ended of those that are left, and is one only if no word goes on with it
abbrev pub Ended : List Shape → Option End → Type 0
Ended rests None = none_ended rests ≡ true
Ended rests (Some end) = Among (shape end []) rests × (is_alone end ≡ false)
