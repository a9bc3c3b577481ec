-- The input that an object is by itself, by the bytes of its file.
use Rattle.std.specs.Prelude.{ℕ, List}
use Rattle.obj_input.specs.Input.{InputParts}
use Rattle.obj_join.specs.Joined.{own_input}
use Rattle.obj_link.specs.SaidOf.{said_of}

unfoldable pub input_of : List ℕ → InputParts
input_of bytes = own_input (said_of bytes)
