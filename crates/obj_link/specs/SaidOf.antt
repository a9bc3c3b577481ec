-- What an object says, by the bytes of its file, and what several say together.
use Rattle.std.specs.Prelude.{ℕ, List, map}
use Rattle.obj_join.specs.Said.{Said, said_together}
use Rattle.obj_link.specs.Sections.{sections_said}
use Rattle.obj_link.specs.Symbols.{symbols_said}

unfoldable pub said_of : List ℕ → Said
said_of bytes = record { sections = sections_said bytes; symbols = symbols_said bytes }

unfoldable pub said_by : List (List ℕ) → Said
said_by objects = said_together (map said_of objects)
