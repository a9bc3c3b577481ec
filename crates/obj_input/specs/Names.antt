-- Names are looked for in the order of the symbol table (System V gABI, "Symbol Table"): the first symbol that has the name counts,
-- whatever it stands for. No symbol is found by an empty name.
use Rattle.std.specs.Prelude.{ℕ, Bool, ◌==◌, ◌&&◌, not, Option, Some, None, List, length, find}
use Rattle.std.specs.Str.{bytes_eq}
use Rattle.obj_input.specs.declared.parts.Definition.{Definition}
use Rattle.obj_input.specs.declared.parts.Definition.TheVariants.{Within}
use Rattle.obj_input.specs.Input.{Named}

abbrev pub is_called : List ℕ → Named → Bool
is_called name n = not (length name == 0) && bytes_eq n.name name

-- the index of a section, and an offset there
abbrev pub spot_within : Definition → Option (ℕ × ℕ)
spot_within (Within section offset) = Some (section, offset)
spot_within other = None

abbrev pub spot_of : Option Named → Option (ℕ × ℕ)
spot_of None = None
spot_of (Some n) = spot_within n.definition

abbrev pub find_spot : List Named → List ℕ → Option (ℕ × ℕ)
find_spot names name = spot_of (find (is_called name) names)
