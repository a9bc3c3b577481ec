-- What all sections of several objects ask. Only private contracts cite this.
use Rattle.std.specs.Prelude.{◌≡◌, ◌*◌, ℕ, List, length}
use Rattle.obj_input.specs.declared.parts.Definition.{Definition}
use Rattle.obj_input.specs.declared.parts.Definition.TheVariants.{Within}
use Rattle.obj_input.specs.Listed.{listed}
use Rattle.obj_join.specs.Said.{Said}
use Rattle.obj_join.specs.Stands.{definition}
use Rattle.obj_join.specs.Table as table
use Rattle.obj_join.specs.Numbers.{by}
use Rattle.obj_link.specs.SaidOf.{said_by}

-- the objects, and which symbol each of theirs is
pub record ResolutionParts : Type 0 where
  pub objects : List (List ℕ)
  pub numbers : List ℕ

-- the slot of a symbol as what a use of it stands for
abbrev pub slot_definition : (ℕ → ℕ) → Said → ℕ → Definition
slot_definition resolve said n = Within (length said.sections) (8 * table.slot_of resolve said.sections (resolve n))

-- what uses of symbols stand for, which symbols have slots, and the index of the table's section
pub record IsResolved (objects : List (List ℕ)) (numbers : List ℕ) (definitions : List Definition) (slots : List ℕ) (sections : ℕ) : Type 0 where
  pub count : length numbers ≡ length (said_by objects).symbols
  pub stands : definitions ≡ listed (definition (by numbers) (said_by objects).symbols) (length (said_by objects).symbols)
  pub slotted : slots ≡ table.slots (by numbers) (said_by objects).sections
  pub behind : sections ≡ length (said_by objects).sections
