-- The input of what is said. A use of a symbol is a use of the one that `resolve` gives for it, and a name finds those of its symbols
-- that `found` holds of: with other such functions one object is an input, and several are.
use Rattle.std.specs.Prelude.{ℕ, ◌*◌, Bool, ◌&&◌, if◌then◌else◌, List, [], ◌∷◌, ◌++◌, length, map}
use Rattle.least.specs.Nearest.{joined}
use Rattle.obj_input.specs.declared.parts.Definition.{Definition}
use Rattle.obj_input.specs.declared.parts.Definition.TheVariants.{Within}
use Rattle.obj_input.specs.declared.parts.Relocation.{Relocation}
use Rattle.obj_input.specs.declared.parts.Func.{Func}
use Rattle.obj_input.specs.Input.{InputParts, Named, SectionParts}
use Rattle.obj_join.specs.declared.standing.Standing.{Standing}
use Rattle.obj_join.specs.declared.standing.Standing.TheVariants.{InSection}
use Rattle.obj_join.specs.Said.{Said, SectionSaid, SymbolSaid, UseSaid}
use Rattle.obj_join.specs.Symbols.{is_some_symbol, number_if, symbol}
use Rattle.obj_join.specs.Blocks.{block_of, blocks_below}
use Rattle.obj_join.specs.Stands.{definition}
use Rattle.obj_join.specs.Table.{is_table_use, slot_of, slots, table_of}

-- a use of the table is one of the symbol's slot there
abbrev pub used_definition : (ℕ → ℕ) → Said → UseSaid → Definition
used_definition resolve said u =
    if is_table_use u then Within (length said.sections) (8 * slot_of resolve said.sections (resolve u.symbol))
    else definition resolve said.symbols u.symbol

abbrev pub use_of : (ℕ → ℕ) → Said → UseSaid → Relocation
use_of resolve said u = record { offset = u.offset; number = u.number; addend = u.addend; definition = used_definition resolve said u }

abbrev pub section_of : (ℕ → ℕ) → Said → SectionSaid → SectionParts
section_of resolve said s = record {
  sort = s.sort;
  size = s.size;
  align = s.align;
  content = s.content;
  uses = map (use_of resolve said) s.uses;
}

abbrev pub named : (ℕ → ℕ) → List SymbolSaid → ℕ → Named
named resolve symbols n = record { name = (symbol symbols n).name; definition = definition resolve symbols n }

abbrev pub is_named : (ℕ → Bool) → List SymbolSaid → ℕ → Bool
is_named found symbols n = is_some_symbol (symbol symbols n).standing && found n

unfoldable pub names_by : (ℕ → ℕ) → (ℕ → Bool) → List SymbolSaid → List Named
names_by resolve found symbols = map (named resolve symbols) (joined (number_if (is_named found symbols)) (length symbols))

abbrev pub func_at : SymbolSaid → Standing → List Func
func_at s (InSection k) = record { section = k; offset = s.value; size = s.size } ∷ []
func_at s other = []

-- functions stay all, those of symbols that are not the definition of their name too
abbrev pub func_of : List SymbolSaid → ℕ → List Func
func_of symbols n = if (symbol symbols n).is_function then func_at (symbol symbols n) (symbol symbols n).standing else []

unfoldable pub input_by : (ℕ → ℕ) → (ℕ → Bool) → Said → InputParts
input_by resolve found said = record {
  sections = map (section_of resolve said) said.sections ++ table_of resolve said (length (slots resolve said.sections));
  blocks = map (block_of resolve said.symbols) (blocks_below resolve said.symbols (length said.symbols));
  names = names_by resolve found said.symbols;
  funcs = joined (func_of said.symbols) (length said.symbols);
}
