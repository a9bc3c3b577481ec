-- What an object says, without its bytes: its sections with their relocations, each of which names a symbol by its number, and
-- its symbols. Several objects say together what each of them does, one after another: the numbers of sections and of symbols go on.
use Rattle.std.specs.Prelude.{ℕ, ℤ, ◌+◌, Bool, List, [], ◌++◌, length, map, fold}
use Rattle.obj_input.specs.declared.parts.Sort.{Sort}
use Rattle.obj_join.specs.declared.standing.Standing.{Standing}
use Rattle.obj_join.specs.declared.standing.Standing.TheVariants.{InSection}

-- a symbol: its name, its binding (System V gABI, "Symbol Table", ELF64_ST_BIND), where it stands, and whether it is a
-- function in code
pub record SymbolSaid : Type 0 where
  pub name : List ℕ
  pub binding : ℕ
  pub standing : Standing
  pub value : ℕ
  pub size : ℕ
  pub is_function : Bool

-- a relocation, by the number of its type and that of its symbol
pub record UseSaid : Type 0 where
  pub offset : ℕ
  pub number : ℕ
  pub addend : ℤ
  pub symbol : ℕ

-- `uses` in the order of their table
pub record SectionSaid : Type 0 where
  pub sort : Sort
  pub size : ℕ
  pub align : ℕ
  pub content : List ℕ
  pub uses : List UseSaid

pub record Said : Type 0 where
  pub sections : List SectionSaid
  pub symbols : List SymbolSaid

abbrev pub nothing_said : Said
nothing_said = record { sections = []; symbols = [] }

-- behind so many sections
abbrev pub standing_behind : ℕ → Standing → Standing
standing_behind count (InSection k) = InSection (count + k)
standing_behind count other = other

abbrev pub symbol_behind : ℕ → SymbolSaid → SymbolSaid
symbol_behind count s = record {
  name = s.name;
  binding = s.binding;
  standing = standing_behind count s.standing;
  value = s.value;
  size = s.size;
  is_function = s.is_function;
}

-- behind so many symbols
abbrev pub use_behind : ℕ → UseSaid → UseSaid
use_behind count u = record { offset = u.offset; number = u.number; addend = u.addend; symbol = count + u.symbol }

abbrev pub section_behind : ℕ → SectionSaid → SectionSaid
section_behind count s = record { sort = s.sort; size = s.size; align = s.align; content = s.content; uses = map (use_behind count) s.uses }

-- one object more
abbrev pub with_object : Said → Said → Said
with_object before said = record {
  sections = before.sections ++ map (section_behind (length before.symbols)) said.sections;
  symbols = before.symbols ++ map (symbol_behind (length before.sections)) said.symbols;
}

unfoldable pub said_together : List Said → Said
said_together objects = fold with_object nothing_said objects
