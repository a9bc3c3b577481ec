-- The table of addresses, which relocations R_RISCV_GOT_HI20 want (RISC-V ELF psABI, "Global Offset Table"): a slot of 8 bytes for
-- each symbol that is so used, in the order of the first use by section and offset in code. It is one more section of data, behind
-- all others, whose bytes are zero before a relocation R_RISCV_64 fills each slot. Without a slot there is none.
use Rattle.std.specs.Prelude.{ℕ, zero, suc, pos, ◌*◌, ◌/◌, Bool, ◌==◌, ◌&&◌, if◌then◌else◌, List, [], ◌∷◌, ◌++◌, length, map, filter, fold, position, replicate, slice_index_or, unwrap_or}
use Rattle.std.specs.List.{list_any}
use Rattle.least.specs.Nearest.{joined}
use Rattle.obj_input.specs.declared.parts.Relocation.{Relocation}
use Rattle.obj_input.specs.declared.parts.Sort.TheVariants.{Data, Dropped}
use Rattle.obj_input.specs.Kinds.{is_table_high, kind_of}
use Rattle.obj_input.specs.Listed.{listed}
use Rattle.obj_input.specs.Input.{SectionParts, is_code_sort}
use Rattle.obj_join.specs.Said.{Said, SectionSaid, UseSaid}
use Rattle.obj_join.specs.Stands.{definition_of}

abbrev pub section_said : List SectionSaid → ℕ → SectionSaid
section_said sections k = slice_index_or sections k (record { sort = Dropped; size = 0; align = 0; content = []; uses = [] })

abbrev pub is_table_use : UseSaid → Bool
is_table_use u = is_table_high (kind_of u.number)

-- the symbols that the word with an index has an address of from the table
abbrev pub table_symbols_at : (ℕ → ℕ) → SectionSaid → ℕ → List ℕ
table_symbols_at resolve s w = map (λ u. resolve u.symbol) (filter (λ u. is_table_use u && u.offset == 4 * w) s.uses)

-- those of a section, which is to be code, in the order of its words
abbrev pub table_symbols_of : (ℕ → ℕ) → SectionSaid → List ℕ
table_symbols_of resolve s = if is_code_sort s.sort then joined (table_symbols_at resolve s) (s.size / 4) else []

abbrev pub table_symbols_in : (ℕ → ℕ) → List SectionSaid → ℕ → List ℕ
table_symbols_in resolve sections k = table_symbols_of resolve (section_said sections k)

abbrev pub with_symbol : List ℕ → ℕ → List ℕ
with_symbol slots n = if list_any (λ m. n == m) slots then slots else slots ++ n ∷ []

-- the symbols that have slots, in the order of the table
unfoldable pub slots : (ℕ → ℕ) → List SectionSaid → List ℕ
slots resolve sections = fold with_symbol [] (joined (table_symbols_in resolve sections) (length sections))

abbrev pub slot_of : (ℕ → ℕ) → List SectionSaid → ℕ → ℕ
slot_of resolve sections n = unwrap_or (position (λ m. m == n) (slots resolve sections)) 0

abbrev pub slot_use : (ℕ → ℕ) → Said → ℕ → Relocation
slot_use resolve said j = record {
  offset = 8 * j;
  number = 2;  -- R_RISCV_64
  addend = pos 0;
  definition = definition_of resolve said.symbols (slice_index_or (slots resolve said.sections) j 0);
}

-- the section that the table is with so many slots
abbrev pub table_section : (ℕ → ℕ) → Said → ℕ → SectionParts
table_section resolve said count = record {
  sort = Data;
  size = 8 * count;
  align = 8;
  content = replicate (8 * count) 0;
  uses = listed (slot_use resolve said) count;
}

abbrev pub table_of : (ℕ → ℕ) → Said → ℕ → List SectionParts
table_of resolve said zero = []
table_of resolve said (suc count) = table_section resolve said (suc count) ∷ []
