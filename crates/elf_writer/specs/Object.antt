-- The file of an object: its sections, the relocations, the symbol table, and the names of symbols and of sections.
use Rattle.std.specs.Prelude.{ℕ, Bool, ◌==◌, count_by, ◌+◌, List, [], ◌∷◌, ◌++◌, length, map, codes}
use Rattle.elf_bytes.specs.declared.places.TheConstants as offsets
use Rattle.elf_tables.specs.Symbol.{symbol_binding}
use Rattle.elf_writer.specs.declared.heading.Heading.{Heading}
use Rattle.elf_writer.specs.Names.{string_table}
use Rattle.elf_writer.specs.File.{Entry, entry, strings_entry, with_names, file_of}
use Rattle.elf_writer.specs.Parts.{SectionPart, SymbolPart, RelocationsPart, ObjectParts, symbol_names}
use Rattle.elf_writer.specs.Tables.{relocations_bytes, symbols_bytes}

abbrev pub section_heading : SectionPart → Heading
section_heading p = record { kind = p.kind; flags = p.flags; size = p.size; link = 0; info = 0; align = p.align; entry_size = 0 }

abbrev pub section_entry : SectionPart → Entry
section_entry p = entry p.name (section_heading p) p.content

-- symbols or relocations, aligned to 8
abbrev pub entries_heading : ℕ → ℕ → ℕ → ℕ → Heading
entries_heading kind size link info =
    record { kind = kind; flags = 0; size = size; link = link; info = info; align = 8; entry_size = offsets.ENTRY_SIZE }

-- SHT_RELA, with the symbols of the section `symbols`
abbrev pub relocations_entry : ℕ → RelocationsPart → Entry
relocations_entry symbols r =
    entry r.name (entries_heading 4 (length (relocations_bytes r.entries)) symbols r.target) (relocations_bytes r.entries)

-- a local symbol: STB_LOCAL
abbrev pub is_local : SymbolPart → Bool
is_local s = symbol_binding s.info == 0

-- the number of the first symbol that is not local, where the local ones stand first
abbrev pub first_global : List SymbolPart → ℕ
first_global ss = count_by is_local ss + 1

-- SHT_SYMTAB, the section with this index, whose names are the next section
abbrev pub symbols_entry : ℕ → List SymbolPart → Entry
symbols_entry index ss =
    entry (codes ".symtab") (entries_heading 2 (length (symbols_bytes ss)) (index + 1) (first_global ss)) (symbols_bytes ss)

abbrev pub symbol_names_entry : List SymbolPart → Entry
symbol_names_entry ss = strings_entry (codes ".strtab") (string_table (symbol_names ss))

-- the index of the symbol table
abbrev pub symbol_index : ObjectParts → ℕ
symbol_index parts = length parts.sections + length parts.relocations + 1

-- the sections but that of their names
abbrev pub entries_of : ObjectParts → List Entry
entries_of parts =
    map section_entry parts.sections
    ++ (map (relocations_entry (symbol_index parts)) parts.relocations
    ++ (symbols_entry (symbol_index parts) parts.symbols ∷ symbol_names_entry parts.symbols ∷ []))

-- how many sections there are, section 0 among them
abbrev pub section_count : ObjectParts → ℕ
section_count parts = length parts.sections + length parts.relocations + 4

-- the bytes of the file
unfoldable pub object_bytes : ObjectParts → List ℕ
object_bytes parts = file_of parts.flags (with_names (entries_of parts))
