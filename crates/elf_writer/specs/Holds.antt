-- What a reader finds in a file that holds these parts and no other, by the accessors of objects.
use Rattle.std.specs.Prelude.{◌≡◌, ℕ, suc, ◌+◌, ◌<◌, true, false, Some, None, List, [], length, get_or}
use Rattle.elf_tables.specs.declared.entry.SymbolEntry.{SymbolEntry}
use Rattle.elf_tables.specs.Header.{e_shnum}
use Rattle.elf_tables.specs.Section.{is_in_file, section_bytes, section_header, section_name}
use Rattle.elf_tables.specs.Kept.{is_kept}
use Rattle.elf_tables.specs.Symbol.{symbol, symbol_count, symbol_name}
use Rattle.elf_tables.specs.Relocation.{relocation_bytes, relocation_count, relocation_in}
use Rattle.elf_object.specs.Fault.{fault_of}
use Rattle.elf_writer.specs.Parts.{SectionPart, SymbolPart, RelocationsPart, ObjectParts}
use Rattle.elf_writer.specs.Object.{section_count}
use Rattle.elf_writer.specs.Right.{header_part, is_kept_part, no_reloc, no_relocations, no_section, no_symbol}

-- the section with this index is this part
pub record IsSection (file : List ℕ) (index : ℕ) (p : SectionPart) : Type 0 where
  pub name : section_name file index ≡ Some p.name
  pub kind : (section_header file index).kind ≡ p.kind
  pub flags : (section_header file index).flags ≡ p.flags
  pub size : (section_header file index).size ≡ p.size
  pub align : (section_header file index).align ≡ p.align
  pub bytes : is_in_file (header_part p) ≡ true → section_bytes file index ≡ p.content
  pub kept : is_kept file index ≡ is_kept_part p

-- the relocations of the section with this index are these
pub record AreRelocations (file : List ℕ) (index : ℕ) (r : RelocationsPart) : Type 0 where
  pub count : relocation_count (relocation_bytes file index) ≡ length r.entries
  pub each : (k : ℕ) → k < length r.entries → relocation_in (relocation_bytes file index) k ≡ get_or r.entries k no_reloc

-- the symbol with this number is this part
pub record IsSymbol (file : List ℕ) (number : ℕ) (s : SymbolPart) : Type 0 where
  pub name : symbol_name file number ≡ Some s.name
  pub info : (symbol file number).info ≡ s.info
  pub section : (symbol file number).section ≡ s.section
  pub value : (symbol file number).value ≡ s.value
  pub size : (symbol file number).size ≡ s.size

abbrev pub null_entry : SymbolEntry
null_entry = record { name = 0; info = 0; section = 0; value = 0; size = 0 }

-- a file without a fault that holds these parts, and keeps no section more
pub record Holds (parts : ObjectParts) (file : List ℕ) : Type 0 where
  pub sound : fault_of file ≡ None
  pub count : e_shnum file ≡ section_count parts
  pub sections : (k : ℕ) → k < length parts.sections → IsSection file (suc k) (get_or parts.sections k no_section)
  pub first_dropped : is_kept file 0 ≡ false
  pub others_dropped : (k : ℕ) → length parts.sections < k → k < section_count parts → is_kept file k ≡ false
  pub relocations : (j : ℕ) → j < length parts.relocations → is_kept file (get_or parts.relocations j no_relocations).target ≡ true
      → AreRelocations file (get_or parts.relocations j no_relocations).target (get_or parts.relocations j no_relocations)
  pub unrelocated : (index : ℕ) → ((j : ℕ) → j < length parts.relocations → (get_or parts.relocations j no_relocations).target ≡ index → ⊥)
      → relocation_bytes file index ≡ []
  pub symbol_count_is : symbol_count file ≡ length parts.symbols + 1
  pub null_symbol_is : symbol file 0 ≡ null_entry
  pub null_symbol_named : symbol_name file 0 ≡ Some []
  pub symbols : (k : ℕ) → k < length parts.symbols → IsSymbol file (suc k) (get_or parts.symbols k no_symbol)
