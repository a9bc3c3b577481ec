-- What holds of an object without a fault (System V gABI, "Sections", "Symbol Table", "Relocation").
use Rattle.std.specs.Prelude.{◌≡◌, ◌≢◌, ◌⊎◌, ℕ, ◌<◌, ◌≤◌, ◌%◌, true, false, None, IsSome, List, length}
use Rattle.elf_tables.specs.declared.header.SectionHeader.{SectionHeader}
use Rattle.elf_tables.specs.declared.entry.SymbolEntry.{SymbolEntry}
use Rattle.elf_tables.specs.Header.{e_shnum}
use Rattle.elf_tables.specs.Section.{content, is_in_file, section_header, section_name}
use Rattle.elf_tables.specs.Kept.{is_executable, is_kept, is_thread_local, is_writable}
use Rattle.elf_tables.specs.Symbol.{symbol, symbol_count, symbol_name, symbol_type}
use Rattle.elf_tables.specs.Relocation.{relocation_bytes, relocation_count, relocation_in}
use Rattle.elf_object.specs.Kind.{is_alignment}
use Rattle.elf_object.specs.Fault.{fault_of}

-- each section has a name
abbrev pub SectionsAreNamed : Type 0
SectionsAreNamed = (bytes : List ℕ) (k : ℕ) → fault_of bytes ≡ None → k < e_shnum bytes → IsSome (section_name bytes k)

-- a section that has bytes in the file has all of them there
abbrev pub SectionsAreWhole : Type 0
SectionsAreWhole =
    (bytes : List ℕ) (k : ℕ) → fault_of bytes ≡ None → k < e_shnum bytes → is_in_file (section_header bytes k) ≡ true
    → length (content bytes (section_header bytes k)) ≡ (section_header bytes k).size

-- a kept section is SHT_PROGBITS or SHT_NOBITS, is not thread-local, and its alignment is 0 or a power of two; code is SHT_PROGBITS,
-- is not writable and has whole words, and the alignment of data is at most 4096
pub record IsRightKept (h : SectionHeader) : Type 0 where
  pub sort : (h.kind ≡ 1) ⊎ (h.kind ≡ 8)
  pub not_thread_local : is_thread_local h ≡ false
  pub aligned : is_alignment h.align ≡ true
  pub code_in_file : is_executable h ≡ true → h.kind ≡ 1
  pub code_not_writable : is_executable h ≡ true → is_writable h ≡ false
  pub code_whole : is_executable h ≡ true → h.size % 4 ≡ 0
  pub data_aligned : is_executable h ≡ false → h.align ≤ 4096

abbrev pub KeptSectionsAreRight : Type 0
KeptSectionsAreRight =
    (bytes : List ℕ) (k : ℕ) → fault_of bytes ≡ None → k < e_shnum bytes → is_kept bytes k ≡ true → IsRightKept (section_header bytes k)

-- each relocation of a section names a symbol that is there; a section that is not kept has none
abbrev pub RelocationsNameSymbols : Type 0
RelocationsNameSymbols =
    (bytes : List ℕ) (k j : ℕ) → fault_of bytes ≡ None → k < e_shnum bytes → j < relocation_count (relocation_bytes bytes k)
    → (relocation_in (relocation_bytes bytes k) j).symbol < symbol_count bytes

-- a symbol stands in a section, at a number (SHN_ABS) or in a common block (SHN_COMMON); it is neither STT_TLS nor STT_GNU_IFUNC, in a
-- kept section it stands up to the end, and the alignment of a common block is 0 or a power of two up to 4096
pub record IsRightSymbol (bytes : List ℕ) (s : SymbolEntry) : Type 0 where
  pub placed : (s.section < e_shnum bytes) ⊎ ((s.section ≡ 0xfff1) ⊎ (s.section ≡ 0xfff2))
  pub not_thread_local : symbol_type s.info ≢ 6
  pub not_chosen_late : symbol_type s.info ≢ 10
  pub inside : s.section ≢ 0 → s.section < e_shnum bytes → is_kept bytes s.section ≡ true → s.value ≤ (section_header bytes s.section).size
  pub common_aligned : s.section ≡ 0xfff2 → is_alignment s.value ≡ true
  pub common_within_page : s.section ≡ 0xfff2 → s.value ≤ 4096

-- so is each symbol but number 0, and it has a name
abbrev pub SymbolsAreRight : Type 0
SymbolsAreRight =
    (bytes : List ℕ) (k : ℕ) → fault_of bytes ≡ None → k < symbol_count bytes → k ≢ 0
    → IsRightSymbol bytes (symbol bytes k) × IsSome (symbol_name bytes k)
