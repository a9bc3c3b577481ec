-- When the parts of an object are right (System V gABI, "Sections", "Symbol Table", "Relocation").
use Rattle.std.specs.Prelude.{◌≡◌, ℕ, suc, pos, FitsSigned, ◌^◌, ◌<◌, ◌≤◌, nat_lt, nat_le, Bool, true, false, ◌==◌, ◌&&◌, ◌||◌, not, List, [], length, get_or, codes}
use Rattle.std.specs.Int.{w64}
use Rattle.std.specs.Str.{bytes_eq}
use Rattle.elf_tables.specs.declared.entry.Reloc.{Reloc}
use Rattle.elf_tables.specs.declared.header.SectionHeader.{SectionHeader}
use Rattle.elf_tables.specs.Section.{is_in_file}
use Rattle.elf_tables.specs.Kept.{is_allocated}
use Rattle.elf_tables.specs.Symbol.{symbol_type}
use Rattle.elf_object.specs.Header.{are_flags_taken}
use Rattle.elf_object.specs.Kind.{is_alignment, is_wrong_kept}
use Rattle.elf_writer.specs.Names.{is_clean}
use Rattle.elf_writer.specs.Header.{header_of}
use Rattle.elf_writer.specs.Parts.{SectionPart, SymbolPart, RelocationsPart, ObjectParts}
use Rattle.elf_writer.specs.Object.{is_local, object_bytes, section_count, section_heading}

-- what stands where there is no such part
abbrev pub no_section : SectionPart
no_section = record { name = []; kind = 0; flags = 0; size = 0; align = 0; content = [] }

abbrev pub no_relocations : RelocationsPart
no_relocations = record { name = []; target = 0; entries = [] }

abbrev pub no_reloc : Reloc
no_reloc = record { offset = 0; symbol = 0; kind = 0; addend = pos 0 }

abbrev pub no_symbol : SymbolPart
no_symbol = record { name = []; info = 0; section = 0; value = 0; size = 0 }

-- what a section's header says, wherever its name and its bytes stand
abbrev pub header_part : SectionPart → SectionHeader
header_part p = header_of 0 0 (section_heading p)

-- a section that is kept: allocated, no SHT_NOTE, and not named ".eh_frame"
abbrev pub is_kept_part : SectionPart → Bool
is_kept_part p = is_allocated (header_part p) && not (p.kind == 7) && not (bytes_eq p.name (codes ".eh_frame"))

-- a type that is left to sections: not SHT_SYMTAB, SHT_RELA, SHT_REL or SHT_GROUP
abbrev pub is_content_kind : ℕ → Bool
is_content_kind kind = not (kind == 2) && not (kind == 4) && not (kind == 9) && not (kind == 17)

pub record IsRightSection (p : SectionPart) : Type 0 where
  pub clean : is_clean p.name ≡ true
  pub kind : p.kind < 2 ^ 32
  pub flags : p.flags < 2 ^ 64
  pub size : p.size < 2 ^ 64
  pub align : p.align < 2 ^ 64
  pub taken : is_content_kind p.kind ≡ true
  pub right : is_kept_part p ≡ true → is_wrong_kept (header_part p) ≡ false
  pub whole : is_in_file (header_part p) ≡ true → p.size ≡ length p.content

pub record IsReloc (r : Reloc) : Type 0 where
  pub offset : r.offset < 2 ^ 64
  pub symbol : r.symbol < 2 ^ 32
  pub kind : r.kind < 2 ^ 32
  pub addend : FitsSigned w64 r.addend

-- relocations of a section that is there, of symbols that are there
pub record IsRightRelocations (parts : ObjectParts) (r : RelocationsPart) : Type 0 where
  pub clean : is_clean r.name ≡ true
  pub target_from : 1 ≤ r.target
  pub target_to : r.target ≤ length parts.sections
  pub each : (k : ℕ) → k < length r.entries → IsReloc (get_or r.entries k no_reloc)
  pub named : (k : ℕ) → k < length r.entries → (get_or r.entries k no_reloc).symbol ≤ length parts.symbols

-- a symbol in a section that is there, at a number (SHN_ABS) or in a common block (SHN_COMMON); neither STT_TLS nor STT_GNU_IFUNC; within
-- its section if that is kept; the alignment of a common block is 0 or a power of two up to 4096
pub record IsRightSymbol (parts : ObjectParts) (s : SymbolPart) : Type 0 where
  pub clean : is_clean s.name ≡ true
  pub info : s.info < 2 ^ 8
  pub section : s.section < 2 ^ 16
  pub value : s.value < 2 ^ 64
  pub size : s.size < 2 ^ 64
  pub placed : (nat_lt s.section (section_count parts) || s.section == 0xfff1 || s.section == 0xfff2) ≡ true
  pub kind : (symbol_type s.info == 6 || symbol_type s.info == 10) ≡ false
  pub within : (k : ℕ) → s.section ≡ suc k → k < length parts.sections → is_kept_part (get_or parts.sections k no_section) ≡ true
      → s.value ≤ (get_or parts.sections k no_section).size
  pub aligned : (s.section == 0xfff2 && not (is_alignment s.value && nat_le s.value 4096)) ≡ false

-- a local symbol has no symbol before it that is not local
abbrev pub AreLocalFirst : List SymbolPart → Type 0
AreLocalFirst ss = (i j : ℕ) → i < j → j < length ss → is_local (get_or ss j no_symbol) ≡ true → is_local (get_or ss i no_symbol) ≡ true

-- the parts of an object without a fault: each is right, no two tables have relocations of one section, local symbols stand first, and
-- offsets in the file have room in 32 bits
pub record AreObjectParts (parts : ObjectParts) : Type 0 where
  pub flags : are_flags_taken parts.flags ≡ true
  pub few : section_count parts < 0xff00
  pub small : length (object_bytes parts) < 2 ^ 32
  pub sections : (k : ℕ) → k < length parts.sections → IsRightSection (get_or parts.sections k no_section)
  pub relocations : (k : ℕ) → k < length parts.relocations → IsRightRelocations parts (get_or parts.relocations k no_relocations)
  pub apart : (i j : ℕ) → i < j → j < length parts.relocations
      → (get_or parts.relocations i no_relocations).target ≡ (get_or parts.relocations j no_relocations).target → ⊥
  pub symbols : (k : ℕ) → k < length parts.symbols → IsRightSymbol parts (get_or parts.symbols k no_symbol)
  pub local_first : AreLocalFirst parts.symbols
