-- The file of right parts holds them.
use Rattle.std.proofs.Common.{◌≡◌, ℕ, suc, ◌<◌, true, List, [], inl, inr, ap, ◌∙◌, get_or, length}
use Rattle.elf_tables.specs.declared.header.SectionHeader.{SectionHeader}
use Rattle.elf_tables.specs.declared.entry.SymbolEntry.{SymbolEntry}
use Rattle.elf_tables.specs.Kept.{is_kept}
use Rattle.elf_tables.specs.Relocation.{relocation_bytes, relocation_count, relocation_in}
use Rattle.elf_writer.specs.Parts.{ObjectParts}
use Rattle.elf_writer.specs.Object.{object_bytes}
use Rattle.elf_writer.specs.Right.{AreObjectParts, no_relocations, no_section, no_symbol}
use Rattle.elf_writer.specs.Holds.{AreRelocations, Holds, IsSection, IsSymbol}
use Rattle.elf_writer.proofs.Reading.{file, section_found, shnum_is}
use Rattle.elf_writer.proofs.Entries.{null_symbol_is, null_symbol_named, reloc_count, reloc_read, relocation_bytes_are, relocations_cases, symbol_count_is, symbol_is, symbol_name_is}
use Rattle.elf_writer.proofs.Faultless.{faultless, null_dropped, others_dropped}

module _ (parts : ObjectParts) (right : AreObjectParts parts) where
  section_there : (k : ℕ) → k < length parts.sections → IsSection (file parts right) (suc k) (get_or parts.sections k no_section)
  section_there k below =
      let f = section_found parts right k below in
      record {
        name = f.name;
        kind = ap (λ (h : SectionHeader). h.kind) f.header;
        flags = ap (λ (h : SectionHeader). h.flags) f.header;
        size = ap (λ (h : SectionHeader). h.size) f.header;
        align = ap (λ (h : SectionHeader). h.align) f.header;
        bytes = f.bytes;
        kept = f.kept;
      }

  relocations_there : (j : ℕ) → j < length parts.relocations → is_kept (file parts right) (get_or parts.relocations j no_relocations).target ≡ true
      → AreRelocations (file parts right) (get_or parts.relocations j no_relocations).target (get_or parts.relocations j no_relocations)
  relocations_there j below kept =
      let r = get_or parts.relocations j no_relocations in
      let bytes = relocation_bytes_are parts right j below kept in
      record {
        count = ap relocation_count bytes ∙ reloc_count r.entries;
        each = λ k inside. ap (λ table. relocation_in table k) bytes ∙ reloc_read r.entries k inside ((right.relocations j below).each k inside);
      }

  none_there : (index : ℕ) → ((j : ℕ) → j < length parts.relocations → (get_or parts.relocations j no_relocations).target ≡ index → ⊥)
      → relocation_bytes (file parts right) index ≡ []
  none_there index none = elim (relocations_cases parts right index) [
    | inl empty ↦ empty
    | inr (j, below, same, bytes) ↦ absurd (none j below same)
  ]

  symbol_there : (k : ℕ) → k < length parts.symbols → IsSymbol (file parts right) (suc k) (get_or parts.symbols k no_symbol)
  symbol_there k below =
      let is = symbol_is parts right k below in
      record {
        name = symbol_name_is parts right k below;
        info = ap (λ (s : SymbolEntry). s.info) is;
        section = ap (λ (s : SymbolEntry). s.section) is;
        value = ap (λ (s : SymbolEntry). s.value) is;
        size = ap (λ (s : SymbolEntry). s.size) is;
      }

  file_holds : Holds parts (file parts right)
  file_holds = record {
    sound = faultless parts right;
    count = shnum_is parts right;
    sections = section_there;
    first_dropped = null_dropped parts right;
    others_dropped = λ k past below. others_dropped parts right k below past;
    relocations = relocations_there;
    unrelocated = none_there;
    symbol_count_is = symbol_count_is parts right;
    null_symbol_is = null_symbol_is parts right;
    null_symbol_named = null_symbol_named parts right;
    symbols = symbol_there;
  }

pub holds : (parts : ObjectParts) → AreObjectParts parts → Holds parts (object_bytes parts)
unfolding object_bytes
holds parts right = file_holds parts right

pub holds_it : (parts : ObjectParts) (file : List ℕ) → file ≡ object_bytes parts → AreObjectParts parts → Holds parts file
holds_it parts file e right = rw e (holds parts right)
