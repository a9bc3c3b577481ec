-- What the sections of an object say (System V gABI, "Sections", "Relocation").
use Rattle.std.specs.Prelude.{ℕ, ◌==◌, if◌then◌else◌, List}
use Rattle.elf_tables.specs.declared.header.SectionHeader.{SectionHeader}
use Rattle.elf_tables.specs.declared.entry.Reloc.{Reloc}
use Rattle.elf_tables.specs.Header.{e_shnum}
use Rattle.elf_tables.specs.Section.{content, section_header}
use Rattle.elf_tables.specs.Kept.{is_executable, is_kept}
use Rattle.elf_tables.specs.Relocation.{relocation_bytes, relocation_count, relocation_in}
use Rattle.obj_input.specs.declared.parts.Sort.{Sort}
use Rattle.obj_input.specs.declared.parts.Sort.TheVariants.{Code, Data, Zeros, Dropped}
use Rattle.obj_input.specs.Listed.{listed}
use Rattle.obj_join.specs.Said.{SectionSaid, UseSaid}

-- SHF_EXECINSTR, SHT_NOBITS
abbrev pub kept_sort : SectionHeader → Sort
kept_sort h = if is_executable h then Code else if h.kind == 8 then Zeros else Data

abbrev pub sort_of : List ℕ → ℕ → Sort
sort_of bytes k = if is_kept bytes k then kept_sort (section_header bytes k) else Dropped

abbrev pub use_said : Reloc → UseSaid
use_said r = record { offset = r.offset; number = r.kind; addend = r.addend; symbol = r.symbol }

abbrev pub use_said_at : List ℕ → ℕ → ℕ → UseSaid
use_said_at bytes k j = use_said (relocation_in (relocation_bytes bytes k) j)

-- the relocations of a section in the order of their table; a section that is not kept has none
abbrev pub uses_said : List ℕ → ℕ → List UseSaid
uses_said bytes k = listed (use_said_at bytes k) (relocation_count (relocation_bytes bytes k))

abbrev pub section_said_in : List ℕ → ℕ → SectionSaid
section_said_in bytes k = record {
  sort = sort_of bytes k;
  size = (section_header bytes k).size;
  align = (section_header bytes k).align;
  content = content bytes (section_header bytes k);
  uses = uses_said bytes k;
}

abbrev pub sections_said : List ℕ → List SectionSaid
sections_said bytes = listed (section_said_in bytes) (e_shnum bytes)
