-- The headers of an object, field by field in the order of the file (System V gABI, "ELF Header" and "Section Header").
use Rattle.std.specs.Prelude.{ℕ, ◌+◌, List, [], ◌∷◌}
use Rattle.elf_bytes.specs.declared.places.TheConstants as offsets
use Rattle.elf_bytes.specs.declared.values.TheConstants as values
use Rattle.elf_tables.specs.declared.header.SectionHeader.{SectionHeader}
use Rattle.elf_writer.specs.declared.number.Number.{Number}
use Rattle.elf_writer.specs.declared.heading.Heading.{Heading}
use Rattle.elf_writer.specs.Numbers.{half, word, long, numbers}

-- the ELF header of a RISC-V object whose section headers stand at `at`, of so many sections beside section 0, the last with their names
unfoldable pub elf_numbers : ℕ → ℕ → ℕ → List Number
elf_numbers flags at sections =
    long values.IDENT  -- e_ident
    ∷ long 0  -- e_ident: the rest
    ∷ half 1  -- e_type: ET_REL
    ∷ half values.EM_RISCV  -- e_machine
    ∷ word values.EV_CURRENT  -- e_version
    ∷ long 0  -- e_entry
    ∷ long 0  -- e_phoff
    ∷ long at  -- e_shoff
    ∷ word flags  -- e_flags
    ∷ half offsets.ELF_HEADER_SIZE  -- e_ehsize
    ∷ half 0  -- e_phentsize
    ∷ half 0  -- e_phnum
    ∷ half offsets.SECTION_HEADER_SIZE  -- e_shentsize
    ∷ half (sections + 1)  -- e_shnum
    ∷ half sections  -- e_shstrndx
    ∷ []

unfoldable pub elf_header : ℕ → ℕ → ℕ → List ℕ
elf_header flags at sections = numbers (elf_numbers flags at sections)

-- the header of a section whose name begins at `name` and whose bytes stand at `offset`
unfoldable pub section_numbers : ℕ → ℕ → Heading → List Number
section_numbers name offset h =
    word name  -- sh_name
    ∷ word h.kind  -- sh_type
    ∷ long h.flags  -- sh_flags
    ∷ long 0  -- sh_addr
    ∷ long offset  -- sh_offset
    ∷ long h.size  -- sh_size
    ∷ word h.link  -- sh_link
    ∷ word h.info  -- sh_info
    ∷ long h.align  -- sh_addralign
    ∷ long h.entry_size  -- sh_entsize
    ∷ []

abbrev pub header_bytes : ℕ → ℕ → Heading → List ℕ
header_bytes name offset h = numbers (section_numbers name offset h)

-- the same as it is read
abbrev pub header_of : ℕ → ℕ → Heading → SectionHeader
header_of name offset h = record {
  name = name;
  kind = h.kind;
  flags = h.flags;
  offset = offset;
  size = h.size;
  link = h.link;
  info = h.info;
  align = h.align;
  entry_size = h.entry_size;
}

-- section 0 stands for none
abbrev pub null_heading : Heading
null_heading = record { kind = 0; flags = 0; size = 0; link = 0; info = 0; align = 0; entry_size = 0 }

-- SHT_STRTAB of so many bytes
abbrev pub names_heading : ℕ → Heading
names_heading len = record { kind = 3; flags = 0; size = len; link = 0; info = 0; align = 1; entry_size = 0 }
