-- Sections: their headers and their bytes (System V gABI, "Sections").
use Rattle.std.specs.Prelude.{ℕ, ◌+◌, ◌*◌, nat_lt, Bool, ◌==◌, ◌||◌, not, if◌then◌else◌, Option, List, [], take, drop}
use Rattle.elf_bytes.specs.Fields.{number_at, string_at}
use Rattle.elf_bytes.specs.declared.places.TheConstants as offsets
use Rattle.elf_tables.specs.declared.header.SectionHeader.{SectionHeader}
use Rattle.elf_tables.specs.Header.{e_shoff, e_shnum, e_shstrndx}

-- the section header at an offset
unfoldable pub section_header_at : List ℕ → ℕ → SectionHeader
section_header_at bytes at = record {
  name = number_at bytes at 4;  -- sh_name
  kind = number_at bytes (at + offsets.SH_TYPE) 4;
  flags = number_at bytes (at + offsets.SH_FLAGS) 8;
  offset = number_at bytes (at + offsets.SH_OFFSET) 8;
  size = number_at bytes (at + offsets.SH_SIZE) 8;
  link = number_at bytes (at + offsets.SH_LINK) 4;
  info = number_at bytes (at + offsets.SH_INFO) 4;
  align = number_at bytes (at + offsets.SH_ADDRALIGN) 8;
  entry_size = number_at bytes (at + offsets.SH_ENTSIZE) 8;
}

-- the header of the section with this index
abbrev pub section_header : List ℕ → ℕ → SectionHeader
section_header bytes index = section_header_at bytes (e_shoff bytes + offsets.SECTION_HEADER_SIZE * index)

-- a section that has bytes in the file: any but SHT_NULL and SHT_NOBITS
abbrev pub is_in_file : SectionHeader → Bool
is_in_file h = not (h.kind == 0 || h.kind == 8)

-- a section's bytes in the file
unfoldable pub content : List ℕ → SectionHeader → List ℕ
content bytes h = if is_in_file h then take h.size (drop h.offset bytes) else []

-- the bytes of the section with this index, and none where there is no such section
unfoldable pub section_bytes : List ℕ → ℕ → List ℕ
section_bytes bytes index = if nat_lt index (e_shnum bytes) then content bytes (section_header bytes index) else []

-- the table of the sections' names is the section e_shstrndx
abbrev pub section_names : List ℕ → List ℕ
section_names bytes = section_bytes bytes (e_shstrndx bytes)

-- the name of the section with this index, if its NUL is in the table
abbrev pub section_name : List ℕ → ℕ → Option (List ℕ)
section_name bytes index = string_at (section_names bytes) (section_header bytes index).name
