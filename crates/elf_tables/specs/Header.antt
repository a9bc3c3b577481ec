-- The section header table that an ELF header names, by the names of its fields (System V gABI, "ELF Header").
use Rattle.std.specs.Prelude.{◌≡◌, ◌≤◌, ℕ, ◌+◌, ◌*◌, List, length}
use Rattle.elf_bytes.specs.Fields.{number_at}
use Rattle.elf_bytes.specs.declared.places.TheConstants as offsets

abbrev pub e_shoff : List ℕ → ℕ
e_shoff bytes = number_at bytes offsets.E_SHOFF 8

abbrev pub e_shentsize : List ℕ → ℕ
e_shentsize bytes = number_at bytes offsets.E_SHENTSIZE 2

abbrev pub e_shnum : List ℕ → ℕ
e_shnum bytes = number_at bytes offsets.E_SHNUM 2

abbrev pub e_shstrndx : List ℕ → ℕ
e_shstrndx bytes = number_at bytes offsets.E_SHSTRNDX 2

-- where the section header table ends
abbrev pub section_headers_end : List ℕ → ℕ
section_headers_end bytes = e_shoff bytes + offsets.SECTION_HEADER_SIZE * e_shnum bytes

-- a section header table at this offset, with so many headers, lies in the file
pub record IsTable (bytes : List ℕ) (at count : ℕ) : Type 0 where
  pub begins : at ≡ e_shoff bytes
  pub headers : count ≡ e_shnum bytes
  pub header : offsets.ELF_HEADER_SIZE ≤ length bytes
  pub inside : section_headers_end bytes ≤ length bytes
