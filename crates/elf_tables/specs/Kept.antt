-- Kept sections: those that a program has in memory, without notes and the tables of unwinding (System V gABI, "Section Attribute Flags").
use Rattle.std.specs.Prelude.{ℕ, bit_and, Bool, false, ◌==◌, ◌&&◌, not, Option, Some, None, List, codes}
use Rattle.std.specs.Str.{bytes_eq}
use Rattle.elf_bytes.specs.Fields.{string_at}
use Rattle.elf_tables.specs.declared.header.SectionHeader.{SectionHeader}
use Rattle.elf_tables.specs.Section.{section_header, section_names}

-- a bit of sh_flags is set
abbrev pub has_flag : ℕ → ℕ → Bool
has_flag flags flag = not (bit_and flags flag == 0)

-- SHF_WRITE, SHF_ALLOC, SHF_EXECINSTR, SHF_TLS
abbrev pub is_writable : SectionHeader → Bool
is_writable h = has_flag h.flags 1

abbrev pub is_allocated : SectionHeader → Bool
is_allocated h = has_flag h.flags 2

abbrev pub is_executable : SectionHeader → Bool
is_executable h = has_flag h.flags 4

abbrev pub is_thread_local : SectionHeader → Bool
is_thread_local h = has_flag h.flags 0x400

-- a name that is there, and is this one
abbrev pub is_named : List ℕ → Option (List ℕ) → Bool
is_named word None = false
is_named word (Some name) = bytes_eq name word

-- allocated, no SHT_NOTE, and not named ".eh_frame" by this table of names
abbrev pub is_kept_by : List ℕ → SectionHeader → Bool
is_kept_by names h = is_allocated h && not (h.kind == 7) && not (is_named (codes ".eh_frame") (string_at names h.name))

unfoldable pub is_kept : List ℕ → ℕ → Bool
is_kept bytes index = is_kept_by (section_names bytes) (section_header bytes index)

-- a kept section with instructions
abbrev pub is_code : List ℕ → ℕ → Bool
is_code bytes index = is_kept bytes index && is_executable (section_header bytes index)
