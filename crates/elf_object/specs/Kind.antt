-- The kinds of sections that are taken (System V gABI, "Sections", "Section Attribute Flags").
use Rattle.std.specs.Prelude.{ℕ, nat_lt, ◌%◌, Bool, ◌==◌, ◌&&◌, ◌||◌, not, List}
use Rattle.std.specs.Int.{is_power_of_two}
use Rattle.elf_tables.specs.declared.header.SectionHeader.{SectionHeader}
use Rattle.elf_tables.specs.Section.{section_header}
use Rattle.elf_tables.specs.Kept.{is_writable, is_executable, is_thread_local, is_kept}

-- an alignment is 0 or a power of two
abbrev pub is_alignment : ℕ → Bool
is_alignment n = n == 0 || is_power_of_two n

-- code that may be written, that is SHT_NOBITS, or that is no whole words
abbrev pub is_wrong_code : SectionHeader → Bool
is_wrong_code h = is_writable h || h.kind == 8 || not (h.size % 4 == 0)

-- data with an alignment above 4096
abbrev pub is_wrong_data : SectionHeader → Bool
is_wrong_data h = nat_lt 4096 h.align

-- a kept section that is neither SHT_PROGBITS nor SHT_NOBITS, is thread-local, has a wrong alignment, or is wrong code or wrong data
abbrev pub is_wrong_kept : SectionHeader → Bool
is_wrong_kept h =
    not (h.kind == 1 || h.kind == 8) || is_thread_local h || not (is_alignment h.align)
    || is_executable h && is_wrong_code h || not (is_executable h) && is_wrong_data h

-- SHT_GROUP, or a kept section that is not taken
abbrev pub is_wrong_kind : List ℕ → ℕ → Bool
is_wrong_kind bytes index =
    (section_header bytes index).kind == 17 || is_kept bytes index && is_wrong_kept (section_header bytes index)
