-- What is wrong with an object: the first of eight tests that fails, and of that test the least index.
use Rattle.std.specs.Prelude.{◌≡◌, ℕ, ◌+◌, nat_lt, Bool, ◌==◌, ◌&&◌, not, if◌then◌else◌, Option, Some, None, option_map, Result, Ok, Err, List, length}
use Rattle.std.specs.Option.{option_or}
use Rattle.elf_object.specs.declared.fault.ObjectFault.{ObjectFault}
use Rattle.elf_object.specs.declared.fault.ObjectFault.TheVariants.{NotElf, NotRelocatable, NotRiscv, Flags, Truncated, BadTable, SectionKind, BadSymbol}
use Rattle.elf_bytes.specs.declared.values.TheConstants as values
use Rattle.rv_word.specs.declared.end.End.{End}
use Rattle.rv_word.specs.declared.end.End.TheVariants.{Fault, NoMemory}
use Rattle.least.specs.First.{first_below}
use Rattle.elf_tables.specs.Header.{e_shoff, e_shnum, section_headers_end}
use Rattle.elf_object.specs.Header.{is_elf, e_type, e_machine, e_flags, are_flags_taken}
use Rattle.elf_tables.specs.Section.{section_header, is_in_file}
use Rattle.elf_object.specs.Kind.{is_wrong_kind}
use Rattle.elf_object.specs.Table.{is_wrong_start, is_wrong_table}
use Rattle.elf_tables.specs.Symbol.{symbol_count}
use Rattle.elf_object.specs.Symbol.{is_wrong_symbol}
use Rattle.elf_object.specs.Stray.{stray_symbol}

-- the ELF header: not ELF, no ET_REL, no EM_RISCV, other flags
unfoldable pub header_fault : List ℕ → Option ObjectFault
header_fault bytes =
    if not (is_elf bytes) then Some NotElf else
    if not (e_type bytes == 1) then Some (NotRelocatable (e_type bytes)) else
    if not (e_machine bytes == values.EM_RISCV) then Some (NotRiscv (e_machine bytes)) else
    if not (are_flags_taken (e_flags bytes)) then Some (Flags (e_flags bytes)) else None

-- the bytes of a section leave the file
abbrev pub is_cut : List ℕ → ℕ → Bool
is_cut bytes index =
    is_in_file (section_header bytes index)
    && nat_lt (length bytes) ((section_header bytes index).offset + (section_header bytes index).size)

-- the first section whose bytes leave the file
abbrev pub cut_section : List ℕ → Option ObjectFault
cut_section bytes = option_map (λ k. Truncated (section_header bytes k).offset) (first_below (is_cut bytes) (e_shnum bytes))

-- the section header table or a section's bytes leave the file
unfoldable pub truncated : List ℕ → Option ObjectFault
truncated bytes =
    if nat_lt (length bytes) (section_headers_end bytes) then Some (Truncated (e_shoff bytes)) else cut_section bytes

-- what the header says of the tables, or a section's table or name, is wrong
unfoldable pub table_fault : List ℕ → Option ObjectFault
table_fault bytes =
    if is_wrong_start bytes then Some (BadTable 0) else
    option_map (λ k. BadTable k) (first_below (is_wrong_table bytes) (e_shnum bytes))

-- a section is of a kind that is not taken
unfoldable pub kind_fault : List ℕ → Option ObjectFault
kind_fault bytes = option_map (λ k. SectionKind k) (first_below (is_wrong_kind bytes) (e_shnum bytes))

-- a symbol is wrong, or named and not there
unfoldable pub symbol_fault : List ℕ → Option ObjectFault
symbol_fault bytes =
    option_map (λ k. BadSymbol k) (option_or (first_below (is_wrong_symbol bytes) (symbol_count bytes)) (stray_symbol bytes))

-- what is wrong with the sections of a file that are all in it
abbrev pub section_fault : List ℕ → Option ObjectFault
section_fault bytes = option_or (table_fault bytes) (option_or (kind_fault bytes) (symbol_fault bytes))

-- what is wrong with an object, if anything is
unfoldable pub fault_of : List ℕ → Option ObjectFault
fault_of bytes = option_or (header_fault bytes) (option_or (truncated bytes) (section_fault bytes))

-- an answer is the right one: an object, which is these bytes, exactly where they have no fault; only want of memory is free
abbrev pub Answers : List ℕ → Result (List ℕ) (End ObjectFault) → Type 0
Answers bytes (Ok object) = (object ≡ bytes) × (fault_of bytes ≡ None)
Answers bytes (Err (Fault fault)) = fault_of bytes ≡ Some fault
Answers bytes (Err NoMemory) = Unit {0}
