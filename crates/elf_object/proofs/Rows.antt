-- Worked rows of the definitions, computed: the faults of small files.
use Rattle.std.proofs.Common.{◌≡◌, ℕ, List, [], ◌∷◌, ◌++◌, replicate, Some, None, refl}
use Rattle.elf_object.specs.declared.fault.ObjectFault.TheVariants.{NotElf, NotRelocatable, Flags, Truncated, BadTable}
use Rattle.elf_bytes.specs.Fields.{number_at}
use Rattle.least.specs.First.{first_below}
use Rattle.elf_tables.specs.Section.{section_header_at, content, section_bytes}
use Rattle.elf_tables.specs.Kept.{is_kept}
use Rattle.elf_tables.specs.Table.{symbol_table}
use Rattle.elf_tables.specs.Symbol.{symbol_bytes, symbol_names}
use Rattle.elf_tables.specs.Relocation.{relocations_of}
use Rattle.least.specs.Least.{least_below}
use Rattle.elf_object.specs.Stray.{stray_symbol}
use Rattle.elf_object.specs.Fault.{header_fault, truncated, table_fault, kind_fault, symbol_fault, fault_of}

-- an ELF header of this type with these flags, section headers from an offset on, and the index of their names
header : ℕ → ℕ → ℕ → ℕ → ℕ → List ℕ
header type flags offset count index =
    (127 ∷ 69 ∷ 76 ∷ 70 ∷ 2 ∷ 1 ∷ 1 ∷ []) ++ replicate 9 0 ++ (type ∷ 0 ∷ 243 ∷ 0 ∷ 1 ∷ []) ++ replicate 19 0
    ++ (offset ∷ []) ++ replicate 7 0 ++ (flags ∷ 0 ∷ 0 ∷ 0 ∷ 64 ∷ []) ++ replicate 5 0 ++ (64 ∷ 0 ∷ count ∷ 0 ∷ index ∷ 0 ∷ [])

-- a file whose section 1 is the table of names ".a" of this type
two_sections : ℕ → ℕ → List ℕ
two_sections type name =
    header 1 0 72 2 1 ++ (0 ∷ 46 ∷ 97 ∷ 0 ∷ []) ++ replicate 68 0
    ++ (name ∷ 0 ∷ 0 ∷ 0 ∷ type ∷ []) ++ replicate 19 0 ++ (64 ∷ []) ++ replicate 7 0 ++ (4 ∷ []) ++ replicate 15 0 ++ (1 ∷ []) ++ replicate 15 0

file_rows : (fault_of [] ≡ Some NotElf) × (fault_of (header 1 0 0 0 0) ≡ None) × (fault_of (header 2 1 0 0 0) ≡ Some (NotRelocatable 2))
    × (fault_of (header 1 16 0 0 0) ≡ None) × (fault_of (header 1 1 0 0 0) ≡ Some (Flags 1)) × (fault_of (header 1 0 64 0 0) ≡ Some (BadTable 0))
    × (fault_of (header 1 0 72 2 1) ≡ Some (Truncated 72)) × (fault_of (two_sections 3 1) ≡ None) × (fault_of (two_sections 3 4) ≡ Some (BadTable 1))
    × (fault_of (two_sections 17 1) ≡ Some (BadTable 0))
unfolding header two_sections fault_of header_fault truncated table_fault kind_fault symbol_fault number_at section_header_at content section_bytes
    is_kept symbol_table symbol_bytes symbol_names relocations_of stray_symbol first_below least_below
file_rows = (refl, refl, refl, refl, refl, refl, refl, refl, refl, refl)
