-- A fault of an object as it is printed: its name and what it tells, in decimal; and its test's number.
use Rattle.std.specs.Prelude.{ℕ, List, ◌++◌, codes, Option, Some, None}
use Rattle.std.specs.Fmt.{decimal}
use Rattle.elf_object.specs.declared.fault.ObjectFault.{ObjectFault}
use Rattle.elf_object.specs.declared.fault.ObjectFault.TheVariants.{NotElf, NotRelocatable, NotRiscv, Flags, Truncated, BadTable, SectionKind, BadSymbol}

abbrev pub fault_text : ObjectFault → List ℕ
fault_text NotElf = codes "NotElf"
fault_text (NotRelocatable kind) = codes "NotRelocatable " ++ decimal kind
fault_text (NotRiscv machine) = codes "NotRiscv " ++ decimal machine
fault_text (Flags flags) = codes "Flags " ++ decimal flags
fault_text (Truncated offset) = codes "Truncated " ++ decimal offset
fault_text (BadTable index) = codes "BadTable " ++ decimal index
fault_text (SectionKind index) = codes "SectionKind " ++ decimal index
fault_text (BadSymbol number) = codes "BadSymbol " ++ decimal number

-- the text of a name, and of a number if there is one
abbrev pub told : List ℕ → Option ℕ → List ℕ
told name (Some number) = name ++ codes " " ++ decimal number
told name None = name

-- which of the eight tests failed
abbrev pub fault_number : ObjectFault → ℕ
fault_number NotElf = 1
fault_number (NotRelocatable kind) = 2
fault_number (NotRiscv machine) = 3
fault_number (Flags flags) = 4
fault_number (Truncated offset) = 5
fault_number (BadTable index) = 6
fault_number (SectionKind index) = 7
fault_number (BadSymbol number) = 8
