-- The object of a number: its sections, relocations and symbols.
use Rattle.std.specs.Prelude.{ℕ, zero, suc, pos, ◌+◌, ◌*◌, List, [], ◌∷◌, ◌++◌, replicate, codes}
use Rattle.std.specs.Fmt.{decimal}
use Rattle.elf_tables.specs.declared.entry.Reloc.{Reloc}
use Rattle.elf_writer.specs.Parts.{ObjectParts, RelocationsPart, SectionPart, SymbolPart}
use Rattle.cfi_gen.specs.declared.function.Function.{Function}
use Rattle.cfi_gen.specs.Lines.{code_bytes, code_size, relocs_from}
use Rattle.cfi_gen.specs.Code.{function_lines, function_symbol, main_lines, program_lines}
use Rattle.cfi_gen.specs.Drawing.{functions_from}

-- the table: an address for each of 2,000 functions, which relocations R_RISCV_64 give
unfoldable pub table_bytes : List ℕ
table_bytes = replicate 16000 0

-- those of `count` functions from `i` on
unfoldable pub table_relocs : ℕ → ℕ → List Reloc
table_relocs zero i = []
table_relocs (suc count) i =
    record { offset = 8 * i; symbol = function_symbol i; kind = 2; addend = pos 0 } ∷ table_relocs count (i + 1)

-- `.text`: SHT_PROGBITS with SHF_ALLOC and SHF_EXECINSTR; `.data`: with SHF_ALLOC and SHF_WRITE
abbrev pub text_part : List Function → SectionPart
text_part fs = record {
  name = codes ".text";
  kind = 1;
  flags = 6;
  size = code_size (program_lines fs);
  align = 4;
  content = code_bytes (program_lines fs);
}

abbrev pub data_part : SectionPart
data_part = record { name = codes ".data"; kind = 1; flags = 3; size = 16000; align = 8; content = table_bytes }

abbrev pub text_relocs : List Function → RelocationsPart
text_relocs fs = record { name = codes ".rela.text"; target = 1; entries = relocs_from 0 (program_lines fs) }

abbrev pub data_relocs : RelocationsPart
data_relocs = record { name = codes ".rela.data"; target = 2; entries = table_relocs 2000 0 }

-- STB_GLOBAL, with STT_FUNC in section 1, or STT_OBJECT in section 2
abbrev pub code_symbol : List ℕ → ℕ → ℕ → SymbolPart
code_symbol name at size = record { name = name; info = 0x12; section = 1; value = at; size = size }

abbrev pub table_part : SymbolPart
table_part = record { name = codes "table"; info = 0x11; section = 2; value = 0; size = 16000 }

-- "f" and the function's number
abbrev pub function_name : ℕ → List ℕ
function_name i = codes "f" ++ decimal i

-- the functions from `i` on, which stand from `at` on
unfoldable pub function_symbols : ℕ → ℕ → List Function → List SymbolPart
function_symbols at i [] = []
function_symbols at i (f ∷ fs) =
    code_symbol (function_name i) at (code_size (function_lines f)) ∷ function_symbols (at + code_size (function_lines f)) (i + 1) fs

abbrev pub main_part : SymbolPart
main_part = code_symbol (codes "main") 0 (code_size main_lines)

-- the object of 2,000 functions
abbrev pub parts_with : List Function → ObjectParts
parts_with fs = record {
  flags = 0;
  sections = text_part fs ∷ data_part ∷ [];
  relocations = text_relocs fs ∷ data_relocs ∷ [];
  symbols = main_part ∷ table_part ∷ function_symbols (code_size main_lines) 0 fs;
}

-- the object of a number
abbrev pub demo_parts : ℕ → ObjectParts
demo_parts number = parts_with (functions_from 2000 0 number)
