-- The bytes of symbol tables and of relocations (System V gABI, "Symbol Table", "Relocation").
use Rattle.std.specs.Prelude.{ℕ, ◌+◌, ◌*◌, ◌^◌, List, [], ◌∷◌, ◌++◌, length}
use Rattle.std.specs.List.{flat_map}
use Rattle.std.specs.Int.{cast_unsigned, w64}
use Rattle.elf_tables.specs.declared.entry.Reloc.{Reloc}
use Rattle.elf_writer.specs.declared.number.Number.{Number}
use Rattle.elf_writer.specs.Numbers.{byte, half, word, long, numbers}
use Rattle.elf_writer.specs.Parts.{SymbolPart}

-- a symbol whose name begins at `name`
unfoldable pub symbol_numbers : ℕ → SymbolPart → List Number
symbol_numbers name s =
    word name  -- st_name
    ∷ byte s.info  -- st_info
    ∷ byte 0  -- st_other
    ∷ half s.section  -- st_shndx
    ∷ long s.value  -- st_value
    ∷ long s.size  -- st_size
    ∷ []

abbrev pub symbol_bytes : ℕ → SymbolPart → List ℕ
symbol_bytes name s = numbers (symbol_numbers name s)

-- the symbols, whose names begin from a place on
unfoldable pub symbols_from : ℕ → List SymbolPart → List ℕ
symbols_from name [] = []
symbols_from name (s ∷ ss) = symbol_bytes name s ++ symbols_from (name + length s.name + 1) ss

-- symbol 0 stands for none
abbrev pub null_symbol : SymbolPart
null_symbol = record { name = []; info = 0; section = 0; value = 0; size = 0 }

-- the symbol table: symbol 0, and those with names, which begin after a NUL
unfoldable pub symbols_bytes : List SymbolPart → List ℕ
symbols_bytes ss = symbol_bytes 0 null_symbol ++ symbols_from 1 ss

-- a relocation; the halves of r_info are ELF64_R_SYM and ELF64_R_TYPE
unfoldable pub relocation_numbers : Reloc → List Number
relocation_numbers r =
    long r.offset  -- r_offset
    ∷ long (r.symbol * 2 ^ 32 + r.kind)  -- r_info
    ∷ long (cast_unsigned w64 r.addend)  -- r_addend
    ∷ []

abbrev pub relocation_entry_bytes : Reloc → List ℕ
relocation_entry_bytes r = numbers (relocation_numbers r)

unfoldable pub relocations_bytes : List Reloc → List ℕ
relocations_bytes rs = flat_map relocation_entry_bytes rs
