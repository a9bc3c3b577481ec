-- Worked rows of the definitions, computed: names, a symbol, and a relocation.
use Rattle.std.proofs.Common.{◌≡◌, ℕ, negsuc, List, [], ◌∷◌, ◌++◌, replicate, true, false, refl}
use Rattle.elf_tables.specs.declared.header.SectionHeader.{SectionHeader}
use Rattle.elf_bytes.specs.Fields.{number_at}
use Rattle.elf_tables.specs.Kept.{is_kept_by}
use Rattle.elf_tables.specs.Symbol.{symbol_in}
use Rattle.elf_tables.specs.Relocation.{relocation_in}

-- an allocated section of this type whose name begins at this offset
section : ℕ → ℕ → SectionHeader
section kind name = record { name = name; kind = kind; flags = 2; offset = 0; size = 0; link = 0; info = 0; align = 0; entry_size = 0 }

-- ".eh_frame" and then "x"
names : List ℕ
names = 46 ∷ 101 ∷ 104 ∷ 95 ∷ 102 ∷ 114 ∷ 97 ∷ 109 ∷ 101 ∷ 0 ∷ 120 ∷ 0 ∷ []

kept_rows : (is_kept_by names (section 1 0) ≡ false) × (is_kept_by names (section 1 1) ≡ true) × (is_kept_by names (section 1 10) ≡ true)
    × (is_kept_by names (section 7 10) ≡ false) × (is_kept_by names (section 1 50) ≡ true)
unfolding section names
kept_rows = (refl, refl, refl, refl, refl)

-- symbol 1 of two: its name at 5, FUNC and GLOBAL, in section 1 at 8, 4 bytes
symbol_row : symbol_in (replicate 24 0 ++ (5 ∷ 0 ∷ 0 ∷ 0 ∷ 0x12 ∷ 0 ∷ 1 ∷ 0 ∷ 8 ∷ []) ++ replicate 7 0 ++ (4 ∷ []) ++ replicate 7 0) 1
    ≡ record { name = 5; info = 0x12; section = 1; value = 8; size = 4 }
unfolding symbol_in number_at
symbol_row = refl

-- R_RISCV_RELAX, 51, at 4, of symbol 2, with the addend -1
relocation_row : relocation_in ((4 ∷ []) ++ replicate 7 0 ++ (51 ∷ 0 ∷ 0 ∷ 0 ∷ 2 ∷ 0 ∷ 0 ∷ 0 ∷ []) ++ replicate 8 255) 0
    ≡ record { offset = 4; symbol = 2; kind = 51; addend = negsuc 0 }
unfolding relocation_in number_at
relocation_row = refl
