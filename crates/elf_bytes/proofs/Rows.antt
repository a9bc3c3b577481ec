-- Each field of a header or an entry begins where the one before it ends, and the last ends with it, computed.
use Rattle.std.proofs.Common.{◌≡◌, ℕ, ◌+◌, ◌==◌, Bool, ◌&&◌, true, List, [], ◌∷◌, refl}
use Rattle.elf_bytes.specs.declared.places.TheConstants as offsets

-- fields from a place on, each with its size, up to an end
stand_from : ℕ → List (ℕ × ℕ) → ℕ → Bool
stand_from at [] end = at == end
stand_from at (f ∷ fs) end = f.0 == at && stand_from (at + f.1) fs end

elf_header_row : stand_from 0 (
    (0, 16) ∷ (offsets.E_TYPE, 2) ∷ (offsets.E_MACHINE, 2) ∷ (offsets.E_VERSION, 4) ∷ (offsets.E_ENTRY, 8) ∷ (offsets.E_PHOFF, 8)
    ∷ (offsets.E_SHOFF, 8) ∷ (offsets.E_FLAGS, 4) ∷ (offsets.E_EHSIZE, 2) ∷ (offsets.E_PHENTSIZE, 2) ∷ (offsets.E_PHNUM, 2)
    ∷ (offsets.E_SHENTSIZE, 2) ∷ (offsets.E_SHNUM, 2) ∷ (offsets.E_SHSTRNDX, 2) ∷ []) offsets.ELF_HEADER_SIZE ≡ true
unfolding stand_from
elf_header_row = refl

program_header_row : stand_from 0 (
    (0, 4) ∷ (offsets.P_FLAGS, 4) ∷ (offsets.P_OFFSET, 8) ∷ (offsets.P_VADDR, 8) ∷ (offsets.P_PADDR, 8) ∷ (offsets.P_FILESZ, 8)
    ∷ (offsets.P_MEMSZ, 8) ∷ (offsets.P_ALIGN, 8) ∷ []) offsets.PROGRAM_HEADER_SIZE ≡ true
unfolding stand_from
program_header_row = refl

section_header_row : stand_from 0 (
    (0, 4) ∷ (offsets.SH_TYPE, 4) ∷ (offsets.SH_FLAGS, 8) ∷ (offsets.SH_ADDR, 8) ∷ (offsets.SH_OFFSET, 8) ∷ (offsets.SH_SIZE, 8)
    ∷ (offsets.SH_LINK, 4) ∷ (offsets.SH_INFO, 4) ∷ (offsets.SH_ADDRALIGN, 8) ∷ (offsets.SH_ENTSIZE, 8) ∷ []) offsets.SECTION_HEADER_SIZE ≡ true
unfolding stand_from
section_header_row = refl

symbol_row : stand_from 0 (
    (0, 4) ∷ (offsets.ST_INFO, 1) ∷ (offsets.ST_OTHER, 1) ∷ (offsets.ST_SHNDX, 2) ∷ (offsets.ST_VALUE, 8) ∷ (offsets.ST_SIZE, 8) ∷ []) offsets.ENTRY_SIZE ≡ true
unfolding stand_from
symbol_row = refl

relocation_row : stand_from 0 ((0, 8) ∷ (offsets.R_INFO, 8) ∷ (offsets.R_ADDEND, 8) ∷ []) offsets.ENTRY_SIZE ≡ true
unfolding stand_from
relocation_row = refl
