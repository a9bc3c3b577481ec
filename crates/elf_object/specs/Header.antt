-- What the ELF header of an object says of its class, machine and flags (System V gABI, "ELF Header"; RISC-V ELF psABI, "File Header").
use Rattle.std.specs.Prelude.{ℕ, nat_le, nat_eq, Bool, ◌==◌, ◌&&◌, ◌||◌, List, [], ◌∷◌, length}
use Rattle.std.specs.List.{starts_with}
use Rattle.elf_bytes.specs.Fields.{number_at}
use Rattle.elf_bytes.specs.declared.places.TheConstants as offsets

-- 7f "ELF", ELFCLASS64, ELFDATA2LSB, EV_CURRENT
abbrev pub ident : List ℕ
ident = 0x7f ∷ 0x45 ∷ 0x4c ∷ 0x46 ∷ 2 ∷ 1 ∷ 1 ∷ []

-- a file of 64-bit little-endian ELF, with room for its header
abbrev pub is_elf : List ℕ → Bool
is_elf bytes = nat_le offsets.ELF_HEADER_SIZE (length bytes) && starts_with nat_eq bytes ident

abbrev pub e_type : List ℕ → ℕ
e_type bytes = number_at bytes offsets.E_TYPE 2

abbrev pub e_machine : List ℕ → ℕ
e_machine bytes = number_at bytes offsets.E_MACHINE 2

abbrev pub e_flags : List ℕ → ℕ
e_flags bytes = number_at bytes offsets.E_FLAGS 4

-- no flag, or EF_RISCV_TSO alone: neither RVC, nor a float ABI, nor RVE
abbrev pub are_flags_taken : ℕ → Bool
are_flags_taken flags = flags == 0 || flags == 0x10
