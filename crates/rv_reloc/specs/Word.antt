-- What a relocation makes of an instruction's word (RISC-V unprivileged ISA, "Immediate Encoding Variants"; RISC-V ELF psABI, "Relocations").
use Rattle.std.specs.Prelude.{ℕ, ℤ, pos, neg_ℤ, ◌+ℤ◌, ◌+◌, ◌*◌, ◌/◌, ◌%◌, ◌^◌, Bool, true}
use Rattle.rv_reloc.specs.Value.{hi20, lo12, low_bits, is_between}
use Rattle.rv_reloc.specs.declared.kinds.CodePatch.{CodePatch}
use Rattle.rv_reloc.specs.declared.kinds.CodePatch.TheVariants.{Hi20, PcrelHi20, Lo12I, Lo12S}

-- the word in which the `len` bits from `lo` on are `bits`, and all others are as they were
abbrev pub with_bits : ℕ → ℕ → ℕ → ℕ → ℕ
with_bits lo len bits word = word / 2 ^ (lo + len) * 2 ^ (lo + len) + bits * 2 ^ lo + word % 2 ^ lo

-- the immediates of the forms U, I and S
abbrev pub with_u : ℕ → ℕ → ℕ
with_u imm word = with_bits 12 20 imm word

abbrev pub with_i : ℕ → ℕ → ℕ
with_i imm word = with_bits 20 12 imm word

abbrev pub with_s : ℕ → ℕ → ℕ
with_s imm word = with_bits 25 7 (imm / 2 ^ 5) (with_bits 7 5 (imm % 2 ^ 5) word)

-- the word after the relocation
abbrev pub patched : CodePatch → ℤ → ℕ → ℕ
patched Hi20 value word = with_u (low_bits 20 (hi20 value)) word
patched PcrelHi20 value word = with_u (low_bits 20 (hi20 value)) word
patched Lo12I value word = with_i (low_bits 12 (lo12 value)) word
patched Lo12S value word = with_s (low_bits 12 (lo12 value)) word

-- LUI and AUIPC reach 2 GiB both ways
abbrev pub is_high_in_range : ℤ → Bool
is_high_in_range value = is_between (neg_ℤ (pos (2 ^ 31))) (pos (2 ^ 31)) (value +ℤ pos 0x800)

-- the values that the relocation takes
abbrev pub takes : CodePatch → ℤ → Bool
takes Hi20 value = is_high_in_range value
takes PcrelHi20 value = is_high_in_range value
takes Lo12I value = true
takes Lo12S value = true
