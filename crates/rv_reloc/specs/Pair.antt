-- What a high part and a low part say together (RISC-V unprivileged ISA, "Integer Register-Immediate Instructions" and "Load and Store Instructions").
use Rattle.std.specs.Prelude.{◌≡◌, ℕ, ℤ, pos, negsuc, ◌+◌, ◌*◌, ◌^◌, ◌<◌, IsTrue}
use Rattle.rv_word.specs.Bits.{bits_from, sign_extended, wrap}
use Rattle.rv_reloc.specs.Value.{hi20, lo12, low_bits, is_between}
use Rattle.rv_reloc.specs.Word.{patched, is_high_in_range}
use Rattle.rv_reloc.specs.declared.kinds.CodePatch.TheVariants.{Hi20, PcrelHi20, Lo12I, Lo12S}

-- the immediates that the words of the forms U, I and S have
abbrev pub imm_u : ℕ → ℕ
imm_u word = bits_from word 12 20 * 2 ^ 12

abbrev pub imm_i : ℕ → ℕ
imm_i word = bits_from word 20 12

abbrev pub imm_s : ℕ → ℕ
imm_s word = bits_from word 25 7 * 2 ^ 5 + bits_from word 7 5

-- what a LUI puts into a register, or an AUIPC adds to the pc, with a signed immediate added to it
abbrev pub sum_of : ℕ → ℕ → ℕ
sum_of upper lower = wrap (sign_extended upper 32 + sign_extended lower 12)

-- two patched words give the value, modulo 2 ^ 64 as registers are
abbrev pub HighAndLow : Type 0
HighAndLow = (upper lower : ℕ) (value : ℤ) → upper < 2 ^ 32 → lower < 2 ^ 32 → IsTrue (is_high_in_range value) →
    (sum_of (imm_u (patched Hi20 value upper)) (imm_i (patched Lo12I value lower)) ≡ low_bits 64 value)
    × (sum_of (imm_u (patched Hi20 value upper)) (imm_s (patched Lo12S value lower)) ≡ low_bits 64 value)
    × (patched PcrelHi20 value upper ≡ patched Hi20 value upper)

-- a low part is a signed number of 12 bits
abbrev pub LowIsSmall : Type 0
LowIsSmall = (value : ℤ) → IsTrue (is_between (negsuc 0x7ff) (pos 0x800) (lo12 value))

-- so do the parts of a value by themselves
abbrev pub PartsAddUp : Type 0
PartsAddUp =
    (value : ℤ) → IsTrue (is_high_in_range value) → sum_of (low_bits 20 (hi20 value) * 2 ^ 12) (low_bits 12 (lo12 value)) ≡ low_bits 64 value
