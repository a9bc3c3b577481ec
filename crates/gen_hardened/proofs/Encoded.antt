-- The words of code are decoded as the instructions of its lines.
use Rattle.std.proofs.Common.{◌≡◌, ℕ, zero, suc, ◌+◌, ◌*◌, ◌^◌, ◌<◌, List, [], ◌∷◌, length, get_or, Some, inl, inr, ap, ◌∙◌, arith, lit<}
use Rattle.std.specs.List.{flat_map}
use Rattle.gen_hardened.proofs.Prelude.{IsInstr, Instr, Upper, Jal, Jalr, Branch, Load, Store, Immediate, Shift, ShiftWord, Register, Fence, Ecall, Ebreak, Lui, Auipc, Slli, Srli, Srai, Slliw, Srliw, Sraiw, RegisterOp, Add, decoded, code_of, register_code, number_at, Line, code_bytes, plain, word_bytes}
use Rattle.rv_code.proofs.Rows.{branch_row, immediate_row, load_row, store_row}
use Rattle.rv_code.proofs.ReadBack.{decoded-code_of}
use Rattle.elf_writer.proofs.Stands.{StandsAt, stands_at, stands_first, stands_number, stands_second, stands_within}

-- a line of code, and what stands past its end
abbrev pub no_line : Line
no_line = plain Ecall

abbrev pub line : List Line → ℕ → Line
line ls k = get_or ls k no_line

-- an instruction whose fields are in range has a word of 32 bits
register_fits : (op : RegisterOp) → register_code op < 2 ^ 31
register_fits Add = lit< tt
register_fits op = lit< tt

code_fits : (i : Instr) → IsInstr i → code_of i < 2 ^ 32
unfolding code_of
code_fits (Upper Lui rd imm) r = omega arith
code_fits (Upper Auipc rd imm) r = omega arith
code_fits (Jal rd imm) r = omega arith
code_fits (Jalr rd rs1 imm) r = omega arith
code_fits (Branch op rs1 rs2 imm) r = let row = branch_row op in omega (arith, row.1, row.2)
code_fits (Load op rd rs1 imm) r = let row = load_row op in omega (arith, row.1, row.2)
code_fits (Store op rs1 rs2 imm) r = let row = store_row op in omega (arith, row.1, row.2)
code_fits (Immediate op rd rs1 imm) r = elim (immediate_row op) [
  | inl row ↦ omega (arith, row.1, row.2)
  | inr same ↦ rw same (omega arith)
]
code_fits (Shift Slli rd rs1 amount) r = omega arith
code_fits (Shift Srli rd rs1 amount) r = omega arith
code_fits (Shift Srai rd rs1 amount) r = omega arith
code_fits (ShiftWord Slliw rd rs1 amount) r = omega arith
code_fits (ShiftWord Srliw rd rs1 amount) r = omega arith
code_fits (ShiftWord Sraiw rd rs1 amount) r = omega arith
code_fits (Register op rd rs1 rs2) r = omega (arith, register_fits op)
code_fits (Fence word) r = r.bits
code_fits Ecall r = lit< tt
code_fits Ebreak r = lit< tt

-- where the word of each line stands
words_stand : (ls : List Line) (k : ℕ) → k < length ls → StandsAt (flat_map word_bytes ls) (4 * k) (word_bytes (line ls k))
words_stand [] k below = absurd (omega arith)
words_stand (l ∷ ls) zero below = stands_first (word_bytes l) (flat_map word_bytes ls)
words_stand (l ∷ ls) (suc k) below =
    let step : 4 + 4 * k ≡ 4 * suc k = omega arith in
    stands_at step (stands_within (stands_second (word_bytes l) (flat_map word_bytes ls)) (words_stand ls k (omega arith)))

pub word_decoded : (ls : List Line) (k : ℕ) → k < length ls → IsInstr (line ls k).instr
    → decoded (number_at (code_bytes ls) (4 * k) 4) ≡ Some (line ls k).instr
unfolding code_bytes
word_decoded ls k below range =
    ap decoded (stands_number 4 (code_of (line ls k).instr) (code_fits (line ls k).instr range) (words_stand ls k below))
    ∙ decoded-code_of (line ls k).instr range
