-- A word that is put together of six fields is read as these fields.
use Rattle.std.proofs.Common.{◌≡◌, ℕ, ◌+◌, ◌*◌, ◌/◌, ◌%◌, ◌^◌, ◌<◌, refl, ap, ◌∙◌, arith}
use Rattle.rv_code.specs.Fields.{fields_of}
use Rattle.rv_code.specs.Decode.{decoded, decoded_by}

-- the word with these fields
abbrev pub word_of : ℕ → ℕ → ℕ → ℕ → ℕ → ℕ → ℕ
word_of o rd f3 rs1 rs2 f7 = o + 2 ^ 7 * rd + 2 ^ 12 * f3 + 2 ^ 15 * rs1 + 2 ^ 20 * rs2 + 2 ^ 25 * f7

pub fields_of-word_of : (o rd f3 rs1 rs2 f7 : ℕ) → o < 2 ^ 7 → rd < 2 ^ 5 → f3 < 2 ^ 3 → rs1 < 2 ^ 5 → rs2 < 2 ^ 5 →
    fields_of (word_of o rd f3 rs1 rs2 f7)
    ≡ record { opcode = o; rd = rd; funct3 = f3; rs1 = rs1; rs2 = rs2; funct7 = f7 }
fields_of-word_of o rd f3 rs1 rs2 f7 a b c d e =
    let w0 : word_of o rd f3 rs1 rs2 f7 % 2 ^ 7 ≡ o = omega arith in
    let w1 : word_of o rd f3 rs1 rs2 f7 / 2 ^ 7 % 2 ^ 5 ≡ rd = omega arith in
    let w2 : word_of o rd f3 rs1 rs2 f7 / 2 ^ 12 % 2 ^ 3 ≡ f3 = omega arith in
    let w3 : word_of o rd f3 rs1 rs2 f7 / 2 ^ 15 % 2 ^ 5 ≡ rs1 = omega arith in
    let w4 : word_of o rd f3 rs1 rs2 f7 / 2 ^ 20 % 2 ^ 5 ≡ rs2 = omega arith in
    let w5 : word_of o rd f3 rs1 rs2 f7 / 2 ^ 25 ≡ f7 = omega arith in
    rw (w0, w1, w2, w3, w4, w5) refl

-- so a word that is equal to one of six fields is decoded by these
pub decoded-word : (w o rd f3 rs1 rs2 f7 : ℕ) → w ≡ word_of o rd f3 rs1 rs2 f7 →
    o < 2 ^ 7 → rd < 2 ^ 5 → f3 < 2 ^ 3 → rs1 < 2 ^ 5 → rs2 < 2 ^ 5 →
    decoded w ≡ decoded_by (record { opcode = o; rd = rd; funct3 = f3; rs1 = rs1; rs2 = rs2; funct7 = f7 }) w
unfolding decoded
decoded-word w o rd f3 rs1 rs2 f7 is a b c d e =
    ap (λ f. decoded_by f w) (ap fields_of is ∙ fields_of-word_of o rd f3 rs1 rs2 f7 a b c d e)
