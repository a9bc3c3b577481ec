-- The word of an instruction is decoded as this instruction.
use Rattle.std.proofs.Common.{◌≡◌, ℕ, ◌+◌, ◌*◌, ◌/◌, ◌%◌, ◌^◌, ◌<◌, refl, ap, ◌∙◌, arith, lit<, inl, inr}
use Rattle.std.specs.Prelude.{List, Option, Some, None, option_map}
use Rattle.std.specs.Option.{option_or}
use Rattle.rv_instr.specs.Fence.{IsFence}
use Rattle.rv_instr.specs.InRange.{IsInstr}
use Rattle.rv_instr.specs.declared.instr.Instr.{Instr}
use Rattle.rv_instr.specs.declared.instr.Instr.TheVariants.{Upper, Jal, Jalr, Branch, Load, Store, Immediate, Shift, ShiftWord, Register, Fence, Ecall, Ebreak}
use Rattle.rv_instr.specs.declared.instr.UpperOp.{UpperOp}
use Rattle.rv_instr.specs.declared.instr.UpperOp.TheVariants.{Lui, Auipc}
use Rattle.rv_instr.specs.declared.instr.BranchOp.{BranchOp}
use Rattle.rv_instr.specs.declared.instr.LoadOp.{LoadOp}
use Rattle.rv_instr.specs.declared.instr.StoreOp.{StoreOp}
use Rattle.rv_instr.specs.declared.instr.ImmediateOp.{ImmediateOp}
use Rattle.rv_instr.specs.declared.instr.ImmediateOp.TheVariants.{Addiw}
use Rattle.rv_instr.specs.declared.instr.ShiftOp.{ShiftOp}
use Rattle.rv_instr.specs.declared.instr.ShiftWordOp.{ShiftWordOp}
use Rattle.rv_instr.specs.declared.instr.RegisterOp.{RegisterOp}
use Rattle.rv_code.specs.Fields.{with_funct3}
use Rattle.rv_code.specs.Tables.{row, branches, loads, stores, immediates, shifts, word_shifts, registers, word_registers}
use Rattle.rv_code.specs.Decode.{decoded}
use Rattle.rv_code.specs.Encode.{code_of, fixed, at_rd, at_rs1, at_rs2, at_imm_s, at_imm_b, at_imm_j}
use Rattle.rv_code.proofs.Rows.{branch_row, load_row, store_row, immediate_row, shift_row, word_shift_row, register_row}
use Rattle.rv_code.proofs.Words.{word_of, decoded-word}

found : {A : Type 0} (rows : List (ℕ × A)) (n : ℕ) (op : A) (f : A → Instr) (i : Instr) →
    row rows n ≡ Some op → f op ≡ i → option_map f (row rows n) ≡ Some i
found rows n op f i e g = ap (option_map f) e ∙ ap Some g

first_found : {A : Type 0} (rows : List (ℕ × A)) (n : ℕ) (op : A) (f : A → Instr) (i : Instr) (other : Option Instr) →
    row rows n ≡ Some op → f op ≡ i → option_or (option_map f (row rows n)) other ≡ Some i
first_found rows n op f i other e g = ap (λ o. option_or o other) (found rows n op f i e g)

then_found : {A B : Type 0} (rows : List (ℕ × A)) (n : ℕ) (f : A → Instr) (others : List (ℕ × B)) (m k : ℕ) (op : B)
    (g : B → Instr) (i : Instr) → row rows n ≡ None → m ≡ k → row others k ≡ Some op → g op ≡ i →
    option_or (option_map f (row rows n)) (option_map g (row others m)) ≡ Some i
then_found rows n f others m k op g i none same e h =
    ap (λ o. option_or (option_map f o) (option_map g (row others m))) none
    ∙ ap (λ j. option_map g (row others j)) same ∙ found others k op g i e h

-- the words of the formats by their six fields
i_word : (o f3 rd rs1 imm : ℕ) →
    fixed o f3 0 + at_rd rd + at_rs1 rs1 + 2 ^ 20 * imm ≡ word_of o rd f3 rs1 (imm % 2 ^ 5) (imm / 2 ^ 5)
i_word o f3 rd rs1 imm = omega arith

shift_word : (o f3 f7 rd rs1 amount : ℕ) →
    fixed o f3 f7 + at_rd rd + at_rs1 rs1 + 2 ^ 20 * amount
    ≡ word_of o rd f3 rs1 (amount % 2 ^ 5) (f7 + amount / 2 ^ 5)
shift_word o f3 f7 rd rs1 amount = omega arith

r_word : (o f3 f7 rd rs1 rs2 : ℕ) → fixed o f3 f7 + at_rd rd + at_rs1 rs1 + at_rs2 rs2 ≡ word_of o rd f3 rs1 rs2 f7
r_word o f3 f7 rd rs1 rs2 = omega arith

s_word : (o f3 rs1 rs2 imm : ℕ) →
    fixed o f3 0 + at_rs1 rs1 + at_rs2 rs2 + at_imm_s imm ≡ word_of o (imm % 2 ^ 5) f3 rs1 rs2 (imm / 2 ^ 5)
s_word o f3 rs1 rs2 imm = omega arith

b_word : (o f3 rs1 rs2 imm : ℕ) →
    fixed o f3 0 + at_rs1 rs1 + at_rs2 rs2 + at_imm_b imm
    ≡ word_of o (imm / 2 ^ 10 % 2 + 2 * (imm % 2 ^ 4)) f3 rs1 rs2 (imm / 2 ^ 4 % 2 ^ 6 + 2 ^ 6 * (imm / 2 ^ 11))
b_word o f3 rs1 rs2 imm = omega arith

u_word : (o rd imm : ℕ) →
    fixed o 0 0 + at_rd rd + 2 ^ 12 * imm
    ≡ word_of o rd (imm % 2 ^ 3) (imm / 2 ^ 3 % 2 ^ 5) (imm / 2 ^ 8 % 2 ^ 5) (imm / 2 ^ 13)
u_word o rd imm = omega arith

j_word : (o rd imm : ℕ) →
    fixed o 0 0 + at_rd rd + at_imm_j imm
    ≡ word_of o rd (imm / 2 ^ 11 % 2 ^ 3) (imm / 2 ^ 14 % 2 ^ 5) (imm / 2 ^ 10 % 2 + 2 * (imm % 2 ^ 4))
    (imm / 2 ^ 4 % 2 ^ 6 + 2 ^ 6 * (imm / 2 ^ 19))
j_word o rd imm = omega arith

upper_read : (op : UpperOp) (rd imm : ℕ) → rd < 32 → imm < 2 ^ 20 → decoded (code_of (Upper op rd imm)) ≡ Some (Upper op rd imm)
unfolding code_of
upper_read Lui rd imm p r =
    decoded-word _ 0x37 rd (imm % 2 ^ 3) (imm / 2 ^ 3 % 2 ^ 5) (imm / 2 ^ 8 % 2 ^ 5) (imm / 2 ^ 13) (u_word 0x37 rd imm)
    (lit< tt) p (omega arith) (omega arith) (omega arith)
    ∙ ap (λ n. Some (Upper Lui rd n)) (omega arith)
upper_read Auipc rd imm p r =
    decoded-word _ 0x17 rd (imm % 2 ^ 3) (imm / 2 ^ 3 % 2 ^ 5) (imm / 2 ^ 8 % 2 ^ 5) (imm / 2 ^ 13) (u_word 0x17 rd imm)
    (lit< tt) p (omega arith) (omega arith) (omega arith)
    ∙ ap (λ n. Some (Upper Auipc rd n)) (omega arith)

jal_read : (rd imm : ℕ) → rd < 32 → imm < 2 ^ 20 → decoded (code_of (Jal rd imm)) ≡ Some (Jal rd imm)
unfolding code_of
jal_read rd imm p r =
    decoded-word _ 0x6f rd (imm / 2 ^ 11 % 2 ^ 3) (imm / 2 ^ 14 % 2 ^ 5) (imm / 2 ^ 10 % 2 + 2 * (imm % 2 ^ 4))
    (imm / 2 ^ 4 % 2 ^ 6 + 2 ^ 6 * (imm / 2 ^ 19)) (j_word 0x6f rd imm)
    (lit< tt) p (omega arith) (omega arith) (omega arith)
    ∙ ap (λ n. Some (Jal rd n)) (omega arith)

jalr_read : (rd rs1 imm : ℕ) → rd < 32 → rs1 < 32 → imm < 2 ^ 12 → decoded (code_of (Jalr rd rs1 imm)) ≡ Some (Jalr rd rs1 imm)
unfolding code_of
jalr_read rd rs1 imm p q r =
    decoded-word _ 0x67 rd 0 rs1 (imm % 2 ^ 5) (imm / 2 ^ 5) (i_word 0x67 0 rd rs1 imm) (lit< tt) p (lit< tt) q (omega arith)
    ∙ ap (λ n. Some (Jalr rd rs1 n)) (omega arith)

branch_read : (op : BranchOp) (rs1 rs2 imm : ℕ) → rs1 < 32 → rs2 < 32 → imm < 2 ^ 12 →
    decoded (code_of (Branch op rs1 rs2 imm)) ≡ Some (Branch op rs1 rs2 imm)
unfolding code_of
branch_read op rs1 rs2 imm p q r =
    let a = branch_row op in
    decoded-word _ 0x63 (imm / 2 ^ 10 % 2 + 2 * (imm % 2 ^ 4)) a.0 rs1 rs2 (imm / 2 ^ 4 % 2 ^ 6 + 2 ^ 6 * (imm / 2 ^ 11))
    (ap (λ k. k + at_rs1 rs1 + at_rs2 rs2 + at_imm_b imm) a.2 ∙ b_word 0x63 a.0 rs1 rs2 imm)
    (lit< tt) (omega arith) a.1 p q
    ∙ found branches a.0 op _ _ a.3 (ap (Branch op rs1 rs2) (omega arith))

load_read : (op : LoadOp) (rd rs1 imm : ℕ) → rd < 32 → rs1 < 32 → imm < 2 ^ 12 →
    decoded (code_of (Load op rd rs1 imm)) ≡ Some (Load op rd rs1 imm)
unfolding code_of
load_read op rd rs1 imm p q r =
    let a = load_row op in
    decoded-word _ 0x03 rd a.0 rs1 (imm % 2 ^ 5) (imm / 2 ^ 5)
    (ap (λ k. k + at_rd rd + at_rs1 rs1 + 2 ^ 20 * imm) a.2 ∙ i_word 0x03 a.0 rd rs1 imm)
    (lit< tt) p a.1 q (omega arith)
    ∙ found loads a.0 op _ _ a.3 (ap (Load op rd rs1) (omega arith))

store_read : (op : StoreOp) (rs1 rs2 imm : ℕ) → rs1 < 32 → rs2 < 32 → imm < 2 ^ 12 →
    decoded (code_of (Store op rs1 rs2 imm)) ≡ Some (Store op rs1 rs2 imm)
unfolding code_of
store_read op rs1 rs2 imm p q r =
    let a = store_row op in
    decoded-word _ 0x23 (imm % 2 ^ 5) a.0 rs1 rs2 (imm / 2 ^ 5)
    (ap (λ k. k + at_rs1 rs1 + at_rs2 rs2 + at_imm_s imm) a.2 ∙ s_word 0x23 a.0 rs1 rs2 imm)
    (lit< tt) (omega arith) a.1 p q
    ∙ found stores a.0 op _ _ a.3 (ap (Store op rs1 rs2) (omega arith))

addiw_read : (rd rs1 imm : ℕ) → rd < 32 → rs1 < 32 → imm < 2 ^ 12 →
    decoded (code_of (Immediate Addiw rd rs1 imm)) ≡ Some (Immediate Addiw rd rs1 imm)
unfolding code_of
addiw_read rd rs1 imm p q r =
    decoded-word _ 0x1b rd 0 rs1 (imm % 2 ^ 5) (imm / 2 ^ 5) (i_word 0x1b 0 rd rs1 imm) (lit< tt) p (lit< tt) q (omega arith)
    ∙ ap (λ n. Some (Immediate Addiw rd rs1 n)) (omega arith)

immediate_read : (op : ImmediateOp) (rd rs1 imm : ℕ) → rd < 32 → rs1 < 32 → imm < 2 ^ 12 →
    decoded (code_of (Immediate op rd rs1 imm)) ≡ Some (Immediate op rd rs1 imm)
unfolding code_of
immediate_read op rd rs1 imm p q r =
    elim (immediate_row op) [
      | inl a ↦
          decoded-word _ 0x13 rd a.0 rs1 (imm % 2 ^ 5) (imm / 2 ^ 5)
          (ap (λ k. k + at_rd rd + at_rs1 rs1 + 2 ^ 20 * imm) a.2 ∙ i_word 0x13 a.0 rd rs1 imm)
          (lit< tt) p a.1 q (omega arith)
          ∙ first_found immediates a.0 op _ _ _ a.3 (ap (Immediate op rd rs1) (omega arith))
      | inr a ↦ rw a (addiw_read rd rs1 imm p q r)
    ]

-- the two function fields of a 64-bit shift, and its amount
half : (high amount : ℕ) → amount < 2 ^ 6 → (2 * high + amount / 2 ^ 5) / 2 ≡ high
half high amount small = omega arith

bits : (high amount : ℕ) → amount < 2 ^ 6 →
    2 ^ 5 * ((2 * high + amount / 2 ^ 5) % 2) + amount % 2 ^ 5 ≡ amount
bits high amount small = omega arith

shift_read : (op : ShiftOp) (rd rs1 amount : ℕ) → rd < 32 → rs1 < 32 → amount < 2 ^ 6 →
    decoded (code_of (Shift op rd rs1 amount)) ≡ Some (Shift op rd rs1 amount)
unfolding code_of
shift_read op rd rs1 amount p q r =
    let a = shift_row op in
    decoded-word _ 0x13 rd a.1 rs1 (amount % 2 ^ 5) (2 * a.0 + amount / 2 ^ 5)
    (ap (λ k. k + at_rd rd + at_rs1 rs1 + 2 ^ 20 * amount) a.3 ∙ shift_word 0x13 a.1 (2 * a.0) rd rs1 amount)
    (lit< tt) p a.2 q (omega arith)
    ∙ then_found immediates a.1 _ shifts _ (with_funct3 a.0 a.1) op _ _ a.5
    (ap (λ high. with_funct3 high a.1) (half a.0 amount r)) a.4 (ap (Shift op rd rs1) (bits a.0 amount r))

word_shift_read : (op : ShiftWordOp) (rd rs1 amount : ℕ) → rd < 32 → rs1 < 32 → amount < 2 ^ 5 →
    decoded (code_of (ShiftWord op rd rs1 amount)) ≡ Some (ShiftWord op rd rs1 amount)
unfolding code_of
word_shift_read op rd rs1 amount p q r =
    let a = word_shift_row op in
    decoded-word _ 0x1b rd a.1 rs1 amount a.0
    (ap (λ k. k + at_rd rd + at_rs1 rs1 + 2 ^ 20 * amount) a.3 ∙ r_word 0x1b a.1 a.0 rd rs1 amount)
    (lit< tt) p a.2 q r
    ∙ rw a.5 (found word_shifts (with_funct3 a.0 a.1) op _ _ a.4 refl)

register_read : (op : RegisterOp) (rd rs1 rs2 : ℕ) → rd < 32 → rs1 < 32 → rs2 < 32 →
    decoded (code_of (Register op rd rs1 rs2)) ≡ Some (Register op rd rs1 rs2)
unfolding code_of
register_read op rd rs1 rs2 p q r =
    elim (register_row op) [
      | inl a ↦
          decoded-word _ 0x33 rd a.1 rs1 rs2 a.0
          (ap (λ k. k + at_rd rd + at_rs1 rs1 + at_rs2 rs2) a.3 ∙ r_word 0x33 a.1 a.0 rd rs1 rs2)
          (lit< tt) p a.2 q r
          ∙ found registers (with_funct3 a.0 a.1) op _ _ a.4 refl
      | inr a ↦
          decoded-word _ 0x3b rd a.1 rs1 rs2 a.0
          (ap (λ k. k + at_rd rd + at_rs1 rs1 + at_rs2 rs2) a.3 ∙ r_word 0x3b a.1 a.0 rd rs1 rs2)
          (lit< tt) p a.2 q r
          ∙ found word_registers (with_funct3 a.0 a.1) op _ _ a.4 refl
    ]

fence_read : (word : ℕ) → IsFence word → decoded word ≡ Some (Fence word)
unfolding decoded
fence_read word f = let o = f.opcode in let z = f.funct3 in rw (o, z) refl

ecall_read : decoded (code_of Ecall) ≡ Some Ecall
unfolding decoded code_of
ecall_read = refl

ebreak_read : decoded (code_of Ebreak) ≡ Some Ebreak
unfolding decoded code_of
ebreak_read = refl

pub decoded-code_of : (i : Instr) → IsInstr i → decoded (code_of i) ≡ Some i
unfolding code_of
decoded-code_of (Upper op rd imm) r = upper_read op rd imm r.0 r.1
decoded-code_of (Jal rd imm) r = jal_read rd imm r.0 r.1
decoded-code_of (Jalr rd rs1 imm) r = jalr_read rd rs1 imm r.0 r.1 r.2
decoded-code_of (Branch op rs1 rs2 imm) r = branch_read op rs1 rs2 imm r.0 r.1 r.2
decoded-code_of (Load op rd rs1 imm) r = load_read op rd rs1 imm r.0 r.1 r.2
decoded-code_of (Store op rs1 rs2 imm) r = store_read op rs1 rs2 imm r.0 r.1 r.2
decoded-code_of (Immediate op rd rs1 imm) r = immediate_read op rd rs1 imm r.0 r.1 r.2
decoded-code_of (Shift op rd rs1 amount) r = shift_read op rd rs1 amount r.0 r.1 r.2
decoded-code_of (ShiftWord op rd rs1 amount) r = word_shift_read op rd rs1 amount r.0 r.1 r.2
decoded-code_of (Register op rd rs1 rs2) r = register_read op rd rs1 rs2 r.0 r.1 r.2
decoded-code_of (Fence word) r = fence_read word r
decoded-code_of Ecall r = ecall_read
decoded-code_of Ebreak r = ebreak_read
