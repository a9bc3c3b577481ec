-- A word that is decoded is the word of its instruction, whose fields are in range.
use Rattle.std.proofs.Common.{◌≡◌, ℕ, ◌*◌, ◌/◌, ◌%◌, ◌^◌, ◌<◌, refl, ap, sym, subst, ◌∙◌, arith, inl, inr, ◌⊎◌}
use Rattle.std.proofs.lemmas.Bool.{eqb-true, and_parts}
use Rattle.std.proofs.lemmas.Option.{cond_some, none-some, same_Some}
use Rattle.std.specs.Prelude.{Bool, true, ◌&&◌, List, [], ◌∷◌, Option, Some, None, option_map, IfSome, ◌==◌}
use Rattle.std.specs.Option.{option_or}
use Rattle.rv_word.proofs.Cases.{chosen, mapped}
use Rattle.rv_instr.specs.InRange.{IsInstr}
use Rattle.rv_instr.specs.declared.instr.Instr.{Instr}
use Rattle.rv_instr.specs.declared.instr.Instr.TheVariants.{Upper, Jal, Branch, Load, Store, Immediate, Shift, Register, Ecall}
use Rattle.rv_instr.specs.declared.instr.UpperOp.TheVariants.{Lui, Auipc}
use Rattle.rv_instr.specs.declared.instr.ImmediateOp.TheVariants.{Addiw}
use Rattle.rv_code.specs.Fields.{fields_of, imm_i, imm_s, imm_b, imm_u, imm_j, shift_amount, with_funct3}
use Rattle.rv_code.specs.Tables.{row, branches, loads, stores, immediates, shifts, word_shifts, registers, word_registers}
use Rattle.rv_code.specs.Decode.{decoded, decoded_by, immediate_of, word_immediate_of, jump_of, fence_of, system_of}
use Rattle.rv_code.specs.Encode.{code_of, fixed, branch_code, load_code, store_code, immediate_code, shift_code, word_shift_code, register_code}

pub record IsWordOf (w : ℕ) (i : Instr) : Type 0 where
  pub code : code_of i ≡ w
  pub in_range : IsInstr i

-- what an answer that is there says of how it was made
either : {A : Type 0} (x y : Option A) (i : A) → option_or x y ≡ Some i → (x ≡ Some i) ⊎ (y ≡ Some i)
either None y i e = inr e
either (Some x) y i e = inl e

-- every operation of a table has the code that its number says
abbrev pub agree : {A : Type 0} → (A → ℕ) → (ℕ → ℕ) → List (ℕ × A) → Bool
agree code number [] = true
agree code number (r ∷ rows) = code r.1 == number r.0 && agree code number rows

row_code : {A : Type 0} (code : A → ℕ) (number : ℕ → ℕ) (rows : List (ℕ × A)) (n : ℕ) (op : A) →
    agree code number rows ≡ true → row rows n ≡ Some op → code op ≡ number n
row_code code number [] n op a e = absurd (none-some op e)
row_code code number (r ∷ rows) n op a e =
    let p = and_parts (code r.1 == number r.0) (agree code number rows) a in
    elim (chosen (n == r.0) (Some r.1) (row rows n) (Some op) e) [
      | inl h ↦
          ap code (sym (same_Some r.1 op h.1)) ∙ eqb-true _ _ p.0 ∙ ap number (sym (eqb-true _ _ h.0))
      | inr h ↦ row_code code number rows n op p.1 h.1
    ]

-- one lemma for each row of opcodes
upper_law : (w : ℕ) (i : Instr) → w < 2 ^ 32 → w % 2 ^ 7 ≡ 0x37 → Some (Upper Lui (fields_of w).rd (imm_u (fields_of w))) ≡ Some i → IsWordOf w i
unfolding code_of
upper_law w i small o e =
    subst (IsWordOf w) (same_Some _ i e) (record { code = omega arith; in_range = (omega arith, omega arith) })

upper_pc_law : (w : ℕ) (i : Instr) → w < 2 ^ 32 → w % 2 ^ 7 ≡ 0x17 → Some (Upper Auipc (fields_of w).rd (imm_u (fields_of w))) ≡ Some i → IsWordOf w i
unfolding code_of
upper_pc_law w i small o e =
    subst (IsWordOf w) (same_Some _ i e) (record { code = omega arith; in_range = (omega arith, omega arith) })

jal_law : (w : ℕ) (i : Instr) → w < 2 ^ 32 → w % 2 ^ 7 ≡ 0x6f → Some (Jal (fields_of w).rd (imm_j (fields_of w))) ≡ Some i → IsWordOf w i
unfolding code_of
jal_law w i small o e =
    subst (IsWordOf w) (same_Some _ i e) (record { code = omega arith; in_range = (omega arith, omega arith) })

jump_law : (w : ℕ) (i : Instr) → w < 2 ^ 32 → w % 2 ^ 7 ≡ 0x67 → jump_of (fields_of w) ≡ Some i → IsWordOf w i
unfolding code_of
jump_law w i small o e =
    let g = cond_some _ _ i e in
    let z : w / 2 ^ 12 % 2 ^ 3 ≡ 0 = eqb-true _ _ g.0 in
    subst (IsWordOf w) g.1 (record { code = omega arith; in_range = (omega arith, omega arith, omega arith) })

branch_law : (w : ℕ) (i : Instr) → w < 2 ^ 32 → w % 2 ^ 7 ≡ 0x63 →
    option_map (λ op. Branch op (fields_of w).rs1 (fields_of w).rs2 (imm_b (fields_of w))) (row branches (fields_of w).funct3) ≡ Some i → IsWordOf w i
unfolding code_of
branch_law w i small o e =
    let m = mapped _ _ i e in
    let c : branch_code m.0 ≡ fixed 0x63 (w / 2 ^ 12 % 2 ^ 3) 0 = row_code branch_code (λ n. fixed 0x63 n 0) branches (w / 2 ^ 12 % 2 ^ 3) m.0 refl m.1 in
    subst (IsWordOf w) m.2 (record { code = omega (arith, c); in_range = (omega arith, omega arith, omega arith) })

load_law : (w : ℕ) (i : Instr) → w < 2 ^ 32 → w % 2 ^ 7 ≡ 0x03 →
    option_map (λ op. Load op (fields_of w).rd (fields_of w).rs1 (imm_i (fields_of w))) (row loads (fields_of w).funct3) ≡ Some i → IsWordOf w i
unfolding code_of
load_law w i small o e =
    let m = mapped _ _ i e in
    let c : load_code m.0 ≡ fixed 0x03 (w / 2 ^ 12 % 2 ^ 3) 0 = row_code load_code (λ n. fixed 0x03 n 0) loads (w / 2 ^ 12 % 2 ^ 3) m.0 refl m.1 in
    subst (IsWordOf w) m.2 (record { code = omega (arith, c); in_range = (omega arith, omega arith, omega arith) })

store_law : (w : ℕ) (i : Instr) → w < 2 ^ 32 → w % 2 ^ 7 ≡ 0x23 →
    option_map (λ op. Store op (fields_of w).rs1 (fields_of w).rs2 (imm_s (fields_of w))) (row stores (fields_of w).funct3) ≡ Some i → IsWordOf w i
unfolding code_of
store_law w i small o e =
    let m = mapped _ _ i e in
    let c : store_code m.0 ≡ fixed 0x23 (w / 2 ^ 12 % 2 ^ 3) 0 = row_code store_code (λ n. fixed 0x23 n 0) stores (w / 2 ^ 12 % 2 ^ 3) m.0 refl m.1 in
    subst (IsWordOf w) m.2 (record { code = omega (arith, c); in_range = (omega arith, omega arith, omega arith) })

computation_law : (w : ℕ) (i : Instr) → w < 2 ^ 32 → w % 2 ^ 7 ≡ 0x13 →
    option_map (λ op. Immediate op (fields_of w).rd (fields_of w).rs1 (imm_i (fields_of w))) (row immediates (fields_of w).funct3) ≡ Some i → IsWordOf w i
unfolding code_of
computation_law w i small o e =
    let m = mapped _ _ i e in
    let c : immediate_code m.0 ≡ fixed 0x13 (w / 2 ^ 12 % 2 ^ 3) 0 = row_code immediate_code (λ n. fixed 0x13 n 0) immediates (w / 2 ^ 12 % 2 ^ 3) m.0 refl m.1 in
    subst (IsWordOf w) m.2 (record { code = omega (arith, c); in_range = (omega arith, omega arith, omega arith) })

shift_law : (w : ℕ) (i : Instr) → w < 2 ^ 32 → w % 2 ^ 7 ≡ 0x13 →
    option_map (λ op. Shift op (fields_of w).rd (fields_of w).rs1 (shift_amount (fields_of w)))
    (row shifts (with_funct3 ((fields_of w).funct7 / 2) (fields_of w).funct3)) ≡ Some i → IsWordOf w i
unfolding code_of
shift_law w i small o e =
    let m = mapped _ _ i e in
    let c : shift_code m.0 ≡ fixed 0x13 ((with_funct3 (w / 2 ^ 25 / 2) (w / 2 ^ 12 % 2 ^ 3)) % 2 ^ 3) (2 * ((with_funct3 (w / 2 ^ 25 / 2) (w / 2 ^ 12 % 2 ^ 3)) / 2 ^ 3)) = row_code shift_code (λ n. fixed 0x13 (n % 2 ^ 3) (2 * (n / 2 ^ 3))) shifts (with_funct3 (w / 2 ^ 25 / 2) (w / 2 ^ 12 % 2 ^ 3)) m.0 refl m.1 in
    subst (IsWordOf w) m.2 (record { code = omega (arith, c); in_range = (omega arith, omega arith, omega arith) })

immediate_law : (w : ℕ) (i : Instr) → w < 2 ^ 32 → w % 2 ^ 7 ≡ 0x13 → immediate_of (fields_of w) ≡ Some i → IsWordOf w i
immediate_law w i small o e = elim (either _ _ i e) [ inl a ↦ computation_law w i small o a | inr a ↦ shift_law w i small o a ]

word_immediate_law : (w : ℕ) (i : Instr) → w < 2 ^ 32 → w % 2 ^ 7 ≡ 0x1b → word_immediate_of (fields_of w) ≡ Some i → IsWordOf w i
unfolding code_of
word_immediate_law w i small o e =
    let f = fields_of w in
    elim (chosen (f.funct3 == 0) (Some (Immediate Addiw f.rd f.rs1 (imm_i f))) _ (Some i) e) [
      | inl a ↦
          let z : w / 2 ^ 12 % 2 ^ 3 ≡ 0 = eqb-true _ _ a.0 in
          subst (IsWordOf w) (same_Some _ i a.1) (record { code = omega arith; in_range = (omega arith, omega arith, omega arith) })
      | inr a ↦
          let m = mapped _ _ i a.1 in
          let c : word_shift_code m.0 ≡ fixed 0x1b ((with_funct3 (w / 2 ^ 25) (w / 2 ^ 12 % 2 ^ 3)) % 2 ^ 3) ((with_funct3 (w / 2 ^ 25) (w / 2 ^ 12 % 2 ^ 3)) / 2 ^ 3) = row_code word_shift_code (λ n. fixed 0x1b (n % 2 ^ 3) (n / 2 ^ 3)) word_shifts (with_funct3 (w / 2 ^ 25) (w / 2 ^ 12 % 2 ^ 3)) m.0 refl m.1 in
          subst (IsWordOf w) m.2 (record { code = omega (arith, c); in_range = (omega arith, omega arith, omega arith) })
    ]

register_law : (w : ℕ) (i : Instr) → w < 2 ^ 32 → w % 2 ^ 7 ≡ 0x33 →
    option_map (λ op. Register op (fields_of w).rd (fields_of w).rs1 (fields_of w).rs2)
    (row registers (with_funct3 (fields_of w).funct7 (fields_of w).funct3)) ≡ Some i → IsWordOf w i
unfolding code_of
register_law w i small o e =
    let m = mapped _ _ i e in
    let c : register_code m.0 ≡ fixed 0x33 ((with_funct3 (w / 2 ^ 25) (w / 2 ^ 12 % 2 ^ 3)) % 2 ^ 3) ((with_funct3 (w / 2 ^ 25) (w / 2 ^ 12 % 2 ^ 3)) / 2 ^ 3) = row_code register_code (λ n. fixed 0x33 (n % 2 ^ 3) (n / 2 ^ 3)) registers (with_funct3 (w / 2 ^ 25) (w / 2 ^ 12 % 2 ^ 3)) m.0 refl m.1 in
    subst (IsWordOf w) m.2 (record { code = omega (arith, c); in_range = (omega arith, omega arith, omega arith) })

word_register_law : (w : ℕ) (i : Instr) → w < 2 ^ 32 → w % 2 ^ 7 ≡ 0x3b →
    option_map (λ op. Register op (fields_of w).rd (fields_of w).rs1 (fields_of w).rs2)
    (row word_registers (with_funct3 (fields_of w).funct7 (fields_of w).funct3)) ≡ Some i → IsWordOf w i
unfolding code_of
word_register_law w i small o e =
    let m = mapped _ _ i e in
    let c : register_code m.0 ≡ fixed 0x3b ((with_funct3 (w / 2 ^ 25) (w / 2 ^ 12 % 2 ^ 3)) % 2 ^ 3) ((with_funct3 (w / 2 ^ 25) (w / 2 ^ 12 % 2 ^ 3)) / 2 ^ 3) = row_code register_code (λ n. fixed 0x3b (n % 2 ^ 3) (n / 2 ^ 3)) word_registers (with_funct3 (w / 2 ^ 25) (w / 2 ^ 12 % 2 ^ 3)) m.0 refl m.1 in
    subst (IsWordOf w) m.2 (record { code = omega (arith, c); in_range = (omega arith, omega arith, omega arith) })

fence_law : (w : ℕ) (i : Instr) → w < 2 ^ 32 → w % 2 ^ 7 ≡ 0x0f → fence_of (fields_of w) w ≡ Some i → IsWordOf w i
unfolding code_of
fence_law w i small o e =
    let g = cond_some _ _ i e in
    subst (IsWordOf w) g.1 (record { code = refl; in_range = record { opcode = o; funct3 = eqb-true _ _ g.0; bits = small } })

system_law : (w : ℕ) (i : Instr) → system_of w ≡ Some i → IsWordOf w i
unfolding code_of
system_law w i e =
    elim (chosen (w == 0x00000073) (Some Ecall) _ (Some i) e) [
      | inl a ↦ subst (IsWordOf w) (same_Some _ i a.1) (record { code = sym (eqb-true _ _ a.0); in_range = tt })
      | inr a ↦ let g = cond_some _ _ i a.1 in subst (IsWordOf w) g.1 (record { code = sym (eqb-true _ _ g.0); in_range = tt })
    ]

by_law : (w : ℕ) (i : Instr) → w < 2 ^ 32 → decoded_by (fields_of w) w ≡ Some i → IsWordOf w i
by_law w i small e =
    let f = fields_of w in
    elim (chosen (f.opcode == 0x37) (Some (Upper Lui f.rd (imm_u f))) _ (Some i) e) [
      | inl a ↦ upper_law w i small (eqb-true _ _ a.0) a.1
      | inr e ↦
          elim (chosen (f.opcode == 0x17) (Some (Upper Auipc f.rd (imm_u f))) _ (Some i) e.1) [
            | inl a ↦ upper_pc_law w i small (eqb-true _ _ a.0) a.1
            | inr e ↦
                elim (chosen (f.opcode == 0x6f) (Some (Jal f.rd (imm_j f))) _ (Some i) e.1) [
                  | inl a ↦ jal_law w i small (eqb-true _ _ a.0) a.1
                  | inr e ↦
                      elim (chosen (f.opcode == 0x67) (jump_of f) _ (Some i) e.1) [
                        | inl a ↦ jump_law w i small (eqb-true _ _ a.0) a.1
                        | inr e ↦
                            elim (chosen (f.opcode == 0x63) (option_map (λ op. Branch op f.rs1 f.rs2 (imm_b f)) (row branches f.funct3)) _ (Some i) e.1) [
                              | inl a ↦ branch_law w i small (eqb-true _ _ a.0) a.1
                              | inr e ↦
                                  elim (chosen (f.opcode == 0x03) (option_map (λ op. Load op f.rd f.rs1 (imm_i f)) (row loads f.funct3)) _ (Some i) e.1) [
                                    | inl a ↦ load_law w i small (eqb-true _ _ a.0) a.1
                                    | inr e ↦
                                        elim (chosen (f.opcode == 0x23) (option_map (λ op. Store op f.rs1 f.rs2 (imm_s f)) (row stores f.funct3)) _ (Some i) e.1) [
                                          | inl a ↦ store_law w i small (eqb-true _ _ a.0) a.1
                                          | inr e ↦
                                              elim (chosen (f.opcode == 0x13) (immediate_of f) _ (Some i) e.1) [
                                                | inl a ↦ immediate_law w i small (eqb-true _ _ a.0) a.1
                                                | inr e ↦
                                                    elim (chosen (f.opcode == 0x1b) (word_immediate_of f) _ (Some i) e.1) [
                                                      | inl a ↦ word_immediate_law w i small (eqb-true _ _ a.0) a.1
                                                      | inr e ↦
                                                          elim (chosen (f.opcode == 0x33) (option_map (λ op. Register op f.rd f.rs1 f.rs2) (row registers (with_funct3 f.funct7 f.funct3))) _ (Some i) e.1) [
                                                            | inl a ↦ register_law w i small (eqb-true _ _ a.0) a.1
                                                            | inr e ↦
                                                                elim (chosen (f.opcode == 0x3b) (option_map (λ op. Register op f.rd f.rs1 f.rs2) (row word_registers (with_funct3 f.funct7 f.funct3))) _ (Some i) e.1) [
                                                                  | inl a ↦ word_register_law w i small (eqb-true _ _ a.0) a.1
                                                                  | inr e ↦
                                                                      elim (chosen (f.opcode == 0x0f) (fence_of f w) _ (Some i) e.1) [
                                                                        | inl a ↦ fence_law w i small (eqb-true _ _ a.0) a.1
                                                                        | inr e ↦
                                                                            elim (chosen (f.opcode == 0x73) (system_of w) None (Some i) e.1) [ inl a ↦ system_law w i a.1 | inr n ↦ absurd (none-some i n.1) ]
                                                                      ]
                                                                ]
                                                          ]
                                                    ]
                                              ]
                                        ]
                                  ]
                            ]
                      ]
                ]
          ]
    ]

pub word-decoded : (w : ℕ) (i : Instr) → w < 2 ^ 32 → decoded w ≡ Some i → IsWordOf w i
unfolding decoded
word-decoded w i small e = by_law w i small e

pub code_of-decoded : (w : ℕ) (i : Instr) → w < 2 ^ 32 → decoded w ≡ Some i → code_of i ≡ w
code_of-decoded w i small e = (word-decoded w i small e).code

pub decoded-in_range : (w : ℕ) (i : Instr) → w < 2 ^ 32 → decoded w ≡ Some i → IsInstr i
decoded-in_range w i small e = (word-decoded w i small e).in_range

-- what `decode` answers
pub IfSome-decoded : (w : ℕ) (answer : Option Instr) → w < 2 ^ 32 → answer ≡ decoded w → IfSome answer (λ i. code_of i ≡ w)
IfSome-decoded w None small e = tt
IfSome-decoded w (Some i) small e = code_of-decoded w i small (sym e)
