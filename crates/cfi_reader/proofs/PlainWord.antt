-- The table of `is_plain_word`: what it lets through is an instruction that may stand alone, and does not write x1.
use Rattle.std.proofs.Common.{◌≡◌, ℕ, zero, suc, ◌+◌, ◌*◌, ◌/◌, ◌%◌, ◌^◌, ◌<◌, ◌⊎◌, inl, inr, refl, ap, sym, subst, ◌∙◌, get_or, bit_and, arith}
use Rattle.std.specs.Prelude.{Bool, true, false, not, ◌&&◌, ◌||◌, ◌==◌, Some, option_map}
use Rattle.std.proofs.lemmas.Bool.{agree_below, agree_below_at, and_parts, eq-eqb, eqb-true, not-true}
use Rattle.rv_word.proofs.Booleans.{implied, one_of}
use Rattle.rv_instr.specs.Reserved.{is_reserved}
use Rattle.rv_instr.specs.declared.instr.Instr.{Instr}
use Rattle.rv_instr.specs.declared.instr.Instr.TheVariants.{Register, Shift, ShiftWord}
use Rattle.rv_code.specs.Fields.{fields_of}
use Rattle.rv_code.specs.Tables.{row, registers, shifts, word_registers, word_shifts}
use Rattle.rv_code.specs.Decode.{decoded, decoded_by}
use Rattle.cfi_unit.specs.UnitWords.{is_plain}
use Rattle.cfi_reader.specs.PlainWord.{IsPlainWord, is_ordinary}
use Rattle.cfi_reader.specs.Entries.{writes_link}
use Rattle.cfi_reader.specs.declared.plain.TheConstants as table

-- a funct7 with what is asked of it
abbrev pub asked : ℕ → ℕ
asked n = n * 0x101 + 0x5f80

every : (test : ℕ → Bool) → agree_below test (λ n. true) 128 ≡ true → (n : ℕ) → n < 128 → test n ≡ true
every test all n below = agree_below_at test (λ n. true) 128 n all below

through : (unset : ℕ) (test : ℕ → Bool) → agree_below (λ n. not (bit_and unset (asked n) == 0) || test n) (λ n. true) 128 ≡ true →
    (n : ℕ) → n < 128 → bit_and unset (asked n) ≡ 0 → test n ≡ true
through unset test all n below is =
    implied (bit_and unset (asked n) == 0) (test n) (every (λ m. not (bit_and unset (asked m) == 0) || test m) all n below)
    (eq-eqb (bit_and unset (asked n)) 0 is)

none_through : (n : ℕ) → n < 128 → bit_and 0x80 (asked n) ≡ 0 → false ≡ true
none_through n below is = through 0x80 (λ m. false) refl n below is

zero_through : (n : ℕ) → n < 128 → bit_and 0x7f (asked n) ≡ 0 → n ≡ 0
zero_through n below is = eqb-true n 0 (through 0x7f (λ m. m == 0) refl n below is)

half_through : (n : ℕ) → n < 128 → bit_and 0x7e (asked n) ≡ 0 → n / 2 ≡ 0
half_through n below is = eqb-true (n / 2) 0 (through 0x7e (λ m. m / 2 == 0) refl n below is)

-- of products and quotients alone, of them and others, of all three
one_through : (n : ℕ) → n < 128 → bit_and 0x017e (asked n) ≡ 0 → n ≡ 1
one_through n below is = eqb-true n 1 (through 0x017e (λ m. m == 1) refl n below is)

zero_or_one_through : (n : ℕ) → n < 128 → bit_and 0x7e (asked n) ≡ 0 → (n ≡ 0) ⊎ (n ≡ 1)
zero_or_one_through n below is =
    elim (one_of (n == 0) (n == 1) (through 0x7e (λ m. (m == 0) || (m == 1)) refl n below is)) [
      | inl a ↦ inl (eqb-true n 0 a)
      | inr a ↦ inr (eqb-true n 1 a)
    ]

any_through : (n : ℕ) → n < 128 → bit_and 0x805e (asked n) ≡ 0 → (n ≡ 0) ⊎ ((n ≡ 1) ⊎ (n ≡ 0x20))
any_through n below is =
    elim (one_of (n == 0) ((n == 1) || (n == 0x20)) (through 0x805e (λ m. (m == 0) || ((m == 1) || (m == 0x20))) refl n below is)) [
      | inl a ↦ inl (eqb-true n 0 a)
      | inr a ↦ elim (one_of (n == 1) (n == 0x20) a) [ inl b ↦ inr (inl (eqb-true n 1 b)) | inr b ↦ inr (inr (eqb-true n 0x20 b)) ]
    ]

either_through : (n : ℕ) → n < 128 → bit_and 0x5f (asked n) ≡ 0 → (n ≡ 0) ⊎ (n ≡ 0x20)
either_through n below is =
    elim (one_of (n == 0) (n == 0x20) (through 0x5f (λ m. (m == 0) || (m == 0x20)) refl n below is)) [
      | inl a ↦ inl (eqb-true n 0 a)
      | inr a ↦ inr (eqb-true n 0x20 a)
    ]

halves_through : (n : ℕ) → n < 128 → bit_and 0x5e (asked n) ≡ 0 → (n / 2 ≡ 0) ⊎ (n / 2 ≡ 0x10)
halves_through n below is =
    elim (one_of (n / 2 == 0) (n / 2 == 0x10) (through 0x5e (λ m. (m / 2 == 0) || (m / 2 == 0x10)) refl n below is)) [
      | inl a ↦ inl (eqb-true (n / 2) 0 a)
      | inr a ↦ inr (eqb-true (n / 2) 0x10 a)
    ]

-- a row without instructions
no_row : (row funct3 funct7 : ℕ) → funct3 < 8 → agree_below (λ n. get_or table.UNSET (8 * row + n) 0 == 0x80) (λ n. true) 8 ≡ true →
    bit_and (get_or table.UNSET (8 * row + funct3) 0) (asked funct7) ≡ 0 → bit_and 0x80 (asked funct7) ≡ 0
no_row row funct3 funct7 low all is =
    let e : get_or table.UNSET (8 * row + funct3) 0 ≡ 0x80 =
    eqb-true _ 0x80 (agree_below_at (λ n. get_or table.UNSET (8 * row + n) 0 == 0x80) (λ n. true) 8 funct3 all low) in
    ap (λ n. bit_and n (asked funct7)) (sym e) ∙ is

module _ (w rd rs1 rs2 : ℕ) (free : not (is_reserved rd) ≡ true) (kept : (rd == 1) ≡ false) where
  -- the instruction of these fields may stand alone, and does not write x1
  abbrev Alone : ℕ → ℕ → ℕ → Type 0
  Alone opcode funct3 funct7 =
      (i : Instr)
      × ((decoded_by (record { opcode = opcode; rd = rd; funct3 = funct3; rs1 = rs1; rs2 = rs2; funct7 = funct7 }) w ≡ Some i)
      × ((is_plain i ≡ true) × (writes_link i ≡ false)))

  load_row : (funct3 funct7 : ℕ) → funct3 < 8 → funct7 < 128 → bit_and (get_or table.UNSET (8 * 0 + funct3) 0) (asked funct7) ≡ 0 →
      Alone 0x03 funct3 funct7
  load_row zero funct7 low small is = (_, (refl, (free, kept)))
  load_row (suc zero) funct7 low small is = (_, (refl, (free, kept)))
  load_row (suc (suc zero)) funct7 low small is = (_, (refl, (free, kept)))
  load_row (suc (suc (suc zero))) funct7 low small is = (_, (refl, (free, kept)))
  load_row (suc (suc (suc (suc zero)))) funct7 low small is = (_, (refl, (free, kept)))
  load_row (suc (suc (suc (suc (suc zero))))) funct7 low small is = (_, (refl, (free, kept)))
  load_row (suc (suc (suc (suc (suc (suc zero)))))) funct7 low small is = (_, (refl, (free, kept)))
  load_row (suc (suc (suc (suc (suc (suc (suc zero))))))) funct7 low small is = let e : false ≡ true = none_through funct7 small is in absurd (cc)
  load_row (suc (suc (suc (suc (suc (suc (suc (suc n)))))))) funct7 low small is = absurd (omega arith)

  immediate_row : (funct3 funct7 : ℕ) → funct3 < 8 → funct7 < 128 → bit_and (get_or table.UNSET (8 * 4 + funct3) 0) (asked funct7) ≡ 0 →
      Alone 0x13 funct3 funct7
  immediate_row zero funct7 low small is = (_, (refl, (free, kept)))
  immediate_row (suc zero) funct7 low small is = (_, (ap (λ n. option_map (λ op. Shift op rd rs1 (2 ^ 5 * (funct7 % 2) + rs2)) (row shifts (2 ^ 3 * n + 1))) (half_through funct7 small is), (free, kept)))
  immediate_row (suc (suc zero)) funct7 low small is = (_, (refl, (free, kept)))
  immediate_row (suc (suc (suc zero))) funct7 low small is = (_, (refl, (free, kept)))
  immediate_row (suc (suc (suc (suc zero)))) funct7 low small is = (_, (refl, (free, kept)))
  immediate_row (suc (suc (suc (suc (suc zero))))) funct7 low small is = elim (halves_through funct7 small is) [ inl a ↦ (_, (ap (λ n. option_map (λ op. Shift op rd rs1 (2 ^ 5 * (funct7 % 2) + rs2)) (row shifts (2 ^ 3 * n + 5))) a, (free, kept))) | inr a ↦ (_, (ap (λ n. option_map (λ op. Shift op rd rs1 (2 ^ 5 * (funct7 % 2) + rs2)) (row shifts (2 ^ 3 * n + 5))) a, (free, kept))) ]
  immediate_row (suc (suc (suc (suc (suc (suc zero)))))) funct7 low small is = (_, (refl, (free, kept)))
  immediate_row (suc (suc (suc (suc (suc (suc (suc zero))))))) funct7 low small is = (_, (refl, (free, kept)))
  immediate_row (suc (suc (suc (suc (suc (suc (suc (suc n)))))))) funct7 low small is = absurd (omega arith)

  word_immediate_row : (funct3 funct7 : ℕ) → funct3 < 8 → funct7 < 128 → bit_and (get_or table.UNSET (8 * 6 + funct3) 0) (asked funct7) ≡ 0 →
      Alone 0x1b funct3 funct7
  word_immediate_row zero funct7 low small is = (_, (refl, (free, kept)))
  word_immediate_row (suc zero) funct7 low small is = (_, (ap (λ n. option_map (λ op. ShiftWord op rd rs1 rs2) (row word_shifts (2 ^ 3 * n + 1))) (zero_through funct7 small is), (free, kept)))
  word_immediate_row (suc (suc zero)) funct7 low small is = let e : false ≡ true = none_through funct7 small is in absurd (cc)
  word_immediate_row (suc (suc (suc zero))) funct7 low small is = let e : false ≡ true = none_through funct7 small is in absurd (cc)
  word_immediate_row (suc (suc (suc (suc zero)))) funct7 low small is = let e : false ≡ true = none_through funct7 small is in absurd (cc)
  word_immediate_row (suc (suc (suc (suc (suc zero))))) funct7 low small is = elim (either_through funct7 small is) [ inl a ↦ (_, (ap (λ n. option_map (λ op. ShiftWord op rd rs1 rs2) (row word_shifts (2 ^ 3 * n + 5))) a, (free, kept))) | inr a ↦ (_, (ap (λ n. option_map (λ op. ShiftWord op rd rs1 rs2) (row word_shifts (2 ^ 3 * n + 5))) a, (free, kept))) ]
  word_immediate_row (suc (suc (suc (suc (suc (suc zero)))))) funct7 low small is = let e : false ≡ true = none_through funct7 small is in absurd (cc)
  word_immediate_row (suc (suc (suc (suc (suc (suc (suc zero))))))) funct7 low small is = let e : false ≡ true = none_through funct7 small is in absurd (cc)
  word_immediate_row (suc (suc (suc (suc (suc (suc (suc (suc n)))))))) funct7 low small is = absurd (omega arith)

  register_row : (funct3 funct7 : ℕ) → funct3 < 8 → funct7 < 128 → bit_and (get_or table.UNSET (8 * 12 + funct3) 0) (asked funct7) ≡ 0 →
      Alone 0x33 funct3 funct7
  register_row zero funct7 low small is = elim (any_through funct7 small is) [ inl a ↦ (_, (ap (λ n. option_map (λ op. Register op rd rs1 rs2) (row registers (2 ^ 3 * n + 0))) a, (free, kept))) | inr b ↦ elim b [ inl a ↦ (_, (ap (λ n. option_map (λ op. Register op rd rs1 rs2) (row registers (2 ^ 3 * n + 0))) a, (free, kept))) | inr a ↦ (_, (ap (λ n. option_map (λ op. Register op rd rs1 rs2) (row registers (2 ^ 3 * n + 0))) a, (free, kept))) ] ]
  register_row (suc zero) funct7 low small is = elim (zero_or_one_through funct7 small is) [ inl a ↦ (_, (ap (λ n. option_map (λ op. Register op rd rs1 rs2) (row registers (2 ^ 3 * n + 1))) a, (free, kept))) | inr a ↦ (_, (ap (λ n. option_map (λ op. Register op rd rs1 rs2) (row registers (2 ^ 3 * n + 1))) a, (free, kept))) ]
  register_row (suc (suc zero)) funct7 low small is = elim (zero_or_one_through funct7 small is) [ inl a ↦ (_, (ap (λ n. option_map (λ op. Register op rd rs1 rs2) (row registers (2 ^ 3 * n + 2))) a, (free, kept))) | inr a ↦ (_, (ap (λ n. option_map (λ op. Register op rd rs1 rs2) (row registers (2 ^ 3 * n + 2))) a, (free, kept))) ]
  register_row (suc (suc (suc zero))) funct7 low small is = elim (zero_or_one_through funct7 small is) [ inl a ↦ (_, (ap (λ n. option_map (λ op. Register op rd rs1 rs2) (row registers (2 ^ 3 * n + 3))) a, (free, kept))) | inr a ↦ (_, (ap (λ n. option_map (λ op. Register op rd rs1 rs2) (row registers (2 ^ 3 * n + 3))) a, (free, kept))) ]
  register_row (suc (suc (suc (suc zero)))) funct7 low small is = elim (zero_or_one_through funct7 small is) [ inl a ↦ (_, (ap (λ n. option_map (λ op. Register op rd rs1 rs2) (row registers (2 ^ 3 * n + 4))) a, (free, kept))) | inr a ↦ (_, (ap (λ n. option_map (λ op. Register op rd rs1 rs2) (row registers (2 ^ 3 * n + 4))) a, (free, kept))) ]
  register_row (suc (suc (suc (suc (suc zero))))) funct7 low small is = elim (any_through funct7 small is) [ inl a ↦ (_, (ap (λ n. option_map (λ op. Register op rd rs1 rs2) (row registers (2 ^ 3 * n + 5))) a, (free, kept))) | inr b ↦ elim b [ inl a ↦ (_, (ap (λ n. option_map (λ op. Register op rd rs1 rs2) (row registers (2 ^ 3 * n + 5))) a, (free, kept))) | inr a ↦ (_, (ap (λ n. option_map (λ op. Register op rd rs1 rs2) (row registers (2 ^ 3 * n + 5))) a, (free, kept))) ] ]
  register_row (suc (suc (suc (suc (suc (suc zero)))))) funct7 low small is = elim (zero_or_one_through funct7 small is) [ inl a ↦ (_, (ap (λ n. option_map (λ op. Register op rd rs1 rs2) (row registers (2 ^ 3 * n + 6))) a, (free, kept))) | inr a ↦ (_, (ap (λ n. option_map (λ op. Register op rd rs1 rs2) (row registers (2 ^ 3 * n + 6))) a, (free, kept))) ]
  register_row (suc (suc (suc (suc (suc (suc (suc zero))))))) funct7 low small is = elim (zero_or_one_through funct7 small is) [ inl a ↦ (_, (ap (λ n. option_map (λ op. Register op rd rs1 rs2) (row registers (2 ^ 3 * n + 7))) a, (free, kept))) | inr a ↦ (_, (ap (λ n. option_map (λ op. Register op rd rs1 rs2) (row registers (2 ^ 3 * n + 7))) a, (free, kept))) ]
  register_row (suc (suc (suc (suc (suc (suc (suc (suc n)))))))) funct7 low small is = absurd (omega arith)

  word_register_row : (funct3 funct7 : ℕ) → funct3 < 8 → funct7 < 128 → bit_and (get_or table.UNSET (8 * 14 + funct3) 0) (asked funct7) ≡ 0 →
      Alone 0x3b funct3 funct7
  word_register_row zero funct7 low small is = elim (any_through funct7 small is) [ inl a ↦ (_, (ap (λ n. option_map (λ op. Register op rd rs1 rs2) (row word_registers (2 ^ 3 * n + 0))) a, (free, kept))) | inr b ↦ elim b [ inl a ↦ (_, (ap (λ n. option_map (λ op. Register op rd rs1 rs2) (row word_registers (2 ^ 3 * n + 0))) a, (free, kept))) | inr a ↦ (_, (ap (λ n. option_map (λ op. Register op rd rs1 rs2) (row word_registers (2 ^ 3 * n + 0))) a, (free, kept))) ] ]
  word_register_row (suc zero) funct7 low small is = (_, (ap (λ n. option_map (λ op. Register op rd rs1 rs2) (row word_registers (2 ^ 3 * n + 1))) (zero_through funct7 small is), (free, kept)))
  word_register_row (suc (suc zero)) funct7 low small is = let e : false ≡ true = none_through funct7 small is in absurd (cc)
  word_register_row (suc (suc (suc zero))) funct7 low small is = let e : false ≡ true = none_through funct7 small is in absurd (cc)
  word_register_row (suc (suc (suc (suc zero)))) funct7 low small is = (_, (ap (λ n. option_map (λ op. Register op rd rs1 rs2) (row word_registers (2 ^ 3 * n + 4))) (one_through funct7 small is), (free, kept)))
  word_register_row (suc (suc (suc (suc (suc zero))))) funct7 low small is = elim (any_through funct7 small is) [ inl a ↦ (_, (ap (λ n. option_map (λ op. Register op rd rs1 rs2) (row word_registers (2 ^ 3 * n + 5))) a, (free, kept))) | inr b ↦ elim b [ inl a ↦ (_, (ap (λ n. option_map (λ op. Register op rd rs1 rs2) (row word_registers (2 ^ 3 * n + 5))) a, (free, kept))) | inr a ↦ (_, (ap (λ n. option_map (λ op. Register op rd rs1 rs2) (row word_registers (2 ^ 3 * n + 5))) a, (free, kept))) ] ]
  word_register_row (suc (suc (suc (suc (suc (suc zero)))))) funct7 low small is = (_, (ap (λ n. option_map (λ op. Register op rd rs1 rs2) (row word_registers (2 ^ 3 * n + 6))) (one_through funct7 small is), (free, kept)))
  word_register_row (suc (suc (suc (suc (suc (suc (suc zero))))))) funct7 low small is = (_, (ap (λ n. option_map (λ op. Register op rd rs1 rs2) (row word_registers (2 ^ 3 * n + 7))) (one_through funct7 small is), (free, kept)))
  word_register_row (suc (suc (suc (suc (suc (suc (suc (suc n)))))))) funct7 low small is = absurd (omega arith)

  upper_row : (funct3 funct7 : ℕ) → Alone 0x17 funct3 funct7
  upper_row funct3 funct7 = (_, (refl, (ap (λ b. b && true) free, kept)))

  zero_upper_row : (funct3 funct7 : ℕ) → (rd == 0) ≡ false → Alone 0x37 funct3 funct7
  zero_upper_row funct3 funct7 some = (_, (refl, (ap (λ b. not (is_reserved rd) && not b) some ∙ ap (λ b. b && true) free, kept)))

  none_row : (row funct3 funct7 : ℕ) → bit_and 0x80 (asked funct7) ≡ 0 → funct7 < 128 → Alone (4 * row + 3) funct3 funct7
  none_row row funct3 funct7 is small = let e : false ≡ true = none_through funct7 small is in absurd (cc)

  by_row : (row funct3 funct7 : ℕ) → row < 16 → funct3 < 8 → funct7 < 128 → (rd == 0) ≡ false → bit_and (get_or table.UNSET (8 * row + funct3) 0) (asked funct7) ≡ 0 →
      Alone (4 * row + 3) funct3 funct7
  by_row zero funct3 funct7 within low small some is = load_row funct3 funct7 low small is
  by_row (suc zero) funct3 funct7 within low small some is = none_row 1 funct3 funct7 (no_row 1 funct3 funct7 low refl is) small
  by_row (suc (suc zero)) funct3 funct7 within low small some is = none_row 2 funct3 funct7 (no_row 2 funct3 funct7 low refl is) small
  by_row (suc (suc (suc zero))) funct3 funct7 within low small some is = none_row 3 funct3 funct7 (no_row 3 funct3 funct7 low refl is) small
  by_row (suc (suc (suc (suc zero)))) funct3 funct7 within low small some is = immediate_row funct3 funct7 low small is
  by_row (suc (suc (suc (suc (suc zero))))) funct3 funct7 within low small some is = upper_row funct3 funct7
  by_row (suc (suc (suc (suc (suc (suc zero)))))) funct3 funct7 within low small some is = word_immediate_row funct3 funct7 low small is
  by_row (suc (suc (suc (suc (suc (suc (suc zero))))))) funct3 funct7 within low small some is = none_row 7 funct3 funct7 (no_row 7 funct3 funct7 low refl is) small
  by_row (suc (suc (suc (suc (suc (suc (suc (suc zero)))))))) funct3 funct7 within low small some is = none_row 8 funct3 funct7 (no_row 8 funct3 funct7 low refl is) small
  by_row (suc (suc (suc (suc (suc (suc (suc (suc (suc zero))))))))) funct3 funct7 within low small some is = none_row 9 funct3 funct7 (no_row 9 funct3 funct7 low refl is) small
  by_row (suc (suc (suc (suc (suc (suc (suc (suc (suc (suc zero)))))))))) funct3 funct7 within low small some is = none_row 10 funct3 funct7 (no_row 10 funct3 funct7 low refl is) small
  by_row (suc (suc (suc (suc (suc (suc (suc (suc (suc (suc (suc zero))))))))))) funct3 funct7 within low small some is = none_row 11 funct3 funct7 (no_row 11 funct3 funct7 low refl is) small
  by_row (suc (suc (suc (suc (suc (suc (suc (suc (suc (suc (suc (suc zero)))))))))))) funct3 funct7 within low small some is = register_row funct3 funct7 low small is
  by_row (suc (suc (suc (suc (suc (suc (suc (suc (suc (suc (suc (suc (suc zero))))))))))))) funct3 funct7 within low small some is = zero_upper_row funct3 funct7 some
  by_row (suc (suc (suc (suc (suc (suc (suc (suc (suc (suc (suc (suc (suc (suc zero)))))))))))))) funct3 funct7 within low small some is = word_register_row funct3 funct7 low small is
  by_row (suc (suc (suc (suc (suc (suc (suc (suc (suc (suc (suc (suc (suc (suc (suc zero))))))))))))))) funct3 funct7 within low small some is = none_row 15 funct3 funct7 (no_row 15 funct3 funct7 low refl is) small
  by_row (suc (suc (suc (suc (suc (suc (suc (suc (suc (suc (suc (suc (suc (suc (suc (suc n)))))))))))))))) funct3 funct7 within low small some is = absurd (omega arith)

pub plain_word : (w unset : ℕ) → w < 2 ^ 32 → w % 4 ≡ 3 → w / 64 % 2 ≡ 0 →
    unset ≡ get_or table.UNSET (8 * (w / 2 ^ 2 % 2 ^ 4) + w / 2 ^ 12 % 2 ^ 3) 0 → bit_and unset (asked (w / 2 ^ 25)) ≡ 0 →
    is_ordinary (w / 2 ^ 7 % 2 ^ 5) ≡ true → IsPlainWord w
unfolding decoded
plain_word w unset small low high unset_is clear named =
    let f = fields_of w in
    let p = and_parts (not (f.rd == 0)) (not (f.rd == 1) && not (is_reserved f.rd)) named in
    let q = and_parts (not (f.rd == 1)) (not (is_reserved f.rd)) p.1 in
    let kept : (f.rd == 1) ≡ false = not-true (f.rd == 1) q.0 in
    let opcode : 4 * (w / 2 ^ 2 % 2 ^ 4) + 3 ≡ w % 2 ^ 7 = omega arith in
    let is : bit_and (get_or table.UNSET (8 * (w / 2 ^ 2 % 2 ^ 4) + f.funct3) 0) (asked f.funct7) ≡ 0 =
    ap (λ n. bit_and n (asked f.funct7)) (sym unset_is) ∙ clear in
    let (i, (same, (alone, no_link))) = subst (λ o. Alone w f.rd f.rs1 f.rs2 q.1 kept o f.funct3 f.funct7) opcode
    (by_row w f.rd f.rs1 f.rs2 q.1 kept (w / 2 ^ 2 % 2 ^ 4) f.funct3 f.funct7 (omega arith) (omega arith) (omega arith) (not-true (f.rd == 0) p.0) is) in
    record { instr = i; is = same; plain = alone; no_link = no_link }
