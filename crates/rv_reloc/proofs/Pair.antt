-- Two patched words give the value.
use Rattle.std.proofs.Common.{◌≡◌, ◌∙◌, ◌+◌, ◌-◌, ◌*◌, ◌/◌, ◌%◌, ◌^◌, ◌<◌, ℕ, zero, suc, ap, sym, arith, refl, rules}
use Rattle.std.proofs.Common.{inl, inr}
use Rattle.std.specs.Prelude.{ℤ, pos, negsuc, neg_ℤ, ◌+ℤ◌, ◌-ℤ◌, ◌*ℤ◌, IsTrue, unsigned_abs}
use Rattle.std.specs.Int.{int_div_euclid}
use Rattle.std.proofs.lemmas.Bool.{cases_lt}
use Rattle.std.proofs.lemmas.Int.{ints, int_rem_euclid_is}
use Rattle.rv_reloc.specs.Value.{hi20, lo12, low_bits}
use Rattle.rv_reloc.specs.Word.{with_u, with_i, with_s, is_high_in_range}
use Rattle.rv_reloc.specs.Pair.{imm_u, imm_i, imm_s, sum_of, HighAndLow, LowIsSmall, PartsAddUp}

in_u : (imm word : ℕ) → imm < 2 ^ 20 → word < 2 ^ 32 → imm_u (with_u imm word) ≡ imm * 2 ^ 12
in_u imm word small fits = omega arith

in_i : (imm word : ℕ) → imm < 2 ^ 12 → word < 2 ^ 32 → imm_i (with_i imm word) ≡ imm
in_i imm word small fits = omega arith

in_s : (imm word : ℕ) → imm < 2 ^ 12 → word < 2 ^ 32 → imm_s (with_s imm word) ≡ imm
in_s imm word small fits = omega arith

pub below : (len : ℕ) (z : ℤ) → 0 < 2 ^ len → low_bits len z < 2 ^ len
below len (pos n) some = search rules
below len (negsuc n) some = omega arith

-- the high part of a negative number
hi_negative : (a : ℕ) → hi20 (negsuc a) ≡ neg_ℤ (pos ((a + 2048) / 4096))
hi_negative a =
    elim (cases_lt a 2048) [
      | inl low ↦
          let e : negsuc a +ℤ pos 2048 ≡ pos (2047 - a) = omega (arith, ints) in
          let q : (a + 2048) / 4096 ≡ 0 = omega arith in
          let r : (2047 - a) / 4096 ≡ 0 = omega arith in
          ap (λ z. int_div_euclid z (pos 4096)) e ∙ ap pos r ∙ ap (λ n. neg_ℤ (pos n)) (sym q)
      | inr high ↦
          let e : negsuc a +ℤ pos 2048 ≡ negsuc (a - 2048) = omega (arith, ints) in
          let q : (a + 2048) / 4096 ≡ suc ((a - 2048) / 4096) = omega arith in
          ap (λ z. int_div_euclid z (pos 4096)) e ∙ ap (λ n. neg_ℤ (pos n)) (sym q)
    ]

low_part : (z : ℤ) → low_bits 12 (lo12 z) ≡ low_bits 12 z
low_part (pos n) =
    ap unsigned_abs (int_rem_euclid_is (lo12 (pos n)) (pos 4096) 4096 ((n + 2048) / 4096) n (omega arith) refl (omega (arith, ints)))
low_part (negsuc a) =
    let e : lo12 (negsuc a) ≡ negsuc a -ℤ neg_ℤ (pos ((a + 2048) / 4096)) *ℤ pos 4096 = ap (λ h. negsuc a -ℤ h *ℤ pos 4096) (hi_negative a) in
    let m : ℕ = ((a + 2048) / 4096 + 1) * 4096 - a - 1 in
    let r : m % 4096 ≡ 4095 - a % 4096 = omega arith in
    ap (low_bits 12) e
    ∙ ap unsigned_abs (int_rem_euclid_is (negsuc a -ℤ neg_ℤ (pos ((a + 2048) / 4096)) *ℤ pos 4096) (pos 4096) 4096 1 m (omega arith) refl (omega (arith, ints)))
    ∙ r

-- the low bits of a number that is not above 0
negative_bits : (q : ℕ) → q < 2 ^ 20 → low_bits 20 (neg_ℤ (pos q)) ≡ (2 ^ 20 - q) % 2 ^ 20
negative_bits zero h = refl
negative_bits (suc q) h = omega arith

sum : (z : ℤ) → IsTrue (is_high_in_range z) → sum_of (low_bits 20 (hi20 z) * 2 ^ 12) (low_bits 12 z) ≡ low_bits 64 z
sum (pos n) h =
    let b : n + 2048 < 2 ^ 31 = grind (arith, ints) in
    grind arith
sum (negsuc a) h =
    let b : a < 2 ^ 31 + 2048 = grind (arith, ints) in
    let e : low_bits 20 (hi20 (negsuc a)) ≡ (2 ^ 20 - (a + 2048) / 4096) % 2 ^ 20 =
    ap (low_bits 20) (hi_negative a) ∙ negative_bits ((a + 2048) / 4096) (omega arith) in
    rw e (grind arith)

pub parts_add_up : PartsAddUp
parts_add_up z h = ap (sum_of (low_bits 20 (hi20 z) * 2 ^ 12)) (low_part z) ∙ sum z h

pub high_and_low : HighAndLow
high_and_low upper lower z u l h =
    let high = below 20 (hi20 z) (omega arith) in
    let low = below 12 (lo12 z) (omega arith) in
    let first : imm_u (with_u (low_bits 20 (hi20 z)) upper) ≡ low_bits 20 (hi20 z) * 2 ^ 12 = in_u _ _ high u in
    let i : imm_i (with_i (low_bits 12 (lo12 z)) lower) ≡ low_bits 12 z = in_i _ _ low l ∙ low_part z in
    let s : imm_s (with_s (low_bits 12 (lo12 z)) lower) ≡ low_bits 12 z = in_s _ _ low l ∙ low_part z in
    let whole = sum z h in
    let with_i_form : sum_of (imm_u (with_u (low_bits 20 (hi20 z)) upper)) (imm_i (with_i (low_bits 12 (lo12 z)) lower)) ≡ low_bits 64 z =
    ap (λ x. sum_of x (imm_i (with_i (low_bits 12 (lo12 z)) lower))) first ∙ ap (sum_of (low_bits 20 (hi20 z) * 2 ^ 12)) i ∙ whole in
    let with_s_form : sum_of (imm_u (with_u (low_bits 20 (hi20 z)) upper)) (imm_s (with_s (low_bits 12 (lo12 z)) lower)) ≡ low_bits 64 z =
    ap (λ x. sum_of x (imm_s (with_s (low_bits 12 (lo12 z)) lower))) first ∙ ap (sum_of (low_bits 20 (hi20 z) * 2 ^ 12)) s ∙ whole in
    (with_i_form, with_s_form, refl)

pub low_is_small : LowIsSmall
low_is_small (pos n) = grind (arith, ints)
low_is_small (negsuc a) = rw (hi_negative a) (grind (arith, ints))
