-- Masks of ones: `&` keeps the low bits, and `|` with the mask's complement extends a sign.
use Rattle.std.proofs.Common.{add-zero, ◌≡◌, ℕ, ◌+◌, ◌-◌, ◌*◌, ◌/◌, ◌%◌, ◌^◌, ◌<◌, ◌≤◌, refl, ap, sym, ◌∙◌, arith, add_comm, inl, inr, zero, suc, bit_and, bit_or}
use Rattle.std.proofs.lemmas.Nat.{and_mask, one_shl, or_shifted, or_comm, pow-add, pow_pos, mod_below, le-div}
use Rattle.std.proofs.lemmas.Bool.{cases_lt, lt-ltb, le-ltb}
use Rattle.rv_word.specs.Bits.{sign_extended}
use Rattle.std.proofs.Math.Nat.{div-eq_of_lt, suc-mul}
use Rattle.std.proofs.lemmas.Nat.Bits.{ones_shr}

-- `x & ((1 << k) - 1)`
pub and-shifted_mask : (x k : ℕ) → k < 64 → bit_and x (1 * 2 ^ k % 2 ^ 64 - 1) ≡ x % 2 ^ k
and-shifted_mask x k small = rw (one_shl k 64 small) (and_mask x k)

-- `MAX >> (64 - k)` has k ones
pub max_shr : (k : ℕ) → k ≤ 64 → (2 ^ 64 - 1) / 2 ^ (64 - k) ≡ 2 ^ k - 1
max_shr k high =
    let back : 64 - (64 - k) ≡ k = omega arith in
    ones_shr 64 (64 - k) (omega arith) ∙ ap (λ j. 2 ^ j - 1) back

pub and-max_shr : (x k : ℕ) → k ≤ 64 → bit_and x ((2 ^ 64 - 1) / 2 ^ (64 - k)) ≡ x % 2 ^ k
and-max_shr x k high = rw (max_shr k high) (and_mask x k)

-- a quotient of 0 says that the number is below the divisor
pub below_of_quotient : (n k : ℕ) → n / 2 ^ k ≡ 0 → n < 2 ^ k
below_of_quotient n k none =
    elim (cases_lt n (2 ^ k)) [
      | inl low ↦ low
      | inr high ↦
          let one : 1 ≤ n / 2 ^ k = le-div 1 n (2 ^ k) (pow_pos k) (omega arith) in absurd (omega arith)
    ]

-- a quotient above 0 says that it is not
pub above_of_quotient : (n k : ℕ) → (n / 2 ^ k ≡ 0 → ⊥) → 2 ^ k ≤ n
above_of_quotient n k some =
    elim (cases_lt n (2 ^ k)) [ inl low ↦ absurd (some (div-eq_of_lt low)) | inr high ↦ high ]

value_above : (q p : ℕ) → q * p ≡ 2 ^ 64 → 0 < q → (q - 1) * p ≡ 2 ^ 64 - p
value_above zero p whole some = absurd (omega arith)
value_above (suc q) p whole some = let e : suc q - 1 ≡ q = omega arith in let m : suc q * p ≡ q * p + p = suc-mul q p in rw e (omega arith)

ones_above : (q p : ℕ) → q * p ≡ 2 ^ 64 → 0 < p → 0 < q → 2 ^ 64 - 1 - (p - 1) ≡ (q - 1) * p
ones_above q p whole some more = let v = value_above q p whole more in let e : 2 ^ 64 - 1 - (p - 1) ≡ 2 ^ 64 - p = omega arith in e ∙ sym v

-- the ones above a number of k bits are added
pub or-high_ones : (x k : ℕ) → k ≤ 64 →
    bit_or (x % 2 ^ k) (2 ^ 64 - 1 - (2 ^ k - 1)) ≡ x % 2 ^ k + (2 ^ 64 - 2 ^ k)
or-high_ones x k high =
    let whole : 2 ^ (64 - k) * 2 ^ k ≡ 2 ^ 64 = sym (pow-add 2 (64 - k) k) ∙ ap (λ j. 2 ^ j) (let e : 64 - k + k ≡ 64 = omega arith in e) in
    let ones : 2 ^ 64 - 1 - (2 ^ k - 1) ≡ (2 ^ (64 - k) - 1) * 2 ^ k = ones_above (2 ^ (64 - k)) (2 ^ k) whole (pow_pos k) (pow_pos (64 - k)) in
    let value : (2 ^ (64 - k) - 1) * 2 ^ k ≡ 2 ^ 64 - 2 ^ k = value_above (2 ^ (64 - k)) (2 ^ k) whole (pow_pos (64 - k)) in
    rw ones (or_comm (x % 2 ^ k) _ ∙ or_shifted (2 ^ (64 - k) - 1) k (x % 2 ^ k) (mod_below x (2 ^ k) (pow_pos k)) ∙ add_comm _ _ ∙ ap (λ v. x % 2 ^ k + v) value)

-- `sext` where the sign is 0
pub positive : (x k : ℕ) → k ≤ 64 → bit_and x ((2 ^ 64 - 1) / 2 ^ (64 - k)) / 2 ^ (k - 1) ≡ 0 →
    bit_and x ((2 ^ 64 - 1) / 2 ^ (64 - k)) ≡ sign_extended x k
positive x k high sign =
    let low : bit_and x ((2 ^ 64 - 1) / 2 ^ (64 - k)) ≡ x % 2 ^ k = and-max_shr x k high in
    let below : x % 2 ^ k < 2 ^ (k - 1) = below_of_quotient (x % 2 ^ k) (k - 1) (sym (ap (λ v. v / 2 ^ (k - 1)) low) ∙ sign) in
    low ∙ rw (lt-ltb _ _ below) (sym (add-zero (x % 2 ^ k)))

-- `sext` where it is 1
pub negative : (x k : ℕ) → k ≤ 64 → (bit_and x ((2 ^ 64 - 1) / 2 ^ (64 - k)) / 2 ^ (k - 1) ≡ 0 → ⊥) →
    bit_or (bit_and x ((2 ^ 64 - 1) / 2 ^ (64 - k))) (2 ^ 64 - 1 - (2 ^ 64 - 1) / 2 ^ (64 - k)) ≡ sign_extended x k
negative x k high sign =
    let low : bit_and x ((2 ^ 64 - 1) / 2 ^ (64 - k)) ≡ x % 2 ^ k = and-max_shr x k high in
    let above : 2 ^ (k - 1) ≤ x % 2 ^ k = above_of_quotient (x % 2 ^ k) (k - 1) (λ z. sign (ap (λ v. v / 2 ^ (k - 1)) low ∙ z)) in
    rw (low, max_shr k high) (or-high_ones x k high ∙ rw (le-ltb _ _ above) refl)
