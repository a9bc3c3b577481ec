-- The product of the bits of two whole numbers in 128 bits has the bits of their product.
use Rattle.std.proofs.Common.{◌≡◌, ℕ, zero, suc, ◌+◌, ◌-◌, ◌*◌, ◌/◌, ◌%◌, ◌^◌, ◌<◌, ◌≤◌, refl, ap, sym, ◌∙◌, arith, inl, inr, lt-ltb, le-ltb, mul_comm, mod-eq_of_lt, suc-mul}
use Rattle.std.specs.Prelude.{ℤ, pos, negsuc, neg_ℤ, ◌*ℤ◌, Bool, true, false}
use Rattle.std.specs.Int.{w64, w128, cast_unsigned}
use Rattle.std.proofs.Math.Nat.{mul-sub, add-mul-mod_self_right}
use Rattle.std.proofs.lemmas.Bool.{cases_lt}
use Rattle.std.proofs.lemmas.Nat.{mul-le, mul-lt}
use Rattle.rv_word.specs.Multiply.{whole, high_bits}

-- a factor: a number of 64 bits, with or without a sign
abbrev pub IsFactor : ℤ → Type 0
IsFactor (pos n) = n < 2 ^ 64
IsFactor (negsuc n) = n < 2 ^ 63

-- one factor is negative
one_below : (m a b : ℕ) → b ≤ m → a * b ≤ m → a * (m - b) % m ≡ (m - a * b) % m
one_below m zero b low fits = let e : zero * (m - b) ≡ zero = omega arith in let d : m - zero * b ≡ zero + 1 * m = omega arith in rw (e, d) (sym (add-mul-mod_self_right zero 1 m))
one_below m (suc a) b low fits =
    let is : suc a * (m - b) ≡ (m - suc a * b) + a * m = omega (arith, mul-sub (suc a) m b, suc-mul a m) in
    ap (λ n. n % m) is ∙ add-mul-mod_self_right (m - suc a * b) a m

-- both are
crossed : (a b c : ℕ) → (b + c) * (a + c) ≡ a * b + c * (a + b + c)
crossed a b c = omega arith

both_below : (m a b : ℕ) → a + b ≤ m → a * b < m → (m - a) * (m - b) % m ≡ a * b
both_below m a b low fits =
    let c : ℕ = m - (a + b) in
    let first : m - a ≡ b + c = omega arith in
    let second : m - b ≡ a + c = omega arith in
    let all : a + b + c ≡ m = omega arith in
    let is : (m - a) * (m - b) ≡ a * b + c * m = ap (λ n. n * (m - b)) first ∙ ap (λ n. (b + c) * n) second ∙ crossed a b c ∙ ap (λ n. a * b + c * n) all in
    ap (λ n. n % m) is ∙ add-mul-mod_self_right (a * b) c m ∙ mod-eq_of_lt fits

-- the upper half of the bits of a negative product
high_below : (p : ℕ) → p ≤ 2 ^ 127 → (2 ^ 128 - p) % 2 ^ 128 / 2 ^ 64 ≡ high_bits (neg_ℤ (pos p))
high_below zero fits = refl
high_below (suc p) fits = omega arith

pub high_is : (x y : ℤ) → IsFactor x → IsFactor y → cast_unsigned w128 x * cast_unsigned w128 y % 2 ^ 128 / 2 ^ 64 ≡ high_bits (x *ℤ y)
high_is (pos a) (pos b) p q = ap (λ n. n / 2 ^ 64) (mod-eq_of_lt (mul-lt a b (2 ^ 64) (2 ^ 64) p q))
high_is (pos a) (negsuc b) p q =
    let fits : a * suc b ≤ 2 ^ 64 * 2 ^ 63 = mul-le a (suc b) (2 ^ 64) (2 ^ 63) (omega arith) (omega arith) in
    ap (λ n. n / 2 ^ 64) (one_below (2 ^ 128) a (suc b) (omega arith) (omega arith)) ∙ high_below (a * suc b) (omega arith)
high_is (negsuc a) (pos b) p q =
    let fits : b * suc a ≤ 2 ^ 64 * 2 ^ 63 = mul-le b (suc a) (2 ^ 64) (2 ^ 63) (omega arith) (omega arith) in
    ap (λ n. n % 2 ^ 128 / 2 ^ 64) (mul_comm (2 ^ 128 - suc a) b)
    ∙ ap (λ n. n / 2 ^ 64) (one_below (2 ^ 128) b (suc a) (omega arith) (omega arith)) ∙ high_below (b * suc a) (omega arith)
    ∙ ap (λ n. high_bits (neg_ℤ (pos n))) (mul_comm b (suc a))
high_is (negsuc a) (negsuc b) p q =
    let fits : suc a * suc b ≤ 2 ^ 63 * 2 ^ 63 = mul-le (suc a) (suc b) (2 ^ 63) (2 ^ 63) (omega arith) (omega arith) in
    ap (λ n. n / 2 ^ 64) (both_below (2 ^ 128) (suc a) (suc b) (omega arith) (omega arith))

pub is_factor : (signed : Bool) (n : ℕ) → n < 2 ^ 64 → IsFactor (whole w64 signed n)
is_factor false n small = small
is_factor true n small =
    elim (cases_lt n (2 ^ 63)) [
      | inl low ↦ rw (lt-ltb n (2 ^ 63) low) (omega arith)
      | inr high ↦ rw (le-ltb n (2 ^ 63) high) (omega arith)
    ]
