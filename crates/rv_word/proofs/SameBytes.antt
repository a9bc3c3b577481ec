-- Numbers that are read where two memories hold the same bytes.
use Rattle.std.proofs.Common.{◌≡◌, ℕ, zero, suc, ◌+◌, ◌<◌, refl, arith}
use Rattle.rv_word.specs.Memory.{Memory, read}

pub read_same : (n : ℕ) (m m' : Memory) (a b : ℕ) → ((k : ℕ) → k < n → m (a + k) ≡ m' (b + k)) → read n m a ≡ read n m' b
read_same zero m m' a b same = refl
read_same (suc n) m m' a b same =
    let here : a + 0 ≡ a = omega arith in
    let there : b + 0 ≡ b = omega arith in
    let first : m a ≡ m' b = rw (here, there) at (same 0 (omega arith)) in
    let rest : read n m (a + 1) ≡ read n m' (b + 1) = read_same n m m' (a + 1) (b + 1) (λ k low.
    let x : a + 1 + k ≡ a + (k + 1) = omega arith in
    let y : b + 1 + k ≡ b + (k + 1) = omega arith in
    rw (x, y) (same (k + 1) (omega arith))) in
    rw (first, rest) refl
