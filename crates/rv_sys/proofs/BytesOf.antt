-- The bytes of a range of memory, one after the other.
use Rattle.std.proofs.Common.{◌≡◌, ℕ, zero, suc, ◌+◌, ◌-◌, ◌≤◌, [], ◌∷◌, ◌++◌, refl, ap, ◌∙◌, arith}
use Rattle.rv_word.specs.Memory.{Memory}
use Rattle.rv_code.specs.SystemCall.{bytes_of}

pub bytes_of-suc : (m : Memory) (a n : ℕ) → bytes_of m a (suc n) ≡ bytes_of m a n ++ m (a + n) ∷ []
unfolding bytes_of
bytes_of-suc m a zero = let e : a + 0 ≡ a = omega arith in rw e refl
bytes_of-suc m a (suc n) = let e : a + 1 + n ≡ a + suc n = omega arith in ap (λ bs. m a ∷ bs) (rw (← e) (bytes_of-suc m (a + 1) n))

pub bytes_of-more : (m : Memory) (a k : ℕ) → a ≤ k → bytes_of m a (k + 1 - a) ≡ bytes_of m a (k - a) ++ m k ∷ []
bytes_of-more m a k low =
    let e : k + 1 - a ≡ suc (k - a) = omega arith in
    let f : a + (k - a) ≡ k = omega arith in
    rw e (bytes_of-suc m a (k - a) ∙ ap (λ j. bytes_of m a (k - a) ++ m j ∷ []) f)

pub bytes_of-none : (m : Memory) (a : ℕ) → bytes_of m a (a - a) ≡ []
unfolding bytes_of
bytes_of-none m a = let e : a - a ≡ 0 = omega arith in rw e refl
