-- What a write of memory changes, and what reading it back gives.
use Rattle.std.proofs.Common.{◌≡◌, ℕ, zero, suc, ◌+◌, ◌-◌, ◌*◌, ◌/◌, ◌%◌, ◌^◌, ◌<◌, ◌≤◌, ◌⊎◌, inl, inr, List, length, refl, sym, ap, ◌∙◌, arith}
use Rattle.std.proofs.lemmas.Bool.Decides.{nat_tests}
use Rattle.std.proofs.Math.Nat.{one-le-pow, pow-suc, pow-succ', div-div-eq-div-mul, mod-eq_of_lt}
use Rattle.std.proofs.Math.Arith.{mod-mul}
use Rattle.rv_word.specs.Memory.{Memory, read, write, placed}
use Rattle.rv_word.specs.Same.{SameOn}

pub write_outside : (n : ℕ) (m : Memory) (a v k : ℕ) → (k < a) ⊎ (a + n ≤ k) → write n m a v k ≡ m k
unfolding write
write_outside n m a v k (inl below) = grind (arith, nat_tests)
write_outside n m a v k (inr above) = grind (arith, nat_tests)

pub write_inside : (n : ℕ) (m : Memory) (a v i : ℕ) → i < n → write n m a v (a + i) ≡ v / 256 ^ i % 256
unfolding write
write_inside n m a v i low = let e : a + i - a ≡ i = omega arith in rw e (grind (arith, nat_tests))

pub placed_outside : (m : Memory) (a : ℕ) (bytes : List ℕ) (k : ℕ) → (k < a) ⊎ (a + length bytes ≤ k) →
    placed m a bytes k ≡ m k
unfolding placed
placed_outside m a bytes k (inl below) = grind (arith, nat_tests)
placed_outside m a bytes k (inr above) = grind (arith, nat_tests)

-- reading depends on the bytes that are read
pub read_same : (n : ℕ) (m m' : Memory) (a : ℕ) → SameOn a (a + n) m m' → read n m' a ≡ read n m a
read_same zero m m' a same = refl
read_same (suc n) m m' a same =
    let first : m' a ≡ m a = same a (omega arith) (omega arith) in
    let others : read n m' (a + 1) ≡ read n m (a + 1) = read_same n m m' (a + 1) (λ k low high. same k (omega arith) (omega arith)) in
    rw (first, others)

-- a number's lowest byte and its other bytes
low_byte : (v n : ℕ) → v % 256 + 256 * (v / 256 % 256 ^ n) ≡ v % 256 ^ suc n
low_byte v n =
    let parts : v % (256 ^ n * 256) ≡ (v / 256 % 256 ^ n) * 256 + v % 256 = mod-mul v (one-le-pow n 256 (omega arith)) (omega arith) in
    rw (pow-suc 256 n) (rw parts (omega arith))

byte_above : (v i : ℕ) → v / 256 ^ suc i % 256 ≡ v / 256 / 256 ^ i % 256
byte_above v i = ap (λ q. q % 256) (ap (λ d. v / d) (pow-succ' 256 i) ∙ sym (div-div-eq-div-mul v 256 (256 ^ i)))

-- the bytes of a number, read
pub read_bytes : (n : ℕ) (m : Memory) (a v : ℕ) → ((i : ℕ) → i < n → m (a + i) ≡ v / 256 ^ i % 256) →
    read n m a ≡ v % 256 ^ n
read_bytes zero m a v bytes = omega arith
read_bytes (suc n) m a v bytes =
    let first : m a ≡ v % 256 = ap m (let here : a ≡ a + 0 = omega arith in here) ∙ bytes 0 (omega arith) ∙ omega arith in
    let others : read n m (a + 1) ≡ v / 256 % 256 ^ n =
    read_bytes n m (a + 1) (v / 256)
    (λ i low. ap m (let next : a + 1 + i ≡ a + suc i = omega arith in next) ∙ bytes (suc i) (omega arith) ∙ byte_above v i) in
    rw (first, others) (low_byte v n)

-- what was written is read back
pub read_write : (n : ℕ) (m : Memory) (a v : ℕ) → v < 256 ^ n → read n (write n m a v) a ≡ v
read_write n m a v small = read_bytes n (write n m a v) a v (write_inside n m a v) ∙ mod-eq_of_lt small
