-- Bytes and the little-endian number that they are: each gives the other.
use Rattle.std.proofs.Common.{◌≡◌, ℕ, zero, suc, ◌^◌, ◌<◌, ◌≤◌, List, [], ◌∷◌, length, take, drop, slice_index, refl, sym, ap, ◌∙◌, arith}
use Rattle.std.specs.Int.{byte_at, bytes_low_first}
use Rattle.std.proofs.lemmas.List.{append-nil, length-take-le}
use Rattle.byteorder.specs.Endian.{little_number, little_bytes}
use Rattle.byteorder.specs.Numbers.{little_from-cons, little_from-lt, little_from-take, length-bytes_low_first, little_number-reads_back}

abbrev pub AreBytes : List ℕ → Type 0
AreBytes xs = (i : ℕ) → slice_index xs i < 256

pub bytes-drop : (n : ℕ) (xs : List ℕ) → AreBytes xs → AreBytes (drop n xs)
bytes-drop zero xs h = h
bytes-drop (suc n) [] h = h
bytes-drop (suc n) (x ∷ xs) h = bytes-drop n xs (λ i. h (suc i))

pub bytes-take : (n : ℕ) (xs : List ℕ) → AreBytes xs → AreBytes (take n xs)
bytes-take zero xs h i = omega arith
bytes-take (suc n) [] h i = omega arith
bytes-take (suc n) (x ∷ xs) h zero = h 0
bytes-take (suc n) (x ∷ xs) h (suc i) = bytes-take n xs (λ k. h (suc k)) i

byte_at-lt : (i n : ℕ) → byte_at i n < 256
byte_at-lt zero n = omega arith
byte_at-lt (suc i) n = omega arith

bytes-little : (i n x : ℕ) → AreBytes (bytes_low_first i n x)
bytes-little i zero x k = omega arith
bytes-little i (suc n) x zero = byte_at-lt i x
bytes-little i (suc n) x (suc k) = bytes-little (suc i) n x k

-- as many bytes with one number are the same bytes
same_bytes : (n : ℕ) (xs ys : List ℕ) → length xs ≡ n → length ys ≡ n → AreBytes xs → AreBytes ys
    → little_number n xs ≡ little_number n ys → xs ≡ ys
same_bytes zero [] [] p q h k e = refl
same_bytes zero (x ∷ xs) ys p q h k e = absurd (omega arith)
same_bytes zero [] (y ∷ ys) p q h k e = absurd (omega arith)
same_bytes (suc n) [] ys p q h k e = absurd (omega arith)
same_bytes (suc n) (x ∷ xs) [] p q h k e = absurd (omega arith)
same_bytes (suc n) (x ∷ xs) (y ∷ ys) p q h k e =
    let a = little_from-cons 0 n x xs in
    let b = little_from-cons 0 n y ys in
    let low : x < 256 = h 0 in
    let low' : y < 256 = k 0 in
    let first : x ≡ y = omega arith in
    let rest = same_bytes n xs ys (omega arith) (omega arith) (λ i. h (suc i)) (λ i. k (suc i)) (omega arith) in
    cc

-- the first bytes of a file are those of their number
pub take_of_number : (n : ℕ) (xs : List ℕ) (value : ℕ) → AreBytes xs → n ≤ length xs → little_number n xs ≡ value
    → take n xs ≡ little_bytes n value
take_of_number n xs value h long e =
    let fits : value < 256 ^ n = rw e at (little_from-lt 0 n xs h) in
    let front : little_number n (take n xs) ≡ value = little_from-take 0 n n xs (omega arith) ∙ e in
    let back : little_number n (little_bytes n value) ≡ value =
    ap (little_number n) (sym (append-nil (little_bytes n value))) ∙ little_number-reads_back n value [] fits in
    same_bytes n _ _ (length-take-le n xs long) (length-bytes_low_first 0 n value) (bytes-take n xs h) (bytes-little 0 n value) (front ∙ sym back)
