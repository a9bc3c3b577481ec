-- What stands at one of so many words, in a list by offsets: word by word, or all at once.
use Rattle.std.proofs.Common.{◌≡◌, ◌==◌, ℕ, zero, suc, ◌+◌, ◌*◌, ◌/◌, ◌%◌, ◌<◌, ◌≤◌, nat_lt, get_or, Bool, true, false, ◌&&◌, List, [], ◌∷◌, ◌++◌, length, inl, inr, refl, sym, ap, ◌∙◌, add-one, arith}
use Rattle.std.specs.Prelude.{filter}
use Rattle.std.specs.List.Sorted.{IsNonDecreasingBy}
use Rattle.std.proofs.lemmas.Bool.{cases_Bool, and_parts, eq-eqb, eqb-true, lt-ltb, ltb-true, le-ltb, ltb-false, false_from_ne_true}
use Rattle.least.specs.Nearest.{joined}

-- an offset is that of one of the first n words
abbrev pub is_at_word : ℕ → ℕ → Bool
is_at_word n a = a % 4 == 0 && nat_lt (a / 4) n

not_both : (a b : Bool) → b ≡ false → (a && b) ≡ false
not_both true b e = e
not_both false b e = refl

past : (n a : ℕ) → 4 * n ≤ a → is_at_word n a ≡ false
past n a from = not_both (a % 4 == 0) (nat_lt (a / 4) n) (le-ltb (a / 4) n (omega arith))

last : (n a : ℕ) → a ≡ 4 * n → is_at_word (n + 1) a ≡ true
last n a is = rw (eq-eqb (a % 4) 0 (omega arith), lt-ltb (a / 4) (n + 1) (omega arith)) refl

still : (n a : ℕ) → is_at_word n a ≡ true → is_at_word (n + 1) a ≡ true
still n a holds =
    let parts = and_parts (a % 4 == 0) (nat_lt (a / 4) n) holds in
    let below : a / 4 < n = ltb-true (a / 4) n parts.1 in
    rw (parts.0, lt-ltb (a / 4) (n + 1) (omega arith)) refl

never : (n a : ℕ) → is_at_word n a ≡ false → (a == 4 * n) ≡ false → is_at_word (n + 1) a ≡ false
never n a not other =
    false_from_ne_true (is_at_word (n + 1) a)
    (λ holds.
    let parts = and_parts (a % 4 == 0) (nat_lt (a / 4) (n + 1)) holds in
    let aligned : a % 4 ≡ 0 = eqb-true (a % 4) 0 parts.0 in
    let below : a / 4 < n + 1 = ltb-true (a / 4) (n + 1) parts.1 in
    let from : nat_lt (a / 4) n ≡ false = rw parts.0 at not in
    let above : n ≤ a / 4 = ltb-false (a / 4) n from in
    let here : (a == 4 * n) ≡ true = eq-eqb a (4 * n) (omega arith) in
    absurd (cc))

module _ {X : Type 0} (at : X → ℕ) where
  AreFrom : ℕ → List X → Type 0
  AreFrom low xs = (i : ℕ) (d : X) → i < length xs → low ≤ at (get_or xs i d)

  none_before : (n : ℕ) (xs : List X) → AreFrom (4 * n) xs → filter (λ x. is_at_word n (at x)) xs ≡ []
  unfolding AreFrom
  none_before n [] from = refl
  none_before n (x ∷ xs) from =
      let fails : is_at_word n (at x) ≡ false = past n (at x) (from 0 x (omega arith)) in
      rw fails (none_before n xs (λ i d below. from (suc i) d (omega arith)))

  -- one word more
  seam : (n : ℕ) (xs : List X) → IsNonDecreasingBy at xs
      → filter (λ x. is_at_word n (at x)) xs ++ filter (λ x. at x == 4 * n) xs ≡ filter (λ x. is_at_word (n + 1) (at x)) xs
  unfolding AreFrom
  seam n [] order = refl
  seam n (x ∷ xs) order =
      let rest = seam n xs (λ i j d up below. order (suc i) (suc j) d (omega arith) (omega arith)) in
      elim (cases_Bool (at x == 4 * n)) [
        | inl here ↦
            let is : at x ≡ 4 * n = eqb-true (at x) (4 * n) here in
            let none = none_before n xs (λ i d below. let up = order 0 (suc i) d (omega arith) (omega arith) in omega arith) in
            rw (past n (at x) (omega arith), here, last n (at x) is, none) (ap (λ ys. x ∷ ys) (sym (ap (λ ys. ys ++ filter (λ y. at y == 4 * n) xs) none) ∙ rest))
        | inr other ↦ elim (cases_Bool (is_at_word n (at x))) [
          | inl before ↦ rw (before, other, still n (at x) before) (ap (λ ys. x ∷ ys) rest)
          | inr not ↦ rw (not, other, never n (at x) not other) rest
        ]
      ]

  pub walk : (n : ℕ) (xs : List X) → IsNonDecreasingBy at xs
      → joined (λ w. filter (λ x. at x == 4 * w) xs) n ≡ filter (λ x. is_at_word n (at x)) xs
  unfolding joined AreFrom
  walk zero xs order = sym (none_before 0 xs (λ i d below. omega arith))
  walk (suc n) xs order =
      ap (λ ys. ys ++ filter (λ x. at x == 4 * n) xs) (walk n xs order) ∙ seam n xs order ∙ ap (λ (k : ℕ). filter (λ x. is_at_word k (at x)) xs) (add-one n)
