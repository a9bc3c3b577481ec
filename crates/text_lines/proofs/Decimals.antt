-- Numbers in decimal digits, of which each that is too large stands as one.
use Rattle.std.proofs.Common.{◌≡◌, ℕ, ◌+◌, ◌*◌, ◌<◌, ◌≤◌, ◌==◌, nat_lt, true, false, ◌&&◌, List, [], ◌∷◌, length, get_or, drop, min, Option, Some, None, refl, sym, ap, arith}
use Rattle.std.specs.Option.{option_map, option_and_then}
use Rattle.std.proofs.lemmas.Bool.{and_parts, lt-ltb}
use Rattle.std.proofs.lemmas.List.{drop_all, drop_more}
use Rattle.text_lines.specs.Decimal.{MAX_STEP, capped, decimal, decimal_digit, decimal_from}

capped_more : (n m d : ℕ) → capped n ≡ capped m → capped (10 * n + d) ≡ capped (10 * m + d)
capped_more n m d e = grind (arith)

capped_same : (w : List ℕ) (n m : ℕ) → capped n ≡ capped m → option_map capped (decimal_from n w) ≡ option_map capped (decimal_from m w)
unfolding decimal_from
capped_same [] n m e = ap Some e
capped_same (b ∷ rest) n m e = digit (decimal_digit b) (λ d. capped_same rest (10 * n + d) (10 * m + d) (capped_more n m d e))
  where
    digit : (o : Option ℕ) → ((d : ℕ) → option_map capped (decimal_from (10 * n + d) rest) ≡ option_map capped (decimal_from (10 * m + d) rest)) → option_map capped (option_and_then (λ d. decimal_from (10 * n + d) rest) o) ≡ option_map capped (option_and_then (λ d. decimal_from (10 * m + d) rest) o)
    digit None others = refl
    digit (Some d) others = others d

capped_min : (n : ℕ) → capped (min n (MAX_STEP + 1)) ≡ capped n
capped_min n = grind (arith)

pub next_decimal : (w : List ℕ) (i n d : ℕ) → i < length w → decimal_digit (get_or w i 0) ≡ Some d → option_map capped (decimal_from n (drop i w)) ≡ option_map capped (decimal_from (min (10 * n + d) (MAX_STEP + 1)) (drop (i + 1) w))
unfolding decimal_from
next_decimal w i n d h e =
    rw (drop_more w i 0 h, e) (capped_same (drop (i + 1) w) (10 * n + d) (min (10 * n + d) (MAX_STEP + 1)) (sym (capped_min (10 * n + d))))

pub bad_decimal : (w : List ℕ) (i n : ℕ) → i < length w → decimal_digit (get_or w i 0) ≡ None → decimal_from n (drop i w) ≡ None
unfolding decimal_from
bad_decimal w i n h e = rw (drop_more w i 0 h, e) refl

pub no_decimal : (w : List ℕ) (i n : ℕ) → length w ≤ i → n ≤ MAX_STEP + 1 → option_map capped (decimal_from n (drop i w)) ≡ Some n
unfolding decimal_from
no_decimal w i n h k =
    let e : capped n ≡ n = grind (arith) in
    rw (drop_all i w h) (ap Some e)

pub no_digits : (w : List ℕ) → length w ≡ 0 → decimal w ≡ None
unfolding decimal
no_digits [] e = refl
no_digits (b ∷ rest) e = absurd (omega arith)

pub leading_zero : (w : List ℕ) → (nat_lt 1 (length w) && get_or w 0 0 == 48) ≡ true → decimal w ≡ None
unfolding decimal
leading_zero [] h = refl
leading_zero (b ∷ []) h = cc h
leading_zero (b ∷ next ∷ rest) h = rw (and_parts (nat_lt 1 (length (b ∷ next ∷ rest))) (b == 48) h).1 refl

pub decimal_is : (w : List ℕ) → (length w ≡ 0 → ⊥) → (nat_lt 1 (length w) && get_or w 0 0 == 48) ≡ false → decimal w ≡ decimal_from 0 w
unfolding decimal
decimal_is [] h e = absurd (h refl)
decimal_is (b ∷ []) h e = refl
decimal_is (b ∷ next ∷ rest) h e =
    let two : nat_lt 1 (length (b ∷ next ∷ rest)) ≡ true = lt-ltb _ _ (omega arith) in
    rw (rw two at e) refl
