-- Digits as they are written, one after the other.
use Rattle.std.proofs.Common.{◌≡◌, ℕ, zero, suc, ◌-◌, ◌*◌, ◌/◌, ◌%◌, ◌^◌, ◌<◌, List, [], ◌∷◌, ◌++◌, refl, sym, ◌∙◌, ap, append_assoc, arith}
use Rattle.std.proofs.lemmas.List.{append-nil}
use Rattle.text_lines.specs.Hex.{hex_digit, hex_text}

-- the first of the last `count` digits
hex_first : (count n : ℕ) → 0 < count → hex_text count n ≡ hex_digit (n / 2 ^ (4 * (count - 1)) % 2 ^ 4) ∷ hex_text (count - 1) n
unfolding hex_text
hex_first zero n h = absurd (omega arith)
hex_first (suc count) n h = let e : suc count - 1 ≡ count = omega arith in rw e refl

pub next_digit_out : (out all : List ℕ) (count n digit : ℕ) → 0 < count → digit ≡ hex_digit (n / 2 ^ (4 * (count - 1)) % 2 ^ 4) → out ++ hex_text count n ≡ all → (out ++ digit ∷ []) ++ hex_text (count - 1) n ≡ all
next_digit_out out all count n digit h e is =
    append_assoc out (digit ∷ []) (hex_text (count - 1) n) ∙ ap (λ d. out ++ d ∷ hex_text (count - 1) n) e ∙ ap (λ t. out ++ t) (sym (hex_first count n h)) ∙ is

pub no_digit_out : (out all : List ℕ) (count n : ℕ) → count ≡ 0 → out ++ hex_text count n ≡ all → out ≡ all
unfolding hex_text
no_digit_out out all count n e is = sym (append-nil out) ∙ rw e at is
