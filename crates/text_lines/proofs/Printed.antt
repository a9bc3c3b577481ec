-- A number with a fixed count of hexadecimal digits, as `{:08x}` prints it.
use Rattle.std.proofs.Common.{◌≡◌, ℕ, zero, suc, ◌+◌, ◌-◌, ◌*◌, ◌/◌, ◌%◌, ◌^◌, ◌<◌, false, List, [], ◌∷◌, ◌++◌, length, replicate, refl, sym, ◌∙◌, ap, append_assoc, append-nil, arith, eq-eqb}
use Rattle.std.proofs.Math.Nat.{div-one, zero-div}
use Rattle.std.proofs.lemmas.Nat.{shr-shr, pow-add}
use borrow.Author.Tests.{ne_eqb}
use Rattle.std.specs.Fmt.{digits, digits_onto, padded_integral, format_spec, char_count}
use Rattle.text_lines.specs.Hex.{hex_digit, hex_text}

-- the last digit stands last
hex_last : (count n : ℕ) → hex_text (suc count) n ≡ hex_text count (n / 16) ++ hex_digit (n % 16) ∷ []
unfolding hex_text
hex_last zero n = ap (λ m. hex_digit (m % 16) ∷ []) (div-one n)
hex_last (suc count) n =
    let above : 4 * suc count ≡ 4 + 4 * count = omega arith in
    let digit : n / 2 ^ (4 * suc count) ≡ n / 16 / 2 ^ (4 * count) = rw above (sym (shr-shr n 4 (4 * count))) in
    ap (λ m. hex_digit (m % 16) ∷ hex_text (suc count) n) digit ∙ ap (λ rest. hex_digit (n / 16 / 2 ^ (4 * count) % 16) ∷ rest) (hex_last count n)

hex_zero : (count : ℕ) → hex_text count 0 ≡ replicate count 48
unfolding hex_text
hex_zero zero = refl
hex_zero (suc count) = ap (λ m. hex_digit (m % 16) ∷ hex_text count 0) (zero-div (2 ^ (4 * count))) ∙ ap (λ rest. 48 ∷ rest) (hex_zero count)

-- what is written where one digit is left, and where there are more
last_digit : (fuel n : ℕ) (acc : List ℕ) → n / 16 ≡ 0 → digits_onto (suc fuel) 16 false n acc ≡ hex_digit (n % 16) ∷ acc
last_digit fuel n acc none = rw (eq-eqb (n / 16) 0 none) refl

more_digits : (fuel n : ℕ) (acc : List ℕ) → (n / 16 ≡ 0 → ⊥) → digits_onto (suc fuel) 16 false n acc ≡ digits_onto fuel 16 false (n / 16) (hex_digit (n % 16) ∷ acc)
more_digits fuel n acc some = rw (ne_eqb (n / 16) 0 some) refl

-- digits, with zeros before them up to a count
abbrev filled : ℕ → ℕ → List ℕ → List ℕ
filled count after text = replicate (count + after - length text) 48 ++ text

filled_last : (fuel count n : ℕ) (acc : List ℕ) → n / 16 ≡ 0 → filled (suc count) (length acc) (digits_onto (suc fuel) 16 false n acc) ≡ hex_text (suc count) n ++ acc
filled_last fuel count n acc none =
    let digit = hex_digit (n % 16) in
    let gap : suc count + length acc - length (digit ∷ acc) ≡ count = omega arith in
    let zeros : hex_text (suc count) n ≡ replicate count 48 ++ digit ∷ [] = hex_last count n ∙ ap (λ m. hex_text count m ++ digit ∷ []) none ∙ ap (λ z. z ++ digit ∷ []) (hex_zero count) in
    ap (λ text. filled (suc count) (length acc) text) (last_digit fuel n acc none) ∙ ap (λ k. replicate k 48 ++ digit ∷ acc) gap
    ∙ sym (append_assoc (replicate count 48) (digit ∷ []) acc) ∙ ap (λ text. text ++ acc) (sym zeros)

filled_more : (fuel count n : ℕ) (acc : List ℕ) → (n / 16 ≡ 0 → ⊥)
    → filled (suc count) (suc (length acc)) (digits_onto fuel 16 false (n / 16) (hex_digit (n % 16) ∷ acc)) ≡ hex_text (suc count) (n / 16) ++ hex_digit (n % 16) ∷ acc
    → filled (suc (suc count)) (length acc) (digits_onto (suc fuel) 16 false n acc) ≡ hex_text (suc (suc count)) n ++ acc
filled_more fuel count n acc some front =
    let digit = hex_digit (n % 16) in
    let text = digits_onto fuel 16 false (n / 16) (digit ∷ acc) in
    let gap : suc (suc count) + length acc - length text ≡ suc count + suc (length acc) - length text = omega arith in
    ap (λ text. filled (suc (suc count)) (length acc) text) (more_digits fuel n acc some) ∙ ap (λ k. replicate k 48 ++ text) gap ∙ front
    ∙ sym (append_assoc (hex_text (suc count) (n / 16)) (digit ∷ []) acc) ∙ ap (λ text. text ++ acc) (sym (hex_last (suc count) n))

abbrev Fills : ℕ → ℕ → Type 0
Fills fuel count = (n : ℕ) (acc : List ℕ) → n < 2 ^ (4 * suc count) → filled (suc count) (length acc) (digits_onto fuel 16 false n acc) ≡ hex_text (suc count) n ++ acc

fills_next : (fuel count : ℕ) → Fills fuel count → (n : ℕ) (acc : List ℕ) → n / 16 < 2 ^ (4 * suc count) → (high : ℕ) → n / 16 ≡ high
    → filled (suc (suc count)) (length acc) (digits_onto (suc fuel) 16 false n acc) ≡ hex_text (suc (suc count)) n ++ acc
fills_next fuel count front n acc small zero e = filled_last fuel (suc count) n acc e
fills_next fuel count front n acc small (suc high) e = filled_more fuel count n acc (λ none. omega arith) (front (n / 16) (hex_digit (n % 16) ∷ acc) small)

fills : (fuel count : ℕ) → count < fuel → Fills fuel count
fills zero count h = absurd (omega arith)
fills (suc fuel) zero h = λ n acc small. filled_last fuel 0 n acc (omega arith)
fills (suc fuel) (suc count) h = λ n acc small.
    let above : 4 * suc (suc count) ≡ 4 + 4 * suc count = omega arith in
    let power : 2 ^ (4 * suc (suc count)) ≡ 16 * 2 ^ (4 * suc count) = rw above (pow-add 2 4 (4 * suc count)) in
    fills_next fuel count (fills fuel count (omega arith)) n acc (omega arith) (n / 16) refl

-- the digits of a number, where `fuel` is 64
pub digits_are : (fuel n : ℕ) → fuel ≡ 64 → digits 16 false n ≡ digits_onto fuel 16 false n []
unfolding digits
digits_are fuel n e = ap (λ k. digits_onto k 16 false n []) (sym e)

padded_with : (width : ℕ) (numeral : List ℕ) → padded_integral (format_spec 32 0 4 width (2 ^ 64 - 1)) false [] numeral ≡ filled width 0 numeral
unfolding padded_integral char_count
padded_with width numeral =
    let gap : width - length numeral - 0 - 0 ≡ width + 0 - length numeral = omega arith in
    ap (λ k. replicate k 48 ++ (numeral ++ [])) gap ∙ ap (λ text. replicate (width + 0 - length numeral) 48 ++ text) (append-nil numeral)

all_digits : (fuel count n : ℕ) → fuel ≡ 64 → count < fuel → n < 2 ^ (4 * suc count) → filled (suc count) 0 (digits 16 false n) ≡ hex_text (suc count) n
all_digits fuel count n e enough small = ap (λ text. filled (suc count) 0 text) (digits_are fuel n e) ∙ fills fuel count enough n [] small ∙ append-nil (hex_text (suc count) n)

-- what `{:08x}` prints
pub eight_digits : (n : ℕ) → n < 2 ^ 32 → padded_integral (format_spec 32 0 4 8 (2 ^ 64 - 1)) false [] (digits 16 false n) ≡ hex_text 8 n
eight_digits n small = padded_with 8 (digits 16 false n) ∙ all_digits 64 7 n refl (omega arith) small

-- what `{:016x}` prints
pub sixteen_digits : (n : ℕ) → n < 2 ^ 64 → padded_integral (format_spec 32 0 4 16 (2 ^ 64 - 1)) false [] (digits 16 false n) ≡ hex_text 16 n
sixteen_digits n small = padded_with 16 (digits 16 false n) ∙ all_digits 64 15 n refl (omega arith) small

pub eight_low_digits : (n : ℕ) → hex_text 8 (n % 2 ^ 32) ≡ hex_text 8 n
unfolding hex_text
eight_low_digits n =
    let seven : n % 2 ^ 32 / 2 ^ 28 % 2 ^ 4 ≡ n / 2 ^ 28 % 2 ^ 4 = omega arith in
    let six : n % 2 ^ 32 / 2 ^ 24 % 2 ^ 4 ≡ n / 2 ^ 24 % 2 ^ 4 = omega arith in
    let five : n % 2 ^ 32 / 2 ^ 20 % 2 ^ 4 ≡ n / 2 ^ 20 % 2 ^ 4 = omega arith in
    let four : n % 2 ^ 32 / 2 ^ 16 % 2 ^ 4 ≡ n / 2 ^ 16 % 2 ^ 4 = omega arith in
    let three : n % 2 ^ 32 / 2 ^ 12 % 2 ^ 4 ≡ n / 2 ^ 12 % 2 ^ 4 = omega arith in
    let two : n % 2 ^ 32 / 2 ^ 8 % 2 ^ 4 ≡ n / 2 ^ 8 % 2 ^ 4 = omega arith in
    let one : n % 2 ^ 32 / 2 ^ 4 % 2 ^ 4 ≡ n / 2 ^ 4 % 2 ^ 4 = omega arith in
    let none : n % 2 ^ 32 / 1 % 2 ^ 4 ≡ n / 1 % 2 ^ 4 = omega arith in
    rw (seven, six, five, four, three, two, one, none) refl
