-- A byte in two hexadecimal digits, as `{:02x}` prints it.
use Rattle.std.proofs.Common.{◌≡◌, true, false, ℕ, zero, suc, ◌-◌, ◌/◌, ◌%◌, ◌^◌, ◌==◌, ◌<◌, List, [], ◌∷◌, ◌++◌, length, replicate, refl, ◌∙◌, ap, append-nil, arith, eq-eqb}
use borrow.Author.Tests.{ne_eqb}
use Rattle.std.specs.Fmt.{digits, digits_onto, padded_integral, format_spec, char_count}
use Rattle.text_lines.specs.Hex.{hex_digit, hex_text}
use Rattle.text_lines.proofs.Printed.{digits_are}

-- what is written where one digit is left, and where there are more
last_digit : (fuel n : ℕ) (acc : List ℕ) → (n / 16 == 0) ≡ true → digits_onto (suc fuel) 16 false n acc ≡ hex_digit (n % 16) ∷ acc
last_digit fuel n acc none = rw none refl

more_digits : (fuel n : ℕ) (acc : List ℕ) → (n / 16 == 0) ≡ false → digits_onto (suc fuel) 16 false n acc ≡ digits_onto fuel 16 false (n / 16) (hex_digit (n % 16) ∷ acc)
more_digits fuel n acc some = rw some refl

filled : (numeral : List ℕ) → padded_integral (format_spec 32 0 4 2 (2 ^ 64 - 1)) false [] numeral ≡ replicate (2 - length numeral) 48 ++ numeral
unfolding padded_integral char_count
filled numeral =
    let gap : 2 - length numeral - 0 - 0 ≡ 2 - length numeral = omega arith in
    ap (λ k. replicate k 48 ++ (numeral ++ [])) gap ∙ ap (λ text. replicate (2 - length numeral) 48 ++ text) (append-nil numeral)

two_of : (n : ℕ) → hex_text 2 n ≡ hex_digit (n / 2 ^ 4 % 2 ^ 4) ∷ hex_digit (n / 1 % 2 ^ 4) ∷ []
unfolding hex_text
two_of n = refl

two_are : (n high : ℕ) → n < 2 ^ 8 → n / 16 ≡ high → replicate (2 - length (digits 16 false n)) 48 ++ digits 16 false n ≡ hex_text 2 n
two_are n zero small e =
    let text : digits 16 false n ≡ hex_digit (n % 16) ∷ [] = digits_are (suc 63) n refl ∙ last_digit 63 n [] (eq-eqb (n / 16) 0 e) in
    let high : n / 2 ^ 4 % 2 ^ 4 ≡ 0 = omega (arith, e) in
    let low : n / 1 % 2 ^ 4 ≡ n % 16 = omega arith in
    rw (text, two_of n, high, low) refl
two_are n (suc more) small e =
    let some : (n / 16 == 0) ≡ false = ne_eqb (n / 16) 0 (λ none. omega (arith, none, e)) in
    let above : (n / 16 / 16 == 0) ≡ true = eq-eqb (n / 16 / 16) 0 (omega arith) in
    let text : digits 16 false n ≡ hex_digit (n / 16 % 16) ∷ hex_digit (n % 16) ∷ [] =
    digits_are (suc 63) n refl ∙ more_digits 63 n [] some ∙ last_digit 62 (n / 16) (hex_digit (n % 16) ∷ []) above in
    let high : n / 2 ^ 4 % 2 ^ 4 ≡ n / 16 % 16 = omega arith in
    let low : n / 1 % 2 ^ 4 ≡ n % 16 = omega arith in
    rw (text, two_of n, high, low) refl

pub two_digits : (n : ℕ) → n < 2 ^ 8 → padded_integral (format_spec 32 0 4 2 (2 ^ 64 - 1)) false [] (digits 16 false n) ≡ hex_text 2 n
two_digits n small = filled (digits 16 false n) ∙ two_are n (n / 16) small refl
