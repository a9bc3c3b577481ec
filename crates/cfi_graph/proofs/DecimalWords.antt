-- The decimal digits of a number, as they are written and as they are read.
use Rattle.std.proofs.Common.{◌≡◌, ℕ, zero, suc, ◌+◌, ◌-◌, ◌*◌, ◌^◌, ◌<◌, ◌==◌, nat_lt, nat_le, Bool, true, false, ◌&&◌, if◌then◌else◌, List, [], ◌∷◌, length, get_or, Some, None, refl, sym, subst, ◌∙◌, ap, inl, inr, arith}
use Rattle.std.specs.Int.{IsInRange}
use Rattle.std.specs.Fmt as fmt
use Rattle.std.specs.Str.Parse.{AllDigits}
use Rattle.std.proofs.lemmas.Bool.{and_from, and_parts, cases_Bool, eq-eqb, eqb-true, leb-true, le-leb}
use Rattle.std.proofs.lemmas.Fmt.{decimal_digit, decimal_nonempty, decimal-digits_value, digits_decimal, digits_value-decimal, first_decimal}
use Rattle.std.proofs.lemmas.Option.{same_Some}
use Rattle.std.proofs.lemmas.Str.Parse.{IsNumeralModel, numerals_by_fold, tells_digits}
use Rattle.rv_word.proofs.Cases.{guarded}
use Rattle.text_lines.specs.Decimal.{decimal, decimal_from}
use Rattle.text_lines.specs.Decimal as digits
use Rattle.text_lines.proofs.Decimals.{decimal_is}
use Rattle.text_lines.proofs.Options.{and_then}
use Rattle.text_lines.proofs.Written.{plain}

-- the number that digits write after those of another
abbrev value : ℕ → List ℕ → ℕ
value high [] = high
value high (b ∷ rest) = value (high * 10 + (b - 48)) rest

numerals : IsNumeralModel (AllDigits 10) (value 0)
numerals = numerals_by_fold (AllDigits 10) tells_digits value (record { empty = λ n. refl; more = λ n c cs range. refl })

digit_is : (b d : ℕ) → digits.decimal_digit b ≡ Some d → (IsInRange 48 57 b) × (b - 48 ≡ d)
digit_is b d e =
    let g = guarded (nat_le 48 b && nat_le b 57) (Some (b - 48)) d e in
    let p = and_parts (nat_le 48 b) (nat_le b 57) g.0 in
    ((leb-true 48 b p.0, leb-true b 57 p.1), same_Some _ _ g.1)

is_digit : (b : ℕ) → IsInRange 48 57 b → digits.decimal_digit b ≡ Some (b - 48)
is_digit b range = rw (le-leb 48 b range.0, le-leb b 57 range.1) refl

-- what is read are digits, and their number
read_digits : (high : ℕ) (word : List ℕ) (n : ℕ) → decimal_from high word ≡ Some n → AllDigits 10 word × (value high word ≡ n)
unfolding decimal_from
read_digits high [] n e = (tt, same_Some _ _ e)
read_digits high (b ∷ rest) n e =
    and_then _ (digits.decimal_digit b) n e (λ d first others.
    let is = digit_is b d first in
    let same : 10 * high + d ≡ high * 10 + (b - 48) = omega (arith, is.1) in
    let more = read_digits (high * 10 + (b - 48)) rest n (ap (λ k. decimal_from k rest) (sym same) ∙ others) in
    (tells_digits.more b rest is.0 more.0, more.1))

digits_read : (high : ℕ) (word : List ℕ) → AllDigits 10 word → decimal_from high word ≡ Some (value high word)
unfolding decimal_from
digits_read high [] all = refl
digits_read high (b ∷ rest) all =
    let p = tells_digits.parts b rest all in
    let same : 10 * high + (b - 48) ≡ high * 10 + (b - 48) = omega arith in
    rw (is_digit b p.0, same) (digits_read (high * 10 + (b - 48)) rest p.1)

digits_plain : (word : List ℕ) → AllDigits 10 word → plain word ≡ true
digits_plain [] all = refl
digits_plain (b ∷ rest) all =
    let p = tells_digits.parts b rest all in
    and_from _ _ (le-leb 48 b p.0.0) (digits_plain rest p.1)

pub decimal_plain : (n : ℕ) → n < 2 ^ 64 → plain (fmt.decimal n) ≡ true
decimal_plain n small = digits_plain (fmt.decimal n) (digits_decimal numerals n small)

-- a word that is read has one digit at least, and a leading zero only alone
record IsWord (word : List ℕ) (n : ℕ) : Type 0 where
  some : 0 < length word
  zero_alone : get_or word 0 0 ≡ 48 → length word ≡ 1
  digits : decimal_from 0 word ≡ Some n

is_word : (word : List ℕ) (n : ℕ) → decimal word ≡ Some n → IsWord word n
unfolding decimal
is_word [] n e = absurd cc
is_word (b ∷ []) n e = record { some = omega arith; zero_alone = λ z. refl; digits = e }
is_word (b ∷ next ∷ rest) n e = at (b == 48) refl e
  where
    at : (leads : Bool) → (b == 48) ≡ leads → (if leads then None else decimal_from 0 (b ∷ next ∷ rest)) ≡ Some n → IsWord (b ∷ next ∷ rest) n
    at true is h = absurd cc
    at false is h = record {
      some = omega arith;
      zero_alone = λ z. let wrong : true ≡ false = sym (eq-eqb b 48 z) ∙ is in absurd cc;
      digits = h;
    }

-- a word that spells a number is what is written of it
pub decimal_spelled : (word : List ℕ) (n : ℕ) → n < 2 ^ 64 → decimal word ≡ Some n → word ≡ fmt.decimal n
decimal_spelled word n small e =
    let is = is_word word n e in
    let read = read_digits 0 word n is.digits in
    sym (decimal-digits_value numerals word read.0 is.some is.zero_alone (subst (λ k. k < 2 ^ 64) (sym read.1) small)) ∙ ap fmt.decimal read.1

no_zero : (n : ℕ) → n < 2 ^ 64 → (nat_lt 1 (length (fmt.decimal n)) && get_or (fmt.decimal n) 0 0 == 48) ≡ false
no_zero zero small = rw (decimal_digit 0 (omega arith)) refl
no_zero (suc n) small =
    elim (cases_Bool (nat_lt 1 (length (fmt.decimal (suc n))) && get_or (fmt.decimal (suc n)) 0 0 == 48)) [
      | inl leads ↦
          let first = eqb-true _ _ (and_parts (nat_lt 1 (length (fmt.decimal (suc n)))) (get_or (fmt.decimal (suc n)) 0 0 == 48) leads).1 in
          absurd (omega (arith, first, first_decimal (suc n) (omega arith) small))
      | inr other ↦ other
    ]

-- what is written of a number spells it
pub decimal_back : (n : ℕ) → n < 2 ^ 64 → decimal (fmt.decimal n) ≡ Some n
decimal_back n small =
    decimal_is (fmt.decimal n) (λ none. absurd (omega (arith, none, decimal_nonempty n small))) (no_zero n small)
    ∙ digits_read 0 (fmt.decimal n) (digits_decimal numerals n small) ∙ ap Some (digits_value-decimal numerals n small)
