-- Worked rows of products and quotients: words that are decoded, and what instructions compute.
use Rattle.std.proofs.Common.{◌≡◌, ◌+◌, ◌-◌, ◌^◌, refl}
use Rattle.std.specs.Prelude.{Some}
use Rattle.rv_instr.specs.declared.instr.Instr.TheVariants.{Register}
use Rattle.rv_instr.specs.declared.instr.RegisterOp.TheVariants.{Mulh, Mulhsu, Mulhu, Div, Rem, Divw, Divuw, Remuw}
use Rattle.rv_code.specs.Decode.{decoded}
use Rattle.rv_code.specs.Arithmetic.{register_result}

mulhsu_word : decoded 0x02c5a533 ≡ Some (Register Mulhsu 10 11 12)
unfolding decoded
mulhsu_word = refl

div_word : decoded 0x0205c533 ≡ Some (Register Div 10 11 0)
unfolding decoded
div_word = refl

rem_word : decoded 0x02b56533 ≡ Some (Register Rem 10 10 11)
unfolding decoded
rem_word = refl

-- upper halves of the product of two words of ones: -1 * (2 ^ 64 - 1), its square, and 1
one_sign : register_result Mulhsu (2 ^ 64 - 1) (2 ^ 64 - 1) ≡ 2 ^ 64 - 1
one_sign = refl

no_sign : register_result Mulhu (2 ^ 64 - 1) (2 ^ 64 - 1) ≡ 2 ^ 64 - 2
no_sign = refl

both_signs : register_result Mulh (2 ^ 64 - 1) (2 ^ 64 - 1) ≡ 0
both_signs = refl

-- by 0, and the least number by -1
by_zero : register_result Div 7 0 ≡ 2 ^ 64 - 1
by_zero = refl

rest_by_zero : register_result Rem 7 0 ≡ 7
rest_by_zero = refl

least_by_minus_one : register_result Div (2 ^ 63) (2 ^ 64 - 1) ≡ 2 ^ 63
least_by_minus_one = refl

rest_of_least : register_result Rem (2 ^ 63) (2 ^ 64 - 1) ≡ 0
rest_of_least = refl

least_word_by_minus_one : register_result Divw (2 ^ 31) (2 ^ 32 - 1) ≡ 2 ^ 64 - 2 ^ 31
least_word_by_minus_one = refl

-- on words the divisor is its low half, and a remainder by 0 is the dividend's low half, sign-extended
low_half_by_zero : register_result Divuw 7 (2 ^ 32) ≡ 2 ^ 64 - 1
low_half_by_zero = refl

low_half_remains : register_result Remuw (2 ^ 32 + 2 ^ 31) 0 ≡ 2 ^ 64 - 2 ^ 31
low_half_remains = refl

-- -7 by 2 is -3, and -1 remains
rounded_towards_zero : register_result Div (2 ^ 64 - 7) 2 ≡ 2 ^ 64 - 3
rounded_towards_zero = refl

sign_of_the_dividend : register_result Rem (2 ^ 64 - 7) 2 ≡ 2 ^ 64 - 1
sign_of_the_dividend = refl
