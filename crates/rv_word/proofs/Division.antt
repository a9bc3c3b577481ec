-- The two laws of division, from those of whole numbers: quotients and remainders fit their width.
use Rattle.std.proofs.Common.{◌≡◌, ◌≢◌, ℕ, zero, suc, ◌-◌, ◌*◌, ◌/◌, ◌<◌, ◌≤◌, refl, ap, sym, subst, ◌∙◌, arith, ne_eqb, div-le_self, div-mul-le_self}
use Rattle.std.specs.Prelude.{ℤ, pos, negsuc, neg_ℤ, ◌+ℤ◌, ◌*ℤ◌, Bool, true, false, int_div, int_rem, unsigned_abs, FitsSigned}
use Rattle.std.specs.Int.{Width, w32, w64, cast_signed, cast_unsigned}
use Rattle.std.specs.Int.Signed.{mag, mag_rem}
use Rattle.std.proofs.lemmas.Nat.{mul-le}
use Rattle.std.proofs.lemmas.Int.{quot-rem, rem_below, to_z-of_z, of_z-to_z}
use Rattle.std.proofs.Math.Facts.{sfits_to_z}
use Rattle.rv_word.specs.Multiply.{whole}
use Rattle.rv_word.specs.Divide.{quotient, remainder}
use Rattle.rv_word.specs.DivideLaws.{DividesBack, RemainderIsLess, ones, least}

-- ---- what fits

mag-neg : (n : ℕ) → mag (neg_ℤ (pos n)) ≡ n - 1
mag-neg zero = refl
mag-neg (suc n) = omega arith

-- a quotient by -2 or less is at most half
half_fits : (a b : ℕ) → suc a / suc (suc b) ≤ a
half_fits a b =
    let q : ℕ = suc a / suc (suc b) in
    let twice : q * 2 ≤ q * suc (suc b) = mul-le q 2 q (suc (suc b)) (omega arith) (omega arith) in
    omega (arith, div-mul-le_self (suc a) (suc (suc b)))

quotient_fits : (w : Width) (x y : ℤ) → FitsSigned w x → (y ≡ negsuc 0 → FitsSigned w (neg_ℤ x)) → FitsSigned w (int_div x y)
quotient_fits w (pos a) (pos b) f g = record { sfits = omega (arith, div-le_self a b, f.sfits) }
quotient_fits w (pos a) (negsuc b) f g = record { sfits = omega (arith, mag-neg (a / suc b), div-le_self a (suc b), f.sfits) }
quotient_fits w (negsuc a) (pos b) f g = record { sfits = omega (arith, mag-neg (suc a / b), div-le_self (suc a) b, f.sfits) }
quotient_fits w (negsuc a) (negsuc zero) f g = let h = g refl in record { sfits = omega (arith, div-le_self (suc a) 1, h.sfits) }
quotient_fits w (negsuc a) (negsuc (suc b)) f g = record { sfits = omega (arith, half_fits a b, f.sfits) }

remainder_fits : (w : Width) (x y : ℤ) → FitsSigned w x → FitsSigned w (int_rem x y)
remainder_fits w x y f = record { sfits = omega (arith, mag_rem x y, f.sfits) }

negated_64 : (z : ℤ) → FitsSigned w64 z → cast_unsigned w64 z ≢ least w64 → FitsSigned w64 (neg_ℤ z)
negated_64 (pos zero) f g = record { sfits = omega arith }
negated_64 (pos (suc n)) f g = record { sfits = omega (arith, f.sfits) }
negated_64 (negsuc n) f g = record { sfits = omega (arith, f.sfits, g) }

negated_32 : (z : ℤ) → FitsSigned w32 z → cast_unsigned w32 z ≢ least w32 → FitsSigned w32 (neg_ℤ z)
negated_32 (pos zero) f g = record { sfits = omega arith }
negated_32 (pos (suc n)) f g = record { sfits = omega (arith, f.sfits) }
negated_32 (negsuc n) f g = record { sfits = omega (arith, f.sfits, g) }

some_divisor : (w : Width) (z : ℤ) → cast_unsigned w z ≢ 0 → 0 < unsigned_abs z
some_divisor w (pos zero) some = absurd (some refl)
some_divisor w (pos (suc n)) some = omega arith
some_divisor w (negsuc n) some = omega arith

-- ---- the laws of bits with a sign

-- bits that are read with a sign
record IsRead (w : Width) (n : ℕ) : Type 0 where
  back : cast_unsigned w (cast_signed w n) ≡ n
  fits : FitsSigned w (cast_signed w n)

read_64 : (n : ℕ) → n ≤ ones w64 → IsRead w64 n
read_64 n small = record { back = of_z-to_z w64 n (omega arith); fits = sfits_to_z {w = w64} {n = n} record { fits = omega arith } }

read_32 : (n : ℕ) → n ≤ ones w32 → IsRead w32 n
read_32 n small = record { back = of_z-to_z w32 n (omega arith); fits = sfits_to_z {w = w32} {n = n} record { fits = omega arith } }

module _ (w : Width) (a b : ℕ) (some : b ≢ 0) where
  -- the code's quotient and remainder are those of the whole numbers
  quotient_is : (signed : Bool) → quotient w signed a b ≡ cast_unsigned w (int_div (whole w signed a) (whole w signed b))
  quotient_is signed = rw (ne_eqb b 0 some) refl

  remainder_is : (signed : Bool) → remainder w signed a b ≡ cast_unsigned w (int_rem (whole w signed a) (whole w signed b))
  remainder_is signed = rw (ne_eqb b 0 some) refl

  remainder_read : IsRead w a → whole w true (remainder w true a b) ≡ int_rem (cast_signed w a) (cast_signed w b)
  remainder_read read = ap (cast_signed w) (remainder_is true) ∙ to_z-of_z w _ (remainder_fits w (cast_signed w a) (cast_signed w b) read.fits)

  back_signed : IsRead w a → (cast_signed w b ≡ negsuc 0 → FitsSigned w (neg_ℤ (cast_signed w a))) →
      whole w true (quotient w true a b) *ℤ whole w true b +ℤ whole w true (remainder w true a b) ≡ whole w true a
  back_signed read negated =
      let q : whole w true (quotient w true a b) ≡ int_div (cast_signed w a) (cast_signed w b) =
      ap (cast_signed w) (quotient_is true) ∙ to_z-of_z w _ (quotient_fits w (cast_signed w a) (cast_signed w b) read.fits negated) in
      let r = remainder_read read in
      (λ i. q i *ℤ cast_signed w b +ℤ r i) ∙ quot-rem (cast_signed w a) (cast_signed w b)

  back_unsigned : whole w false (quotient w false a b) *ℤ whole w false b +ℤ whole w false (remainder w false a b) ≡ whole w false a
  back_unsigned = (λ i. pos (quotient_is false i) *ℤ pos b +ℤ pos (remainder_is false i)) ∙ quot-rem (pos a) (pos b)

  less_signed : IsRead w a → IsRead w b → unsigned_abs (whole w true (remainder w true a b)) < unsigned_abs (whole w true b)
  less_signed first second =
      let nonzero : 0 < unsigned_abs (cast_signed w b) = some_divisor w (cast_signed w b) (λ e. some (sym second.back ∙ e)) in
      subst (λ (z : ℤ). unsigned_abs z < unsigned_abs (cast_signed w b)) (sym (remainder_read first)) (rem_below (cast_signed w a) (cast_signed w b) nonzero)

  less_unsigned : unsigned_abs (whole w false (remainder w false a b)) < unsigned_abs (whole w false b)
  less_unsigned = subst (λ (n : ℕ). n < b) (sym (remainder_is false)) (rem_below (pos a) (pos b) (omega (arith, some)))

-- what a width gives: its bits can be read with a sign, and each number but the least has its negative
record HasSigns (w : Width) : Type 0 where
  read : (n : ℕ) → n ≤ ones w → IsRead w n
  negated : (z : ℤ) → FitsSigned w z → cast_unsigned w z ≢ least w → FitsSigned w (neg_ℤ z)

signs_64 : HasSigns w64
signs_64 = record { read = read_64; negated = negated_64 }

signs_32 : HasSigns w32
signs_32 = record { read = read_32; negated = negated_32 }

back : (w : Width) → HasSigns w → DividesBack w
back w signs false a b o = back_unsigned w a b o.some
back w signs true a b o =
    let first = signs.read a o.dividend in
    let second = signs.read b o.divisor in
    back_signed w a b o.some first
    (λ h. signs.negated (cast_signed w a) first.fits (λ e. o.fits refl (sym first.back ∙ e) (sym second.back ∙ ap (cast_unsigned w) h)))

less : (w : Width) → HasSigns w → RemainderIsLess w
less w signs false a b o = less_unsigned w a b o.some
less w signs true a b o = less_signed w a b o.some (signs.read a o.dividend) (signs.read b o.divisor)

pub back_64 : DividesBack w64
back_64 = back w64 signs_64

pub back_32 : DividesBack w32
back_32 = back w32 signs_32

pub less_64 : RemainderIsLess w64
less_64 = less w64 signs_64

pub less_32 : RemainderIsLess w32
less_32 = less w32 signs_32
