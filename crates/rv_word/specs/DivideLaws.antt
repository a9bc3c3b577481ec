-- The two laws of division: what is divided comes back, and a remainder is smaller than the divisor.
use Rattle.std.specs.Prelude.{◌≡◌, ◌≢◌, ℕ, ◌+◌, ◌/◌, ◌<◌, ◌≤◌, negsuc, ◌+ℤ◌, ◌*ℤ◌, Bool, true, unsigned_abs}
use Rattle.std.specs.Int.{Width, cast_unsigned}
use Rattle.rv_word.specs.Multiply.{whole}
use Rattle.rv_word.specs.Divide.{quotient, remainder}

-- the bits of -1, and those of the least number with a sign
abbrev pub ones : Width → ℕ
ones w = cast_unsigned w (negsuc 0)

abbrev pub least : Width → ℕ
least w = ones w / 2 + 1

-- a dividend and a divisor that is neither 0 nor, with a sign, -1 under the least number
pub record IsOrdinary (w : Width) (signed : Bool) (a b : ℕ) : Type 0 where
  pub dividend : a ≤ ones w
  pub divisor : b ≤ ones w
  pub some : b ≢ 0
  pub fits : signed ≡ true → a ≡ least w → b ≢ ones w

-- the dividend is quotient * divisor + remainder
abbrev pub DividesBack : Width → Type 0
DividesBack w = (signed : Bool) (a b : ℕ) → IsOrdinary w signed a b →
    whole w signed (quotient w signed a b) *ℤ whole w signed b +ℤ whole w signed (remainder w signed a b)
    ≡ whole w signed a

-- the remainder is smaller in magnitude than the divisor
abbrev pub RemainderIsLess : Width → Type 0
RemainderIsLess w = (signed : Bool) (a b : ℕ) → IsOrdinary w signed a b →
    unsigned_abs (whole w signed (remainder w signed a b)) < unsigned_abs (whole w signed b)

-- by 0 the bits of the quotient are all ones, and the remainder is the dividend
abbrev pub QuotientByZero : Width → Type 0
QuotientByZero w = (signed : Bool) (a : ℕ) → quotient w signed a 0 ≡ ones w

abbrev pub RemainderByZero : Width → Type 0
RemainderByZero w = (signed : Bool) (a : ℕ) → remainder w signed a 0 ≡ a

-- the least number by -1 is itself, and nothing remains
abbrev pub LeastByMinusOne : Width → Type 0
LeastByMinusOne w = (quotient w true (least w) (ones w) ≡ least w) × (remainder w true (least w) (ones w) ≡ 0)
