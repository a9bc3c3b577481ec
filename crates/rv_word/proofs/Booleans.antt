-- What tests by `not`, `&&` and `||` tell of their parts, where the kit has no such lemma.
use Rattle.std.proofs.Common.{◌≡◌, ◌==◌, ◌&&◌, ◌||◌, ℕ, Bool, true, false, not, ◌⊎◌, inl, inr, refl, eq-eqb}

pub or_right : (b c : Bool) → c ≡ true → b || c ≡ true
or_right true c e = refl
or_right false c e = e

pub one_of : (a b : Bool) → (a || b) ≡ true → (a ≡ true) ⊎ (b ≡ true)
one_of true b is = inl refl
one_of false b is = inr is

pub and_rest : (a b : Bool) → (a && b) ≡ false → a ≡ true → b ≡ false
and_rest true b e h = e
and_rest false b e h = absurd (cc)

-- an implication that is computed
pub implied : (a b : Bool) → (not a || b) ≡ true → a ≡ true → b ≡ true
implied true b either is = either
implied false b either is = absurd (cc)

pub is_self : (k : ℕ) → (k == k) ≡ true
is_self k = eq-eqb k k refl
