-- Without a policy there is no wrong line of one.
use Rattle.std.proofs.Common.{ℕ, None, inl, inr}
use Rattle.gen_hardened.proofs.Prelude.{first_below, Program, wrong_from, IsWrongPolicy}

pub no_wrong_line : (program : Program) (n : ℕ) → IsWrongPolicy program None n → ⊥
unfolding wrong_from first_below
no_wrong_line program n (inl line) = absurd (cc)
no_wrong_line program n (inr text) = text.1
