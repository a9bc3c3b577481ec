-- The least number that meets one of two tests, and the least of the numbers below a bound.
use Rattle.std.proofs.Common.{◌≡◌, ◌≤◌, ℕ, zero, suc, ◌+◌, ◌<◌, ◌||◌, Bool, false, Option, Some, None, inl, inr, refl, sym, ap, ◌∙◌, arith, add-one}
use Rattle.std.specs.Prelude.{min}
use Rattle.std.proofs.lemmas.Bool.{cases_lt, or_left, or_right, or_from}
use Rattle.least.specs.First.{first_below}
use Rattle.least.specs.Least.{IsLeast, lesser, least_below}
use Rattle.rv_word.proofs.Cases.{cases_Option}
use Rattle.least.proofs.Firsts.{found_parts, first_none}

pub least_same : (t u : ℕ → Bool) → ((a : ℕ) → t a ≡ u a) → (o : Option ℕ) → IsLeast t o → IsLeast u o
least_same t u e None h = λ a. sym (e a) ∙ h a
least_same t u e (Some a) h = (sym (e a) ∙ h.0, λ b l. sym (e b) ∙ h.1 b l)

pub least_either : (t u : ℕ → Bool) (o p : Option ℕ) → IsLeast t o → IsLeast u p → IsLeast (λ a. t a || u a) (lesser o p)
least_either t u None None h k = λ a. or_from _ _ (h a) (k a)
least_either t u None (Some b) h k = (or_right _ _ k.0, λ c l. or_from _ _ (h c) (k.1 c l))
least_either t u (Some a) None h k = (or_left _ _ h.0, λ c l. or_from _ _ (h.1 c l) (k c))
least_either t u (Some a) (Some b) h k =
    elim (cases_lt b a) [
      | inl less ↦
          let at : min a b ≡ b = omega arith in
          rw at (or_right _ _ k.0, λ c l. or_from _ _ (h.1 c (omega arith)) (k.1 c l))
      | inr more ↦
          let at : min a b ≡ a = omega arith in
          rw at (or_left _ _ h.0, λ c l. or_from _ _ (h.1 c l) (k.1 c (omega arith)))
    ]

-- the first below a bound is the least of all, where the test holds at no number from the bound on
pub first_least : (test : ℕ → Bool) (n : ℕ) → ((k : ℕ) → n ≤ k → test k ≡ false) → IsLeast test (first_below test n)
first_least test n past = elim (cases_Option (first_below test n)) [
  | inl none ↦ rw none (λ k. elim (cases_lt k n) [ inl below ↦ first_none test n k none below | inr more ↦ past k more ])
  | inr (k, found) ↦
      let parts = found_parts test n k found in
      rw found (parts.1, λ j before. first_none test k j parts.2 before)
]

-- the least of the numbers below a bound, one step on
pub least_begins : (given : ℕ → Option ℕ) → least_below given 0 ≡ None
unfolding least_below
least_begins given = refl

pub least_step : (given : ℕ → Option ℕ) (n : ℕ) (least one : Option ℕ) → least ≡ least_below given n → one ≡ given n
    → lesser least one ≡ least_below given (n + 1)
unfolding least_below
least_step given n least one p q = rw (add-one, p, q) refl

-- where no number is found, none is given
pub least_none : (given : ℕ → Option ℕ) (n k : ℕ) → least_below given n ≡ None → k < n → given k ≡ None
unfolding least_below
least_none given zero k none below = absurd (omega arith)
least_none given (suc n) k none below =
    let parts = neither (least_below given n) (given n) none in
    elim (cases_lt k n) [
      | inl less ↦ least_none given n k parts.0 less
      | inr most ↦ let last : k ≡ n = omega arith in ap given last ∙ parts.1
    ]
  where
    neither : (a b : Option ℕ) → lesser a b ≡ None → (a ≡ None) × (b ≡ None)
    neither None b e = (refl, e)
    neither (Some a) None e = absurd (cc)
    neither (Some a) (Some b) e = absurd (cc)

pub ruleset leasts = (least_begins, least_step)
