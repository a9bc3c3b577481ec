-- Members of the first sets, and of all.
use Rattle.std.proofs.Common.{◌≡◌, ◌↔◌, ℕ, ◌+◌, ◌-◌, ◌<◌, ◌≤◌, List, [], ◌++◌, inl, inr, length, get_or, ◌∙◌, subst, ap, arith}
use Rattle.std.specs.List.{Contains}
use Rattle.std.proofs.Math.ListN.{get_or-eq_default}
use Rattle.std.proofs.lemmas.Bool.{cases_lt}
use Rattle.std.proofs.lemmas.List.Elements.{Contains-append_left, Contains-append_right, Contains-append_cases}
use Rattle.cfi_class.specs.Classes.{IsIn, IsInSome}
use Rattle.cfi_class.specs.Passes.{IsRepeated}

abbrev pub IsInFirst : List (List ℕ) → ℕ → ℕ → Type 0
IsInFirst sets k a = (m : ℕ) × (m < k) × IsIn sets m a

pub in_none : (a : ℕ) → Contains [] a → ⊥
in_none a (k, lt, e) = omega arith

-- only a list that is there has a number
pub list_there : (lists : List (List ℕ)) (k a : ℕ) → IsIn lists k a → k < length lists
list_there lists k a h = elim (cases_lt k (length lists)) [
  | inl lt ↦ lt
  | inr past ↦ absurd (in_none a (subst (λ (xs : List ℕ). Contains xs a) (get_or-eq_default lists [] past) h))
]

pub in_all : (sets : List (List ℕ)) (k a : ℕ) → length sets ≤ k → IsInFirst sets k a ↔ IsInSome sets a
in_all sets k a past = (λ h. (h.0, h.2), λ h. (h.0, omega (arith, list_there sets h.0 a h.1), h.1))

-- one set more
pub more_members : (sets : List (List ℕ)) (k : ℕ) (members set : List ℕ) → get_or sets k [] ≡ set → ((a : ℕ) → Contains members a ↔ IsInFirst sets k a) → (a : ℕ) → Contains (members ++ set) a ↔ IsInFirst sets (k + 1) a
more_members sets k members set e so_far a = (
  λ h. elim (Contains-append_cases members set a h) [
    | inl old ↦ let p = (so_far a).0 old in (p.0, omega (arith, p.1), p.2)
    | inr new ↦ (k, omega arith, rw e new)
  ],
  λ h. elim (cases_lt h.0 k) [
    | inl before ↦ Contains-append_left members set a ((so_far a).1 (h.0, before, h.2))
    | inr there ↦
        let same : h.0 ≡ k = omega (arith, h.1) in
        Contains-append_right members set a (subst (λ (xs : List ℕ). Contains xs a) (ap (λ (m : ℕ). get_or sets m []) same ∙ e) h.2)
  ],
)

-- a set that is the one before it again has no new members
pub members_again : (sets : List (List ℕ)) (k : ℕ) (members : List ℕ) → IsRepeated sets k → ((a : ℕ) → Contains members a ↔ IsInFirst sets k a) → (a : ℕ) → Contains members a ↔ IsInFirst sets (k + 1) a
members_again sets k members again so_far a = (
  λ h. let p = (so_far a).0 h in (p.0, omega (arith, p.1), p.2),
  λ h. elim (cases_lt h.0 k) [
    | inl before ↦ (so_far a).1 (h.0, before, h.2)
    | inr there ↦
        let same : h.0 ≡ k = omega (arith, h.1) in
        (so_far a).1 (k - 1, omega (arith, again.0), subst (λ (xs : List ℕ). Contains xs a) (ap (λ (m : ℕ). get_or sets m []) same ∙ again.1) h.2)
  ],
)
