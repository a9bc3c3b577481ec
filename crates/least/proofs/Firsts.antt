-- The first number at which a test holds: how a loop finds it, and what is known of it.
use Rattle.std.proofs.Common.{◌≡◌, ℕ, zero, suc, ◌+◌, ◌<◌, ◌≤◌, Bool, true, false, if◌then◌else◌, Some, None, inl, inr, refl, sym, ap, ◌∙◌, arith, add-one}
use Rattle.std.specs.Option.{option_or}
use Rattle.std.proofs.lemmas.Bool.{cases_lt, cases_Bool}
use Rattle.rv_word.proofs.Cases.{cases_Option}
use Rattle.least.specs.First.{first_below}

pub first_begins : (test : ℕ → Bool) → first_below test 0 ≡ None
unfolding first_below
first_begins test = refl

pub first_step : (test : ℕ → Bool) (n : ℕ) → first_below test (n + 1) ≡ option_or (first_below test n) (if test n then Some n else None)
unfolding first_below
first_step test n = rw add-one refl

-- a number at which the test fails is passed
pub first_passed : (test : ℕ → Bool) (i : ℕ) → first_below test i ≡ None → test i ≡ false → first_below test (i + 1) ≡ None
unfolding first_below
first_passed test i none fails = rw (add-one, none, fails) refl

-- the first at which it holds is found, whatever follows
pub first_found : (test : ℕ → Bool) (i n : ℕ) → i < n → first_below test i ≡ None → test i ≡ true → first_below test n ≡ Some i
unfolding first_below
first_found test i zero below none holds = absurd (omega arith)
first_found test i (suc n) below none holds = elim (cases_lt i n) [
  | inl less ↦ rw (first_found test i n less none holds) refl
  | inr most ↦ let last : i ≡ n = omega arith in rw (← last, none, holds) refl
]

-- where it fails at each number below the bound, none is found
pub none_first : (test : ℕ → Bool) (n : ℕ) → ((k : ℕ) → k < n → test k ≡ false) → first_below test n ≡ None
unfolding first_below
none_first test zero fails = refl
none_first test (suc n) fails = rw (none_first test n (λ k below. fails k (omega arith)), fails n (omega arith)) refl

-- where none is found the test fails at each number below the bound
pub first_none : (test : ℕ → Bool) (n k : ℕ) → first_below test n ≡ None → k < n → test k ≡ false
unfolding first_below
first_none test zero k none below = absurd (omega arith)
first_none test (suc n) k none below = elim (cases_Option (first_below test n)) [
  | inr (j, e) ↦ let no : Some j ≡ None = rw e at none in absurd (cc)
  | inl e ↦ elim (cases_Bool (test n)) [
    | inl holds ↦ let no : Some n ≡ None = rw (e, holds) at none in absurd (cc)
    | inr fails ↦ elim (cases_lt k n) [
      | inl less ↦ first_none test n k e less
      | inr most ↦ let last : k ≡ n = omega arith in ap test last ∙ fails
    ]
  ]
]

-- a number that is found is below the bound, the test holds there, and none is found before it
pub found_parts : (test : ℕ → Bool) (n k : ℕ) → first_below test n ≡ Some k → (k < n) × (test k ≡ true) × (first_below test k ≡ None)
unfolding first_below
found_parts test zero k found = absurd (cc)
found_parts test (suc n) k found = elim (cases_Option (first_below test n)) [
  | inr (j, e) ↦
      let same : Some j ≡ Some k = rw e at found in
      let before = found_parts test n k (e ∙ same) in
      (omega arith, before.1, before.2)
  | inl e ↦ elim (cases_Bool (test n)) [
    | inl holds ↦
        let same : Some n ≡ Some k = rw (e, holds) at found in
        let at : n ≡ k = cc in
        (omega arith, ap test (sym at) ∙ holds, ap (first_below test) (sym at) ∙ e)
    | inr fails ↦ let same : None ≡ Some k = rw (e, fails) at found in absurd (cc)
  ]
]

pub first_bound : (test : ℕ → Bool) (n k : ℕ) → first_below test n ≡ Some k → k < n
first_bound test n k found = (found_parts test n k found).0

-- what is found below a bound is found below a greater one
pub first_stays : (test : ℕ → Bool) (k m j : ℕ) → first_below test k ≡ Some j → k ≤ m → first_below test m ≡ Some j
first_stays test k m j e most =
    let parts = found_parts test k j e in
    first_found test j m (omega arith) parts.2 parts.1

-- what a loop needs whose invariant says that none is found so far
pub ruleset firsts = (first_begins, first_passed, first_found, first_bound)

-- the first at which a closure answers that it holds is the first of each test that the closure computes
module _ (gives : ℕ → Bool → Type 0) (n k : ℕ) (before : (j : ℕ) → j < k → gives j false) where
  pub computed_found : (answer : Bool) → k < n → gives k answer → answer ≡ true
      → (p : ℕ → Bool) → ((j : ℕ) (holds : Bool) → j < n → gives j holds → holds ≡ p j) → Some k ≡ first_below p n
  computed_found answer below given holds p computes =
      let none : first_below p k ≡ None = none_first p k (λ j less. sym (computes j false (omega arith) (before j less))) in
      sym (first_found p k n below none (sym (computes k answer below given) ∙ holds))

  pub computed_none : n ≤ k → (p : ℕ → Bool) → ((j : ℕ) (holds : Bool) → j < n → gives j holds → holds ≡ p j) → None ≡ first_below p n
  computed_none all p computes = sym (none_first p n (λ j less. sym (computes j false less (before j (omega arith)))))
