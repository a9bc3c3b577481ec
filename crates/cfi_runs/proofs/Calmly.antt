-- Nothing happens from outside: the count of steps with that written out, and without.
use Rattle.std.proofs.Common.{◌≡◌, ℕ, zero, suc, ◌+◌, ◌≤◌, inl, inr, List, [], replicate, refl, sym, subst, arith}
use Rattle.std.proofs.lemmas.List.{take-replicate}
use Rattle.cfi_runs.proofs.Prelude.{Profile, continue, ByteChange, Hart, Shared, After, step, stops, Turn, Ran, Unchanged, GoesOn, Within}
use Rattle.rv_code.proofs.Within as told
use Rattle.cfi_unit.proofs.EffectSteps.{before}

module _ (p : Profile) (Q R : After → Type 0) (weaker : (b : After) → Q b → R b) where
  pub calmly : (n : ℕ) (a : After) → told.Within GoesOn Unchanged p n Q a → Within p n R a
  calmly zero a q = weaker a q
  calmly (suc n) a (inl q) = inl (weaker a q)
  calmly (suc n) a (inr on) = inr (on.0, calmly n (step p a.hart a.shared) (on.1 a.shared refl))

  pub from_first : (n : ℕ) (h : Hart) (s : Shared) → told.Onward GoesOn Unchanged p n Q (before h s) → Within p n R (step p h s)
  from_first n h s on = calmly n (step p h s) (on.1 s refl)

whatever : (p : Profile) (Q : After → Type 0) (n : ℕ) (a : After) → Within p n Q a → told.Within GoesOn Unchanged p n Q a
whatever p Q zero a q = q
whatever p Q (suc n) a (inl q) = inl q
whatever p Q (suc n) a (inr on) =
    inr (
      on.0,
      λ s t. subst (λ (x : Shared). told.Within GoesOn Unchanged p n Q (step p a.hart x)) (sym t) (whatever p Q n (step p a.hart a.shared) on.1),
    )

-- so a run that goes on from there comes to it
pub record Reached (p : Profile) (n : ℕ) (Q : After → Type 0) (a : After) : Type 0 where
  pub steps : ℕ
  pub few : steps ≤ n
  pub met : Q (continue p a (replicate steps []))

pub reached : (p : Profile) (n : ℕ) (Q : After → Type 0) (a : After) → Within p n Q a → Reached p n Q a
reached p n Q a q =
    let c = told.comes_to_calmly GoesOn Unchanged p (λ b here. here) Q n a (λ s. refl) (whatever p Q n a q) in
    record {
      steps = c.steps;
      few = c.few;
      met = subst (λ (changes : List (List ByteChange)). Q (continue p a changes)) (take-replicate c.steps n [] c.few) c.met;
    }

-- something weaker
pub within_weaker : (p : Profile) (Q R : After → Type 0) → ((b : After) → Q b → R b) → (n : ℕ) (a : After) → Within p n Q a → Within p n R a
within_weaker p Q R weaker zero a q = weaker a q
within_weaker p Q R weaker (suc n) a (inl q) = inl (weaker a q)
within_weaker p Q R weaker (suc n) a (inr on) = inr (on.0, within_weaker p Q R weaker n (step p a.hart a.shared) on.1)

-- in more steps
pub within_more : (p : Profile) (Q : After → Type 0) (m n : ℕ) (a : After) → m ≤ n → Within p m Q a → Within p n Q a
within_more p Q zero zero a few q = q
within_more p Q zero (suc n) a few q = inl q
within_more p Q (suc m) zero a few q = absurd (omega arith)
within_more p Q (suc m) (suc n) a few (inl q) = inl q
within_more p Q (suc m) (suc n) a few (inr on) = inr (on.0, within_more p Q m n (step p a.hart a.shared) (omega arith) on.1)

-- one part, then another
pub within_then : (p : Profile) (R Q : After → Type 0) (m n : ℕ) (a : After) → Within p m R a → ((b : After) → R b → Within p n Q b) →
    Within p (m + n) Q a
within_then p R Q zero n a r next = within_more p Q n (zero + n) a (omega arith) (next a r)
within_then p R Q (suc m) n a (inl r) next = within_more p Q n (suc m + n) a (omega arith) (next a r)
within_then p R Q (suc m) n a (inr on) next =
    let e : suc (m + n) ≡ suc m + n = omega arith in
    subst (λ (j : ℕ). Within p j Q a) e (inr (on.0, within_then p R Q m n (step p a.hart a.shared) on.1 next))

-- a state from which the run goes on, as one that begins
pub within_going : (p : Profile) (Q : After → Type 0) (n : ℕ) (a : After) → a.turn ≡ Ran → Within p n Q (stops a.hart a.shared Ran) → Within p n Q a
within_going p Q n a going q = subst (λ (turn : Turn). Within p n Q (stops a.hart a.shared turn)) (sym going) q
