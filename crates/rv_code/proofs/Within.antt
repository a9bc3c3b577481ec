-- What a run comes to within so many steps: `inside` holds until then, and `may` is what may happen
-- from outside before each step. A count is written out, so that a goal shows the next step.
use Rattle.std.proofs.Common.{◌≡◌, ℕ, zero, suc, ◌+◌, ◌<◌, ◌≤◌, ◌⊎◌, inl, inr, List, [], ◌∷◌, length, replicate, take, sym, subst, arith}
use Rattle.std.specs.List.{AllByRecursion}
use Rattle.std.proofs.lemmas.List.{length-replicate}
use Rattle.rv_image.specs.MemoryMap.{Profile}
use Rattle.rv_code.specs.Continue.{continue}
use Rattle.rv_code.specs.Run.{ByteChange, disturbed, disturbed_step}
use Rattle.rv_code.specs.State.{Shared, After}
use Rattle.rv_code.specs.Step.{step}
use Rattle.rv_code.specs.declared.turn.Turn.TheVariants.{Ran}
use Rattle.rv_code.proofs.Continued.{continue_none, continue_next}

abbrev pub Within : (After → Type 0) → (Shared → Shared → Type 0) → Profile → ℕ → (After → Type 0) → After → Type 0
Within inside may p zero Q a = Q a
Within inside may p (suc n) Q a = Q a ⊎ (inside a × ((s : Shared) → may a.shared s → Within inside may p n Q (step p a.hart s)))

-- the same after one step more, which is made
abbrev pub Onward : (After → Type 0) → (Shared → Shared → Type 0) → Profile → ℕ → (After → Type 0) → After → Type 0
Onward inside may p n Q a = inside a × ((s : Shared) → may a.shared s → Within inside may p n Q (step p a.hart s))

module _ (inside : After → Type 0) (may : Shared → Shared → Type 0) (p : Profile) where
  pub within_now : (n : ℕ) (Q : After → Type 0) (a : After) → Q a → Within inside may p n Q a
  within_now zero Q a q = q
  within_now (suc n) Q a q = inl q

  -- in more steps
  pub within_more : (m n : ℕ) (Q : After → Type 0) (a : After) → m ≤ n → Within inside may p m Q a → Within inside may p n Q a
  within_more zero n Q a few q = within_now n Q a q
  within_more (suc m) zero Q a few q = absurd (omega arith)
  within_more (suc m) (suc n) Q a few (inl q) = inl q
  within_more (suc m) (suc n) Q a few (inr on) = inr (on.0, λ s t. within_more m n Q (step p a.hart s) (omega arith) (on.1 s t))

  -- one part, then another
  pub within_then : (m n : ℕ) (R Q : After → Type 0) (a : After) → Within inside may p m R a →
      ((b : After) → R b → Within inside may p n Q b) → Within inside may p (m + n) Q a
  within_then zero n R Q a r next = within_more n (zero + n) Q a (omega arith) (next a r)
  within_then (suc m) n R Q a (inl r) next = within_more n (suc m + n) Q a (omega arith) (next a r)
  within_then (suc m) n R Q a (inr on) next =
      let e : suc (m + n) ≡ suc m + n = omega arith in
      subst (λ j. Within inside may p j Q a) e (inr (on.0, λ s t. within_then m n R Q (step p a.hart s) (on.1 s t) next))

  pub onward_then : (m n : ℕ) (R Q : After → Type 0) (a : After) → Onward inside may p m R a →
      ((b : After) → R b → Within inside may p n Q b) → Onward inside may p (m + n) Q a
  onward_then m n R Q a on next = (on.0, λ s t. within_then m n R Q (step p a.hart s) (on.1 s t) next)

  -- something weaker, where less may happen
  pub within_map : (outside : After → Type 0) (will : Shared → Shared → Type 0) (n : ℕ) (Q R : After → Type 0) (a : After) →
      ((b : After) → inside b → outside b) → ((s t : Shared) → will s t → may s t) → ((b : After) → Q b → R b) →
      Within inside may p n Q a → Within outside will p n R a
  within_map outside will zero Q R a holds less weaker q = weaker a q
  within_map outside will (suc n) Q R a holds less weaker (inl q) = inl (weaker a q)
  within_map outside will (suc n) Q R a holds less weaker (inr on) =
      inr (holds a on.0, λ s t. within_map outside will n Q R (step p a.hart s) holds less weaker (on.1 s (less a.shared s t)))

-- so a run comes to it, after at least `least` steps
pub record ComesTo (inside : After → Type 0) (p : Profile) (least n : ℕ) (a : After) (changes : List (List ByteChange)) (Q : After → Type 0) : Type 0 where
  pub steps : ℕ
  pub some : least ≤ steps
  pub few : steps ≤ n
  pub until : (k : ℕ) → k < steps → inside (continue p a (take k changes))
  pub met : Q (continue p a (take steps changes))

module _ (inside : After → Type 0) (may : Shared → Shared → Type 0) (p : Profile) (goes_on : (a : After) → inside a → a.turn ≡ Ran) (Q : After → Type 0) where
  at_once : (n : ℕ) (a : After) (changes : List (List ByteChange)) → Q a → ComesTo inside p 0 n a changes Q
  at_once n a changes q = record {
    steps = 0;
    some = omega arith;
    few = omega arith;
    until = λ k low. absurd (omega arith);
    met = subst Q (sym (continue_none p a)) q;
  }

  one_more : (n : ℕ) (a : After) (cs : List ByteChange) (rest : List (List ByteChange)) → inside a →
      ComesTo inside p 0 n (disturbed_step p a.hart a.shared cs) rest Q → ComesTo inside p 1 (suc n) a (cs ∷ rest) Q
  one_more n a cs rest here later = record {
    steps = suc later.steps;
    some = omega arith;
    few = let few = later.few in omega arith;
    until = before;
    met = subst Q (sym (continue_next p a cs (take later.steps rest) (goes_on a here))) later.met;
  }
    where
      before : (k : ℕ) → k < suc later.steps → inside (continue p a (take k (cs ∷ rest)))
      before zero low = subst inside (sym (continue_none p a)) here
      before (suc k) low = subst inside (sym (continue_next p a cs (take k rest) (goes_on a here))) (later.until k (omega arith))

  any_count : (n : ℕ) (a : After) (changes : List (List ByteChange)) → ComesTo inside p 1 n a changes Q → ComesTo inside p 0 n a changes Q
  any_count n a changes c = record { steps = c.steps; some = omega arith; few = c.few; until = c.until; met = c.met }

  abbrev Allowed : List ByteChange → Type 0
  Allowed cs = (s : Shared) → may s (disturbed s cs)

  pub comes_to : (n : ℕ) (a : After) (changes : List (List ByteChange)) → AllByRecursion Allowed changes → n ≤ length changes →
      Within inside may p n Q a → ComesTo inside p 0 n a changes Q
  comes_to zero a changes allowed long q = at_once zero a changes q
  comes_to (suc n) a [] allowed long q = absurd (omega arith)
  comes_to (suc n) a (cs ∷ rest) allowed long (inl q) = at_once (suc n) a (cs ∷ rest) q
  comes_to (suc n) a (cs ∷ rest) allowed long (inr on) =
      any_count (suc n) a (cs ∷ rest)
      (one_more n a cs rest on.0
      (comes_to n (disturbed_step p a.hart a.shared cs) rest allowed.1 (omega arith) (on.1 (disturbed a.shared cs) (allowed.0 a.shared))))

  pub comes_on : (n : ℕ) (a : After) (changes : List (List ByteChange)) → AllByRecursion Allowed changes → suc n ≤ length changes →
      Onward inside may p n Q a → ComesTo inside p 1 (suc n) a changes Q
  comes_on n a [] allowed long on = absurd (omega arith)
  comes_on n a (cs ∷ rest) allowed long on =
      one_more n a cs rest on.0
      (comes_to n (disturbed_step p a.hart a.shared cs) rest allowed.1 (omega arith) (on.1 (disturbed a.shared cs) (allowed.0 a.shared)))

  none_allowed : ((s : Shared) → may s s) → (n : ℕ) → AllByRecursion Allowed (replicate n [])
  none_allowed self zero = tt
  none_allowed self (suc n) = (λ s. self s, none_allowed self n)

  -- where nothing is changed
  pub comes_to_calmly : (n : ℕ) (a : After) → ((s : Shared) → may s s) → Within inside may p n Q a → ComesTo inside p 0 n a (replicate n []) Q
  comes_to_calmly n a self q =
      let long = length-replicate {A = List ByteChange} n [] in
      comes_to n a (replicate n []) (none_allowed self n) (omega arith) q

  pub comes_on_calmly : (n : ℕ) (a : After) → ((s : Shared) → may s s) → Onward inside may p n Q a →
      ComesTo inside p 1 (suc n) a (replicate (suc n) []) Q
  comes_on_calmly n a self on =
      let long = length-replicate {A = List ByteChange} (suc n) [] in
      comes_on n a (replicate (suc n) []) (none_allowed self (suc n)) (omega arith) on
