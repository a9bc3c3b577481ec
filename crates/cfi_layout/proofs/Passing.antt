-- A pass over the branches, in their order, that makes long what is too far away.
use Rattle.std.proofs.Common.{◌≡◌, ℕ, ◌+◌, ◌<◌, Bool, true, false, List, Some, get_or, refl, sym, ap, ◌∙◌, arith, inl, inr}
use Rattle.std.specs.Prelude.{IsTrue, slice_get}
use Rattle.std.proofs.lemmas.Bool.{cases_lt, cases_Bool}
use Rattle.cfi_layout.specs.declared.short.Short.{Short}
use Rattle.cfi_layout.specs.Starts.{flag}
use Rattle.cfi_layout.specs.Lengthening.{is_far, short_count, StayOnWay}
use Rattle.cfi_layout.proofs.Lengthening.{stay, then_stay}

-- of flags and distances before the pass and those before the branch with number n
pub record Passing (branches : List Short) (before : List Bool) (distances : List ℕ) (now : List Bool) (counted : List ℕ) (changed : Bool) (n : ℕ) : Type 0 where
  pub way : StayOnWay branches before distances now counted
  pub unchanged : changed ≡ false → (now ≡ before) × (counted ≡ distances)
  pub settled : changed ≡ false → (i : ℕ) (b : Short) → i < n → slice_get branches i ≡ Some b → IsTrue (is_far b (get_or distances i 0)) → IsTrue (flag before b.at)
  pub fewer : changed ≡ true → short_count now < short_count before

pub passing_begins : (branches : List Short) (before : List Bool) (distances : List ℕ) → Passing branches before distances before distances false 0
passing_begins branches before distances = record {
  way = stay branches before distances;
  unchanged = λ e. (refl, refl);
  settled = λ e i b lt. absurd (omega arith);
  fewer = λ e. absurd (cc);
}

-- no branch is made long where one was not
pub passing_same : (branches : List Short) (before : List Bool) (distances : List ℕ) (now now' : List Bool) (counted counted' : List ℕ) (changed : Bool) (n : ℕ) →
    StayOnWay branches now counted now' counted' → (now' ≡ now) × (counted' ≡ counted) →
    ((b : Short) → slice_get branches n ≡ Some b → IsTrue (is_far b (get_or counted n 0)) → IsTrue (flag now b.at)) →
    Passing branches before distances now counted changed n → Passing branches before distances now' counted' changed (n + 1)
passing_same branches before distances now now' counted counted' changed n on same here p = record {
  way = then_stay _ _ _ _ _ _ _ p.way on;
  unchanged = λ e. let old = p.unchanged e in (same.0 ∙ old.0, same.1 ∙ old.1);
  settled = λ e i b lt is far. elim (cases_lt i n) [
    | inl less ↦ p.settled e i b less is far
    | inr most ↦
        let last : i ≡ n = omega arith in
        let old = p.unchanged e in
        let there : slice_get branches n ≡ Some b = ap (λ (k : ℕ). slice_get branches k) (sym last) ∙ is in
        let now_far : is_far b (get_or counted n 0) ≡ true =
        ap (λ (xs : List ℕ). is_far b (get_or xs n 0)) (old.1) ∙ ap (λ (k : ℕ). is_far b (get_or distances k 0)) (sym last) ∙ far in
        ap (λ (xs : List Bool). flag xs b.at) (sym (old.0)) ∙ here b there now_far
  ];
  fewer = λ e. let old = p.fewer e in let count = ap short_count (same.0) in omega arith;
}

-- a branch more is made long
pub passing_more : (branches : List Short) (before : List Bool) (distances : List ℕ) (now now' : List Bool) (counted counted' : List ℕ) (changed : Bool) (n : ℕ) →
    StayOnWay branches now counted now' counted' → short_count now' + 1 ≡ short_count now →
    Passing branches before distances now counted changed n → Passing branches before distances now' counted' true (n + 1)
passing_more branches before distances now now' counted counted' changed n on one p = record {
  way = then_stay _ _ _ _ _ _ _ p.way on;
  unchanged = λ e. absurd (cc);
  settled = λ e. absurd (cc);
  fewer = λ e. elim (cases_Bool changed) [
    | inl was ↦ let old = p.fewer was in omega arith
    | inr was ↦ let count = ap short_count ((p.unchanged was).0) in omega arith
  ];
}
