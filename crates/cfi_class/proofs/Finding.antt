-- The first that meets a test, by its index; and tables of such indexes.
use Rattle.std.proofs.Common.{◌≡◌, ◌==◌, ℕ, ◌+◌, ◌<◌, ◌≤◌, Bool, true, false, ◌||◌, if◌then◌else◌, List, length, get_or, take, Option, Some, None, inl, inr, refl, sym, ap, ◌∙◌, arith}
use Rattle.std.specs.List.{All, find, list_any, position, position_or_len, slice_get}
use Rattle.std.specs.Option.{is_some, option_or}
use Rattle.std.proofs.lemmas.Bool.{cases_lt, cases_Bool, lt-ltb, le-ltb, ne_eqb}
use Rattle.std.proofs.lemmas.List.{get_or-take, length-take-le}
use Rattle.std.proofs.lemmas.List.Folds.{find_at, list_any_at, list_any_none}
use Rattle.std.proofs.lemmas.List.Quantifiers.{position-Some}
use Rattle.std.proofs.lemmas.List.Sums.{fails_before_first, position_or_len_is}
use Rattle.std.proofs.lemmas.Option.{slice_get_past}
use Rattle.rv_word.proofs.Cases.{cases_Option}
use Rattle.cfi_class.specs.Tables.{IsTable, entry, noted}

module _ {X : Type 0} (p : X → Bool) (xs : List X) where
  pub position_is : (k : ℕ) (d : X) → k < length xs → p (get_or xs k d) ≡ true → ((i : ℕ) → i < k → p (get_or xs i d) ≡ false)
      → position p xs ≡ Some k
  position_is k d below holds before =
      let is = position_or_len_is p xs k d (omega arith) before (λ less. holds) in
      rw (is, lt-ltb k (length xs) below) refl

  pub position_none : (d : X) → ((i : ℕ) → i < length xs → p (get_or xs i d) ≡ false) → position p xs ≡ None
  position_none d fails =
      let is = position_or_len_is p xs (length xs) d (omega arith) fails (λ less. absurd (omega arith)) in
      rw (is, le-ltb (length xs) (length xs) (omega arith)) refl

  pub none_past : position p xs ≡ None → length xs ≤ position_or_len p xs
  none_past none = elim (cases_lt (position_or_len p xs) (length xs)) [
    | inl less ↦ let no : Some (position_or_len p xs) ≡ None = rw (lt-ltb _ _ less) at none in absurd (cc)
    | inr more ↦ more
  ]

  pub none_fails : (d : X) (i : ℕ) → position p xs ≡ None → i < length xs → p (get_or xs i d) ≡ false
  none_fails d i none below =
      let past = none_past none in
      fails_before_first p xs i d (omega arith)

  pub find_none : position p xs ≡ None → find p xs ≡ None
  find_none none = find_at p xs ∙ slice_get_past xs (position_or_len p xs) (none_past none)

  pub find_some : (k : ℕ) → position p xs ≡ Some k → find p xs ≡ slice_get xs k
  find_some k some = elim (cases_lt (position_or_len p xs) (length xs)) [
    | inl less ↦
        let is : Some (position_or_len p xs) ≡ Some k = rw (lt-ltb _ _ less) at some in
        let same : position_or_len p xs ≡ k = cc in
        find_at p xs ∙ ap (slice_get xs) same
    | inr more ↦ let no : None ≡ Some k = rw (le-ltb _ _ more) at some in absurd (cc)
  ]

-- there is a first that meets a test where there is any
pub some_is_any : {X : Type 0} (p : X → Bool) (xs : List X) (d : X) → is_some (position p xs) ≡ list_any p xs
some_is_any p xs d = elim (cases_Option (position p xs)) [
  | inr (j, some) ↦
      let at = position-Some p xs j d some in
      rw some (sym (list_any_at p xs j d at.0 at.1))
  | inl none ↦
      let past = none_past p xs none in
      rw none (sym (list_any_none p xs (λ i e inside. fails_before_first p xs i e (omega arith))))
]

-- one element more
pub position_more : {X : Type 0} (p : X → Bool) (xs : List X) (i : ℕ) (d : X) → i < length xs
    → position p (take (i + 1) xs) ≡ option_or (position p (take i xs)) (if p (get_or xs i d) then Some i else None)
position_more p xs i d below =
    let few : length (take i xs) ≡ i = length-take-le i xs (omega arith) in
    let more : length (take (i + 1) xs) ≡ i + 1 = length-take-le (i + 1) xs (omega arith) in
    elim (cases_Option (position p (take i xs))) [
      | inr (j, e) ↦
          let parts = position-Some p (take i xs) j d e in
          let less : j < i = omega (arith, parts.0) in
          let at = ap p (get_or-take i xs j d less) in
          rw e (position_is p (take (i + 1) xs) j d (omega arith)
          (ap p (get_or-take (i + 1) xs j d (omega arith)) ∙ sym at ∙ parts.1)
          (λ k before. ap p (get_or-take (i + 1) xs k d (omega arith)) ∙ sym (ap p (get_or-take i xs k d (omega arith))) ∙ parts.2 k before))
      | inl e ↦
          let fails : (k : ℕ) → k < i → p (get_or xs k d) ≡ false =
          λ k before. sym (ap p (get_or-take i xs k d before)) ∙ none_fails p (take i xs) d k e (omega arith) in
          elim (cases_Bool (p (get_or xs i d))) [
            | inl holds ↦ rw (e, holds) (position_is p (take (i + 1) xs) i d (omega arith)
                (ap p (get_or-take (i + 1) xs i d (omega arith)) ∙ holds)
                (λ k before. ap p (get_or-take (i + 1) xs k d (omega arith)) ∙ fails k before))
            | inr not ↦ rw (e, not) (position_none p (take (i + 1) xs) d (λ k inside.
                ap p (get_or-take (i + 1) xs k d (omega arith))
                ∙ elim (cases_lt k i) [
                  | inl less ↦ fails k less
                  | inr last ↦ let same : k ≡ i = omega arith in ap (λ (n : ℕ). p (get_or xs n d)) same ∙ not
                ]))
          ]
    ]

-- a table of the first elements that have each place, when one element more is noted
pub more_noted : {X : Type 0} (p : ℕ → X → Bool) (xs : List X) (places i : ℕ) (d : X) (old new : List (Option ℕ)) → i < length xs
    → IsTable (λ k. position (p k) (take i xs)) places old → length new ≡ length old
    → ((k : ℕ) → entry new k ≡ noted (entry old k) (p k (get_or xs i d)) i)
    → IsTable (λ k. position (p k) (take (i + 1) xs)) places new
more_noted p xs places i d old new below table same each = record {
  size = same ∙ table.size;
  each = λ k inside.
      each k
      ∙ ap (λ (o : Option ℕ). noted o (p k (get_or xs i d)) i) (table.each k inside)
      ∙ sym (position_more (p k) xs i d below);
}

-- a number that is noted twice
pub noted_twice : (old : Option ℕ) (a b : Bool) (n : ℕ) → noted (noted old a n) b n ≡ noted old (a || b) n
noted_twice (Some x) a b n = refl
noted_twice None true b n = refl
noted_twice None false b n = refl

-- no list has a number past those that all its members are below
pub has_not : (places k : ℕ) (class : List ℕ) → All (λ t. t < places) class → places ≤ k → list_any (λ t. t == k) class ≡ false
has_not places k class there past =
    list_any_none (λ t. t == k) class (λ i d inside. let less = there i d inside in ne_eqb (get_or class i d) k (λ same. omega arith))
