-- Where relocations stand: those that a test takes are a part of a list, and an offset is among those of a sort.
use Rattle.std.proofs.Common.{◌≡◌, ◌==◌, ℕ, zero, suc, ◌-◌, ◌<◌, ◌≤◌, pos, Bool, true, false, not, ◌&&◌, List, [], ◌∷◌, length, take, drop, inl, inr, refl, sym, ap, ◌∙◌, arith}
use Rattle.std.specs.Prelude.{filter, map}
use Rattle.std.specs.List.{AllWithin, list_any}
use Rattle.std.specs.List.Sorted.{IsStableByKey}
use Rattle.std.specs.Ordering.{is_lt, nat_cmp}
use Rattle.std.proofs.lemmas.Bool.{cases_Bool, cases_lt, cases_order, eq-eqb, ne_eqb, lt-ltb, le-ltb}
use Rattle.std.proofs.lemmas.List.Elements.{filter_agree}
use Rattle.std.proofs.lemmas.Slice.{between_is}
use Rattle.obj_input.specs.declared.parts.Relocation.{Relocation}
use Rattle.obj_input.specs.declared.parts.Definition.TheVariants.{Zero}
use Rattle.obj_input.specs.Relocation.{is_acting}
use Rattle.obj_input.specs.Input.{acting_among}
use Rattle.obj_input.specs.InOrder.{has, standing_at}

-- what a test takes from `i` to `j` and nowhere else
module _ {A : Type 0} (p : A → Bool) where
  part : (xs : List A) (i j : ℕ) → i ≤ j → j ≤ length xs
      → AllWithin (λ x. p x ≡ false) xs 0 i → AllWithin (λ x. p x ≡ true) xs i j → AllWithin (λ x. p x ≡ false) xs j (length xs)
      → drop i (take j xs) ≡ filter p xs
  part [] zero zero low high before in' after = refl
  part [] zero (suc j) low high before in' after = absurd (omega arith)
  part [] (suc i) zero low high before in' after = absurd (omega arith)
  part [] (suc i) (suc j) low high before in' after = absurd (omega arith)
  part (x ∷ xs) (suc i) zero low high before in' after = absurd (omega arith)
  part (x ∷ xs) (suc i) (suc j) low high before in' after =
      let fails : p x ≡ false = before 0 x (omega arith) (omega arith) in
      rw fails
      (part xs i j (omega arith) (omega arith) (λ k d l h. before (suc k) d (omega arith) (omega arith))
      (λ k d l h. in' (suc k) d (omega arith) (omega arith)) (λ k d l h. after (suc k) d (omega arith) (omega arith)))
  part (x ∷ xs) zero (suc j) low high before in' after =
      let holds : p x ≡ true = in' 0 x (omega arith) (omega arith) in
      rw holds
      (ap (λ ys. x ∷ ys)
      (part xs zero j (omega arith) (omega arith) (λ k d l h. absurd (omega arith)) (λ k d l h. in' (suc k) d (omega arith) (omega arith))
      (λ k d l h. after (suc k) d (omega arith) (omega arith))))
  part (x ∷ xs) zero zero low high before in' after =
      let fails : p x ≡ false = after 0 x (omega arith) (omega arith) in
      rw fails
      (part xs zero zero (omega arith) (omega arith) (λ k d l h. absurd (omega arith)) (λ k d l h. absurd (omega arith))
      (λ k d l h. after (suc k) d (omega arith) (omega arith)))

no_use : Relocation
no_use = record { offset = 0; number = 0; addend = pos 0; definition = Zero }

-- the bounds of those that stand at an offset
module _ (uses : List Relocation) (at i j : ℕ) (low : i ≤ length uses) (high : j ≤ length uses) (below : AllWithin (λ (u : Relocation). u.offset < at) uses 0 i)
    (from : AllWithin (λ (u : Relocation). at ≤ u.offset) uses i (length uses)) (to : AllWithin (λ (u : Relocation). u.offset ≤ at) uses 0 j)
    (after : AllWithin (λ (u : Relocation). at < u.offset) uses j (length uses)) where
  pub bounds_order : i ≤ j
  bounds_order = elim (cases_lt j i) [
    | inl less ↦ let before = below j no_use (omega arith) less in let past = after j no_use (omega arith) (omega arith) in absurd (omega arith)
    | inr more ↦ more
  ]

  pub bounds_part : take (j - i) (drop i uses) ≡ standing_at at uses
  bounds_part =
      between_is uses i j
      ∙ part (λ (u : Relocation). u.offset == at) uses i j bounds_order high
      (λ k d l h. let less = below k d l h in ne_eqb _ _ (λ same. absurd (omega arith)))
      (λ k d l h. let least = from k d l (omega arith) in let most = to k d (omega arith) h in eq-eqb _ _ (omega arith))
      (λ k d l h. let more = after k d l h in ne_eqb _ _ (λ same. absurd (omega arith)))

-- an offset is among those of the relocations of a sort, all of which do something, exactly where one such stands there
pub among : (p : Relocation → Bool) → ((u : Relocation) → p u ≡ true → is_acting u ≡ true) → (uses : List Relocation) (at : ℕ)
    → has (map (λ (u : Relocation). u.offset) (filter p uses)) at ≡ list_any p (acting_among uses at)
among p acting [] at = refl
among p acting (u ∷ uses) at = elim (cases_Bool (p u)) [
  | inl takes ↦ elim (cases_Bool (u.offset == at)) [
    | inl here ↦ rw (takes, here, acting u takes, takes) refl
    | inr other ↦ rw (takes, other) (among p acting uses at)
  ]
  | inr not ↦ elim (cases_Bool (u.offset == at && is_acting u)) [
    | inl here ↦ rw (not, here, not) (among p acting uses at)
    | inr other ↦ rw (not, other) (among p acting uses at)
  ]
]

-- a stable sort by offset keeps what stands at each
pub tie : (a b : ℕ) → (not (is_lt (nat_cmp a b)) && not (is_lt (nat_cmp b a))) ≡ (b == a)
tie a b = elim (cases_order a b) [
  | inl same ↦ let less = le-ltb a b (omega arith) in let more = le-ltb b a (omega arith) in rw (less, more, eq-eqb a b same, eq-eqb b a (sym same)) refl
  | inr other ↦ elim other [
    | inl less ↦ rw (lt-ltb a b less, ne_eqb b a (λ same. absurd (omega arith))) refl
    | inr more ↦ rw (le-ltb a b (omega arith), ne_eqb a b (λ same. absurd (omega arith)), lt-ltb b a more, ne_eqb b a (λ same. absurd (omega arith))) refl
  ]
]

both : (p q : Relocation → Bool) (xs : List Relocation) → filter p (filter q xs) ≡ filter (λ u. p u && q u) xs
both p q [] = refl
both p q (u ∷ xs) = elim (cases_Bool (q u)) [
  | inl takes ↦ elim (cases_Bool (p u)) [
    | inl here ↦ rw (takes, here) (ap (λ ys. u ∷ ys) (both p q xs))
    | inr other ↦ rw (takes, other) (both p q xs)
  ]
  | inr not ↦ elim (cases_Bool (p u)) [
    | inl here ↦ rw (not, here) (both p q xs)
    | inr other ↦ rw (not, other) (both p q xs)
  ]
]

pub kept_at : (uses old new : List Relocation) → old ≡ filter is_acting uses → IsStableByKey (λ (u : Relocation). u.offset) nat_cmp old new
    → (at : ℕ) → standing_at at new ≡ acting_among uses at
kept_at uses old new acting stable at =
    let probe : Relocation = record { offset = at; number = 0; addend = pos 0; definition = Zero } in
    sym (filter_agree _ _ (λ (u : Relocation). tie at u.offset) new)
    ∙ stable probe
    ∙ filter_agree _ _ (λ (u : Relocation). tie at u.offset) old
    ∙ ap (standing_at at) acting
    ∙ both (λ (u : Relocation). u.offset == at) is_acting uses
