-- A stable sort by offset keeps what stands at each; and lists joined.
use Rattle.std.proofs.Common.{◌≡◌, ◌==◌, ℕ, zero, suc, ◌<◌, not, ◌&&◌, List, ◌++◌, map, inl, inr, refl, sym, ap, ◌∙◌, arith}
use Rattle.std.specs.List.Sorted.{IsStableByKey}
use Rattle.std.specs.Ordering.{is_lt, nat_cmp}
use Rattle.std.proofs.lemmas.Bool.{cases_order, eq-eqb, ne_eqb, lt-ltb, le-ltb}
use Rattle.std.proofs.lemmas.List.{map-append}
use Rattle.std.proofs.lemmas.List.Elements.{filter_agree}
use Rattle.least.specs.Nearest.{joined}
use Rattle.obj_join.specs.declared.table.TableUse.{TableUse}
use Rattle.obj_join.specs.Uses.{standing}

tie : (a b : ℕ) → (not (is_lt (nat_cmp a b)) && not (is_lt (nat_cmp b a))) ≡ (b == a)
tie a b = elim (cases_order a b) [
  | inl same ↦ let less = le-ltb a b (omega arith) in let more = le-ltb b a (omega arith) in rw (less, more, eq-eqb a b same, eq-eqb b a (sym same)) refl
  | inr other ↦ elim other [
    | inl less ↦ rw (lt-ltb a b less, ne_eqb b a (λ same. absurd (omega arith))) refl
    | inr more ↦ rw (le-ltb a b (omega arith), ne_eqb a b (λ same. absurd (omega arith)), lt-ltb b a more, ne_eqb b a (λ same. absurd (omega arith))) refl
  ]
]

pub kept_at : (old new : List TableUse) → IsStableByKey (λ (u : TableUse). u.offset) nat_cmp old new → (at : ℕ) → standing at new ≡ standing at old
kept_at old new stable at =
    let probe : TableUse = record { offset = at; symbol = 0 } in
    sym (filter_agree _ _ (λ (u : TableUse). tie at u.offset) new) ∙ stable probe ∙ filter_agree _ _ (λ (u : TableUse). tie at u.offset) old

pub joined_same : {A : Type 0} (f g : ℕ → List A) (n : ℕ) → ((k : ℕ) → k < n → f k ≡ g k) → joined f n ≡ joined g n
unfolding joined
joined_same f g zero same = refl
joined_same f g (suc n) same = rw (joined_same f g n (λ k below. same k (omega arith)), same n (omega arith)) refl

pub map_joined : {A B : Type 0} (h : A → B) (f : ℕ → List A) (n : ℕ) → map h (joined f n) ≡ joined (λ k. map h (f k)) n
unfolding joined
map_joined h f zero = refl
map_joined h f (suc n) = map-append h (joined f n) (f n) ∙ ap (λ ys. ys ++ map h (f n)) (map_joined h f n)
