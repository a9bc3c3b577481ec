-- Numbers of targets, one set after another.
use Rattle.std.proofs.Common.{◌≡◌, ◌↔◌, ℕ, ◌+◌, ◌-◌, ◌<◌, Bool, true, false, List, [], ◌++◌, length, get_or, take, drop, ◌⊎◌, inl, inr, refl, sym, ◌∙◌, ap, subst, arith, if◌then◌else◌}
use Rattle.std.specs.List.{All, Contains}
use Rattle.std.proofs.Math.Seq.{take-append_seam}
use Rattle.std.proofs.lemmas.Bool.{cases_lt, cases_Bool}
use Rattle.std.proofs.lemmas.List.Elements.{All-from_get_or}
use Rattle.cfi_class.specs.Classes.{IsIn, AreInOne, Joined, here, on}
use Rattle.cfi_class.specs.Passes.{AreJoined, AreNumbers, IsMarked, IsRepeated}

-- chains: one after another, and backwards
pub chained : (sets : List (List ℕ)) (a b c : ℕ) → Joined sets a b → Joined sets b c → Joined sets a c
chained sets a b c (here one) q = on one q
chained sets a b c (on one rest) q = on one (chained sets _ b c rest q)

back : (sets : List (List ℕ)) (a b : ℕ) → AreInOne sets a b → AreInOne sets b a
back sets a b (k, p, q) = (k, q, p)

pub backwards : (sets : List (List ℕ)) (a b : ℕ) → Joined sets a b → Joined sets b a
backwards sets a b (here one) = here (back sets a b one)
backwards sets a b (on one rest) = chained sets b _ a (backwards sets _ b rest) (here (back sets a _ one))

-- each target has a number of its own
pub own_numbers : (sets : List (List ℕ)) (targets numbers : List ℕ) → length numbers ≡ length targets →
    ((i : ℕ) → i < length targets → get_or numbers i 0 ≡ i) → AreNumbers sets targets 0 numbers
own_numbers sets targets numbers each own = record {
  same_length = each;
  in_range = All-from_get_or (λ number. number < length targets) numbers 0 (λ i lt. let le : i < length targets = omega (arith, each) in rw (own i le) le);
  joined = λ m i j below hi hj p q. absurd (omega arith);
  only = λ i j hi hj e. inl (sym (own i hi) ∙ e ∙ own j hj);
}

-- from one target to the next but one
on_to : (sets : List (List ℕ)) (targets : List ℕ) (i j c : ℕ) → (i ≡ j) ⊎ Joined sets (get_or targets i 0) (get_or targets j 0) → Joined sets (get_or targets j 0) c → Joined sets (get_or targets i 0) c
on_to sets targets i j c (inl e) q =
    subst (λ (m : ℕ). Joined sets (get_or targets m 0) c) (sym e) q
on_to sets targets i j c (inr p) q = chained sets _ _ c p q

step_to : (sets : List (List ℕ)) (targets : List ℕ) (a i j : ℕ) → AreInOne sets a (get_or targets i 0) → (i ≡ j) ⊎ Joined sets (get_or targets i 0) (get_or targets j 0) → Joined sets a (get_or targets j 0)
step_to sets targets a i j one (inl e) =
    here (subst (λ (m : ℕ). AreInOne sets a (get_or targets m 0)) e one)
step_to sets targets a i j one (inr rest) = on one rest

-- the numbers after one set more
pub joined_more : (sets : List (List ℕ)) (targets : List ℕ) (k : ℕ) (old new members : List ℕ) → get_or sets k [] ≡ members →
    AreNumbers sets targets k old → AreJoined members targets old new → AreNumbers sets targets (k + 1) new
joined_more sets targets k old new members is g step = record {
  same_length = step.same_length ∙ g.same_length;
  in_range = step.in_range;
  joined = λ m i j below hi hj p q.
      let oi : i < length old = omega (arith, g.same_length) in
      let oj : j < length old = omega (arith, g.same_length) in
      elim (cases_lt m k) [
        | inl before ↦ step.kept i j oi oj (g.joined m i j before hi hj p q)
        | inr there ↦
            let same : m ≡ k = omega arith in
            let set_is : get_or sets m [] ≡ members = ap (λ (x : ℕ). get_or sets x []) same ∙ is in
            step.joined i j oi oj (subst (λ (xs : List ℕ). Contains xs (get_or targets i 0)) set_is p) (subst (λ (xs : List ℕ). Contains xs (get_or targets j 0)) set_is q)
      ];
  only = λ i j hi hj e.
      let oi : i < length old = omega (arith, g.same_length) in
      let oj : j < length old = omega (arith, g.same_length) in
      elim (step.only i j oi oj e) [
        | inl same ↦ g.only i j hi hj same
        | inr marked ↦
            let p = marked.0 in
            let q = marked.1 in
            let in_p : IsIn sets k (get_or targets p.0 0) = rw is p.2 in
            let in_q : IsIn sets k (get_or targets q.0 0) = rw is q.2 in
            let one : AreInOne sets (get_or targets p.0 0) (get_or targets q.0 0) = (k, in_p, in_q) in
            let last = step_to sets targets (get_or targets p.0 0) q.0 j one (g.only q.0 j q.1 hj q.3) in
            inr (on_to sets targets i p.0 (get_or targets j 0) (g.only i p.0 hi p.1 (sym p.3)) last)
      ];
}

-- the numbers are those after a set that is the one before it again
pub numbers_again : (sets : List (List ℕ)) (targets : List ℕ) (k : ℕ) (numbers : List ℕ) → IsRepeated sets k →
    AreNumbers sets targets k numbers → AreNumbers sets targets (k + 1) numbers
numbers_again sets targets k numbers again g = record {
  same_length = g.same_length;
  in_range = g.in_range;
  joined = λ m i j below hi hj p q. elim (cases_lt m k) [
    | inl before ↦ g.joined m i j before hi hj p q
    | inr there ↦
        let same : m ≡ k = omega arith in
        let set_is : get_or sets m [] ≡ get_or sets (k - 1) [] = ap (λ (x : ℕ). get_or sets x []) same ∙ again.1 in
        g.joined (k - 1) i j (omega (arith, again.0)) hi hj (subst (λ (xs : List ℕ). Contains xs (get_or targets i 0)) set_is p) (subst (λ (xs : List ℕ). Contains xs (get_or targets j 0)) set_is q)
  ];
  only = g.only;
}

-- one number for those that the table marks
abbrev pub AreRenumbered : List ℕ → List ℕ → List Bool → ℕ → Type 0
AreRenumbered old new marked number =
    (i : ℕ) → i < length old → get_or new i 0 ≡ (if get_or marked (get_or old i 0) false then number else get_or old i 0)

value_marked : (old new : List ℕ) (marked : List Bool) (number : ℕ) → AreRenumbered old new marked number →
    (i : ℕ) → i < length old → get_or marked (get_or old i 0) false ≡ true → get_or new i 0 ≡ number
value_marked old new marked number value i lt is_true =
    value i lt ∙ ap (λ (b : Bool). if b then number else get_or old i 0) is_true

value_other : (old new : List ℕ) (marked : List Bool) (number : ℕ) → AreRenumbered old new marked number →
    (i : ℕ) → i < length old → get_or marked (get_or old i 0) false ≡ false → get_or new i 0 ≡ get_or old i 0
value_other old new marked number value i lt is_false =
    value i lt ∙ ap (λ (b : Bool). if b then number else get_or old i 0) is_false

-- a number that is not marked is not the one that is given
not_given : (marked : List Bool) (number x : ℕ) → get_or marked number false ≡ true → get_or marked x false ≡ false → number ≡ x → ⊥
not_given marked number x is_true is_false e =
    let both : true ≡ false = sym is_true ∙ ap (λ (m : ℕ). get_or marked m false) e ∙ is_false in cc

-- the numbers after the table's pass
pub join_by_table : (members targets old new : List ℕ) (marked : List Bool) (number : ℕ) →
    length old ≡ length targets → length new ≡ length old → number < length targets →
    All (λ x. x < length targets) old →
    ((x : ℕ) → (get_or marked x false ≡ true) ↔ IsMarked members targets old x) →
    IsMarked members targets old number → AreRenumbered old new marked number →
    AreJoined members targets old new
join_by_table members targets old new marked number each same_length small range table of_one value = record {
  same_length = same_length;
  in_range = All-from_get_or (λ x. x < length targets) new 0 (λ i lt.
      let oi : i < length old = omega (arith, same_length) in
      elim (cases_Bool (get_or marked (get_or old i 0) false)) [
        | inl is_true ↦ rw (value_marked old new marked number value i oi is_true) small
        | inr is_false ↦ rw (value_other old new marked number value i oi is_false) (range i 0 oi)
      ]);
  kept = λ i j hi hj e.
      value i hi ∙ ap (λ (x : ℕ). if get_or marked x false then number else x) e ∙ sym (value j hj);
  joined = λ i j hi hj p q.
      value_marked old new marked number value i hi ((table _).1 (i, omega (arith, each), p, refl))
      ∙ sym (value_marked old new marked number value j hj ((table _).1 (j, omega (arith, each), q, refl)));
  only = λ i j hi hj e.
      let given = (table number).1 of_one in
      elim (cases_Bool (get_or marked (get_or old i 0) false)) [
        | inl yes_i ↦ elim (cases_Bool (get_or marked (get_or old j 0) false)) [
          | inl yes_j ↦ inr ((table _).0 yes_i, (table _).0 yes_j)
          | inr no_j ↦ absurd (not_given marked number _ given no_j (sym (value_marked old new marked number value i hi yes_i) ∙ e ∙ value_other old new marked number value j hj no_j))
        ]
        | inr no_i ↦ elim (cases_Bool (get_or marked (get_or old j 0) false)) [
          | inl yes_j ↦ absurd (not_given marked number _ given no_i (sym (value_marked old new marked number value j hj yes_j) ∙ sym e ∙ value_other old new marked number value i hi no_i))
          | inr no_j ↦ inl (sym (value_other old new marked number value i hi no_i) ∙ e ∙ value_other old new marked number value j hj no_j)
        ]
      ];
}

-- the whole of a slice, written back
pub written_back : (new items : List ℕ) (n : ℕ) → n ≡ length new → take n (new ++ drop (length new) items) ≡ new
written_back new items n e = rw e (take-append_seam new (drop (length new) items))
