-- The branches of a program in the list that its placement is asked for.
use Rattle.std.proofs.Common.{◌≡◌, ◌==◌, ℕ, zero, suc, ◌+◌, ◌<◌, true, false, not, List, [], ◌∷◌, Option, Some, None, refl, sym, ap, subst, ◌∙◌, arith, add-one, inl, inr}
use Rattle.std.specs.Prelude.{nat_lt}
use Rattle.std.specs.List.{Contains}
use Rattle.std.proofs.lemmas.Bool.{cases_Bool, cases_lt, eq-eqb, eqb-true, ltb-true, and_parts}
use Rattle.std.proofs.lemmas.List.Elements.{Contains-append_left, Contains-push, Contains-push_cases}
use Rattle.std.proofs.lemmas.List.Folds.{Any-from_list_any, list_any-from_Any}
use Rattle.rv_word.proofs.Cases.{cases_Option, guarded, mapped}
use Rattle.cfi_map.proofs.Prelude.{ItemKind, Program, count, is_end, item_of, IsSound, aims, Short, Entered, short_at, short_to, shorts_below, with_short, is_branch}
use Rattle.obj_input.specs.declared.item_kind.ItemKind.TheVariants as is
use Rattle.cfi_layout.specs.LongSet.{is_branch as is_part}

-- a branch that is listed is that of a place
pub told : (of : Entered) (n : ℕ) (b : Short) → Contains (shorts_below of n) b →
    (k : ℕ) × (k < n) × (short_at of k ≡ Some b)
unfolding shorts_below
told of zero b has = let none = has.1 in absurd (omega arith)
told of (suc n) b has = elim (cases_Option (short_at of n)) [
  | inl none ↦
      let at = told of n b (subst (λ (o : Option Short). Contains (with_short (shorts_below of n) o) b) none has) in
      (at.0, omega (arith, at.1), at.2)
  | inr (x, some) ↦
      elim (Contains-push_cases (shorts_below of n) x b (subst (λ (o : Option Short). Contains (with_short (shorts_below of n) o) b) some has)) [
        | inl before ↦ let at = told of n b before in (at.0, omega (arith, at.1), at.2)
        | inr last ↦ (n, omega arith, some ∙ ap (λ (y : Short). Some y) last)
      ]
]

-- and each place's is listed
pub listed : (of : Entered) (n k : ℕ) (b : Short) → k < n → short_at of k ≡ Some b →
    Contains (shorts_below of n) b
unfolding shorts_below
listed of zero k b lt some = absurd (omega arith)
listed of (suc n) k b lt some = elim (cases_lt k n) [
  | inl before ↦
      let has = listed of n k b before some in
      elim (cases_Option (short_at of n)) [
        | inl none ↦ subst (λ (o : Option Short). Contains (with_short (shorts_below of n) o) b) (sym none) has
        | inr (x, at) ↦ subst (λ (o : Option Short). Contains (with_short (shorts_below of n) o) b) (sym at)
            (Contains-append_left (shorts_below of n) (x ∷ []) b has)
      ]
  | inr last ↦
      let same : k ≡ n = omega arith in
      subst (λ (o : Option Short). Contains (with_short (shorts_below of n) o) b) (sym (ap (short_at of) (sym same) ∙ some))
      (Contains-push (shorts_below of n) b)
]

-- what the branch of a place is
pub short_is : (of : Entered) (k : ℕ) (b : Short) → short_at of k ≡ Some b →
    (target : ℕ) × (is_branch (item_of of.program k).kind ≡ true) × ((item_of of.program k).target ≡ Some target) × (short_to of k target ≡ b)
short_is of k b some =
    let at = guarded _ _ b some in
    let its = mapped (short_to of k) (item_of of.program k).target b at.1 in
    (its.0, at.0, its.1, its.2)

aims_at : (program : Program) (kind : ItemKind) (target : Option ℕ) → is_branch kind ≡ true → aims program kind target ≡ true →
    (t : ℕ) × (target ≡ Some t) × (t < count program)
aims_at program is.Branch None yes_branch aim = absurd (cc)
aims_at program is.Branch (Some t) yes_branch aim =
    let there : nat_lt t (count program) ≡ true = (and_parts (nat_lt t (count program)) (not (is_end (item_of program t).kind)) aim).0 in
    (t, refl, ltb-true t (count program) there)
aims_at program other target yes_branch aim = absurd (cc)

-- a branch of a sound program has a target
pub branch_aims : (program : Program) (k : ℕ) → IsSound program → k < count program → is_branch (item_of program k).kind ≡ true →
    (t : ℕ) × ((item_of program k).target ≡ Some t) × (t < count program)
branch_aims program k sound lt yes_branch = aims_at program (item_of program k).kind (item_of program k).target yes_branch (sound.targets k lt)

-- the branch of a place is listed
pub branch_listed : (of : Entered) (n k target : ℕ) → k < n → is_branch (item_of of.program k).kind ≡ true →
    (item_of of.program k).target ≡ Some target → Contains (shorts_below of n) (short_to of k target)
branch_listed of n k target lt yes_branch aim =
    listed of n k (short_to of k target) lt (rw (yes_branch, aim) refl)

-- the parts of branches are those of places with branches
pub parts_are : (of : Entered) (k : ℕ) → IsSound of.program → k < count of.program →
    is_part (shorts_below of (count of.program)) k ≡ is_branch (item_of of.program k).kind
parts_are of k sound lt =
    let shorts = shorts_below of (count of.program) in
    elim (cases_Bool (is_branch (item_of of.program k).kind)) [
      | inl yes_branch ↦
          let aim = branch_aims of.program k sound lt yes_branch in
          let has = branch_listed of (count of.program) k aim.0 lt yes_branch aim.1 in
          let b = short_to of k aim.0 in
          rw yes_branch (list_any-from_Any (λ (x : Short). x.at == k) shorts (has.0, b, has.1, has.2, eq-eqb k k refl))
      | inr no_branch ↦ elim (cases_Bool (is_part shorts k)) [
        | inr none ↦ none ∙ sym no_branch
        | inl some ↦
            let any = Any-from_list_any (λ (x : Short). x.at == k) shorts some in
            let at = told of (count of.program) any.1 (any.0, any.2, any.3) in
            let its = short_is of at.0 any.1 at.2 in
            let here : any.1.at ≡ k = eqb-true _ _ any.4 in
            let same : at.0 ≡ k = ap (λ (x : Short). x.at) its.3 ∙ here in
            let no : true ≡ false = sym its.1 ∙ ap (λ (m : ℕ). is_branch (item_of of.program m).kind) same ∙ no_branch in
            absurd (cc)
      ]
    ]

-- while a loop makes the list
pub shorts_begin : (of : Entered) (shorts : List Short) → shorts ≡ [] → shorts ≡ shorts_below of 0
unfolding shorts_below
shorts_begin of shorts e = e

pub shorts_more : (of : Entered) (k : ℕ) (shorts now : List Short) (b : Option Short) → shorts ≡ shorts_below of k →
    b ≡ short_at of k → now ≡ with_short shorts b → now ≡ shorts_below of (k + 1)
unfolding shorts_below
shorts_more of k shorts now b before is grown = rw (add-one, grown, before, is) refl

-- and each is that of a place
pub parts_within : (of : Entered) (k : ℕ) → is_part (shorts_below of (count of.program)) k ≡ true → k < count of.program
parts_within of k some =
    let any = Any-from_list_any (λ (x : Short). x.at == k) (shorts_below of (count of.program)) some in
    let at = told of (count of.program) any.1 (any.0, any.2, any.3) in
    let its = short_is of at.0 any.1 at.2 in
    let here : any.1.at ≡ k = eqb-true _ _ any.4 in
    let same : at.0 ≡ k = ap (λ (x : Short). x.at) its.3 ∙ here in
    omega (arith, same, at.1)
