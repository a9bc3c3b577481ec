-- Flags of parts that are long: setting one more.
use Rattle.std.proofs.Common.{◌≡◌, ℕ, ◌+◌, ◌<◌, Bool, true, false, not, cond, List, [], ◌∷◌, take, Some, length, get_or, set, refl, sym, ap, ◌∙◌, arith, inl, inr, ◌||◌}
use Rattle.std.specs.Prelude.{IsTrue, ◌==◌, slice_get}
use Rattle.std.specs.List.{list_any}
use Rattle.std.proofs.Math.ListN.{get_or-eq_default}
use Rattle.std.proofs.lemmas.Bool.{cases_Bool, cases_lt, cases_eq, or_left, or_right, or_from, eq-eqb, ne_eqb}
use Rattle.std.proofs.Math.Bool.{or-false}
use Rattle.std.proofs.lemmas.List.{length-set, get_or-set_same, get_or-set_other, get_or_default, take_more}
use Rattle.std.proofs.lemmas.List.Folds.{list_any-from_Any, list_any-append}
use Rattle.std.proofs.lemmas.List.Sums.{sum_by-set}
use Rattle.std.proofs.lemmas.Option.{slice_get_within, get_or_from_slice_get}
use Rattle.cfi_layout.specs.declared.short.Short.{Short}
use Rattle.cfi_layout.specs.Starts.{flag}
use Rattle.cfi_layout.specs.LongSet.{is_branch, is_whole}
use Rattle.cfi_layout.specs.Lengthening.{short_count}

-- what the elements of a list of branches are read with
abbrev pub no_branch : Short
no_branch = record { at = 0; target = 0; lead = 0; keep = false }

-- a flag that is not set stands within the list
pub flag_within : (long : List Bool) (k : ℕ) → flag long k ≡ false → k < length long
flag_within long k no_flag = elim (cases_lt k (length long)) [
  | inl lt ↦ lt
  | inr past ↦ let e : true ≡ false = sym (get_or-eq_default long true past) ∙ no_flag in absurd (cc)
]

-- the flag of a part that is there is what is read at it
pub flag_read : (long : List Bool) (k : ℕ) → k < length long → get_or long k false ≡ flag long k
flag_read long k lt = get_or_default long k false true lt

pub flag_set_same : (long : List Bool) (k : ℕ) → flag (set long k true) k ≡ true
flag_set_same long k = elim (cases_lt k (length long)) [
  | inl lt ↦ get_or-set_same long k true true lt
  | inr past ↦ get_or-eq_default (set long k true) true (omega (arith, length-set long k true))
]

pub flag_set_other : (long : List Bool) (p k : ℕ) → (k ≡ p → ⊥) → flag (set long p true) k ≡ flag long k
flag_set_other long p k differ = get_or-set_other long p k true true differ

-- what is set stays set
pub flag_kept : (long : List Bool) (p k : ℕ) → flag long k ≡ true → flag (set long p true) k ≡ true
flag_kept long p k is = elim (cases_eq k p) [
  | inl same ↦ rw same (flag_set_same long p)
  | inr differ ↦ flag_set_other long p k differ ∙ is
]

-- one that was not set is one fewer
pub fewer_set : (long : List Bool) (p : ℕ) → flag long p ≡ false → short_count (set long p true) + 1 ≡ short_count long
fewer_set long p no_flag =
    let counted : Bool → ℕ = λ x. cond (not x) 1 0 in
    let e = sum_by-set counted long p true true (flag_within long p no_flag) in
    let one : counted (flag long p) ≡ 1 = ap counted no_flag in
    omega (arith, e, one)

-- the branch of a list that has an index has its part there
pub branch_there : (branches : List Short) (i : ℕ) (b : Short) → slice_get branches i ≡ Some b → is_branch branches b.at ≡ true
branch_there branches i b is =
    list_any-from_Any (λ x. x.at == b.at) branches (i, b, slice_get_within branches i b is, get_or_from_slice_get branches i b b is, eq-eqb b.at b.at refl)

-- where the flags leave out only branches, they say which parts are whole
pub whole_is : (branches : List Short) (long : List Bool) → ((k : ℕ) → flag long k ≡ false → IsTrue (is_branch branches k)) →
    (k : ℕ) → is_whole branches (flag long) k ≡ flag long k
whole_is branches long only k = elim (cases_Bool (flag long k)) [
  | inl yes_flag ↦ rw yes_flag refl
  | inr no_flag ↦ rw (no_flag, only k no_flag) refl
]

-- clearing the flag of one branch's part more
pub flags_more : (branches : List Short) (i : ℕ) (none : Short) (long : List Bool) → i < length branches → (get_or branches i none).at < length long →
    ((k : ℕ) → flag long k ≡ not (is_branch (take i branches) k)) →
    (k : ℕ) → flag (set long ((get_or branches i none).at) false) k ≡ not (is_branch (take (i + 1) branches) k)
flags_more branches i none long lt within flags k =
    let b = get_or branches i none in
    let test : Short → Bool = λ x. x.at == k in
    let grown : is_branch (take (i + 1) branches) k ≡ (is_branch (take i branches) k || list_any test (b ∷ [])) =
    ap (λ (xs : List Short). list_any test xs) (take_more branches i none lt) ∙ list_any-append test (take i branches) (b ∷ []) in
    elim (cases_eq k b.at) [
      | inl same ↦
          let there : test b ≡ true = eq-eqb b.at k (sym same) in
          let found : is_branch (take (i + 1) branches) k ≡ true = grown ∙ or_right (is_branch (take i branches) k) (list_any test (b ∷ [])) (or_left (test b) false there) in
          ap (λ (n : ℕ). flag (set long b.at false) n) same ∙ get_or-set_same long b.at false true within ∙ sym (ap not found)
      | inr differ ↦
          let other : test b ≡ false = ne_eqb b.at k (λ e. differ (sym e)) in
          let none_here : list_any test (b ∷ []) ≡ false = or_from (test b) false other refl in
          get_or-set_other long b.at k false true differ ∙ flags k
          ∙ ap not (sym (grown ∙ ap (λ (x : Bool). is_branch (take i branches) k || x) none_here ∙ or-false (is_branch (take i branches) k)))
    ]
