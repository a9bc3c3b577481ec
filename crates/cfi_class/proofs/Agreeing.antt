-- A set whose members have one number, and a table that marks the numbers of a set's members.
use Rattle.std.proofs.Common.{◌≡◌, ◌↔◌, ℕ, ◌+◌, ◌<◌, ◌≤◌, Bool, true, false, List, length, get_or, set, replicate, inl, inr, refl, sym, ◌∙◌, ap, subst, arith}
use Rattle.std.specs.List.{All, Contains}
use Rattle.std.proofs.Math.ListN.{get_or-eq_default}
use Rattle.std.proofs.lemmas.Bool.{cases_lt, cases_eq}
use Rattle.std.proofs.lemmas.List.{length-set, length-replicate, get_or-replicate, get_or_default, get_or-set_same, get_or-set_other}
use Rattle.std.proofs.lemmas.List.Elements.{Contains-get_or}
use Rattle.cfi_class.specs.Passes.{AreJoined, IsMarked}

-- the first i members of the set have the number
abbrev pub AgreeBelow : List ℕ → List ℕ → List ℕ → ℕ → ℕ → Type 0
AgreeBelow targets numbers set number i =
    (k j : ℕ) → k < i → k < length set → j < length targets → get_or targets j 0 ≡ get_or set k 0 → get_or numbers j 0 ≡ number

pub agree_more : (targets numbers set : List ℕ) (number i a : ℕ) → AgreeBelow targets numbers set number i →
    ((j : ℕ) → j < length targets → get_or targets j 0 ≡ get_or set i 0 → a ≡ get_or numbers j 0) →
    a ≡ number → AgreeBelow targets numbers set number (i + 1)
agree_more targets numbers set number i a so_far at_i same k j below lt hj e =
    elim (cases_lt k i) [
      | inl before ↦ so_far k j before lt hj e
      | inr there ↦
          let is : k ≡ i = omega arith in
          sym (at_i j hj (e ∙ ap (λ (m : ℕ). get_or set m 0) is)) ∙ same
    ]

-- the index in the set of a target that it has
pub at_index : (xs : List ℕ) (a : ℕ) → Contains xs a → (k : ℕ) × (k < length xs) × (a ≡ get_or xs k 0)
at_index xs a (k, lt, e) = (k, lt, sym e ∙ get_or_default xs k a 0 lt)

pub agree_all : (targets numbers set : List ℕ) (number i : ℕ) → length set ≤ i → length numbers ≡ length targets →
    All (λ number. number < length targets) numbers →
    AgreeBelow targets numbers set number i → AreJoined set targets numbers numbers
agree_all targets numbers set number i past each range agree = record {
  same_length = refl;
  in_range = range;
  kept = λ a b ha hb e. e;
  joined = λ a b ha hb in_a in_b.
      let p = at_index set _ in_a in
      let q = at_index set _ in_b in
      agree p.0 a (omega (arith, p.1)) p.1 (omega (arith, each)) p.2
      ∙ sym (agree q.0 b (omega (arith, q.1)) q.1 (omega (arith, each)) q.2);
  only = λ a b ha hb e. inl e;
}

pub none_at : (n i : ℕ) → get_or (replicate n false) i false ≡ false
none_at n i = elim (cases_lt i n) [
  | inl lt ↦ get_or-replicate n i false false lt
  | inr past ↦ get_or-eq_default (replicate n false) false (omega (arith, length-replicate n false))
]

-- the table after the first k members of the set
pub record MarkedBelow (targets numbers set : List ℕ) (k : ℕ) (marked : List Bool) : Type 0 where
  pub all_numbers : length marked ≡ length targets
  pub only : (number : ℕ) → get_or marked number false ≡ true → IsMarked set targets numbers number
  pub each : (m i : ℕ) → m < k → i < length targets → get_or targets i 0 ≡ get_or set m 0 → get_or marked (get_or numbers i 0) false ≡ true

pub none_marked : (targets numbers set : List ℕ) (marked : List Bool) → marked ≡ replicate (length targets) false → MarkedBelow targets numbers set 0 marked
none_marked targets numbers set marked e = record {
  all_numbers = rw e (length-replicate (length targets) false);
  only = λ number is.
      let both : false ≡ true = sym (none_at (length targets) number) ∙ ap (λ (xs : List Bool). get_or xs number false) (sym e) ∙ is in
      absurd (cc);
  each = λ m i below. absurd (omega arith);
}

pub mark_more : (targets numbers members : List ℕ) (k : ℕ) (marked : List Bool) (number : ℕ) →
    MarkedBelow targets numbers members k marked → k < length members → number < length targets →
    Contains targets (get_or members k 0) →
    ((j : ℕ) → j < length targets → get_or targets j 0 ≡ get_or members k 0 → number ≡ get_or numbers j 0) →
    MarkedBelow targets numbers members (k + 1) (set marked number true)
mark_more targets numbers members k marked number g lt range among value = record {
  all_numbers = rw length-set g.all_numbers;
  only = λ other e. elim (cases_eq other number) [
    | inl same ↦
        let p = at_index targets _ among in
        (p.0, p.1, subst (λ (a : ℕ). Contains members a) p.2 (Contains-get_or members k 0 lt), sym (value p.0 p.1 (sym p.2)) ∙ sym same)
    | inr differ ↦ g.only other (sym (get_or-set_other marked number other true false differ) ∙ e)
  ];
  each = λ m i below hi e. elim (cases_eq (get_or numbers i 0) number) [
    | inl same ↦ rw same (get_or-set_same marked number true false (omega (arith, g.all_numbers)))
    | inr differ ↦ elim (cases_lt m k) [
      | inl before ↦ get_or-set_other marked number _ true false differ ∙ g.each m i before hi e
      | inr there ↦
          let is : m ≡ k = omega arith in
          absurd (differ (sym (value i hi (e ∙ ap (λ (x : ℕ). get_or members x 0) is))))
    ]
  ];
}

pub marked_all : (targets numbers members : List ℕ) (k : ℕ) (marked : List Bool) → length members ≤ k →
    MarkedBelow targets numbers members k marked →
    (number : ℕ) → (get_or marked number false ≡ true) ↔ IsMarked members targets numbers number
marked_all targets numbers members k marked past g number = (
  g.only number,
  λ h.
      let p = at_index members _ h.2 in
      ap (λ (x : ℕ). get_or marked x false) (sym h.3) ∙ g.each p.0 h.0 (omega (arith, p.1)) h.1 p.2,
)
