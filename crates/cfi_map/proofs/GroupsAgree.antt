-- Which stores may join a group depends on the places up to theirs alone: so it is the same in a program and among its first places.
use Rattle.std.proofs.Common.{◌≡◌, ℕ, zero, suc, ◌+◌, ◌-◌, ◌<◌, ◌≤◌, nat_lt, Bool, true, false, List, length, get_or, inl, inr, refl, sym, ap, subst, ◌∙◌, arith}
use Rattle.std.specs.Prelude.{◌&&◌, ◌==◌, not, if◌then◌else◌}
use Rattle.std.proofs.lemmas.Bool.{cases_lt}
use Rattle.std.proofs.lemmas.List.{get_or_past}
use Rattle.cfi_map.proofs.Prelude.{decoded, Item, no_item, is_own, AreGroups, Bounds, MOST_STORES, all_from, are_near, base, base_of, fits_mask, is_later, is_own_at, is_store, level, level_of, may_join, may_share, members_before}
use Rattle.cfi_map.proofs.GroupFacts.{later_if, later_parts}
use Rattle.cfi_map.proofs.Greedy.{before_most}

-- two tests that answer the same at so many numbers
all_alike : (test other : ℕ → Bool) (first n : ℕ) → ((i : ℕ) → i < n → test (first + i) ≡ other (first + i)) → all_from test first n ≡ all_from other first n
unfolding all_from
all_alike test other first zero same = refl
all_alike test other first (suc n) same =
    let start : first + 0 ≡ first = omega arith in
    let here : test first ≡ other first = subst (λ (m : ℕ). test m ≡ other m) start (same 0 (omega arith)) in
    let rest : all_from test (first + 1) n ≡ all_from other (first + 1) n =
    all_alike test other (first + 1) n (λ i below.
    let next : first + suc i ≡ first + 1 + i = omega arith in
    subst (λ (m : ℕ). test m ≡ other m) next (same (suc i) (omega arith))) in
    rw (here, rest) refl

-- the count of a group's stores, one place on, by the flag of its store alone
after_alike : (store whole other : Bool) (n : ℕ) → (store ≡ true → whole ≡ other) →
    ◌≡◌ {A = ℕ} (if store then (if whole then 1 else n + 1) else 0) (if store then (if other then 1 else n + 1) else 0)
after_alike true whole other n same = ap (λ (b : Bool). if b then 1 else n + 1) (same refl)
after_alike false whole other n same = refl

module _ (items others : ℕ → Item) where
  -- places before a place, and the flags of their stores
  pub members_alike : (whole other : ℕ → Bool) (k : ℕ) → ((j : ℕ) → j < k → items j ≡ others j) →
      ((j : ℕ) → j < k → is_store (items j).kind ≡ true → whole j ≡ other j) → members_before items whole k ≡ members_before others other k
  unfolding members_before
  members_alike whole other zero same flags = refl
  members_alike whole other (suc k) same flags =
      let rest = members_alike whole other k (λ j below. same j (omega arith)) (λ j below. flags j (omega arith)) in
      ap (λ (n : ℕ). if is_store (items k).kind then (if whole k then 1 else n + 1) else 0) rest
      ∙ after_alike (is_store (items k).kind) (whole k) (other k) (members_before others other k) (flags k (omega arith))
      ∙ ap (λ (item : Item). if is_store item.kind then (if other k then 1 else members_before others other k + 1) else 0) (same k (omega arith))

  -- places up to a store
  module _ (bounds : Bounds) where
    pub joins_alike : (k n : ℕ) → n ≤ k → ((j : ℕ) → j ≤ k → items j ≡ others j) → may_join items bounds k n ≡ may_join others bounds k n
    joins_alike k n within same =
        let one : all_from (may_share items (base items k) (level items k)) (k - n) n ≡ all_from (may_share others (base items k) (level items k)) (k - n) n =
        all_alike _ _ (k - n) n (λ i below.
        ap (λ (item : Item). is_own item.patch && (base_of (decoded item.word) == base items k && are_near (level_of (decoded item.word)) (level items k))) (same (k - n + i) (omega arith))) in
        ap (λ (b : Bool). nat_lt 0 n && (nat_lt n MOST_STORES && (is_store (items k).kind && (not (bounds.entered k)
        && (is_own_at items k && (fits_mask bounds.short_masks (items (k - n)) (items k) && b)))))) one
        ∙ ap (λ (item : Item). nat_lt 0 n && (nat_lt n MOST_STORES && (is_store item.kind && (not (bounds.entered k)
        && (is_own item.patch && (fits_mask bounds.short_masks (items (k - n)) item
        && all_from (may_share others (base_of (decoded item.word)) (level_of (decoded item.word))) (k - n) n))))))
        (same k (omega arith))
        ∙ ap (λ (item : Item). nat_lt 0 n && (nat_lt n MOST_STORES && (is_store (others k).kind && (not (bounds.entered k)
        && (is_own_at others k && (fits_mask bounds.short_masks item (others k)
        && all_from (may_share others (base others k) (level others k)) (k - n) n))))))
        (same (k - n) (omega arith))

    -- a store that may join the group before it may do so where places and flags before it are the same
    pub join_moved : (whole other : ℕ → Bool) (k : ℕ) → ((j : ℕ) → j ≤ k → items j ≡ others j) →
        ((j : ℕ) → j < k → is_store (items j).kind ≡ true → whole j ≡ other j) →
        may_join items bounds k (members_before items whole k) ≡ true → may_join others bounds k (members_before others other k) ≡ true
    join_moved whole other k same flags join =
        let count = members_alike whole other k (λ j less. same j (omega arith)) flags in
        sym (joins_alike k (members_before others other k) (before_most others other k) same)
        ∙ sym (ap (λ (m : ℕ). may_join items bounds k m) count) ∙ join

    -- groups are groups among other places that are the same as far as there are later members
    pub groups_alike : (whole other : ℕ → Bool) (n : ℕ) → AreGroups items bounds whole → ((k : ℕ) → is_later others other k ≡ true → k < n) →
        ((j : ℕ) → j < n → items j ≡ others j) → ((j : ℕ) → j < n → whole j ≡ other j) → AreGroups others bounds other
    groups_alike whole other n groups none same flags k later =
        let below = none k later in
        let parts = later_parts others bounds other k later in
        let store : is_store (items k).kind ≡ true = ap (λ (item : Item). is_store item.kind) (same k below) ∙ parts.0 in
        join_moved whole other k (λ j less. same j (omega arith)) (λ j less is. flags j (omega arith))
        (groups k (later_if items bounds whole k store (flags k below ∙ parts.1)))

-- where a list has a store there is a place
pub store_below : (items : List Item) (k : ℕ) → is_store (get_or items k no_item).kind ≡ true → k < length items
store_below items k store = elim (cases_lt k (length items)) [
  | inl below ↦ below
  | inr past ↦
      let none : get_or items k no_item ≡ no_item = get_or_past items k no_item past in
      let wrong : false ≡ true = sym (ap (λ (item : Item). is_store item.kind) none) ∙ store in
      absurd (cc)
]
