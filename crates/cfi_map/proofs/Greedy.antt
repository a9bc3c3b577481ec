-- Groups that are made from left to right: each store is a later member where it may be one.
use Rattle.std.proofs.Common.{◌≡◌, ℕ, zero, suc, ◌+◌, ◌<◌, ◌≤◌, Bool, true, false, List, [], ◌∷◌, ◌++◌, length, inl, inr, refl, sym, ap, subst, ◌∙◌, arith}
use Rattle.std.specs.Prelude.{not, if◌then◌else◌}
use Rattle.std.proofs.lemmas.Bool.{cases_lt, cond_both, not-false}
use Rattle.std.proofs.lemmas.List.{get_or_append_left, get_or_past, get_or_push, length_push}
use Rattle.cfi_map.proofs.Prelude.{Item, Program, count, item_of, no_item, Entered, AreGreedy, AreGroups, AreFirstStores, Bounds, bounds_in, is_store, joins_in, may_join, members_after, members_before, whole_at}
use Rattle.cfi_map.proofs.GroupFacts.{later_parts}

module _ (items : ℕ → Item) (bounds : Bounds) where
  -- so it is among the first places
  abbrev pub AreGreedyTo : (ℕ → Bool) → ℕ → Type 0
  AreGreedyTo whole n = (k : ℕ) → k < n → is_store (items k).kind ≡ true → whole k ≡ not (may_join items bounds k (members_before items whole k))

  -- they are groups
  pub greedy_groups : (whole : ℕ → Bool) → AreGreedy items bounds whole → AreGroups items bounds whole
  greedy_groups whole greedy k later =
      let parts = later_parts items bounds whole k later in
      not-false _ (sym (greedy k parts.0) ∙ parts.1)

  -- flags from a place on do not matter before it
  pub before_same : (whole other : ℕ → Bool) (k : ℕ) → ((j : ℕ) → j < k → whole j ≡ other j) →
      members_before items whole k ≡ members_before items other k
  unfolding members_before
  before_same whole other zero same = refl
  before_same whole other (suc k) same =
      let here = same k (omega arith) in
      let rest = before_same whole other k (λ j below. same j (omega arith)) in
      rw (here, rest) refl

  -- one place on
  pub greedy_next : (whole other : ℕ → Bool) (n : ℕ) → AreGreedyTo whole n → ((j : ℕ) → j < n → other j ≡ whole j) →
      (is_store (items n).kind ≡ true → other n ≡ not (may_join items bounds n (members_before items whole n))) →
      AreGreedyTo other (n + 1)
  greedy_next whole other n greedy same last k below store =
      let before : members_before items whole k ≡ members_before items other k =
      before_same whole other k (λ j less. sym (same j (omega arith))) in
      elim (cases_lt k n) [
        | inl less ↦ same k less ∙ greedy k less store ∙ ap (λ (m : ℕ). not (may_join items bounds k m)) before
        | inr more ↦
            let here : n ≡ k = omega arith in
            subst (λ (m : ℕ). other m ≡ not (may_join items bounds m (members_before items whole m))) here
            (last (subst (λ (m : ℕ). is_store (items m).kind ≡ true) (sym here) store))
            ∙ ap (λ (m : ℕ). not (may_join items bounds k m)) before
      ]

-- stores before a place are no more than places before it
pub before_most : (items : ℕ → Item) (whole : ℕ → Bool) (k : ℕ) → members_before items whole k ≤ k
unfolding members_before
before_most items whole zero = omega arith
before_most items whole (suc k) =
    cond_both (is_store (items k).kind) (if whole k then 1 else members_before items whole k + 1) 0 (λ (n : ℕ). n ≤ suc k)
    (λ e. cond_both (whole k) 1 (members_before items whole k + 1) (λ (n : ℕ). n ≤ suc k) (λ e. omega arith) (λ e. omega (arith, before_most items whole k)))
    (λ e. omega arith)

-- while a loop makes the flags
pub record AreFirstStoresTo (of : Entered) (k : ℕ) (flags : List Bool) (before : ℕ) : Type 0 where
  pub size : length flags ≡ k
  pub greedy : AreGreedyTo (item_of of.program) (bounds_in of) (whole_at flags) k
  pub before_is : before ≡ members_before (item_of of.program) (whole_at flags) k

pub firsts_begin : (of : Entered) (flags : List Bool) → flags ≡ [] → AreFirstStoresTo of 0 flags 0
unfolding members_before
firsts_begin of flags is = record { size = ap length is; greedy = λ k below store. absurd (omega arith); before_is = refl }

pub members_step : (items : ℕ → Item) (whole : ℕ → Bool) (k : ℕ) → members_before items whole (suc k) ≡ members_after (items k).kind (whole k) (members_before items whole k)
unfolding members_before
members_step items whole k = refl

module _ (of : Entered) (k : ℕ) (flags more : List Bool) (before after : ℕ) (lead : Bool) where
  pub firsts_more : AreFirstStoresTo of k flags before → lead ≡ not (joins_in of k before) → more ≡ flags ++ lead ∷ [] →
      after ≡ members_after (item_of of.program k).kind lead before → AreFirstStoresTo of (k + 1) more after
  firsts_more so_far is grown counted =
      let here : whole_at more k ≡ lead = ap (λ (l : List Bool). whole_at l k) grown ∙ get_or_push flags lead true k so_far.size in
      let same : (j : ℕ) → j < k → whole_at more j ≡ whole_at flags j =
      λ j below. ap (λ (l : List Bool). whole_at l j) grown ∙ get_or_append_left flags (lead ∷ []) true j (let size = so_far.size in omega arith) in
      let kept : members_before (item_of of.program) (whole_at more) k ≡ before =
      before_same (item_of of.program) (bounds_in of) (whole_at more) (whole_at flags) k same ∙ sym so_far.before_is in
      let step : suc k ≡ k + 1 = omega arith in
      record {
        size = ap length grown ∙ length_push flags lead ∙ ap (λ (n : ℕ). n + 1) so_far.size;
        greedy = greedy_next (item_of of.program) (bounds_in of) (whole_at flags) (whole_at more) k so_far.greedy same
            (λ store. here ∙ is ∙ ap (λ (n : ℕ). not (joins_in of k n)) so_far.before_is);
        before_is =
            counted
            ∙ sym (ap (λ (n : ℕ). members_before (item_of of.program) (whole_at more) n) (sym step)
            ∙ members_step (item_of of.program) (whole_at more) k
            ∙ ap (λ (b : Bool). members_after (item_of of.program k).kind b (members_before (item_of of.program) (whole_at more) k)) here
            ∙ ap (members_after (item_of of.program k).kind lead) kept);
      }

-- a place that holds a store is there
pub past_store : (program : Program) (k : ℕ) → is_store (item_of program k).kind ≡ true → k < count program
past_store program k store = elim (cases_lt k (count program)) [
  | inl below ↦ below
  | inr past ↦
      let none : item_of program k ≡ no_item = get_or_past program.items k no_item past in
      let wrong : false ≡ true = sym (ap (λ (item : Item). is_store item.kind) none) ∙ store in
      absurd (cc)
]

pub firsts_end : (of : Entered) (k : ℕ) (flags : List Bool) (before : ℕ) → count of.program ≤ k → AreFirstStoresTo of k flags before → AreFirstStores of flags
firsts_end of k flags before all is j store = let below = past_store of.program j store in is.greedy j (omega arith) store
