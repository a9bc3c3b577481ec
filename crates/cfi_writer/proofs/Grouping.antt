-- The groups of stores of a choice: which places are later stores, how many follow a place, and that the stores from a place on to the
-- last that follows are a group.
use Rattle.std.proofs.Common.{◌≡◌, ℕ, zero, suc, ◌+◌, ◌-◌, ◌<◌, ◌≤◌, true, false, inl, inr, refl, sym, subst, ap, ◌∙◌, arith}
use Rattle.std.proofs.lemmas.Bool.{cases_Bool, cases_lt}
use Rattle.std.proofs.lemmas.List.{get_or_past}
use Rattle.cfi_writer.proofs.Prelude.{count, item_of, no_item, AreGroups, is_store, members_before, whole_at, Choice, behind, bounds_at, followers, is_later_at, later_from}
use Rattle.cfi_map.proofs.GroupFacts.{IsGroup, Joins, joins, later_if, later_parts, none_at_start, none_before}

-- a later store is one, without its whole size, and there is a place with it
pub later_store : (m : Choice) (k : ℕ) → is_later_at m k ≡ true → (is_store (item_of m.layout.program k).kind ≡ true) × (whole_at m.whole k ≡ false)
later_store m k later = later_parts (item_of m.layout.program) (bounds_at m) (whole_at m.whole) k later

pub later_below : (m : Choice) (k : ℕ) → is_later_at m k ≡ true → k < count m.layout.program
later_below m k later =
    elim (cases_lt k (count m.layout.program)) [
      | inl below ↦ below
      | inr past ↦
          let none = get_or_past m.layout.program.items k no_item past in
          let wrong : false ≡ true = sym (ap (λ i. is_store i.kind) none) ∙ (later_store m k later).0 in
          absurd (cc)
    ]

-- a store that is none of these has its whole size
pub whole_first : (m : Choice) (k : ℕ) → is_store (item_of m.layout.program k).kind ≡ true → is_later_at m k ≡ false → whole_at m.whole k ≡ true
whole_first m k store first =
    elim (cases_Bool (whole_at m.whole k)) [
      | inl whole ↦ whole
      | inr less ↦
          let wrong : false ≡ true = sym first ∙ later_if (item_of m.layout.program) (bounds_at m) (whole_at m.whole) k store less in
          absurd (cc)
    ]

pub other_first : (m : Choice) (k : ℕ) → is_store (item_of m.layout.program k).kind ≡ false → is_later_at m k ≡ false
other_first m k other =
    elim (cases_Bool (is_later_at m k)) [
      | inl later ↦ let wrong : false ≡ true = sym other ∙ (later_store m k later).0 in absurd (cc)
      | inr first ↦ first
    ]

-- how many follow
followers_none : (m : Choice) (k n : ℕ) → is_later_at m k ≡ false → followers m k n ≡ 0
unfolding followers
followers_none m k zero first = refl
followers_none m k (suc n) first = rw first refl

followers_more : (m : Choice) (k n : ℕ) → is_later_at m k ≡ true → followers m k (suc n) ≡ suc (followers m (k + 1) n)
unfolding followers
followers_more m k n later = rw later refl

pub none_later : (m : Choice) (k : ℕ) → is_later_at m k ≡ false → later_from m k ≡ 0
none_later m k first = followers_none m k (count m.layout.program - k) first

pub one_later : (m : Choice) (k : ℕ) → is_later_at m k ≡ true → later_from m k ≡ suc (later_from m (k + 1))
one_later m k later =
    let below = later_below m k later in
    let left : count m.layout.program - k ≡ suc (count m.layout.program - (k + 1)) = omega arith in
    ap (followers m k) left ∙ followers_more m k (count m.layout.program - (k + 1)) later

followed : (m : Choice) (k n i : ℕ) → i < followers m k n → is_later_at m (k + i) ≡ true
unfolding followers
followed m k zero i less = absurd (omega arith)
followed m k (suc n) i less =
    elim (cases_Bool (is_later_at m k)) [
      | inr first ↦ let none = followers_none m k (suc n) first in absurd (omega arith)
      | inl later ↦
          elim (cases_lt 0 i) [
            | inr start ↦ let here : k ≡ k + i = omega arith in subst (λ (j : ℕ). is_later_at m j ≡ true) here later
            | inl some ↦
                let more = followers_more m k n later in
                let next : k + 1 + (i - 1) ≡ k + i = omega arith in
                subst (λ (j : ℕ). is_later_at m j ≡ true) next (followed m (k + 1) n (i - 1) (omega arith))
          ]
    ]

-- each of them is a later store, and the place behind the last is none
pub later_behind : (m : Choice) (k i : ℕ) → 1 ≤ i → i ≤ behind m k → is_later_at m (k + i) ≡ true
later_behind m k i some most =
    let next : k + 1 + (i - 1) ≡ k + i = omega arith in
    subst (λ (j : ℕ). is_later_at m j ≡ true) next (followed m (k + 1) (count m.layout.program - (k + 1)) (i - 1) (omega arith))

stops : (m : Choice) (k n : ℕ) → n ≡ count m.layout.program - k → is_later_at m (k + followers m k n) ≡ false
unfolding followers
stops m k zero left =
    elim (cases_Bool (is_later_at m (k + 0))) [
      | inr first ↦ first
      | inl later ↦ let below = later_below m (k + 0) later in absurd (omega arith)
    ]
stops m k (suc n) left =
    elim (cases_Bool (is_later_at m k)) [
      | inr first ↦
          let here : k ≡ k + followers m k (suc n) = let none = followers_none m k (suc n) first in omega arith in
          subst (λ (j : ℕ). is_later_at m j ≡ false) here first
      | inl later ↦
          let more = followers_more m k n later in
          let next : k + 1 + followers m (k + 1) n ≡ k + followers m k (suc n) = omega arith in
          subst (λ (j : ℕ). is_later_at m j ≡ false) next (stops m (k + 1) n (omega arith))
    ]

pub first_behind : (m : Choice) (k : ℕ) → is_later_at m (k + (behind m k + 1)) ≡ false
first_behind m k =
    let here : k + 1 + behind m k ≡ k + (behind m k + 1) = omega arith in
    subst (λ (j : ℕ). is_later_at m j ≡ false) here (stops m (k + 1) (count m.layout.program - (k + 1)) refl)

-- a store with those that follow it
pub group_there : (m : Choice) (k : ℕ) → is_store (item_of m.layout.program k).kind ≡ true → is_later_at m k ≡ false →
    IsGroup (item_of m.layout.program) (whole_at m.whole) k (behind m k + 1)
group_there m k store first = record {
  stores = λ i less. elim (cases_lt 0 i) [
    | inl some ↦ (later_store m (k + i) (later_behind m k i (omega arith) (omega arith))).0
    | inr start ↦ let here : k ≡ k + i = omega arith in subst (λ (j : ℕ). is_store (item_of m.layout.program j).kind ≡ true) here store
  ];
  first = whole_first m k store first;
  others = λ i some less. (later_store m (k + i) (later_behind m k i some (omega arith))).1;
}

module _ (m : Choice) (groups : AreGroups (item_of m.layout.program) (bounds_at m) (whole_at m.whole)) where
  pub later_joins : (k : ℕ) → is_later_at m k ≡ true → Joins (item_of m.layout.program) (bounds_at m) (whole_at m.whole) k (members_before (item_of m.layout.program) (whole_at m.whole) k)
  later_joins k later = joins (item_of m.layout.program) (bounds_at m) (whole_at m.whole) k _ (groups k later)

  -- what is entered is no later store
  pub entered_first : (k : ℕ) → (bounds_at m).entered k ≡ true → is_later_at m k ≡ false
  entered_first k entered =
      elim (cases_Bool (is_later_at m k)) [
        | inr first ↦ first
        | inl later ↦ let wrong : false ≡ true = sym (later_joins k later).free ∙ entered in absurd (cc)
      ]

  -- before a later store stands a store
  pub store_before : (k : ℕ) → is_later_at m (suc k) ≡ true → is_store (item_of m.layout.program k).kind ≡ true
  store_before k later =
      elim (cases_Bool (is_store (item_of m.layout.program k).kind)) [
        | inl store ↦ store
        | inr other ↦
            let some = (later_joins (suc k) later).some in
            let none = none_before (item_of m.layout.program) (bounds_at m) (whole_at m.whole) k other in
            absurd (omega arith)
      ]

  pub no_first_later : is_later_at m 0 ≡ false
  no_first_later =
      elim (cases_Bool (is_later_at m 0)) [
        | inr first ↦ first
        | inl later ↦
            let some = (later_joins 0 later).some in
            let none = none_at_start (item_of m.layout.program) (bounds_at m) (whole_at m.whole) in
            absurd (omega arith)
      ]

  -- none follows what is no store
  pub none_behind : (k : ℕ) → is_store (item_of m.layout.program k).kind ≡ false → behind m k ≡ 0
  none_behind k other =
      elim (cases_Bool (is_later_at m (k + 1))) [
        | inr first ↦ none_later m (k + 1) first
        | inl later ↦
            let next : k + 1 ≡ suc k = omega arith in
            let store = store_before k (subst (λ (j : ℕ). is_later_at m j ≡ true) next later) in
            let wrong : false ≡ true = sym other ∙ store in
            absurd (cc)
      ]

  -- so the place behind has a unit of its own
  pub first_after : (k : ℕ) → is_store (item_of m.layout.program k).kind ≡ false → is_later_at m (k + 1) ≡ false
  first_after k other =
      elim (cases_Bool (is_later_at m (k + 1))) [
        | inr first ↦ first
        | inl later ↦
            let some = one_later m (k + 1) later in
            let none = none_behind k other in
            absurd (omega arith)
      ]
