-- The gates of a placement by their places: the first stands where units begin, and each next one behind the unit before it. By two
-- gates a store tells whether its unit has its whole size.
use Rattle.std.proofs.Common.{◌≡◌, ◌==◌, ℕ, zero, suc, ◌+◌, ◌-◌, ◌<◌, ◌≤◌, Bool, true, false, Option, List, [], ◌∷◌, length, map, get_or, inl, inr, refl, sym, subst, ◌∙◌, arith, lit<}
use Rattle.std.specs.Prelude.{◌&&◌, not, slice_index}
use Rattle.std.specs.List.{range_with_len}
use Rattle.std.proofs.lemmas.Bool.{and_from, and_parts, cases_Bool, eqb-true, eq-eqb, false_from_ne_true, not-true, not_from_false, or_cases, or_left, or_right}
use Rattle.std.proofs.lemmas.List.{get_or_past}
use Rattle.std.proofs.lemmas.List.FromFn.{get_or-map-range_with_len, length-map-range_with_len}
use Rattle.src_machine.proofs.Prelude.{ItemKind, Item, no_item, GraphVersion, OneLabel, TwoLabels, CalleeSaves, Entered, lead_size, in_leaf, is_short, is_store, joins_in, AreGates, is_ecall, kind_size, lean_size, size_by, size_of, whole_at, follows, is_past_whole, may_be_short}
use Rattle.obj_input.specs.declared.item_kind.ItemKind.TheVariants as is

-- the kind of a place
abbrev pub kind_in : List Item → ℕ → ItemKind
kind_in items i = (get_or items i no_item).kind

pub first_gate : (of : Entered) (whole : List Bool) (k at : ℕ) (items : List Item) (gates : List ℕ)
    → AreGates of whole k at items gates → 0 < length gates → slice_index gates 0 ≡ at
unfolding AreGates
first_gate of whole k at items [] are some = absurd (omega arith)
first_gate of whole k at [] (gate ∷ gates) are some = absurd are
first_gate of whole k at (item ∷ items) (gate ∷ gates) are some = are.0

pub next_gate : (of : Entered) (whole : List Bool) (k at : ℕ) (items : List Item) (gates : List ℕ)
    → AreGates of whole k at items gates → (i : ℕ) → suc i < length gates
    → slice_index gates (suc i) ≡ slice_index gates i + (lead_size of (k + i) + size_of of (k + i) (get_or items i no_item) (whole_at whole (k + i)))
unfolding AreGates
next_gate of whole k at items [] are i below = absurd (omega arith)
next_gate of whole k at [] (gate ∷ gates) are i below = absurd are
next_gate of whole k at (item ∷ items) (gate ∷ gates) are zero below =
    let here : k ≡ k + 0 = omega arith in
    let start : gate ≡ at = are.0 in
    let there : slice_index gates 0 ≡ at + lead_size of k + size_of of k item (whole_at whole k) =
    first_gate of whole (k + 1) _ items gates are.1 (omega arith) in
    let sum : slice_index gates 0 ≡ gate + (lead_size of k + size_of of k item (whole_at whole k)) = omega arith in
    subst (λ (n : ℕ). slice_index gates 0 ≡ gate + (lead_size of n + size_of of n item (whole_at whole n))) here sum
next_gate of whole k at (item ∷ items) (gate ∷ gates) are (suc i) below =
    let same : k + 1 + i ≡ k + suc i = omega arith in
    subst (λ (n : ℕ). slice_index gates (suc i) ≡ slice_index gates i + (lead_size of n + size_of of n (get_or items i no_item) (whole_at whole n))) same
    (next_gate of whole (k + 1) _ items gates are.1 i (omega arith))

pub are_gates : (of : Entered) (whole : List Bool) (k at : ℕ) (items : List Item) (gates : List ℕ) → length gates ≡ length items
    → (0 < length gates → slice_index gates 0 ≡ at)
    → ((i : ℕ) → suc i < length gates
    → slice_index gates (suc i) ≡ slice_index gates i + (lead_size of (k + i) + size_of of (k + i) (get_or items i no_item) (whole_at whole (k + i))))
    → AreGates of whole k at items gates
unfolding AreGates
are_gates of whole k at [] [] same first next = tt
are_gates of whole k at [] (gate ∷ gates) same first next = absurd (omega arith)
are_gates of whole k at (item ∷ items) [] same first next = absurd (omega arith)
are_gates of whole k at (item ∷ items) (gate ∷ gates) same first next = (
  first (omega arith),
  are_gates of whole (k + 1) (at + lead_size of k + size_of of k item (whole_at whole k)) items gates (omega arith)
      (λ some.
      let here : k + 0 ≡ k = omega arith in
      let start : gate ≡ at = first (omega arith) in
      let there : slice_index gates 0 ≡ gate + (lead_size of k + size_of of k item (whole_at whole k)) =
      subst (λ (n : ℕ). slice_index gates 0 ≡ gate + (lead_size of n + size_of of n item (whole_at whole n))) here (next 0 (omega arith)) in
      omega arith)
      (λ i below.
      let same_place : k + suc i ≡ k + 1 + i = omega arith in
      subst (λ (n : ℕ). slice_index gates (suc i) ≡ slice_index gates i + (lead_size of n + size_of of n (get_or items i no_item) (whole_at whole n))) same_place
      (next (suc i) (omega arith))),
)

-- a gate follows exactly where one of both sizes leads to it, of which a store's lesser one is for those that may join a group
module _ (of : Entered) (item : Item) (k before gate next : ℕ) where
  may_short : (is_store item.kind ≡ true → joins_in of k before ≡ true) → may_be_short of item.kind k before ≡ true
  may_short joins = elim (cases_Bool (is_store item.kind)) [
    | inl store ↦ or_right (not (is_store item.kind)) (joins_in of k before) (joins store)
    | inr other ↦ or_left (not (is_store item.kind)) (joins_in of k before) (not_from_false (is_store item.kind) other)
  ]

  pub follows_by : (whole : Bool) → next ≡ gate + (lead_size of k + size_of of k item whole)
      → (is_store item.kind ≡ true → whole ≡ false → joins_in of k before ≡ true) → follows of item k before gate next ≡ true
  follows_by true e joins = or_left _ _ (eq-eqb _ _ e)
  follows_by false e joins =
      or_right (is_past_whole of item k gate next) _
      (and_from (next == gate + (lead_size of k + size_of of k item false)) (may_be_short of item.kind k before) (eq-eqb _ _ e) (may_short (λ store. joins store refl)))

  -- what the lesser size says
  behind_short : is_past_whole of item k gate next ≡ false → follows of item k before gate next ≡ true
      → (next ≡ gate + (lead_size of k + size_of of k item false)) × (may_be_short of item.kind k before ≡ true)
  behind_short apart right =
      elim (or_cases (is_past_whole of item k gate next) (next == gate + (lead_size of k + size_of of k item false) && may_be_short of item.kind k before) right) [
        | inl first ↦ let wrong : false ≡ true = sym apart ∙ first in absurd (cc)
        | inr second ↦
            let both = and_parts (next == gate + (lead_size of k + size_of of k item false)) (may_be_short of item.kind k before) second in
            (eqb-true _ _ both.0, both.1)
      ]

  pub led_by : (whole : Bool) → is_past_whole of item k gate next ≡ whole → follows of item k before gate next ≡ true
      → next ≡ gate + (lead_size of k + size_of of k item whole)
  led_by true is right = eqb-true _ _ is
  led_by false is right = (behind_short is right).0

  pub joined_by : is_store item.kind ≡ true → is_past_whole of item k gate next ≡ false → follows of item k before gate next ≡ true
      → joins_in of k before ≡ true
  joined_by store is right = elim (or_cases (not (is_store item.kind)) (joins_in of k before) (behind_short is right).1) [
    | inl other ↦ let wrong : true ≡ false = sym store ∙ not-true (is_store item.kind) other in absurd (cc)
    | inr joins ↦ joins
  ]

-- a store has one word, or more where it has its whole size
store_size : (calls : Option (List ℕ)) (kind : ItemKind) (ecall : Bool) → is_store kind ≡ true → kind_size calls kind ecall false < kind_size calls kind ecall true
store_size calls is.Store ecall store = lit< tt
store_size calls other ecall store = absurd (cc)

lean_store : (calls : Option (List ℕ)) (kind : ItemKind) (ecall short inside : Bool) → is_store kind ≡ true →
    lean_size calls kind ecall short inside false < lean_size calls kind ecall short inside true
lean_store calls is.Store ecall true inside store = lit< tt
lean_store calls is.Store ecall false inside store = lit< tt
lean_store calls other ecall short inside store = absurd (cc)

store_by : (version : GraphVersion) (calls : Option (List ℕ)) (inside : Bool) (item : Item) → is_store item.kind ≡ true →
    size_by version calls inside item false < size_by version calls inside item true
store_by OneLabel calls inside item store = store_size calls item.kind (is_ecall item) store
store_by TwoLabels calls inside item store = store_size calls item.kind (is_ecall item) store
store_by CalleeSaves calls inside item store = lean_store calls item.kind (is_ecall item) (is_short item) inside store

-- by its size a store tells whether it has its whole one
pub whole_by : (of : Entered) (item : Item) (k gate next : ℕ) (whole : Bool) → is_store item.kind ≡ true
    → next ≡ gate + (lead_size of k + size_of of k item whole) → is_past_whole of item k gate next ≡ whole
whole_by of item k gate next true store e = eq-eqb _ _ e
whole_by of item k gate next false store e =
    let more : size_of of k item false < size_of of k item true = store_by of.closed.version of.closed.calls (in_leaf of k) item store in
    false_from_ne_true (is_past_whole of item k gate next)
    (λ same.
    let long : next ≡ gate + (lead_size of k + size_of of k item true) = eqb-true _ _ same in
    absurd (omega (arith, e, long, more)))

-- flags of all places but the last, which has its whole size
abbrev pub flags_to : (ℕ → Bool) → ℕ → List Bool
flags_to whole n = map whole (range_with_len 0 (n - 1))

pub flag_here : (whole : ℕ → Bool) (n i : ℕ) → suc i < n → whole_at (flags_to whole n) i ≡ whole i
flag_here whole n i below = get_or-map-range_with_len whole 0 (n - 1) i i true (omega arith) (omega arith)

pub flag_past : (whole : ℕ → Bool) (n i : ℕ) → n ≤ suc i → whole_at (flags_to whole n) i ≡ true
flag_past whole n i past =
    let size : length (flags_to whole n) ≡ n - 1 = length-map-range_with_len whole 0 (n - 1) in
    get_or_past (flags_to whole n) i true (omega arith)
