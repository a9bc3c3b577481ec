-- Places in their order: those before a section and an offset come first, and a place is found behind them.
use Rattle.std.proofs.Common.{◌≡◌, ◌==◌, ℕ, ◌<◌, ◌≤◌, ◌⊎◌, nat_lt, true, false, ◌&&◌, List, length, get_or, Some, None, inl, inr, refl, sym, subst, ◌∙◌, arith}
use Rattle.std.specs.List.Sorted.{IsPartitionedBy}
use Rattle.std.proofs.lemmas.Bool.{cases_eq, cases_lt, cases_order, and_parts, or_cases, or_left, or_right, eq-eqb, eqb-true, lt-ltb, ltb-true, le-ltb, false_from_ne_true}
use Rattle.std.proofs.lemmas.List.{get_or_default}
use Rattle.std.proofs.lemmas.List.Sums.{position_or_len_is}
use Rattle.obj_program.specs.declared.item.Item.{Item}
use Rattle.obj_program.specs.Program.{AreInOrder, is_before, is_spot, no_item, place_of}

pub before_cases : (i : Item) (section offset : ℕ) → is_before i section offset ≡ true
    → (i.section < section) ⊎ ((i.section ≡ section) × (i.offset < offset))
before_cases i section offset e = elim (or_cases (nat_lt i.section section) (i.section == section && nat_lt i.offset offset) e) [
  | inl less ↦ inl (ltb-true _ _ less)
  | inr same ↦ let parts = and_parts (i.section == section) (nat_lt i.offset offset) same in inr (eqb-true _ _ parts.0, ltb-true _ _ parts.1)
]

pub before_from : (i : Item) (section offset : ℕ) → (i.section < section) ⊎ ((i.section ≡ section) × (i.offset < offset))
    → is_before i section offset ≡ true
before_from i section offset (inl less) = or_left _ _ (lt-ltb _ _ less)
before_from i section offset (inr same) =
    let both : (i.section == section && nat_lt i.offset offset) ≡ true = rw (eq-eqb _ _ same.0, lt-ltb _ _ same.1) refl in
    or_right (nat_lt i.section section) (i.section == section && nat_lt i.offset offset) both

-- the order goes on from place to place
pub before_on : (i j : Item) (section offset : ℕ) → is_before i j.section j.offset ≡ true → is_before j section offset ≡ true
    → is_before i section offset ≡ true
before_on i j section offset first second = elim (before_cases i j.section j.offset first) [
  | inl less ↦ elim (before_cases j section offset second) [
    | inl more ↦ before_from i section offset (inl (omega arith))
    | inr same ↦ let at = same.0 in before_from i section offset (inl (omega arith))
  ]
  | inr here ↦ let one = here.0 in let below = here.1 in elim (before_cases j section offset second) [
    | inl more ↦ before_from i section offset (inl (omega arith))
    | inr same ↦ let at = same.0 in let on = same.1 in before_from i section offset (inr (omega arith, omega arith))
  ]
]

-- what is before a place is not there
pub not_there : (i : Item) (section offset : ℕ) → is_before i section offset ≡ true → is_spot section offset i ≡ false
not_there i section offset e =
    false_from_ne_true (is_spot section offset i)
    (λ there.
    let parts = and_parts (i.section == section) (i.offset == offset) there in
    let one = eqb-true _ _ parts.0 in
    let two = eqb-true _ _ parts.1 in
    elim (before_cases i section offset e) [ inl less ↦ omega arith | inr same ↦ let less = same.1 in omega arith ])

module _ (items : List Item) (in_order : AreInOrder items) (section offset : ℕ) where
  pub parted : IsPartitionedBy (λ (i : Item). is_before i section offset) items
  parted i j d low below holds =
      elim (cases_eq i j) [
        | inl same ↦ subst (λ (n : ℕ). is_before (get_or items n d) section offset ≡ true) (sym same) holds
        | inr other ↦
            let less : i < j = omega arith in
            let inside : i < length items = omega arith in
            subst (λ (x : Item). is_before x section offset ≡ true) (get_or_default items i no_item d inside)
            (before_on (get_or items i no_item) (get_or items j no_item) section offset (in_order i j less below)
            (subst (λ (x : Item). is_before x section offset ≡ true) (get_or_default items j d no_item below) holds))
      ]

  later : (i k : ℕ) → i < k → k < length items → is_spot section offset (get_or items i no_item) ≡ true
      → is_spot section offset (get_or items k no_item) ≡ true → ⊥
  later i k less here first second =
      let parts = and_parts ((get_or items k no_item).section == section) ((get_or items k no_item).offset == offset) second in
      let before : is_before (get_or items i no_item) section offset ≡ true =
      subst (λ (o : ℕ). is_before (get_or items i no_item) section o ≡ true) (eqb-true _ _ parts.1)
      (subst (λ (s : ℕ). is_before (get_or items i no_item) s (get_or items k no_item).offset ≡ true) (eqb-true _ _ parts.0) (in_order i k less here)) in
      let no : true ≡ false = sym first ∙ not_there (get_or items i no_item) section offset before in
      cc

  module _ (k : ℕ) (bound : k ≤ length items) (before : (i : ℕ) → i < k → is_before (get_or items i no_item) section offset ≡ true) where
    pub place_is : (d : Item) → k < length items → is_spot section offset (get_or items k d) ≡ true → Some k ≡ place_of items section offset
    place_is d below there =
        let is = position_or_len_is (is_spot section offset) items k no_item bound
        (λ i less. not_there (get_or items i no_item) section offset (before i less))
        (λ less. subst (λ (x : Item). is_spot section offset x ≡ true) (get_or_default items k d no_item below) there) in
        rw (is, lt-ltb k (length items) below) refl

    pub no_place : ((i : ℕ) → k ≤ i → i < length items → is_before (get_or items i no_item) section offset ≡ false)
        → (d : Item) → (k < length items → is_spot section offset (get_or items k d) ≡ false) → None ≡ place_of items section offset
    no_place from d other =
        let is = position_or_len_is (is_spot section offset) items (length items) no_item (omega arith)
        (λ i inside. elim (cases_lt i k) [
          | inl less ↦ not_there (get_or items i no_item) section offset (before i less)
          | inr more ↦ elim (cases_eq k i) [
            | inl same ↦ subst (λ (n : ℕ). is_spot section offset (get_or items n no_item) ≡ false) same
                (let here : k < length items = omega arith in
                subst (λ (x : Item). is_spot section offset x ≡ false) (get_or_default items k d no_item here) (other here))
            | inr past ↦ false_from_ne_true _ (λ there.
                let less : k < i = omega arith in
                let parts = and_parts ((get_or items i no_item).section == section) ((get_or items i no_item).offset == offset) there in
                let first : is_before (get_or items k no_item) section offset ≡ true =
                subst (λ (o : ℕ). is_before (get_or items k no_item) section o ≡ true) (eqb-true _ _ parts.1)
                (subst (λ (s : ℕ). is_before (get_or items k no_item) s (get_or items i no_item).offset ≡ true) (eqb-true _ _ parts.0)
                (in_order k i less inside)) in
                let no = from k (omega arith) (omega arith) in
                let clash : true ≡ false = sym first ∙ no in
                cc)
          ]
        ])
        (λ less. absurd (omega arith)) in
        rw (is, le-ltb (length items) (length items) (omega arith)) refl

  -- no other place stands where one stands
  pub spot_once : (i k : ℕ) → i < length items → k < length items → is_spot section offset (get_or items i no_item) ≡ true
      → is_spot section offset (get_or items k no_item) ≡ true → i ≡ k
  spot_once i k there here first second = elim (cases_order i k) [
    | inl same ↦ same
    | inr other ↦ elim other [
      | inl less ↦ absurd (later i k less here first second)
      | inr more ↦ absurd (later k i more there second first)
    ]
  ]
