-- Members of classes and the labels of these: the class that has a place, and the number of a site's class.
use Rattle.std.proofs.Common.{◌≡◌, ℕ, zero, suc, ◌+◌, ◌/◌, ◌^◌, ◌≤◌, ◌<◌, ◌==◌, inl, inr, true, List, [], ◌∷◌, length, map, Option, Some, None, refl, ap, ◌∙◌, arith, Contains, filter}
use Rattle.std.specs.Prelude.{slice_get, slice_index}
use Rattle.std.specs.List.Sorted.{IsStrictlyIncreasing}
use Rattle.std.proofs.lemmas.Bool.{cases_Bool, cases_order, eq-eqb, eqb-true, or_cases}
use Rattle.std.proofs.lemmas.Option.{get_or_from_slice_get, same_Some, slice_get_within}
use Rattle.cfi_writer.proofs.Prelude.{Item, has, Site, is_gate, empty_classes, label_at, next_after, number, site_number, with_empty}
use Rattle.cfi_map.proofs.ByGate.{rises}

-- a class has what its list contains
pub has_in : (class : List ℕ) (k : ℕ) → has k class ≡ true → Contains class k
has_in [] k e = absurd (cc)
has_in (x ∷ class) k e =
    elim (or_cases (x == k) (has k class) e) [
      | inl here ↦ (0, omega arith, eqb-true x k here)
      | inr later ↦ let rest = has_in class k later in let below = rest.1 in (suc rest.0, omega arith, rest.2)
    ]

-- a label of a place is that of a class that has it
pub record HasLabel (labels : List ℕ) (classes : List (List ℕ)) (k label : ℕ) : Type 0 where
  pub index : ℕ
  pub class : List ℕ
  pub label_is : slice_get labels index ≡ Some label
  pub class_is : slice_get classes index ≡ Some class
  pub member : has k class ≡ true

pub labelled : (labels : List ℕ) (classes : List (List ℕ)) (k label : ℕ) → label_at labels classes k ≡ Some label → HasLabel labels classes k label
unfolding label_at
labelled [] [] k label e = absurd (cc)
labelled (l ∷ labels) [] k label e = absurd (cc)
labelled [] (c ∷ classes) k label e = absurd (cc)
labelled (l ∷ labels) (c ∷ classes) k label e =
    elim (cases_Bool (has k c)) [
      | inl here ↦
          let same : Some l ≡ Some label = rw here at e in
          record { index = 0; class = c; label_is = same; class_is = refl; member = here }
      | inr other ↦
          let past : label_at labels classes k ≡ Some label = rw other at e in
          let rest = labelled labels classes k label past in
          record { index = suc rest.index; class = rest.class; label_is = rest.label_is; class_is = rest.class_is; member = rest.member }
    ]

-- and that of the one class that has it
pub label_found : (labels : List ℕ) (classes : List (List ℕ)) (j k label : ℕ) (class : List ℕ) → slice_get labels j ≡ Some label → slice_get classes j ≡ Some class →
    has k class ≡ true → ((i : ℕ) (other : List ℕ) → slice_get classes i ≡ Some other → has k other ≡ true → i ≡ j) → label_at labels classes k ≡ Some label
unfolding label_at
label_found [] [] j k label class label_is class_is member alone = absurd (cc)
label_found (l ∷ labels) [] j k label class label_is class_is member alone = absurd (cc)
label_found [] (c ∷ classes) j k label class label_is class_is member alone = absurd (cc)
label_found (l ∷ labels) (c ∷ classes) zero k label class label_is class_is member alone =
    let here : has k c ≡ true = ap (has k) (same_Some c class class_is) ∙ member in
    rw here label_is
label_found (l ∷ labels) (c ∷ classes) (suc j) k label class label_is class_is member alone =
    elim (cases_Bool (has k c)) [
      | inl here ↦ let wrong : 0 ≡ suc j = alone 0 c refl here in absurd (omega arith)
      | inr other ↦ rw other (label_found labels classes j k label class label_is class_is member (λ i one get there. let same : suc i ≡ suc j = alone (suc i) one get there in omega arith))
    ]

-- the number of a site's class is one of a class
first_number : (o : Option ℕ) (sites : List Site) (next classes : ℕ) → classes ≤ next → ((c : ℕ) → o ≡ Some c → c < classes) →
    number o next < next + length (with_empty o (empty_classes sites))
first_number None sites next classes low inside = omega arith
first_number (Some c) sites next classes low inside = let below = inside c refl in omega arith

later_number : (o : Option ℕ) (sites : List Site) (next n : ℕ) → n < next_after o next + length (empty_classes sites) →
    n < next + length (with_empty o (empty_classes sites))
later_number None sites next n less = omega arith
later_number (Some c) sites next n less = less

low_after : (o : Option ℕ) (next : ℕ) → next ≤ next_after o next
low_after None next = omega arith
low_after (Some c) next = omega arith

pub site_below : (sites : List Site) (next k classes : ℕ) → classes ≤ next →
    ((i c : ℕ) (site : Site) → slice_get sites i ≡ Some site → site.class ≡ Some c → c < classes) →
    (i : ℕ) (site : Site) → slice_get sites i ≡ Some site → site.place ≡ k → site_number sites next k < next + length (empty_classes sites)
unfolding site_number empty_classes
site_below [] next k classes low inside i site get at = absurd (cc)
site_below (s ∷ sites) next k classes low inside zero site get at =
    let same : s.place ≡ k = ap (λ (x : Site). x.place) (same_Some s site get) ∙ at in
    rw (eq-eqb s.place k same) (first_number s.class sites next classes low (λ c e. inside 0 c s refl e))
site_below (s ∷ sites) next k classes low inside (suc i) site get at =
    elim (cases_Bool (s.place == k)) [
      | inl here ↦ rw here (first_number s.class sites next classes low (λ c e. inside 0 c s refl e))
      | inr other ↦
          let after = low_after s.class next in
          rw other (later_number s.class sites next (site_number sites (next_after s.class next) k)
          (site_below sites (next_after s.class next) k classes (omega arith) (λ j c one there. inside (suc j) c one there) i site get at))
    ]

-- so no label is given twice
pub label_once : (labels : List ℕ) → IsStrictlyIncreasing labels → (i j label : ℕ) → slice_get labels i ≡ Some label → slice_get labels j ≡ Some label → i ≡ j
label_once labels rising i j label first second =
    let a : slice_index labels i ≡ label = get_or_from_slice_get labels i label 0 first in
    let b : slice_index labels j ≡ label = get_or_from_slice_get labels j label 0 second in
    let below_i = slice_get_within labels i label first in
    let below_j = slice_get_within labels j label second in
    elim (cases_order i j) [
      | inl same ↦ same
      | inr other ↦ elim other [
        | inl before ↦ let less = rises labels rising i j before below_j in absurd (omega arith)
        | inr behind ↦ let less = rises labels rising j i behind below_i in absurd (omega arith)
      ]
    ]

-- the numbers that a program has for itself
pub used_in : (items : List Item) (i : ℕ) (item : Item) → slice_get items i ≡ Some item → is_gate item.kind ≡ true →
    Contains (map (λ (x : Item). x.word / 2 ^ 12) (filter (λ (x : Item). is_gate x.kind) items)) (item.word / 2 ^ 12)
used_in [] i item get gate = absurd (cc)
used_in (x ∷ items) zero item get gate =
    let same : x ≡ item = same_Some x item get in
    let here : is_gate x.kind ≡ true = ap (λ (y : Item). is_gate y.kind) same ∙ gate in
    rw here (0, omega arith, ap (λ (y : Item). y.word / 2 ^ 12) same)
used_in (x ∷ items) (suc i) item get gate =
    let later = used_in items i item get gate in
    elim (cases_Bool (is_gate x.kind)) [
      | inl here ↦ rw here (let below = later.1 in (suc later.0, omega arith, later.2))
      | inr other ↦ rw other later
    ]
