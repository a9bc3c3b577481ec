-- Where the labels of each side begin, and the labels of a side among all.
use Rattle.std.proofs.Common.{◌≡◌, ℕ, zero, suc, ◌+◌, ◌-◌, ◌<◌, ◌≤◌, List, [], ◌∷◌, ◌++◌, length, length-append, map, drop, Some, get_or, refl, sym, ap, ◌∙◌, arith, add-one, inl, inr}
use Rattle.std.specs.Prelude.{slice_get, slice_index}
use Rattle.std.proofs.lemmas.Bool.{cases_lt}
use Rattle.std.proofs.Math.Seq.{get_or-append_seam}
use Rattle.std.proofs.lemmas.List.{get_or_append_left, length-drop, length-map}
use Rattle.std.proofs.lemmas.Option.{slice_get-get_or}
use Rattle.cfi_writer.proofs.Prelude.{Side, all_classes, class_count, tag, tagged, AreStarts, labels_before}

pub before_first : (sides : List Side) → labels_before sides 0 ≡ 0
unfolding labels_before
before_first [] = refl
before_first (side ∷ sides) = refl

next_before : (sides : List Side) (j : ℕ) (side : Side) → slice_get sides j ≡ Some side → labels_before sides (suc j) ≡ labels_before sides j + class_count side
unfolding labels_before
next_before [] j side there = absurd (cc)
next_before (s ∷ sides) zero side there =
    let same : class_count s ≡ class_count side = cc in
    omega (arith, same, before_first sides)
next_before (s ∷ sides) (suc j) side there = omega (arith, next_before sides j side there)

pub before_next : (sides : List Side) (j : ℕ) (side : Side) → slice_get sides j ≡ Some side → labels_before sides (j + 1) ≡ labels_before sides j + class_count side
before_next sides j side there = rw add-one (next_before sides j side there)

before_rises : (sides : List Side) (j : ℕ) → labels_before sides j ≤ labels_before sides (suc j)
unfolding labels_before
before_rises [] j = omega arith
before_rises (side ∷ sides) zero = omega arith
before_rises (side ∷ sides) (suc j) = omega (arith, before_rises sides j)

-- after the last side all are counted
pub before_all : (sides : List Side) → labels_before sides (length sides) ≡ length (tagged sides)
unfolding labels_before tagged
before_all [] = refl
before_all (side ∷ sides) =
    omega (arith, before_all sides, length-append (map (tag side.sort) (all_classes side)) (tagged sides), length-map (all_classes side) (tag side.sort))

pub before_few : (sides : List Side) (j : ℕ) → labels_before sides j ≤ length (tagged sides)
unfolding labels_before tagged
before_few [] j = omega arith
before_few (side ∷ sides) zero = omega arith
before_few (side ∷ sides) (suc j) =
    omega (arith, before_few sides j, length-append (map (tag side.sort) (all_classes side)) (tagged sides), length-map (all_classes side) (tag side.sort))

pub counted_at : (sides : List Side) (j : ℕ) (side : Side) → slice_get sides j ≡ Some side → labels_before sides j + class_count side ≤ length (tagged sides)
counted_at sides j side there = omega (arith, before_next sides j side there, before_few sides (j + 1))

-- a number more in a table of starts
pub next_start : (sides : List Side) (starts more : List ℕ) (j next : ℕ) → more ≡ starts ++ next ∷ [] → length starts ≡ j → next ≡ labels_before sides j →
    ((i : ℕ) → i < j → slice_index starts i ≡ labels_before sides i) → (i : ℕ) → i < j + 1 → slice_index more i ≡ labels_before sides i
next_start sides starts more j next is many here each i below =
    elim (cases_lt i j) [
      | inl earlier ↦
          let inside : i < length starts = omega (arith, many, earlier) in
          ap (λ (xs : List ℕ). slice_index xs i) is ∙ get_or_append_left starts (next ∷ []) 0 i inside ∙ each i earlier
      | inr last ↦
          let at : i ≡ length starts = omega (arith, many, last, below) in
          ap (λ (xs : List ℕ). slice_index xs i) is ∙ ap (slice_index (starts ++ next ∷ [])) at ∙ get_or-append_seam starts next [] 0 ∙ here
          ∙ ap (labels_before sides) (sym (at ∙ many))
    ]

-- the side with an index, as a call shows it
pub side_there : (shown sides : List Side) (j : ℕ) (side : Side) → shown ≡ sides → j < length sides → side ≡ get_or shown j side → slice_get sides j ≡ Some side
side_there shown sides j side same below is =
    slice_get-get_or sides j side below ∙ ap Some (sym (is ∙ ap (λ (xs : List Side). get_or xs j side) same))

-- the same while a loop goes from the last side to the first
pub side_before : (shown sides : List Side) (j : ℕ) (side : Side) → shown ≡ sides → 0 < j → j ≤ length shown → side ≡ get_or shown (j - 1) side →
    (j - 1 < length sides) × (slice_get sides (j - 1) ≡ Some side)
side_before shown sides j side same some most is =
    let below : j - 1 < length sides = omega (arith, ap length same, some, most) in
    (below, side_there shown sides (j - 1) side same below is)

-- a start that is kept, and the next one
module _ (sides : List Side) (starts : List ℕ) (are : AreStarts sides starts) (j : ℕ) (below : j < length sides) where
  pub start_at : slice_index starts j ≡ labels_before sides j
  start_at = are.each j (omega (arith, below))

  pub start_few : slice_index starts j ≤ length (tagged sides)
  start_few = omega (arith, start_at, before_few sides j)

  pub starts_rise : slice_index starts j ≤ slice_index starts (j + 1)
  starts_rise =
      let next = are.each (j + 1) (omega (arith, below)) in
      let more : labels_before sides j ≤ labels_before sides (j + 1) = rw add-one (before_rises sides j) in
      omega (arith, start_at, next, more)

  module _ (side : Side) (there : slice_get sides j ≡ Some side) where
    pub start_after : slice_index starts (j + 1) ≡ labels_before sides j + class_count side
    start_after = are.each (j + 1) (omega (arith, below)) ∙ before_next sides j side there

    pub count_is : slice_index starts (j + 1) - slice_index starts j ≡ class_count side
    count_is = omega (arith, start_at, start_after)

-- labels from an index on are enough for a side
pub enough_behind : (sides : List Side) (labels : List ℕ) (j : ℕ) (side : Side) → length labels ≡ length (tagged sides) → slice_get sides j ≡ Some side →
    class_count side ≤ length (drop (labels_before sides j) labels)
enough_behind sides labels j side counted there = omega (arith, counted, counted_at sides j side there, length-drop (labels_before sides j) labels)
