-- The label of a place's class by the class's index.
use Rattle.std.proofs.Common.{◌≡◌, ℕ, suc, ◌+◌, true, false, Some, None, List, [], ◌∷◌, refl, inl, inr, length, arith, ap, ◌∙◌}
use Rattle.std.specs.Prelude.{option_and_then, slice_get}
use Rattle.std.specs.List.{position_or_len}
use Rattle.std.proofs.lemmas.Bool.{cases_Bool, cases_lt, lt-ltb, le-ltb}
use Rattle.cfi_class.specs.Classes.{class_with, has}
use Rattle.cfi_map.specs.LabelOf.{label_at}

none_found : (classes : List (List ℕ)) (k : ℕ) → option_and_then {U = ℕ} (slice_get []) (class_with classes k) ≡ None
none_found classes k = elim (cases_lt (position_or_len (has k) classes) (length classes)) [
  | inl less ↦ rw (lt-ltb _ _ less) refl
  | inr past ↦ rw (le-ltb _ _ past) refl
]

next_found : (label : ℕ) (labels : List ℕ) (class : List ℕ) (classes : List (List ℕ)) (k : ℕ) → has k class ≡ false
    → option_and_then (slice_get (label ∷ labels)) (class_with (class ∷ classes) k) ≡ option_and_then (slice_get labels) (class_with classes k)
next_found label labels class classes k e =
    elim (cases_lt (position_or_len (has k) classes) (length classes)) [
      | inl less ↦ rw (e, lt-ltb (1 + position_or_len (has k) classes) (length (class ∷ classes)) (omega arith), lt-ltb _ _ less)
          (let same : 1 + position_or_len (has k) classes ≡ suc (position_or_len (has k) classes) = omega arith in ap (slice_get (label ∷ labels)) same)
      | inr past ↦ rw (e, le-ltb (1 + position_or_len (has k) classes) (length (class ∷ classes)) (omega arith), le-ltb _ _ past) refl
    ]

first_found : (label : ℕ) (labels : List ℕ) (class : List ℕ) (classes : List (List ℕ)) (k : ℕ) → has k class ≡ true
    → option_and_then (slice_get (label ∷ labels)) (class_with (class ∷ classes) k) ≡ Some label
first_found label labels class classes k e = rw (e, lt-ltb 0 (length (class ∷ classes)) (omega arith)) refl

pub label_found : (labels : List ℕ) (classes : List (List ℕ)) (k : ℕ)
    → option_and_then (slice_get labels) (class_with classes k) ≡ label_at labels classes k
unfolding label_at
label_found [] [] k = refl
label_found (label ∷ labels) [] k = refl
label_found [] (class ∷ classes) k = none_found (class ∷ classes) k
label_found (label ∷ labels) (class ∷ classes) k = elim (cases_Bool (has k class)) [
  | inl e ↦ first_found label labels class classes k e ∙ rw e refl
  | inr e ↦ next_found label labels class classes k e ∙ rw e (label_found labels classes k)
]

pub found_at : (labels : List ℕ) (classes : List (List ℕ)) (k class : ℕ) → class_with classes k ≡ Some class
    → slice_get labels class ≡ label_at labels classes k
found_at labels classes k class e = let found = label_found labels classes k in rw e at found

pub found_nowhere : (labels : List ℕ) (classes : List (List ℕ)) (k : ℕ) → class_with classes k ≡ None → None ≡ label_at labels classes k
found_nowhere labels classes k e = let found = label_found labels classes k in rw e at found
