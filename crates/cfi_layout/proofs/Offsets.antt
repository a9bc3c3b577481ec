-- Where parts start, as the sum of the sizes before them; what lies between two parts only grows.
use Rattle.std.proofs.Common.{◌≡◌, ℕ, zero, suc, ◌+◌, ◌-◌, ◌<◌, ◌≤◌, Bool, true, List, [], ◌∷◌, length, get_or, refl, ◌∙◌, arith, add-one, if◌then◌else◌, inl, inr}
use Rattle.std.specs.Prelude.{sum}
use Rattle.std.proofs.Math.ListN.{get_or-eq_default}
use Rattle.std.proofs.lemmas.Bool.{cases_Bool, cases_lt}
use Rattle.std.proofs.lemmas.List.Sums.{sum_by-cons}
use Rattle.cfi_layout.specs.Starts.{starts_from}
use Rattle.cfi_layout.specs.LongSet.{sizes_where}

-- how many bytes the first k parts have
abbrev pub offset : List ℕ → ℕ → ℕ
offset sizes zero = 0
offset [] (suc k) = 0
offset (size ∷ sizes) (suc k) = size + offset sizes k

pub start_is : (at : ℕ) (sizes : List ℕ) (k : ℕ) → k ≤ length sizes → get_or (starts_from at sizes) k 0 ≡ at + offset sizes k
unfolding starts_from
start_is at [] zero le = omega arith
start_is at [] (suc k) le = absurd (omega arith)
start_is at (size ∷ sizes) zero le = omega arith
start_is at (size ∷ sizes) (suc k) le = start_is (at + size) sizes k (omega arith) ∙ omega arith

pub length_starts : (at : ℕ) (sizes : List ℕ) → length (starts_from at sizes) ≡ length sizes + 1
unfolding starts_from
length_starts at [] = refl
length_starts at (size ∷ sizes) = let e = length_starts (at + size) sizes in omega arith

pub offset_more : (sizes : List ℕ) (k : ℕ) → k < length sizes → offset sizes (k + 1) ≡ offset sizes k + get_or sizes k 0
offset_more [] k lt = absurd (omega arith)
offset_more (size ∷ sizes) zero lt = omega arith
offset_more (size ∷ sizes) (suc k) lt = let h = rw add-one at (offset_more sizes k (omega arith)) in rw add-one (omega arith)

pub offset_rises : (sizes : List ℕ) (i j : ℕ) → i ≤ j → offset sizes i ≤ offset sizes j
offset_rises sizes zero j le = omega arith
offset_rises sizes (suc i) zero le = absurd (omega arith)
offset_rises [] (suc i) (suc j) le = omega arith
offset_rises (size ∷ sizes) (suc i) (suc j) le = let h = offset_rises sizes i j (omega arith) in omega arith

pub offset_most : (sizes : List ℕ) (k : ℕ) → offset sizes k ≤ sum sizes
offset_most sizes zero = omega arith
offset_most [] (suc k) = omega arith
offset_most (size ∷ sizes) (suc k) = omega (arith, offset_most sizes k, sum_by-cons (λ (x : ℕ). x) size sizes)

-- each size of the first list is at most that of the second
abbrev pub AreBelow : List ℕ → List ℕ → Type 0
AreBelow [] ys = Unit {0}
AreBelow (x ∷ xs) [] = ⊥
AreBelow (x ∷ xs) (y ∷ ys) = (x ≤ y) × AreBelow xs ys

pub spread : (xs ys : List ℕ) (i j : ℕ) → i ≤ j → AreBelow xs ys → length xs ≡ length ys → offset xs j + offset ys i ≤ offset ys j + offset xs i
spread xs ys zero zero le below same = omega arith
spread xs ys (suc i) zero le below same = absurd (omega arith)
spread [] [] zero (suc j) le below same = omega arith
spread [] [] (suc i) (suc j) le below same = omega arith
spread [] (y ∷ ys) i (suc j) le below same = absurd (omega arith)
spread (x ∷ xs) [] i (suc j) le below same = absurd below
spread (x ∷ xs) (y ∷ ys) zero (suc j) le below same = let h = spread xs ys zero j (omega arith) below.1 (omega arith) in omega (arith, h, below.0)
spread (x ∷ xs) (y ∷ ys) (suc i) (suc j) le below same = let h = spread xs ys i j (omega arith) below.1 (omega arith) in omega (arith, h, below.0)

pub sum_below : (xs ys : List ℕ) → AreBelow xs ys → sum xs ≤ sum ys
sum_below [] ys below = omega arith
sum_below (x ∷ xs) [] below = absurd below
sum_below (x ∷ xs) (y ∷ ys) below =
    omega (arith, sum_below xs ys below.1, below.0, sum_by-cons (λ (n : ℕ). n) x xs, sum_by-cons (λ (n : ℕ). n) y ys)

-- sizes where some parts have one word less
pub length_where : (whole : ℕ → Bool) (k : ℕ) (sizes : List ℕ) → length (sizes_where whole k sizes) ≡ length sizes
unfolding sizes_where
length_where whole k [] = refl
length_where whole k (size ∷ sizes) = let e = length_where whole (k + 1) sizes in omega arith

pub size_where : (whole : ℕ → Bool) (k : ℕ) (sizes : List ℕ) (i : ℕ) → i < length sizes →
    get_or (sizes_where whole k sizes) i 0 ≡ (if whole (k + i) then get_or sizes i 0 else get_or sizes i 0 - 4)
unfolding sizes_where
size_where whole k [] i lt = absurd (omega arith)
size_where whole k (size ∷ sizes) zero lt = let e : k + 0 ≡ k = omega arith in rw e refl
size_where whole k (size ∷ sizes) (suc i) lt =
    let e : k + 1 + i ≡ k + suc i = omega arith in
    size_where whole (k + 1) sizes i (omega arith) ∙ rw e refl

pub same_where : (whole other : ℕ → Bool) (k : ℕ) (sizes : List ℕ) → ((m : ℕ) → whole m ≡ other m) → sizes_where whole k sizes ≡ sizes_where other k sizes
unfolding sizes_where
same_where whole other k [] same = refl
same_where whole other k (size ∷ sizes) same = rw (same k, same_where whole other (k + 1) sizes same) refl

pub below_where : (whole other : ℕ → Bool) (k : ℕ) (sizes : List ℕ) → ((m : ℕ) → whole m ≡ true → other m ≡ true) →
    AreBelow (sizes_where whole k sizes) (sizes_where other k sizes)
unfolding sizes_where
below_where whole other k [] more = tt
below_where whole other k (size ∷ sizes) more = (
  elim (cases_Bool (whole k)) [
    | inl yes_whole ↦ rw (yes_whole, more k yes_whole) (omega arith)
    | inr no_whole ↦ rw no_whole (elim (cases_Bool (other k)) [ inl yes_other ↦ rw yes_other (omega arith) | inr no_other ↦ rw no_other (omega arith) ])
  ],
  below_where whole other (k + 1) sizes more,
)

pub sum_where : (whole : ℕ → Bool) (k : ℕ) (sizes : List ℕ) → sum (sizes_where whole k sizes) ≤ sum sizes
unfolding sizes_where
sum_where whole k [] = omega arith
sum_where whole k (size ∷ sizes) =
    let rest = sum_where whole (k + 1) sizes in
    let e = sum_by-cons (λ (x : ℕ). x) size sizes in
    elim (cases_Bool (whole k)) [
      | inl yes_whole ↦ rw yes_whole (omega (arith, e, rest, sum_by-cons (λ (x : ℕ). x) size (sizes_where whole (k + 1) sizes)))
      | inr no_whole ↦ rw no_whole (omega (arith, e, rest, sum_by-cons (λ (x : ℕ). x) (size - 4) (sizes_where whole (k + 1) sizes)))
    ]

-- no start is beyond the end
pub start_most : (at : ℕ) (sizes : List ℕ) (k : ℕ) → get_or (starts_from at sizes) k 0 ≤ at + sum sizes
start_most at sizes k = elim (cases_lt k (length sizes + 1)) [
  | inl there ↦ omega (arith, start_is at sizes k (omega arith), offset_most sizes k)
  | inr past ↦ let none : length (starts_from at sizes) ≤ k = omega (arith, length_starts at sizes) in let e = get_or-eq_default (starts_from at sizes) 0 none in omega (arith, e)
]
