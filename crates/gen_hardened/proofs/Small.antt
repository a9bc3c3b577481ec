-- The functions that are drawn reach into the first megabytes of the table alone.
use Rattle.std.proofs.Common.{ℕ, zero, suc, ◌+◌, ◌%◌, ◌^◌, ◌<◌, ◌≤◌, ◌==◌, List, [], ◌∷◌, inl, inr, arith}
use Rattle.std.proofs.lemmas.Bool.{cases_Bool}
use Rattle.gen_hardened.proofs.Prelude.{Function, Shape, Table, are_near, drawn, function_at, functions_from, next, shape_of}

-- it reads the address of a function whose number is small, if of any
abbrev pub IsSmallShape : Shape → Type 0
IsSmallShape (Table j) = j < 2 ^ 20
IsSmallShape other = Unit {0}

abbrev pub AreSmall : List Function → Type 0
AreSmall [] = Unit {0}
AreSmall (f ∷ fs) = IsSmallShape f.shape × AreSmall fs

small_shape : (i k j : ℕ) → j < 2 ^ 20 → IsSmallShape (shape_of i k j)
unfolding shape_of
small_shape i k j small = elim (cases_Bool (k == 3)) [
  | inl skip ↦ rw skip tt
  | inr other ↦ elim (cases_Bool (are_near i j)) [
    | inr far ↦ rw (other, far) tt
    | inl near ↦ elim (cases_Bool (k == 1)) [
      | inl call ↦ rw (other, near, call) tt
      | inr not_call ↦ elim (cases_Bool (k == 2)) [
        | inl table ↦ rw (other, near, not_call, table) small
        | inr leaf ↦ rw (other, near, not_call, leaf) tt
      ]
    ]
  ]
]

small_function : (i s : ℕ) → i + 9 ≤ 2 ^ 20 → IsSmallShape (function_at i s).shape
unfolding function_at
small_function i s below = small_shape i (drawn (next s) % 4) (i + 1 + drawn (next (next s)) % 8) (omega arith)

pub small_functions : (count i s : ℕ) → i + count + 8 ≤ 2 ^ 20 → AreSmall (functions_from count i s)
unfolding functions_from
small_functions zero i s most = tt
small_functions (suc count) i s most =
    (small_function i s (omega arith), small_functions count (i + 1) (next (next (next s))) (omega arith))
