-- The functions that are drawn are as many as asked for, and call none past their end.
use Rattle.std.proofs.Common.{◌≡◌, ℕ, zero, suc, ◌+◌, ◌/◌, ◌%◌, ◌^◌, ◌<◌, ◌≤◌, ◌==◌, List, [], ◌∷◌, inl, inr, arith, eqb-true}
use Rattle.std.proofs.lemmas.Bool.{cases_Bool}
use Rattle.gen_hardened.proofs.Prelude.{Function, Shape, Call, are_near, drawn, function_at, functions_from, next, shape_of}

-- it calls one of `n` functions
abbrev pub IsNearShape : ℕ → Shape → Type 0
IsNearShape n (Call j) = j < n
IsNearShape n other = Unit {0}

pub record IsNear (n : ℕ) (f : Function) : Type 0 where
  pub amount : f.amount < 2 ^ 12
  pub shape : IsNearShape n f.shape

abbrev pub AreNear : ℕ → List Function → Type 0
AreNear n [] = Unit {0}
AreNear n (f ∷ fs) = IsNear n f × AreNear n fs

-- functions of one block of fifty lie below the same multiple of fifty
in_block : (n i j : ℕ) → n % 50 ≡ 0 → i < n → i / 50 ≡ j / 50 → j < n
in_block n i j whole below same = omega arith

near_shape : (n i k j : ℕ) → n % 50 ≡ 0 → i < n → IsNearShape n (shape_of i k j)
unfolding shape_of
near_shape n i k j whole below = elim (cases_Bool (k == 3)) [
  | inl skip ↦ rw skip tt
  | inr other ↦ elim (cases_Bool (are_near i j)) [
    | inr far ↦ rw (other, far) tt
    | inl near ↦ elim (cases_Bool (k == 1)) [
      | inl call ↦ rw (other, near, call) (in_block n i j whole below (eqb-true (i / 50) (j / 50) near))
      | inr not_call ↦ elim (cases_Bool (k == 2)) [
        | inl table ↦ rw (other, near, not_call, table) tt
        | inr leaf ↦ rw (other, near, not_call, leaf) tt
      ]
    ]
  ]
]

near_function : (n i s : ℕ) → n % 50 ≡ 0 → i < n → IsNear n (function_at i s)
unfolding function_at
near_function n i s whole below =
    record { amount = omega arith; shape = near_shape n i (drawn (next s) % 4) (i + 1 + drawn (next (next s)) % 8) whole below }

pub near_functions : (n count i s : ℕ) → n % 50 ≡ 0 → i + count ≤ n → AreNear n (functions_from count i s)
unfolding functions_from
near_functions n zero i s whole most = tt
near_functions n (suc count) i s whole most =
    (near_function n i s whole (omega arith), near_functions n count (i + 1) (next (next (next s))) whole (omega arith))
