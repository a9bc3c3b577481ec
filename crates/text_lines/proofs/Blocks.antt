-- A search that goes past blocks in which nothing passes.
use Rattle.std.proofs.Common.{◌≡◌, ℕ, ◌+◌, ◌-◌, ◌≤◌, Bool, false, List, [], ◌∷◌, ◌++◌, length, take, drop, position, refl, sym, ◌∙◌, ap, inl, inr, arith}
use Rattle.std.specs.List.{list_any, position_or_len}
use Rattle.std.specs.Option.{option_map}
use Rattle.std.proofs.Math.Seq.{take-add}
use Rattle.std.proofs.lemmas.Bool.{cases_Bool, cases_lt, le-ltb, lt-ltb}
use Rattle.std.proofs.lemmas.List.{length-append, length-take, take-append-drop, take_rest}
use Rattle.std.proofs.lemmas.List.Folds.{list_any-append}

module _ (p : ℕ → Bool) where
  -- one block more has nothing that passes
  pub block_passed : (bytes : List ℕ) (start size : ℕ) → list_any p (take start bytes) ≡ false → list_any p (take (start + size - start) (drop start bytes)) ≡ false → list_any p (take (start + size) bytes) ≡ false
  block_passed bytes start size before block =
      let e : start + size - start ≡ size = omega arith in
      rw (take-add start size bytes, list_any-append p (take start bytes) (take size (drop start bytes)), before) (ap (λ n. list_any p (take n (drop start bytes))) (sym e) ∙ block)

  all_before : (xs ys : List ℕ) → list_any p xs ≡ false → position_or_len p (xs ++ ys) ≡ length xs + position_or_len p ys
  all_before [] ys none = omega arith
  all_before (x ∷ xs) ys none =
      elim (cases_Bool (p x)) [
        | inl passes ↦ absurd (cc (rw passes at none))
        | inr fails ↦ let rest = all_before xs ys (rw fails at none) in rw (fails, rest) (omega arith)
      ]

  found_after-append : (xs ys : List ℕ) → list_any p xs ≡ false → position p (xs ++ ys) ≡ option_map (λ k. length xs + k) (position p ys)
  found_after-append xs ys none =
      let at = all_before xs ys none in
      let n : ℕ = position_or_len p ys in
      elim (cases_lt n (length ys)) [
        | inl low ↦ rw (at, length-append xs ys, lt-ltb (length xs + n) (length xs + length ys) (omega arith), lt-ltb n (length ys) low) refl
        | inr high ↦ rw (at, length-append xs ys, le-ltb (length xs + n) (length xs + length ys) (omega arith), le-ltb n (length ys) high) refl
      ]

  -- where nothing passes before `start`, the first that passes is the first of the rest
  pub found_after : (bytes : List ℕ) (start : ℕ) → start ≤ length bytes → list_any p (take start bytes) ≡ false → position p bytes ≡ option_map (λ k. start + k) (position p (take (length bytes - start) (drop start bytes)))
  found_after bytes start within none =
      let size : length (take start bytes) ≡ start = omega (arith, length-take start bytes) in
      ap (position p) (sym (take-append-drop start bytes)) ∙ found_after-append (take start bytes) (drop start bytes) none ∙ ap (λ s. option_map (λ k. s + k) (position p (drop start bytes))) size ∙ ap (λ rest. option_map (λ k. start + k) (position p rest)) (sym (take_rest bytes start))
