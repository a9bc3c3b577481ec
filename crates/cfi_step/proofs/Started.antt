-- What is known of each of a list's items, where the list grows by one.
use Rattle.std.proofs.Common.{◌≡◌, ℕ, ◌+◌, ◌<◌, Bool, List, [], ◌∷◌, ◌++◌, length, get_or, Some, inl, inr, sym, ap, ◌∙◌, arith}
use Rattle.std.specs.Prelude.{slice_get}
use Rattle.std.proofs.lemmas.Bool.{cases_lt}
use Rattle.std.proofs.lemmas.List.{length-append}
use Rattle.std.proofs.lemmas.Option.{get_or_from_slice_get, slice_get-get_or, slice_get_within}
use Rattle.std.proofs.Math.ListN.{get_or-append}
use Rattle.std.proofs.Math.Seq.{get_or-append_seam}

pub one_more : (f : ℕ → Bool) (xs more : List Bool) (k : ℕ) (x : Bool) → more ≡ xs ++ x ∷ [] → length xs ≡ k → x ≡ f k → ((j : ℕ) (is : Bool) → slice_get xs j ≡ Some is → is ≡ f j)
    → (j : ℕ) (is : Bool) → slice_get more j ≡ Some is → is ≡ f j
one_more f xs more k x grown count here each j is at =
    let longer : length (xs ++ x ∷ []) ≡ k + 1 = omega (arith, length-append xs (x ∷ [])) in
    let there : slice_get (xs ++ x ∷ []) j ≡ Some is = ap (λ (ys : List Bool). slice_get ys j) (sym grown) ∙ at in
    let within : j < length (xs ++ x ∷ []) = slice_get_within (xs ++ x ∷ []) j is there in
    let read : get_or (xs ++ x ∷ []) j is ≡ is = get_or_from_slice_get (xs ++ x ∷ []) j is is there in
    elim (cases_lt j k) [
      | inl inside ↦ each j is (slice_get-get_or xs j is (omega arith) ∙ ap Some (sym (get_or-append xs (x ∷ []) is j (omega arith)) ∙ read))
      | inr past ↦
          let last : j ≡ length xs = omega arith in
          let same : k ≡ j = omega arith in
          sym read ∙ ap (λ i. get_or (xs ++ x ∷ []) i is) last ∙ get_or-append_seam xs x [] is ∙ here ∙ ap f same
    ]
