-- Bytes that are written over others in a list.
use Rattle.std.proofs.Common.{◌≡◌, ℕ, ◌+◌, ◌-◌, ◌≤◌, List, ◌++◌, length, get_or, take, drop, refl, ap, ◌∙◌, arith, inl, inr, length-append, length-drop}
use Rattle.std.proofs.lemmas.Bool.{cases_lt}
use Rattle.std.proofs.lemmas.Bool.Decides.{nat_tests}
use Rattle.std.proofs.lemmas.List.{get_or-take, get_or-drop, get_or-append_right, length-take-le, take-append-le, take_all}
use Rattle.std.proofs.Math.ListN.{get_or-append}
use Rattle.std.proofs.Math.Path.{fun_ext}
use Rattle.rv_word.specs.Memory.{placed}
use Rattle.rv_mem.specs.Pages.{bytes_in}

over_byte : (old bytes : List ℕ) (at k : ℕ) → at + length bytes ≤ length old →
    get_or (take at old ++ (bytes ++ drop (length bytes) (drop at old))) k 0 ≡ placed (bytes_in old) at bytes k
unfolding placed
over_byte old bytes at k fits =
    let front : length (take at old) ≡ at = length-take-le at old (omega arith) in
    elim (cases_lt k at) [
      | inl below ↦ get_or-append (take at old) (bytes ++ drop (length bytes) (drop at old)) 0 k (omega arith) ∙ grind (arith, nat_tests, get_or-take {A = ℕ})
      | inr past ↦ get_or-append_right (take at old) (bytes ++ drop (length bytes) (drop at old)) at k 0 front past ∙
          elim (cases_lt (k - at) (length bytes)) [
            | inl inside ↦ get_or-append bytes (drop (length bytes) (drop at old)) 0 (k - at) inside ∙ grind (arith, nat_tests)
            | inr after ↦
                let place : at + (length bytes + (k - at - length bytes)) ≡ k = omega arith in
                get_or-append_right bytes (drop (length bytes) (drop at old)) (length bytes) (k - at) 0 refl after
                ∙ get_or-drop (length bytes) (drop at old) (k - at - length bytes) 0 ∙ get_or-drop at old (length bytes + (k - at - length bytes)) 0
                ∙ ap (λ (j : ℕ). get_or old j 0) place ∙ grind (arith, nat_tests)
          ]
    ]

-- a part of a list that was written back whole
pub over : (old bytes rest : List ℕ) (at n len : ℕ) → length old ≡ n → at + length bytes ≤ n → len ≡ length bytes →
    bytes_in (take n ((take at old ++ (bytes ++ drop len (drop at old))) ++ rest)) ≡ placed (bytes_in old) at bytes
over old bytes rest at n len whole fits long =
    let front : length (take at old) ≡ at = length-take-le at old (omega arith) in
    let new : List ℕ = take at old ++ (bytes ++ drop (length bytes) (drop at old)) in
    let size : length new ≡ n = omega (arith, length-append (take at old) (bytes ++ drop (length bytes) (drop at old)), length-append bytes (drop (length bytes) (drop at old)), length-drop (length bytes) (drop at old), length-drop at old) in
    let most : n ≤ length new = omega arith in
    rw long (fun_ext (λ k. ap (λ (xs : List ℕ). get_or xs k 0) (take-append-le n new rest most ∙ take_all n new (omega arith)) ∙ over_byte old bytes at k (omega arith)))
