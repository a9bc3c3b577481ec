-- A string is told by its first bytes: those that it has, and one more.
use Rattle.std.proofs.Common.{◌≡◌, ◌==◌, ℕ, ◌+◌, ◌<◌, ◌≤◌, nat_le, Bool, true, false, if◌then◌else◌, Option, Some, None, unwrap_or, List, [], length, take, position, inl, inr, refl, ap, ◌∙◌, arith}
use Rattle.std.specs.Prelude.{IsSome}
use Rattle.std.specs.List.{position_or_len}
use Rattle.std.proofs.lemmas.Bool.{cases_lt, lt-ltb, le-ltb, le-leb, lt-leb}
use Rattle.std.proofs.lemmas.List.{get_or-take, length-take, length-take-le, take-take}
use Rattle.std.proofs.lemmas.List.Quantifiers.{position-Some}
use Rattle.std.proofs.lemmas.List.Sums.{position_or_len_is}
use Rattle.rv_word.proofs.Cases.{cases_Option}
use Rattle.elf_bytes.specs.Fields.{string_at, string_of}

abbrev is_nul : ℕ → Bool
is_nul b = b == 0

module _ (xs : List ℕ) (m n : ℕ) (first : position is_nul xs ≡ Some n) where
  short : n < m → position is_nul (take m xs) ≡ Some n
  short less =
      let found = position-Some is_nul xs n 0 first in
      let inside : n < length (take m xs) = omega (arith, length-take m xs, found.0) in
      let same : position_or_len is_nul (take m xs) ≡ n =
      position_or_len_is is_nul (take m xs) n 0 (omega arith) (λ k below. ap is_nul (get_or-take m xs k 0 (omega arith)) ∙ found.2 k below)
      (λ within. ap is_nul (get_or-take m xs n 0 less) ∙ found.1) in
      rw (same, lt-ltb n (length (take m xs)) inside) refl

  long : m ≤ n → position is_nul (take m xs) ≡ None
  long more =
      let found = position-Some is_nul xs n 0 first in
      let size : length (take m xs) ≡ m = length-take-le m xs (omega (arith, found.0)) in
      let same : position_or_len is_nul (take m xs) ≡ m =
      position_or_len_is is_nul (take m xs) m 0 (omega arith) (λ k below. ap is_nul (get_or-take m xs k 0 below) ∙ found.2 k (omega arith))
      (λ within. absurd (omega arith)) in
      rw (same, le-ltb m (length (take m xs)) (omega arith)) refl

in_front : (xs : List ℕ) (most : ℕ) → IsSome (string_of xs)
    → string_of (take (most + 1) xs) ≡ (if nat_le (length (unwrap_or (string_of xs) [])) most then Some (unwrap_or (string_of xs) []) else None)
in_front xs most there = elim (cases_Option (position is_nul xs)) [
  | inl none ↦ let no : false ≡ true = rw none at there in absurd (cc)
  | inr (n, some) ↦
      let found = position-Some is_nul xs n 0 some in
      let size : length (take n xs) ≡ n = length-take-le n xs (omega (arith, found.0)) in
      elim (cases_lt n (most + 1)) [
        | inl less ↦ rw (short xs (most + 1) n some less, some, size, le-leb n most (omega arith)) (ap Some (take-take n (most + 1) xs (omega arith)))
        | inr more ↦ rw (long xs (most + 1) n some more, some, size, lt-leb n most (omega arith)) refl
      ]
]

pub within_front : (rest front name : List ℕ) (most : ℕ) (found : Option (List ℕ)) → IsSome (string_of rest) → front ≡ take (most + 1) rest
    → found ≡ string_at front 0 → unwrap_or (string_of rest) [] ≡ name → found ≡ (if nat_le (length name) most then Some name else None)
within_front rest front name most found there part is named =
    is ∙ ap string_of part ∙ in_front rest most there ∙ ap (λ n. if nat_le (length n) most then Some n else None) named
