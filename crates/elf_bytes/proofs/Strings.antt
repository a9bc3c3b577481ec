-- Where the first NUL of some bytes stands, and what that says of the bytes before it.
use Rattle.std.proofs.Common.{◌≡◌, ◌==◌, ℕ, suc, ◌<◌, ◌≤◌, not, List, ◌∷◌, ◌++◌, length, take, drop, get_or, Contains, Bool, true, false, Some, None, sym, ap, ◌∙◌, arith, position, drop-cons}
use Rattle.std.specs.List.{position_or_len}
use Rattle.std.proofs.lemmas.List.{take-append-drop, get_or-take, length-take-le}
use Rattle.std.proofs.lemmas.List.Quantifiers.{position-Some}
use Rattle.std.proofs.lemmas.List.Sums.{prefix_len_passes}
use Rattle.std.proofs.lemmas.Grind.{common_steps}
use borrow.Author.Tests.{tests}

abbrev is_nul : ℕ → Bool
is_nul b = b == 0

-- the string ends at a NUL
pub ended_at : (xs : List ℕ) (n : ℕ) → position is_nul xs ≡ Some n → (rest : List ℕ) × (xs ≡ take n xs ++ (0 ∷ rest))
ended_at xs n e =
    let found = position-Some is_nul xs n 0 e in
    let zero_there : get_or xs n 0 ≡ 0 = search (tests, found.1) in
    (drop (suc n) xs, sym (take-append-drop n xs) ∙ ap (λ r. take n xs ++ r) (drop-cons xs n 0 found.0 ∙ ap (λ b. b ∷ drop (suc n) xs) zero_there))

-- the string has no NUL
pub none_before : (xs : List ℕ) (n : ℕ) → position is_nul xs ≡ Some n → Contains (take n xs) 0 → ⊥
none_before xs n e (k, below, is) =
    let found = position-Some is_nul xs n 0 e in
    let short : k < n = omega (arith, length-take-le n xs) in
    let here : get_or xs k 0 ≡ 0 = sym (get_or-take n xs k 0 short) ∙ is in
    let no : true ≡ false = rw here at (found.2 k short) in
    cc

-- bytes without a string have no NUL at all
pub none_anywhere : (xs : List ℕ) → position is_nul xs ≡ None → Contains xs 0 → ⊥
none_anywhere xs e (k, below, is) =
    let past : length xs ≤ position_or_len is_nul xs = grind (arith, common_steps) in
    let no : false ≡ true = rw is at (prefix_len_passes (λ b. not (is_nul b)) xs k 0 (omega arith)) in
    cc
