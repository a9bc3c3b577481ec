-- Bytes of which none is found that is not zero.
use Rattle.std.proofs.Common.{◌≡◌, ◌==◌, ℕ, suc, ◌+◌, ◌-◌, ◌≤◌, nat_lt, not, List, [], ◌∷◌, length, take, drop, replicate, Bool, false, None, inl, inr, refl, ap, ◌∙◌, arith}
use Rattle.std.specs.List.{position_or_len}
use Rattle.std.proofs.lemmas.Bool.Decides.{eqb_tells}
use Rattle.std.proofs.lemmas.Grind.{common_steps}
use Rattle.std.proofs.lemmas.List.{length-replicate, length-take-le, length-drop}
use Rattle.std.proofs.lemmas.List.Folds.{prefix_len-replicate}
use borrow.Author.Tests.{le-ltb}
use Rattle.elf_image.specs.Spelling.{zeros}
use Rattle.elf_image.specs.Fault.{first_nonzero}

abbrev is_set : ℕ → Bool
is_set b = not (b == 0)

-- bytes that begin with as many zeros as they are
all_zero : (xs : List ℕ) → length xs ≤ position_or_len is_set xs → xs ≡ replicate (length xs) 0
all_zero [] h = refl
all_zero (x ∷ xs) h = elim (eqb_tells x 0) [
  | inl same ↦
      let more : suc (length xs) ≤ 1 + position_or_len is_set xs = rw same.0 at h in
      let rest = all_zero xs (omega arith) in
      rw same.1 (ap (λ ys. 0 ∷ ys) rest)
  | inr other ↦ let few : suc (length xs) ≤ 0 = rw other.0 at h in absurd (omega arith)
]

-- where none is found, all are zero
pub zeros_there : (bytes : List ℕ) (from to : ℕ) → from ≤ to → to ≤ length bytes → first_nonzero bytes from to ≡ None
    → take (to - from) (drop from bytes) ≡ zeros (to - from)
unfolding first_nonzero zeros
zeros_there bytes from to order inside e =
    let xs = take (to - from) (drop from bytes) in
    let past : length xs ≤ position_or_len is_set xs = grind (arith, common_steps) in
    let long : length xs ≡ to - from = length-take-le (to - from) (drop from bytes) (omega (arith, length-drop from bytes)) in
    all_zero xs past ∙ ap (λ n. replicate n 0) long

-- and none is found in zeros
pub none_in_zeros : (bytes : List ℕ) (from to : ℕ) → take (to - from) (drop from bytes) ≡ zeros (to - from)
    → first_nonzero bytes from to ≡ None
unfolding first_nonzero zeros
none_in_zeros bytes from to e =
    let count = prefix_len-replicate (λ b. not (is_set b)) (to - from) 0 refl in
    let none_below : nat_lt (to - from) (to - from) ≡ false = le-ltb _ _ (omega arith) in
    let long : length (zeros (to - from)) ≡ to - from = length-replicate {A = ℕ} (to - from) 0 in
    rw (e, count, long, none_below) refl
