-- A unit is recognised from the 21 words with which it begins and what follows it.
use Rattle.std.proofs.Common.{◌≡◌, ◌≤◌, ◌<◌, inl, inr, ℕ, zero, suc, ◌^◌, List, [], ◌∷◌, take, drop, Some, None, refl, sym, ap, subst, ◌∙◌, ◌+◌, lit<, arith}
use Rattle.std.specs.Prelude.{◌||◌, Option, IsTrue, is_none, length, nat_le, not, option_map}
use Rattle.std.proofs.lemmas.Bool.{cases_lt, le-leb}
use Rattle.std.proofs.lemmas.Option.{some_pair_parts}
use Rattle.std.proofs.lemmas.List.Elements.{All-take}
use Rattle.rv_word.proofs.Cases.{cases_Option}
use Rattle.cfi_verify.proofs.Prelude.{Mask, Shifts, Short, Long, MOST_MEMBERS, member_of, AreWords, recognised, Begins, instr_at, mask_words, may_precede, near_offset, skips_jump, word_count}
use Rattle.cfi_unit.specs.declared.unit.Unit as U
use Rattle.cfi_unit.specs.declared.unit.Unit.TheVariants as V
use Rattle.cfi_unit.proofs.Counts.{most_words}
use Rattle.cfi_unit.proofs.Found.{begins_recognised}
use Rattle.cfi_unit.proofs.Told.{recognised_begins}

take_less : (n m : ℕ) (xs : List ℕ) → n ≤ m → take n (take m xs) ≡ take n xs
take_less zero m xs below = refl
take_less (suc n) zero xs below = absurd (omega arith)
take_less (suc n) (suc m) [] below = refl
take_less (suc n) (suc m) (x ∷ xs) below = ap (λ ys. x ∷ ys) (take_less n m xs (omega arith))

-- a word of the first ones
same_word : (k m : ℕ) (ws : List ℕ) → k < m → instr_at (drop k (take m ws)) 0 ≡ instr_at (drop k ws) 0
same_word k zero ws below = absurd (omega arith)
same_word zero (suc m) [] below = refl
same_word zero (suc m) (w ∷ ws) below = refl
same_word (suc k) (suc m) [] below = refl
same_word (suc k) (suc m) (w ∷ ws) below = same_word k m ws (omega arith)

most_words_of : (mask : Mask) → mask_words mask ≤ 3
most_words_of Shifts = omega arith
most_words_of Short = omega arith
most_words_of Long = omega arith

ahead_same : (u : U.Unit) (at : ℕ) (ws : List ℕ) → may_precede u at (drop (word_count u) (take 21 ws)) ≡ may_precede u at (drop (word_count u) ws)
ahead_same (V.Near op rs1 rs2 target) at ws = ap (λ i. not (skips_jump (near_offset at target) i)) (same_word 1 21 ws (lit< tt))
ahead_same (V.Stores mask rs1 imm members) at ws =
    elim (cases_lt (length members) MOST_MEMBERS) [
      | inl fewer ↦
          let short = most_words_of mask in
          ap (λ i. nat_le MOST_MEMBERS (length members) || is_none (member_of i)) (same_word (mask_words mask + length members) 21 ws (omega arith))
      | inr all ↦ rw (le-leb MOST_MEMBERS (length members) all) refl
    ]
ahead_same _ at ws = refl

less : (ws : List ℕ) (at : ℕ) (u : U.Unit) → Begins ws at u → Begins (take 21 ws) at u
less ws at u b = record {
  fits = b.fits;
  words_are = take_less (word_count u) 21 ws (let most = most_words u at b.fits in omega arith) ∙ b.words_are;
  ahead = subst IsTrue (sym (ahead_same u at ws)) b.ahead;
}

more : (ws : List ℕ) (at : ℕ) (u : U.Unit) → Begins (take 21 ws) at u → Begins ws at u
more ws at u b = record {
  fits = b.fits;
  words_are = sym (take_less (word_count u) 21 ws (let most = most_words u at b.fits in omega arith)) ∙ b.words_are;
  ahead = subst IsTrue (ahead_same u at ws) b.ahead;
}

pub within : (ws : List ℕ) (at : ℕ) → AreWords ws → recognised (take 21 ws) at ≡ recognised ws at
within ws at words =
    elim (cases_Option (recognised ws at)) [
      | inr (u, e) ↦ begins_recognised (take 21 ws) at u (less ws at u (recognised_begins ws at u words e)) ∙ sym e
      | inl none ↦ elim (cases_Option (recognised (take 21 ws) at)) [
        | inl none_too ↦ none_too ∙ sym none
        | inr (u, e) ↦
            let b = recognised_begins (take 21 ws) at u (All-take (λ w. w < 2 ^ 32) 21 ws words) e in
            let found : recognised ws at ≡ Some u = begins_recognised ws at u (more ws at u b) in
            absurd (cc)
      ]
    ]

-- what an answer of a unit with its number of words says of the unit
pub unit_found : (o : Option U.Unit) (unit : U.Unit) (n : ℕ) → ◌≡◌ {A = Option (U.Unit × ℕ)} (Some (unit, n)) (option_map (λ u. (u, word_count u)) o) → o ≡ Some unit
unit_found None unit n e = cc
unit_found (Some u) unit n e = ap Some (sym (some_pair_parts unit u n (word_count u) e).0)

pub unit_missing : (o : Option U.Unit) → ◌≡◌ {A = Option (U.Unit × ℕ)} None (option_map (λ u. (u, word_count u)) o) → o ≡ None
unit_missing None e = refl
unit_missing (Some u) e = cc
