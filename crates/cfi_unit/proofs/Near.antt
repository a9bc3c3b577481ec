-- A jump reaches what lies within 2 ^ 20 bytes of it, at an even distance, and a branch what lies within
-- 2 ^ 12. A branch that does not lead over a jump is a unit.
use Rattle.std.proofs.Common.{◌≡◌, ℕ, ◌+◌, ◌-◌, ◌*◌, ◌%◌, ◌^◌, ◌<◌, ◌≤◌, arith, true, false, not, inl, inr, [], ◌∷◌, sym, ap, ◌∙◌}
use Rattle.std.specs.Prelude.{nat_lt}
use Rattle.std.proofs.lemmas.Bool.{cases_lt, lt-ltb, le-ltb}
use Rattle.rv_word.specs.Bits.{wrap}
use Rattle.rv_instr.specs.declared.instr.Instr.TheVariants.{Branch}
use Rattle.rv_code.specs.Encode.{code_of}
use Rattle.rv_code.proofs.Inverse.{code_of-decoded, decoded-in_range}
use Rattle.cfi_unit.specs.Laws.{BranchBegins}
use Rattle.cfi_unit.specs.Reach.{near_to}
use Rattle.cfi_unit.specs.UnitWords.{IsNear, Reaches, instr_at, jump_offset, near_offset, skips_jump, words_of}
use Rattle.cfi_unit.proofs.LedBack.{near_back}

near_above : (from to : ℕ) → from ≤ to → to < from + 2 ^ 20 → to < 2 ^ 63 → from % 2 ≡ to % 2 → Reaches from to
near_above from to le near small even =
    let w : wrap (to + (2 ^ 64 - wrap from)) ≡ to - from = omega arith in
    let j : jump_offset from to * 2 ≡ to - from = rw w (omega arith) in
    let n : jump_offset from to * 2 % 2 ^ 21 ≡ to - from = rw j (omega arith) in
    let t : nat_lt (jump_offset from to * 2 % 2 ^ 21) (2 ^ 20) ≡ true = lt-ltb _ _ (rw n (omega arith)) in
    rw (t, n) (omega arith)

near_below : (from to : ℕ) → to < from → from ≤ to + 2 ^ 20 → from < 2 ^ 63 → from % 2 ≡ to % 2 → Reaches from to
near_below from to lt near small even =
    let w : wrap (to + (2 ^ 64 - wrap from)) ≡ to + (2 ^ 64 - from) = omega arith in
    let j : jump_offset from to * 2 ≡ 2 ^ 21 + to - from = rw w (omega arith) in
    let n : jump_offset from to * 2 % 2 ^ 21 ≡ 2 ^ 21 + to - from = rw j (omega arith) in
    let t : nat_lt (jump_offset from to * 2 % 2 ^ 21) (2 ^ 20) ≡ false = le-ltb _ _ (rw n (omega arith)) in
    rw (t, n) (omega arith)

pub near_reached : (from to : ℕ) → from < 2 ^ 63 → to < 2 ^ 63 → from % 2 ≡ to % 2 → from ≤ to + 2 ^ 20 →
    to < from + 2 ^ 20 → Reaches from to
near_reached from to f t even below above =
    elim (cases_lt to from) [
      | inl lt ↦ near_below from to lt below f even
      | inr le ↦ near_above from to le above t even
    ]

branch_above : (from to : ℕ) → from ≤ to → to < from + 2 ^ 12 → to < 2 ^ 63 → from % 2 ≡ to % 2 → IsNear from to
branch_above from to le near small even =
    let w : wrap (to + (2 ^ 64 - wrap from)) ≡ to - from = omega arith in
    let j : near_offset from to * 2 ≡ to - from = rw w (omega arith) in
    let n : near_offset from to * 2 % 2 ^ 13 ≡ to - from = rw j (omega arith) in
    let t : nat_lt (near_offset from to * 2 % 2 ^ 13) (2 ^ 12) ≡ true = lt-ltb _ _ (rw n (omega arith)) in
    rw (t, n) (omega arith)

branch_below : (from to : ℕ) → to < from → from ≤ to + 2 ^ 12 → from < 2 ^ 63 → from % 2 ≡ to % 2 → IsNear from to
branch_below from to lt near small even =
    let w : wrap (to + (2 ^ 64 - wrap from)) ≡ to + (2 ^ 64 - from) = omega arith in
    let j : near_offset from to * 2 ≡ 2 ^ 13 + to - from = rw w (omega arith) in
    let n : near_offset from to * 2 % 2 ^ 13 ≡ 2 ^ 13 + to - from = rw j (omega arith) in
    let t : nat_lt (near_offset from to * 2 % 2 ^ 13) (2 ^ 12) ≡ false = le-ltb _ _ (rw n (omega arith)) in
    rw (t, n) (omega arith)

pub branch_reached : (from to : ℕ) → from < 2 ^ 63 → to < 2 ^ 63 → from % 2 ≡ to % 2 → from ≤ to + 2 ^ 12 →
    to < from + 2 ^ 12 → IsNear from to
branch_reached from to f t even below above =
    elim (cases_lt to from) [
      | inl lt ↦ branch_below from to lt below f even
      | inr le ↦ branch_above from to le above t even
    ]

pub branch_begins : BranchBegins
unfolding words_of
branch_begins word at rs1 rs2 imm op rest small low is alone =
    let range = decoded-in_range word (Branch op rs1 rs2 imm) small is in
    let back : near_offset at (near_to at imm) ≡ imm = near_back at imm range.2 in
    record {
      fits = (range.0, range.1, ap (near_to at) back);
      words_are = ap (λ w. w ∷ []) (sym (ap (λ n. code_of (Branch op rs1 rs2 n)) back ∙ code_of-decoded word (Branch op rs1 rs2 imm) small is));
      ahead = ap (λ n. not (skips_jump n (instr_at rest 0))) back ∙ ap not alone;
    }
