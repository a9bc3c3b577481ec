-- What stands at each line of the program: a plain instruction, one with a part of an address, or a word of a call.
use Rattle.std.proofs.Common.{◌≡◌, ℕ, pos, ◌+◌, ◌-◌, ◌*◌, ◌<◌, ◌+ℤ◌, Bool, true, false, not, ◌&&◌, ◌==◌, List, ◌++◌, length, Option, Some, None, is_some, inl, inr, sym, ap, subst, ◌∙◌, arith, length-append}
use Rattle.std.proofs.lemmas.Bool.{cases_lt}
use Rattle.std.proofs.lemmas.List.{get_or-append-add, get_or_append_left}
use Rattle.gen_hardened.proofs.Prelude.{IsInstr, Instr, Jalr, is_auipc, Direct, ByBranch, single_kind, some_reserved, direct_word, is_i_form, auipc, jalr, lui, called, high, low, Line, marked, plain}
use Rattle.gen_hardened.proofs.Encoded.{line, no_line}

-- the second word of a call
abbrev pub is_tail : Instr → Bool
is_tail (Jalr link base imm) = link == 1 && base == 1
is_tail other = false

-- it names no reserved register, has a kind, and is no word of a call
abbrev pub is_plain : Instr → Bool
is_plain i = not (some_reserved i) && (is_some (single_kind true i) && (not (is_auipc (Some i)) && not (is_tail i)))

pub record IsPlain (i : Instr) : Type 0 where
  pub range : IsInstr i
  pub free : is_plain i ≡ true

-- it takes the low part of an address
abbrev pub is_low : Instr → Bool
is_low i = is_i_form i && is_some (single_kind false i)

-- a transfer may go to the line at `t`
pub record IsEntry (ls : List Line) (t : ℕ) : Type 0 where
  pub below : t < length ls
  pub whole : is_tail (line ls t).instr ≡ false

-- a branch from the line at `k` goes to such a line, and there is no other direct transfer
abbrev pub Goes : List Line → ℕ → Option Direct → Type 0
Goes ls k None = Unit {0}
Goes ls k (Some (ByBranch z)) = (t : ℕ) × IsEntry ls t × (pos (4 * k) +ℤ z ≡ pos (4 * t))
Goes ls k (Some other) = ⊥

-- calls go to one of `n` functions
pub data Spot (n : ℕ) (ls : List Line) (k : ℕ) : Type 0 where
  plain_there : (i : Instr) → line ls k ≡ plain i → IsPlain i → Goes ls k (direct_word (Some i)) → Spot n ls k
  high_there : (rd offset : ℕ) → line ls k ≡ marked (lui rd) (high offset) → IsPlain (lui rd) → not (rd == 0) ≡ true → Spot n ls k
  low_there : (i : Instr) (offset : ℕ) → line ls k ≡ marked i (low offset) → IsPlain i → is_low i ≡ true → Spot n ls k
  first_there : (j : ℕ) → j < n → line ls k ≡ marked (auipc 1) (called j) → k + 1 < length ls → line ls (k + 1) ≡ plain (jalr 1 0 1)
      → Spot n ls k
  second_there : (p j : ℕ) → k ≡ p + 1 → line ls p ≡ marked (auipc 1) (called j) → line ls k ≡ plain (jalr 1 0 1) → Spot n ls k

-- a part of the lines
module _ (n : ℕ) (ls front b back : List Line) (whole : ls ≡ front ++ (b ++ back)) where
  pub part_line : (k : ℕ) → k < length b → line ls (length front + k) ≡ line b k
  part_line k below =
      ap (λ xs. line xs (length front + k)) whole ∙ get_or-append-add front (b ++ back) k no_line
      ∙ get_or_append_left b back no_line k below

  pub part_below : (k : ℕ) → k < length b → length front + k < length ls
  part_below k below =
      omega (arith, ap length whole, length-append front (b ++ back), length-append b back)

  pub part_entry : (k : ℕ) → k < length b → is_tail (line b k).instr ≡ false → IsEntry ls (length front + k)
  part_entry k below no_tail =
      record { below = part_below k below; whole = ap (λ (l : Line). is_tail l.instr) (part_line k below) ∙ no_tail }

  pub at_plain : (k : ℕ) (i : Instr) → k < length b → line b k ≡ plain i → IsInstr i → is_plain i ≡ true
      → Goes ls (length front + k) (direct_word (Some i)) → Spot n ls (length front + k)
  at_plain k i below is range free goes = plain_there i (part_line k below ∙ is) (record { range = range; free = free }) goes

  pub at_high : (k rd offset : ℕ) → k < length b → line b k ≡ marked (lui rd) (high offset) → IsInstr (lui rd)
      → is_plain (lui rd) ≡ true → not (rd == 0) ≡ true → Spot n ls (length front + k)
  at_high k rd offset below is range free written =
      high_there rd offset (part_line k below ∙ is) (record { range = range; free = free }) written

  pub at_low : (k : ℕ) (i : Instr) (offset : ℕ) → k < length b → line b k ≡ marked i (low offset) → IsInstr i → is_plain i ≡ true
      → is_low i ≡ true → Spot n ls (length front + k)
  at_low k i offset below is range free form =
      low_there i offset (part_line k below ∙ is) (record { range = range; free = free }) form

  pub at_first : (k j : ℕ) → j < n → k + 1 < length b → line b k ≡ marked (auipc 1) (called j) → line b (k + 1) ≡ plain (jalr 1 0 1)
      → Spot n ls (length front + k)
  at_first k j near below is next =
      let place : length front + (k + 1) ≡ length front + k + 1 = omega arith in
      first_there j near (part_line k (omega arith) ∙ is) (omega (arith, part_below (k + 1) below))
      (ap (line ls) (sym place) ∙ part_line (k + 1) below ∙ next)

  pub at_second : (k j : ℕ) → k + 1 < length b → line b k ≡ marked (auipc 1) (called j) → line b (k + 1) ≡ plain (jalr 1 0 1)
      → Spot n ls (length front + (k + 1))
  at_second k j below is next =
      second_there (length front + k) j (omega arith) (part_line k (omega arith) ∙ is) (part_line (k + 1) below ∙ next)

-- what stands at each line of a part that begins at line `at`
abbrev pub SpotsAt : ℕ → List Line → ℕ → List Line → Type 0
SpotsAt n ls at b = (k : ℕ) → k < length b → Spot n ls (at + k)

pub spots_joined : (n : ℕ) (ls : List Line) (at : ℕ) (a b : List Line) → SpotsAt n ls at a → SpotsAt n ls (at + length a) b
    → SpotsAt n ls at (a ++ b)
spots_joined n ls at a b first second k below = elim (cases_lt k (length a)) [
  | inl inside ↦ first k inside
  | inr past ↦
      let i = k - length a in
      let place : at + length a + i ≡ at + k = omega arith in
      subst (λ j. Spot n ls j) place (second i (omega (arith, length-append a b)))
]
