-- Each transfer of a section of code has a kind, and goes to an instruction's start.
use Rattle.std.proofs.Common.{◌≡◌, ℕ, pos, ◌+◌, ◌*◌, ◌<◌, true, false, not, List, [], length, Option, Some, None, is_none, is_some, refl, ap, ◌∙◌, arith}
use Rattle.std.proofs.lemmas.Bool.{and_parts, and_right}
use Rattle.gen_hardened.proofs.Prelude.{Instr, Branch, Jal, Definition, Within, kind_of, InputParts, acting_at, section_of, at_whole, is_inside, is_start, Direct, ByBranch, ByJal, ByPair, kind_at, single_kind, aim_at, aim_of, direct_at, direct_word, goes_right, may_aim, is_wrong_transfer, wrong_transfer, is_i_form, called, function_symbol, high, low, auipc, lui, Line, marked, plain}
use Rattle.gen_hardened.proofs.Encoded.{line}
use Rattle.gen_hardened.proofs.Spots.{Goes, IsEntry, Spot, first_there, high_there, low_there, plain_there, second_there}
use Rattle.gen_hardened.proofs.Standing.{IsCode, inside, instr_is, no_pair, pair, plain_parts, starts, uses_are}
use Rattle.gen_hardened.proofs.Instructions.{none_in_code}

-- the symbol of each of `n` functions stands for a line of section `index` that may be gone to
abbrev pub AreStarts : (ℕ → Definition) → ℕ → List Line → ℕ → Type 0
AreStarts definition n ls index = (j : ℕ) → j < n → (t : ℕ) × IsEntry ls t × (definition (function_symbol j) ≡ Within index (4 * t))

some-not_none : {A : Type 0} (o : Option A) → is_some o ≡ true → is_none o ≡ false
some-not_none None some = absurd (cc)
some-not_none (Some x) some = refl

no_direct : (i : Instr) → is_i_form i ≡ true → direct_word (Some i) ≡ None
no_direct (Branch op a b imm) form = absurd (cc)
no_direct (Jal link imm) form = absurd (cc)
no_direct i form = refl

module _ {definition : ℕ → Definition} {n : ℕ} {ls : List Line} (input : InputParts) (index : ℕ)
    (code : IsCode definition n ls (section_of input index)) (entries : AreStarts definition n ls index) where
  -- without a relocation a branch goes by its own offset
  straight : (k : ℕ) (direct : Option Direct) → acting_at (section_of input index) (4 * k) ≡ [] → Goes ls k direct
      → goes_right input index k direct ≡ true
  unfolding aim_at
  straight k None none goes = refl
  straight k (Some (ByBranch z)) none (t, entry, place) =
      rw none (ap (at_whole (is_start (section_of input index))) place ∙ starts code t entry)
  straight k (Some (ByJal z)) none goes = absurd goes
  straight k (Some ByPair) none goes = absurd goes

  by_call : (k j : ℕ) → j < n → k < length ls → line ls k ≡ marked (auipc 1) (called j)
      → goes_right input index k (Some ByPair) ≡ true
  unfolding aim_at kind_of
  by_call k j near below is =
      let (t, entry, stands) = entries j near in
      let place : 4 * t + 0 ≡ 4 * t = omega arith in
      rw (uses_are code k _ below is)
      (ap (λ d. may_aim input (aim_of d (pos 0))) stands ∙ ap (is_start (section_of input index)) place ∙ starts code t entry)

  -- it has a kind, and goes where it may
  goes_well : (k : ℕ) → is_none (kind_at (section_of input index) k) ≡ false
      → goes_right input index k (direct_at (section_of input index) k) ≡ true
      → is_wrong_transfer input index k ≡ false
  goes_well k kind right = rw (kind, right) (and_right (not (is_inside (section_of input index) k)) false refl)

  right_transfer : (k : ℕ) → k < length ls → Spot n ls k → is_wrong_transfer input index k ≡ false
  unfolding kind_at direct_at kind_of
  right_transfer k below (plain_there i is good goes) =
      let parts = plain_parts i good in
      let acting = uses_are code k (plain i) below is in
      let there = instr_is code k (plain i) below is in
      let alone = no_pair code k (plain i) below is parts.no_auipc in
      goes_well k (rw (alone, acting, there) (some-not_none (single_kind true i) parts.kind))
      (rw (alone, there) (straight k (direct_word (Some i)) acting goes))
  right_transfer k below (high_there rd offset is good written) =
      let there = instr_is code k (marked (lui rd) (high offset)) below is in
      let acting = uses_are code k (marked (lui rd) (high offset)) below is in
      let alone = no_pair code k (marked (lui rd) (high offset)) below is refl in
      goes_well k (rw (alone, acting, there) refl) (rw (alone, there) refl)
  right_transfer k below (low_there i offset is good form) =
      let parts = plain_parts i good in
      let forms = and_parts (is_i_form i) (is_some (single_kind false i)) form in
      let there = instr_is code k (marked i (low offset)) below is in
      let acting = uses_are code k (marked i (low offset)) below is in
      let alone = no_pair code k (marked i (low offset)) below is parts.no_auipc in
      goes_well k (rw (alone, acting, there) (some-not_none (single_kind false i) forms.1))
      (rw (alone, there, no_direct i forms.0) refl)
  right_transfer k below (first_there j near is inside next) =
      let two = pair code k j inside is next in
      goes_well k (rw (two, instr_is code (k + 1) _ inside next) refl) (rw two (by_call k j near below is))
  right_transfer k below (second_there p j place first is) =
      rw (inside code k p j below place first is) refl

  pub all_right : wrong_transfer input index ≡ None
  all_right = none_in_code code (is_wrong_transfer input index) (λ k below. right_transfer k below (code.spots k below))
