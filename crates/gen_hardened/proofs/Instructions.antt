-- No fault of instructions stands of a section of code.
use Rattle.std.proofs.Common.{◌≡◌, ℕ, ◌+◌, ◌<◌, Bool, false, not, if◌then◌else◌, List, length, Some, None, refl}
use Rattle.std.proofs.lemmas.Bool.{and_right}
use Rattle.gen_hardened.proofs.Prelude.{first_below, Definition, kind_of, SectionParts, is_code, is_auipc, is_inside, word_count, is_undecodable, undecodable_word, is_reserved_at, reserved_word, some_reserved, is_wrong_auipc, wrong_auipc, high, low, jalr, lui, Line, marked, plain}
use Rattle.least.proofs.Firsts.{none_first}
use Rattle.gen_hardened.proofs.Encoded.{line}
use Rattle.gen_hardened.proofs.Spots.{Spot, first_there, high_there, low_there, plain_there, second_there}
use Rattle.gen_hardened.proofs.Standing.{IsCode, count_is, instr_is, no_pair, pair, plain_parts, uses_are}

module _ {definition : ℕ → Definition} {n : ℕ} {ls : List Line} {s : SectionParts} (code : IsCode definition n ls s) where
  pub none_in_code : (test : ℕ → Bool) → ((k : ℕ) → k < length ls → test k ≡ false)
      → (if is_code s then first_below test (word_count s) else None) ≡ None
  none_in_code test fails =
      rw (count_is code, none_first test (length ls) fails, code.sort) refl

  pub all_decoded : undecodable_word s ≡ None
  all_decoded = none_in_code (is_undecodable s) (λ k below. rw (instr_is code k (line ls k) below refl) refl)

  unnamed : (k : ℕ) (l : Line) → k < length ls → line ls k ≡ l → is_auipc (Some l.instr) ≡ false → some_reserved l.instr ≡ false
      → is_reserved_at s k ≡ false
  unnamed k l below is no_auipc free =
      rw (instr_is code k l below is, free, no_pair code k l below is no_auipc) (and_right (not (is_inside s k)) false refl)

  none_reserved : (k : ℕ) → k < length ls → Spot n ls k → is_reserved_at s k ≡ false
  unfolding some_reserved first_below
  none_reserved k below (plain_there i is good goes) =
      let parts = plain_parts i good in unnamed k (plain i) below is parts.no_auipc parts.unreserved
  none_reserved k below (high_there rd offset is good written) =
      let parts = plain_parts (lui rd) good in unnamed k (marked (lui rd) (high offset)) below is parts.no_auipc parts.unreserved
  none_reserved k below (low_there i offset is good form) =
      let parts = plain_parts i good in unnamed k (marked i (low offset)) below is parts.no_auipc parts.unreserved
  none_reserved k below (first_there j near is inside next) =
      rw (instr_is code k _ below is, instr_is code (k + 1) _ inside next, pair code k j inside is next)
      (and_right (not (is_inside s k)) false refl)
  none_reserved k below (second_there p j place first is) = unnamed k (plain (jalr 1 0 1)) below is refl refl

  pub all_free : reserved_word s ≡ None
  all_free = none_in_code (is_reserved_at s) (λ k below. none_reserved k below (code.spots k below))

  paired_right : (k : ℕ) → k < length ls → Spot n ls k → is_wrong_auipc s k ≡ false
  unfolding kind_of
  paired_right k below (plain_there i is good goes) = rw (instr_is code k _ below is, (plain_parts i good).no_auipc) refl
  paired_right k below (high_there rd offset is good written) = rw (instr_is code k _ below is) refl
  paired_right k below (low_there i offset is good form) = rw (instr_is code k _ below is, (plain_parts i good).no_auipc) refl
  paired_right k below (first_there j near is inside next) =
      let acting = uses_are code k _ below is in
      rw (instr_is code k _ below is, acting, pair code k j inside is next) refl
  paired_right k below (second_there p j place first is) = rw (instr_is code k _ below is) refl

  pub all_paired : wrong_auipc s ≡ None
  all_paired = none_in_code (is_wrong_auipc s) (λ k below. paired_right k below (code.spots k below))
