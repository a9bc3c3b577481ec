-- No fault of relocations stands of a section of code.
use Rattle.std.proofs.Common.{◌≡◌, ℕ, ◌+◌, ◌*◌, ◌/◌, ◌<◌, true, false, not, ◌==◌, List, [], length, filter_map, Option, None, is_some, refl, sym, ap, subst, ◌∙◌, arith}
use Rattle.std.proofs.lemmas.Bool.{and_parts}
use Rattle.gen_hardened.proofs.Prelude.{Instr, Relocation, Definition, Within, kind_of, InputParts, SectionParts, is_code, section_of, single_kind, low_at, kind_found, is_i_form, place_found, pointer_found, Mark, called, function_symbol, high, low, mark, table_symbol, auipc, jalr, lui, Line, mark_at, marked, plain}
use Rattle.gen_hardened.proofs.Encoded.{line}
use Rattle.gen_hardened.proofs.Bridge.{none_found, use_by, uses_by}
use Rattle.gen_hardened.proofs.Spots.{IsPlain, Spot, first_there, high_there, is_low, is_tail, low_there, plain_there, second_there}
use Rattle.gen_hardened.proofs.Standing.{IsCode, instr_is, no_pair, pair, plain_parts, starts, uses_are}

abbrev pub use_at : (ℕ → Definition) → ℕ → Mark → Relocation
use_at definition k m = use_by definition (mark_at (4 * k) m)

-- a search finds nothing at a relocation of any line
pub record FindsNone {Y : Type 0} (definition : ℕ → Definition) (ls : List Line) (f : Relocation → Option Y) : Type 0 where
  pub highs : (k rd offset : ℕ) → k < length ls → line ls k ≡ marked (lui rd) (high offset) → not (rd == 0) ≡ true
      → f (use_at definition k (mark 26 table_symbol offset)) ≡ None
  pub lows : (k : ℕ) (i : Instr) (offset : ℕ) → k < length ls → line ls k ≡ marked i (low offset) → IsPlain i → is_low i ≡ true
      → f (use_at definition k (mark 27 table_symbol offset)) ≡ None
  pub calls : (k j : ℕ) → k + 1 < length ls → line ls k ≡ marked (auipc 1) (called j) → line ls (k + 1) ≡ plain (jalr 1 0 1)
      → f (use_at definition k (mark 19 (function_symbol j) 0)) ≡ None
  pub relaxed : (k : ℕ) → f (use_at definition k (mark 51 0 0)) ≡ None

none_here : {Y : Type 0} (definition : ℕ → Definition) (n : ℕ) (ls : List Line) (f : Relocation → Option Y) → FindsNone definition ls f
    → (k : ℕ) → k < length ls → Spot n ls k → filter_map f (uses_by definition (4 * k) (line ls k).marks) ≡ []
none_here definition n ls f none k below (plain_there i is good goes) = rw is refl
none_here definition n ls f none k below (high_there rd offset is good written) =
    rw (is, none.highs k rd offset below is written) refl
none_here definition n ls f none k below (low_there i offset is good form) = rw (is, none.lows k i offset below is good form) refl
none_here definition n ls f none k below (first_there j near is inside next) =
    rw (is, none.calls k j inside is next, none.relaxed k) refl
none_here definition n ls f none k below (second_there p j place first is) = rw is refl

module _ {definition : ℕ → Definition} {n : ℕ} {ls : List Line} {s : SectionParts} (code : IsCode definition n ls s) where
  pub none_among : {Y : Type 0} (f : Relocation → Option Y) → FindsNone definition ls f → filter_map f s.uses ≡ []
  none_among {Y} f none =
      ap (filter_map f) code.uses
      ∙ none_found definition f 0 ls (λ k place below is.
      let same : place ≡ 4 * k = omega arith in
      let P : ℕ → Type 0 = λ p. filter_map f (uses_by definition p (line ls k).marks) ≡ [] in
      subst P (sym same) (none_here definition n ls f none k below (code.spots k below)))

  -- kinds that code takes
  pub kinds_taken : (index : ℕ) → FindsNone definition ls (kind_found s index)
  unfolding kind_of
  kinds_taken index = record {
    highs = λ k rd offset below is written. rw code.sort refl;
    lows = λ k i offset below is good form. rw code.sort refl;
    calls = λ k j inside is next. rw code.sort refl;
    relaxed = λ k. rw code.sort refl;
  }

  -- no low part of a distance
  pub no_lows : (input : InputParts) (index : ℕ) → FindsNone definition ls (low_at input index)
  unfolding kind_of
  no_lows input index = record {
    highs = λ k rd offset below is written. refl;
    lows = λ k i offset below is good form. refl;
    calls = λ k j inside is next. refl;
    relaxed = λ k. refl;
  }

  -- each on its form and alone
  high_fits : (index k rd offset : ℕ) → k < length ls → line ls k ≡ marked (lui rd) (high offset) → not (rd == 0) ≡ true
      → place_found s index (use_at definition k (mark 26 table_symbol offset)) ≡ None
  unfolding kind_of
  high_fits index k rd offset below is written =
      let acting = uses_are code k (marked (lui rd) (high offset)) below is in
      let there = instr_is code k (marked (lui rd) (high offset)) below is in
      let alone = no_pair code k (marked (lui rd) (high offset)) below is refl in
      let start = starts code k (record { below = below; whole = ap (λ (l : Line). is_tail l.instr) is }) in
      let place : 4 * k / 4 ≡ k = omega arith in
      rw (acting, start, place, alone, there, written, code.sort) refl

  low_fits : (index k : ℕ) (i : Instr) (offset : ℕ) → k < length ls → line ls k ≡ marked i (low offset) → IsPlain i
      → is_low i ≡ true → place_found s index (use_at definition k (mark 27 table_symbol offset)) ≡ None
  unfolding kind_of
  low_fits index k i offset below is good form =
      let parts = plain_parts i good in
      let forms = and_parts (is_i_form i) (is_some (single_kind false i)) form in
      let acting = uses_are code k (marked i (low offset)) below is in
      let there = instr_is code k (marked i (low offset)) below is in
      let alone = no_pair code k (marked i (low offset)) below is parts.no_auipc in
      let start = starts code k (record { below = below; whole = ap (λ (l : Line). is_tail l.instr) is ∙ parts.no_tail }) in
      let place : 4 * k / 4 ≡ k = omega arith in
      rw (acting, start, place, alone, there, forms.0, code.sort) refl

  call_fits : (index k j : ℕ) → k + 1 < length ls → line ls k ≡ marked (auipc 1) (called j) → line ls (k + 1) ≡ plain (jalr 1 0 1)
      → place_found s index (use_at definition k (mark 19 (function_symbol j) 0)) ≡ None
  unfolding kind_of
  call_fits index k j inside is next =
      let below : k < length ls = omega arith in
      let acting = uses_are code k (marked (auipc 1) (called j)) below is in
      let two = pair code k j inside is next in
      let start = starts code k (record { below = below; whole = ap (λ (l : Line). is_tail l.instr) is }) in
      let place : 4 * k / 4 ≡ k = omega arith in
      rw (acting, start, place, two, code.sort) refl

  pub all_fit : (index : ℕ) → FindsNone definition ls (place_found s index)
  unfolding kind_of
  all_fit index = record { highs = high_fits index; lows = low_fits index; calls = call_fits index; relaxed = λ k. refl }

  -- addresses of the table alone are taken
  pub no_pointers : (input : InputParts) (index other at : ℕ) → definition table_symbol ≡ Within other at
      → is_code (section_of input other) ≡ false → FindsNone definition ls (pointer_found input index)
  unfolding kind_of
  no_pointers input index other at table no_code = record {
    highs = λ k rd offset below is written. rw (table, no_code) refl;
    lows = λ k i offset below is good form. rw (table, no_code) refl;
    calls = λ k j inside is next. refl;
    relaxed = λ k. refl;
  }
