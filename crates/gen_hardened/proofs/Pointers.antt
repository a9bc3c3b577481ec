-- No fault of relocations stands of the table, whose relocations name the functions.
use Rattle.std.proofs.Common.{◌≡◌, ℕ, pos, zero, suc, ◌+◌, ◌*◌, ◌<◌, ◌≤◌, true, List, [], map, filter_map, Option, None, refl, ap, ◌∙◌, arith, le-ltb}
use Rattle.gen_hardened.proofs.Prelude.{Relocation, Definition, Data, kind_of, InputParts, SectionParts, section_of, is_start, low_at, kind_found, place_found, pointer_found, points_right, function_symbol, table_relocs, Line}
use Rattle.gen_hardened.proofs.Bridge.{use_by}
use Rattle.gen_hardened.proofs.Standing.{IsCode, starts}
use Rattle.gen_hardened.proofs.Transfers.{AreStarts}

-- the address of a function
abbrev pub pointer : (ℕ → Definition) → ℕ → Relocation
pointer definition j = record { offset = 8 * j; number = 2; addend = pos 0; definition = definition (function_symbol j) }

pub none_pointed : {Y : Type 0} (definition : ℕ → Definition) (f : Relocation → Option Y) (count i : ℕ)
    → ((j : ℕ) → i ≤ j → j < i + count → f (pointer definition j) ≡ None)
    → filter_map f (map (use_by definition) (table_relocs count i)) ≡ []
unfolding table_relocs
none_pointed definition f zero i none = refl
none_pointed definition f (suc count) i none =
    rw (
      none i (omega arith) (omega arith),
      none_pointed definition f count (i + 1) (λ j more less. none j (omega arith) (omega arith)),
    ) refl

module _ (definition : ℕ → Definition) (s : SectionParts) (sort : s.sort ≡ Data) (index j : ℕ) where
  pub pointer_taken : kind_found s index (pointer definition j) ≡ None
  unfolding kind_of
  pointer_taken = rw sort refl

  pub pointer_fits : 8 * j + 8 ≤ s.size → place_found s index (pointer definition j) ≡ None
  unfolding kind_of
  pointer_fits inside = rw (le-ltb s.size (8 * j + 8) inside, sort) refl

  pub pointer_no_low : (input : InputParts) → low_at input index (pointer definition j) ≡ None
  unfolding kind_of
  pointer_no_low input = refl

module _ {definition : ℕ → Definition} {n : ℕ} {ls : List Line} (input : InputParts) (index : ℕ)
    (code : IsCode definition n ls (section_of input index)) (entries : AreStarts definition n ls index) where
  -- the start of a function is a place
  start_pointed : (j : ℕ) → j < n → points_right input (definition (function_symbol j)) (pos 0) ≡ true
  start_pointed j below =
      let (t, entry, stands) = entries j below in
      let place : 4 * t + 0 ≡ 4 * t = omega arith in
      let start : is_start (section_of input index) (4 * t + 0) ≡ true =
      ap (is_start (section_of input index)) place ∙ starts code t entry in
      ap (λ d. points_right input d (pos 0)) stands ∙ rw (start, code.sort) refl

  pub pointer_right : (from j : ℕ) → j < n → pointer_found input from (pointer definition j) ≡ None
  unfolding kind_of
  pointer_right from j below = rw (start_pointed j below) refl
