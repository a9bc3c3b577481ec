-- The sections of an object's input: those of the file, and behind them the table of addresses.
use Rattle.std.proofs.Common.{◌≡◌, ℕ, ◌+◌, ◌<◌, get_or, List, ◌++◌, length, map, refl, ap, ◌∙◌, arith}
use Rattle.std.proofs.lemmas.List.{get_or-map, get_or_append_left, length-append, length-map}
use Rattle.obj_items.proofs.Prelude.{e_shnum, SectionParts, no_section, section_count, section_of, own, own_input, slots, table_of, said_of, section_said_in, sections_said, input_of}
use Rattle.obj_join.specs.SaidInput as joined
use Rattle.obj_join.proofs.Listing.{length-listed, listed_at}

module _ (bytes : List ℕ) where
  -- which symbol each one is
  abbrev pub numbers : ℕ → ℕ
  numbers = own (said_of bytes).symbols

  -- a section of the file
  abbrev pub own_section : ℕ → SectionParts
  own_section k = joined.section_of numbers (said_of bytes) (section_said_in bytes k)

  abbrev pub table : List SectionParts
  table = table_of numbers (said_of bytes) (length (slots numbers (said_of bytes).sections))

  abbrev pub own_sections : List SectionParts
  own_sections = map (joined.section_of numbers (said_of bytes)) (sections_said bytes)

  own_count : length own_sections ≡ e_shnum bytes
  own_count = length-map (sections_said bytes) (joined.section_of numbers (said_of bytes)) ∙ length-listed (section_said_in bytes) (e_shnum bytes)

  pub sections_are : (input_of bytes).sections ≡ own_sections ++ table
  unfolding input_of own_input joined.input_by said_of
  sections_are = refl

  pub section_number : section_count (input_of bytes) ≡ e_shnum bytes + length table
  section_number = ap (λ (ss : List SectionParts). length ss) sections_are ∙ length-append own_sections table ∙ ap (λ (n : ℕ). n + length table) own_count

  pub section_is : (k : ℕ) → k < e_shnum bytes → section_of (input_of bytes) k ≡ own_section k
  section_is k below =
      let count = own_count in
      let said : k < length (sections_said bytes) = let size = length-listed (section_said_in bytes) (e_shnum bytes) in omega arith in
      ap (λ (ss : List SectionParts). get_or ss k no_section) sections_are
      ∙ get_or_append_left own_sections table no_section k (omega arith)
      ∙ get_or-map (joined.section_of numbers (said_of bytes)) (sections_said bytes) k (section_said_in bytes k) no_section said
      ∙ ap (joined.section_of numbers (said_of bytes)) (listed_at (section_said_in bytes) (e_shnum bytes) k (section_said_in bytes k) below)
