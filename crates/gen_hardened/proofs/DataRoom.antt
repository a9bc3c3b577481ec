-- The data of a generated object are its table, which stands where data begin, and have room.
use Rattle.std.proofs.Common.{◌≡◌, ◌≢◌, ℕ, zero, suc, ◌+◌, false, List, [], length, inl, inr, refl, ap, ◌∙◌, arith}
use Rattle.std.proofs.lemmas.Bool.{cases_eq}
use Rattle.gen_hardened.proofs.Prelude.{DATA_START, Block, Code, Data, InputParts, SectionParts, is_code, is_code_sort, is_data_sort, is_zeros_sort, section_count, section_of, blocks_reach, data_end, init_end, reach, section_address, zeros_end, init_below, program_of, Function, table_bytes, IsGenerated, HasDataRoom}
use Rattle.cfi_gen.proofs.Writing.{length-table}

module _ {fs : List Function} {input : InputParts} (g : IsGenerated fs input) where
  text_sort : (section_of input 1).sort ≡ Code
  text_sort = ap (λ (s : SectionParts). s.sort) g.text

  pub table_sort : (section_of input 2).sort ≡ Data
  table_sort = ap (λ (s : SectionParts). s.sort) g.table

  -- section 1 alone is code, section 2 alone is data with bytes, and none is data without
  pub no_code : (k : ℕ) → k ≢ 1 → is_code (section_of input k) ≡ false
  no_code k other = elim (cases_eq k 2) [
    | inl two ↦ ap (λ j. is_code (section_of input j)) two ∙ ap is_code_sort table_sort
    | inr third ↦ ap is_code_sort (g.dropped k other third)
  ]

  pub no_data : (k : ℕ) → k ≢ 2 → is_data_sort (section_of input k).sort ≡ false
  no_data k other = elim (cases_eq k 1) [
    | inl one ↦ ap (λ j. is_data_sort (section_of input j).sort) one ∙ ap is_data_sort text_sort
    | inr third ↦ ap is_data_sort (g.dropped k third other)
  ]

  no_zeros : (k : ℕ) → is_zeros_sort (section_of input k).sort ≡ false
  no_zeros k = elim (cases_eq k 1) [
    | inl one ↦ ap (λ j. is_zeros_sort (section_of input j).sort) one ∙ ap is_zeros_sort text_sort
    | inr third ↦ elim (cases_eq k 2) [
      | inl two ↦ ap (λ j. is_zeros_sort (section_of input j).sort) two ∙ ap is_zeros_sort table_sort
      | inr other ↦ ap is_zeros_sort (g.dropped k third other)
    ]
  ]

  -- sections without data take no room
  zeros_reach : (start n : ℕ) → reach input is_zeros_sort start n ≡ start
  unfolding reach
  zeros_reach start zero = refl
  zeros_reach start (suc n) = rw (no_zeros n) (zeros_reach start n)

  abbrev data_reach : ℕ → ℕ
  data_reach n = reach input is_data_sort DATA_START n

  passed : (k : ℕ) → k ≢ 2 → data_reach (suc k) ≡ data_reach k
  unfolding reach
  passed k other = rw (no_data k other) refl

  before_table : data_reach 2 ≡ DATA_START
  unfolding reach
  before_table = passed 1 (λ same. absurd (omega arith)) ∙ passed 0 (λ same. absurd (omega arith))

  past_table : (n : ℕ) → data_reach (suc (suc (suc n))) ≡ DATA_START + 16000
  unfolding reach
  past_table zero =
      let size = ap (λ (s : SectionParts). s.size) g.table in
      let align = ap (λ (s : SectionParts). s.align) g.table in
      rw (table_sort, size, align, before_table) refl
  past_table (suc n) = passed (suc (suc (suc n))) (λ same. absurd (omega arith)) ∙ past_table n

  -- where the table stands
  pub table_address : section_address input 2 ≡ DATA_START
  unfolding section_address
  table_address = let align = ap (λ (s : SectionParts). s.align) g.table in rw (table_sort, align, before_table) refl

  -- and give no bytes
  none_placed : (k : ℕ) → k ≢ 2 → init_below input (suc k) ≡ init_below input k
  unfolding init_below
  none_placed k other = rw (no_data k other) refl

  none_placed_before : init_below input 2 ≡ []
  unfolding init_below
  none_placed_before = none_placed 1 (λ same. absurd (omega arith)) ∙ none_placed 0 (λ same. absurd (omega arith))

  table_placed : (n : ℕ) → init_below input (suc (suc (suc n))) ≡ table_bytes
  unfolding init_below
  table_placed zero =
      let content = ap (λ (s : SectionParts). s.content) g.table in rw (table_sort, none_placed_before, table_address, content) refl
  table_placed (suc n) = none_placed (suc (suc (suc n))) (λ same. absurd (omega arith)) ∙ table_placed n

  init_is : init_below input (section_count input) ≡ table_bytes
  init_is = ap (init_below input) g.count ∙ table_placed 5

  end_is : data_end input ≡ DATA_START + 16000
  unfolding blocks_reach zeros_end init_end
  end_is =
      ap (λ (bs : List Block). blocks_reach input (length bs)) g.blocks
      ∙ zeros_reach (init_end input) (section_count input) ∙ ap data_reach g.count ∙ past_table 5

  pub data_room : HasDataRoom (program_of input)
  unfolding program_of
  data_room =
      let size : length (init_below input (section_count input)) ≡ 16000 = ap length init_is ∙ length-table in
      let end = end_is in
      record { init = omega arith; end = omega arith }
