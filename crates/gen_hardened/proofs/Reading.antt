-- The input that a generated object is read as.
use Rattle.std.proofs.Common.{◌≡◌, ◌≢◌, ◌⊎◌, ℕ, zero, suc, ◌+◌, ◌<◌, ◌≤◌, true, false, List, [], ◌∷◌, length, map, get_or, inl, inr, refl, sym, ap, subst, ◌∙◌, arith}
use Rattle.std.proofs.lemmas.Bool.{cases_eq, cases_lt}
use Rattle.std.proofs.lemmas.List.{get_or_past}
use Rattle.gen_hardened.proofs.Prelude.{Reloc, e_shnum, content, section_header, is_kept, symbol_count, relocation_bytes, relocation_count, no_symbol, AreRelocations, Holds, IsSection, Code, Data, Dropped, SectionParts, no_section, section_count, section_of, is_table_high, kind_of, own_input, input_by, definition, sort_of, input_of, Function, code_bytes, code_size, relocs_from, function_lines, program_lines, data_part, data_relocs, function_symbols, parts_with, table_bytes, table_relocs, text_part, text_relocs, IsGenerated, symbol_definition, symbols_of, table_section, text_section, use_of}
use Rattle.obj_items.proofs.Behind.{numbers, own_section, section_is as read_section, section_number, table}
use Rattle.obj_items.proofs.Plain.{none_behind, reloc_at, reloc_count}
use Rattle.gen_hardened.proofs.Symbols.{IsKeptSection, definition_is, definition_zero, names_are, no_blocks, symbols_in}
use Rattle.gen_hardened.proofs.Sections.{content_there, dropped_sort, dropped_uses, plain_at, read_use, read_uses, section_is, uses_are}
use Rattle.gen_hardened.proofs.Untabled.{table_plain, text_plain}

-- the functions' symbols stand in section 1
functions_placed : (at i : ℕ) (fs : List Function) (k : ℕ) → k < length (function_symbols at i fs) → (get_or (function_symbols at i fs) k no_symbol).section ≡ 1
unfolding function_symbols
functions_placed at i [] k below = absurd (omega arith)
functions_placed at i (f ∷ fs) zero below = refl
functions_placed at i (f ∷ fs) (suc k) below = functions_placed (at + code_size (function_lines f)) (i + 1) fs k (omega arith)

-- and all symbols in section 1 or 2
symbols_placed : (fs : List Function) (k : ℕ) → k < length (symbols_of fs)
    → ((get_or (symbols_of fs) k no_symbol).section ≡ 1) ⊎ ((get_or (symbols_of fs) k no_symbol).section ≡ 2)
symbols_placed fs zero below = inl refl
symbols_placed fs (suc zero) below = inr refl
symbols_placed fs (suc (suc k)) below = inl (functions_placed _ 0 fs k (omega arith))

module _ (fs : List Function) (file : List ℕ) (holds : Holds (parts_with fs) file) where
  count : e_shnum file ≡ 8
  count = holds.count

  text_there : IsSection file 1 (text_part fs)
  text_there = holds.sections 0 (omega arith)

  data_there : IsSection file 2 data_part
  data_there = holds.sections 1 (omega arith)

  text_kept : is_kept file 1 ≡ true
  text_kept = text_there.kept

  data_kept : is_kept file 2 ≡ true
  data_kept = data_there.kept

  in_text : IsKeptSection file 1
  in_text = record { no_number = refl; no_block = refl; kept = rw (count, text_kept) refl }

  in_data : IsKeptSection file 2
  in_data = record { no_number = refl; no_block = refl; kept = rw (count, data_kept) refl }

  within : (k : ℕ) → k < length (symbols_of fs) → IsKeptSection file (get_or (symbols_of fs) k no_symbol).section
  within k below = elim (symbols_placed fs k below) [
    | inl text ↦ subst (λ s. IsKeptSection file s) (sym text) in_text
    | inr table ↦ subst (λ s. IsKeptSection file s) (sym table) in_data
  ]

  definition_there : (n : ℕ) → n < symbol_count file → definition (numbers file) (symbols_in file) n ≡ symbol_definition fs n
  definition_there zero below = definition_zero (parts_with fs) file holds
  definition_there (suc k) below =
      let count = holds.symbol_count_is in
      definition_is (parts_with fs) file holds within k (omega arith)

  use_there : (r : Reloc) → r.symbol < symbol_count file → is_table_high (kind_of r.kind) ≡ false → read_use file r ≡ use_of fs r
  use_there r below plain = rw (plain, definition_there r.symbol below) refl

  not_kept : (k : ℕ) → k < 8 → k ≢ 1 → k ≢ 2 → is_kept file k ≡ false
  not_kept zero below no_text no_table = holds.first_dropped
  not_kept (suc k) below no_text no_table =
      let past : 2 < suc k = omega arith in
      holds.others_dropped (suc k) past below

  text_relocated : AreRelocations file 1 (text_relocs fs)
  text_relocated = holds.relocations 0 (omega arith) text_kept

  data_relocated : AreRelocations file 2 data_relocs
  data_relocated = holds.relocations 1 (omega arith) data_kept

  -- no use of the table of addresses, so that there is none
  plain_uses : (k j : ℕ) → k < e_shnum file → j < reloc_count file k → is_table_high (kind_of (reloc_at file k j).kind) ≡ false
  plain_uses k j there below = elim (cases_eq k 1) [
    | inl text ↦
        let counted : j < length (relocs_from 0 (program_lines fs)) = let own = text_relocated.count in let same = ap (reloc_count file) text in omega arith in
        ap (λ n. is_table_high (kind_of (reloc_at file n j).kind)) text ∙ plain_at file 1 (text_relocs fs) text_relocated (text_plain fs) j counted
    | inr no_text ↦ elim (cases_eq k 2) [
      | inl table ↦
          let counted : j < length (table_relocs 2000 0) = let own = data_relocated.count in let same = ap (reloc_count file) table in omega arith in
          ap (λ n. is_table_high (kind_of (reloc_at file n j).kind)) table ∙ plain_at file 2 data_relocs data_relocated (table_plain 2000 0) j counted
      | inr no_table ↦
          let dropped : relocation_bytes file k ≡ [] = rw (not_kept k (let n = count in omega arith) no_text no_table) refl in
          let none : reloc_count file k ≡ 0 = ap relocation_count dropped in
          absurd (omega arith)
    ]
  ]

  no_table : table file ≡ []
  no_table = none_behind file (record { plain = plain_uses })

  sections_counted : section_count (input_of file) ≡ 8
  sections_counted = section_number file ∙ ap (λ (ss : List SectionParts). e_shnum file + length ss) no_table ∙ (let n = count in omega arith)

  section_at : (k : ℕ) → k < 8 → section_of (input_of file) k ≡ own_section file k
  section_at k below = read_section file k (let n = count in omega arith)

  no_more : (k : ℕ) → 8 ≤ k → section_of (input_of file) k ≡ no_section
  no_more k past = get_or_past (input_of file).sections k no_section (let n = sections_counted in omega arith)

  -- the code
  text_sort : sort_of file 1 ≡ Code
  text_sort = rw (text_kept, text_there.flags) refl

  text_content : content file (section_header file 1) ≡ code_bytes (program_lines fs)
  text_content = sym (content_there file 1 (let n = count in omega arith)) ∙ text_there.bytes refl

  text_uses : read_uses file 1 ≡ map (use_of fs) (text_relocs fs).entries
  text_uses =
      uses_are file 1 (text_relocs fs) (use_of fs) holds.sound (let n = count in omega arith) text_relocated use_there (text_plain fs)

  text_is : own_section file 1 ≡ text_section fs
  text_is = section_is (own_section file 1) (text_section fs) text_sort text_there.size text_there.align text_content text_uses

  -- the table
  data_sort : sort_of file 2 ≡ Data
  data_sort = rw (data_kept, data_there.flags, data_there.kind) refl

  data_content : content file (section_header file 2) ≡ table_bytes
  data_content = sym (content_there file 2 (let n = count in omega arith)) ∙ data_there.bytes refl

  data_uses : read_uses file 2 ≡ map (use_of fs) data_relocs.entries
  data_uses =
      uses_are file 2 data_relocs (use_of fs) holds.sound (let n = count in omega arith) data_relocated use_there (table_plain 2000 0)

  table_is : own_section file 2 ≡ table_section fs
  table_is = section_is (own_section file 2) (table_section fs) data_sort data_there.size data_there.align data_content data_uses

  -- the other sections
  dropped : (k : ℕ) → k ≢ 1 → k ≢ 2 → (section_of (input_of file) k).sort ≡ Dropped
  dropped k no_text no_table = elim (cases_lt k 8) [
    | inl below ↦ ap (λ (s : SectionParts). s.sort) (section_at k below) ∙ dropped_sort file k (not_kept k below no_text no_table)
    | inr past ↦ ap (λ (s : SectionParts). s.sort) (no_more k past)
  ]

  unused : (k : ℕ) → k ≢ 1 → k ≢ 2 → (section_of (input_of file) k).uses ≡ []
  unused k no_text no_table = elim (cases_lt k 8) [
    | inl below ↦ ap (λ (s : SectionParts). s.uses) (section_at k below) ∙ dropped_uses file k (not_kept k below no_text no_table)
    | inr past ↦ ap (λ (s : SectionParts). s.uses) (no_more k past)
  ]

  -- a file that holds the parts of these functions is read as the generated input
  pub generated_is : IsGenerated fs (input_of file)
  unfolding input_of own_input input_by
  generated_is = record {
    count = sections_counted;
    text = section_at 1 (omega arith) ∙ text_is;
    table = section_at 2 (omega arith) ∙ table_is;
    dropped = dropped;
    unused = unused;
    blocks = no_blocks (parts_with fs) file holds within;
    names = names_are (parts_with fs) file holds within;
  }
