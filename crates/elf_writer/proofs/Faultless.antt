-- The file of right parts has none of the eight faults.
use Rattle.std.proofs.Common.{◌≡◌, ◌==◌, ◌&&◌, ◌||◌, nat_eq, nat_le, nat_lt, ℕ, zero, suc, ◌+◌, ◌*◌, ◌%◌, ◌<◌, ◌≤◌, true, false, not, is_none, is_some, Option, Some, None, List, [], ◌++◌, length, get_or, inl, inr, refl, sym, ap, ◌∙◌, arith}
use Rattle.std.specs.List.{starts_with}
use Rattle.std.proofs.lemmas.Bool.{and_from, and_left, and_right, cases_Bool, cases_lt, eq-eqb, false_from_ne_true, le-ltb, leb-true, le-leb, lt-ltb, ne_eqb, or_from}
use Rattle.elf_bytes.specs.Fields.{string_at}
use Rattle.elf_tables.specs.declared.header.SectionHeader.{SectionHeader}
use Rattle.elf_tables.specs.Header.{e_shnum, e_shoff, e_shstrndx, section_headers_end}
use Rattle.elf_tables.specs.Section.{is_in_file, section_header, section_name, section_names}
use Rattle.elf_tables.specs.Kept.{is_kept}
use Rattle.elf_tables.specs.Table.{has_entries, is_symbol_table, relocates, symbol_table}
use Rattle.elf_tables.specs.Symbol.{symbol, symbol_count, symbol_names}
use Rattle.elf_object.specs.Header.{are_flags_taken, e_flags, ident}
use Rattle.elf_object.specs.Kind.{is_wrong_kept, is_wrong_kind}
use Rattle.elf_object.specs.Table.{has_wrong_header, is_number, is_string_table, is_wrong_rel, is_wrong_rela, is_wrong_rela_of_kept, is_wrong_start, is_wrong_symbol_table, is_wrong_table, is_wrong_table_of}
use Rattle.elf_object.specs.Symbol.{has_no_place, has_wrong_alignment, has_wrong_type, is_past_end, is_wrong_entry, is_wrong_symbol}
use Rattle.elf_object.specs.Stray.{stray_at, stray_in, stray_symbol}
use Rattle.elf_object.specs.Fault.{fault_of, header_fault, is_cut, kind_fault, symbol_fault, table_fault, truncated}
use Rattle.least.specs.First.{first_below}
use Rattle.least.specs.Least.{least_below}
use Rattle.least.proofs.Firsts.{none_first}
use Rattle.elf_writer.specs.Header.{elf_header, elf_numbers, header_of}
use Rattle.elf_writer.specs.File.{Entry, all_names, file_of, table_place}
use Rattle.elf_writer.specs.Names.{name_place}
use Rattle.elf_writer.specs.Parts.{ObjectParts, symbol_names as part_names}
use Rattle.elf_writer.specs.Tables.{relocations_bytes}
use Rattle.elf_writer.specs.Object.{entries_of, section_count, symbol_index}
use Rattle.elf_writer.specs.Right.{AreObjectParts, is_kept_part, no_reloc, no_relocations, no_section, no_symbol}
use Rattle.elf_writer.proofs.Fields.{IsElfHeader, length-symbols, symbol_of_part}
use Rattle.elf_writer.proofs.Back.{table_room}
use Rattle.elf_writer.proofs.Found.{Found, elf_is, first_dropped, is_kept_entry, names_are_there}
use Rattle.elf_writer.proofs.Indexes.{all_of, are_clean, are_entries, are_whole, length-all}
use Rattle.elf_writer.proofs.Reading.{each_index, file, kinds_of, names_found, no_symbols_before, none_before, null_is, own_found, section_found, shnum_is, symbol_table_is, symbols_found, table_found}
use Rattle.elf_writer.proofs.Entries.{empty_name, length-relocations, name_read, reloc_count, reloc_read, relocations_cases, symbol_count_is, symbol_is}

-- a file that begins with an ELF header begins with its mark
starts_elf : (flags at sections : ℕ) (rest : List ℕ) → starts_with nat_eq (elf_header flags at sections ++ rest) ident ≡ true
unfolding elf_header elf_numbers
starts_elf flags at sections rest = refl

not_cut : (bytes : List ℕ) (index : ℕ) (e : Entry) → Found bytes index e → is_cut bytes index ≡ false
not_cut bytes index e f = elim (cases_Bool (is_in_file (header_of 0 0 e.heading))) [
  | inl there ↦ rw f.header (and_right _ _ (le-ltb _ _ (f.room there)))
  | inr absent ↦ rw f.header (and_left _ _ absent)
]

-- a section that is no table
no_table : (bytes : List ℕ) (index : ℕ) (e : Entry) → Found bytes index e → (e.heading.kind == 2) ≡ false → (e.heading.kind == 4) ≡ false → (e.heading.kind == 9) ≡ false
    → is_wrong_table bytes index ≡ false
no_table bytes index e f two four nine = rw (f.name, f.header, two, four, nine) refl

has_all : (h : SectionHeader) (n : ℕ) → h.entry_size ≡ 24 → h.size ≡ 24 * n → has_entries h ≡ true
has_all h n e s = and_from _ _ (eq-eqb _ _ e) (eq-eqb (h.size % 24) 0 (ap (λ k. k % 24) s ∙ omega arith))

none_least : (given : ℕ → Option ℕ) (n : ℕ) → ((k : ℕ) → k < n → given k ≡ None) → least_below given n ≡ None
unfolding least_below
none_least given zero none = refl
none_least given (suc n) none = rw (none_least given n (λ k below. none k (omega arith)), none n (omega arith)) refl

no_stray : (count : ℕ) → stray_in count [] ≡ None
unfolding least_below
no_stray count = refl

module _ (parts : ObjectParts) (right : AreObjectParts parts) where
  elf : IsElfHeader (file parts right) parts.flags (table_place (all_of parts)) (length (all_of parts))
  elf = elf_is parts.flags (entries_of parts) (are_entries parts right) (are_clean parts right) (are_whole parts right)

  starts : starts_with nat_eq (file parts right) ident ≡ true
  unfolding file_of
  starts = starts_elf parts.flags (table_place (all_of parts)) (length (all_of parts)) _

  no_header_fault : header_fault (file parts right) ≡ None
  unfolding header_fault
  no_header_fault =
      let long : nat_le 64 (length (file parts right)) ≡ true = le-leb _ _ (omega (arith, table_room parts.flags (all_of parts))) in
      let mark = starts in
      let flags : are_flags_taken (e_flags (file parts right)) ≡ true = ap are_flags_taken elf.taken ∙ right.flags in
      rw (and_from _ _ long mark, elf.type, elf.machine, flags) refl

  null_cut : is_cut (file parts right) 0 ≡ false
  null_cut = rw (null_is parts right) refl

  none_cut : (index : ℕ) → index < section_count parts → is_cut (file parts right) index ≡ false
  none_cut =
      each_index parts right (λ index. is_cut (file parts right) index ≡ false) null_cut
      (λ k below. not_cut _ _ _ (section_found parts right k below)) (λ j below. not_cut _ _ _ (table_found parts right j below))
      (not_cut _ _ _ (symbols_found parts right)) (not_cut _ _ _ (names_found parts right)) (not_cut _ _ _ (own_found parts right))

  below_count : (k : ℕ) → k < e_shnum (file parts right) → k < section_count parts
  below_count k below = omega (arith, shnum_is parts right)

  not_truncated : truncated (file parts right) ≡ None
  unfolding truncated
  not_truncated =
      let end : nat_lt (length (file parts right)) (section_headers_end (file parts right)) ≡ false =
      le-ltb _ _ (omega (arith, table_room parts.flags (all_of parts), elf.place, elf.count)) in
      let none : first_below (is_cut (file parts right)) (e_shnum (file parts right)) ≡ None = none_first _ _ (λ k below. none_cut k (below_count k below)) in
      rw (end, none) refl

  -- a table of names is one
  string_table_at : (index : ℕ) (e : Entry) → Found (file parts right) index e → e.heading.kind ≡ 3 → index < section_count parts → is_string_table (file parts right) index ≡ true
  string_table_at index e f three below =
      and_from _ _ (lt-ltb _ _ (omega (arith, shnum_is parts right))) (eq-eqb _ _ (ap (λ (h : SectionHeader). h.kind) f.header ∙ three))

  right_start : is_wrong_start (file parts right) ≡ false
  right_start =
      let some : (e_shnum (file parts right) == 0) ≡ false = ne_eqb _ _ (λ h. absurd (omega (arith, shnum_is parts right))) in
      let few : nat_le 0xff00 (e_shnum (file parts right)) ≡ false = false_from_ne_true _ (λ h. absurd (omega (arith, leb-true _ _ h, shnum_is parts right, right.few))) in
      let index : e_shstrndx (file parts right) ≡ suc (length parts.sections + length parts.relocations + 2) = elf.names ∙ omega (arith, length-all parts) in
      let names : is_string_table (file parts right) (e_shstrndx (file parts right)) ≡ true =
      ap (is_string_table (file parts right)) index ∙ string_table_at _ _ (own_found parts right) refl (omega arith) in
      let header : has_wrong_header (file parts right) ≡ false = rw (elf.entry, few, names) refl in
      or_from (e_shnum (file parts right) == 0 && not (e_shoff (file parts right) == 0)) (not (e_shnum (file parts right) == 0) && has_wrong_header (file parts right))
      (and_left _ _ some) (and_right _ _ header)

  null_named : section_name (file parts right) 0 ≡ Some []
  null_named =
      ap (λ (h : SectionHeader). string_at (section_names (file parts right)) h.name) (null_is parts right)
      ∙ ap (λ names. string_at names 0) (names_are_there parts.flags (entries_of parts) (are_entries parts right) (are_clean parts right) (are_whole parts right))
      ∙ empty_name (all_names (entries_of parts))

  null_table : is_wrong_table (file parts right) 0 ≡ false
  null_table = rw (null_named, null_is parts right) refl

  section_table : (k : ℕ) → k < length parts.sections → is_wrong_table (file parts right) (suc k) ≡ false
  section_table k below =
      let kind = kinds_of parts right k below in
      no_table _ _ _ (section_found parts right k below) kind.no_symbols kind.no_rela kind.no_rel

  right_rela : (j : ℕ) → j < length parts.relocations
      → is_wrong_rela (file parts right) (suc (length parts.sections + j)) (section_header (file parts right) (suc (length parts.sections + j))) ≡ false
  right_rela j below =
      let index = suc (length parts.sections + j) in
      let h = section_header (file parts right) index in
      let f = table_found parts right j below in
      let entries = has_all h (length (get_or parts.relocations j no_relocations).entries) (ap (λ (h : SectionHeader). h.entry_size) f.header)
      (ap (λ (h : SectionHeader). h.size) f.header ∙ length-relocations (get_or parts.relocations j no_relocations).entries) in
      let info : h.info ≡ (get_or parts.relocations j no_relocations).target = ap (λ (h : SectionHeader). h.info) f.header in
      let link : h.link ≡ symbol_index parts = ap (λ (h : SectionHeader). h.link) f.header in
      let inside : nat_lt h.info (e_shnum (file parts right)) ≡ true = lt-ltb _ _ (omega (arith, info, (right.relocations j below).target_to, shnum_is parts right)) in
      let symbols : is_number (symbol_table (file parts right)) h.link ≡ true =
      ap (λ o. is_number o h.link) (symbol_table_is parts right) ∙ eq-eqb _ _ (omega (arith, link)) in
      let first : is_some (first_below (relocates (file parts right) h.info) index) ≡ false =
      ap (λ t. is_some (first_below (relocates (file parts right) t) index)) info ∙ ap is_some (none_before parts right j below) in
      or_from (not (nat_lt h.info (e_shnum (file parts right)))) (is_kept (file parts right) h.info && is_wrong_rela_of_kept (file parts right) index h)
      (ap not inside)
      (and_right _ _ (or_from (not (has_entries h) || not (is_number (symbol_table (file parts right)) h.link)) (is_some (first_below (relocates (file parts right) h.info) index))
      (or_from (not (has_entries h)) (not (is_number (symbol_table (file parts right)) h.link)) (ap not entries) (ap not symbols)) first))

  relocations_table : (j : ℕ) → j < length parts.relocations → is_wrong_table (file parts right) (suc (length parts.sections + j)) ≡ false
  relocations_table j below =
      let index = suc (length parts.sections + j) in
      let h = section_header (file parts right) index in
      let f = table_found parts right j below in
      let kind : h.kind ≡ 4 = ap (λ (h : SectionHeader). h.kind) f.header in
      or_from (is_none (section_name (file parts right) index)) (is_wrong_table_of (file parts right) index h)
      (ap is_none f.name)
      (or_from (h.kind == 2 && is_wrong_symbol_table (file parts right) index h || h.kind == 4 && is_wrong_rela (file parts right) index h) (h.kind == 9 && is_wrong_rel (file parts right) h)
      (or_from (h.kind == 2 && is_wrong_symbol_table (file parts right) index h) (h.kind == 4 && is_wrong_rela (file parts right) index h)
      (and_left _ _ (ap (λ k. k == 2) kind)) (and_right _ _ (right_rela j below)))
      (and_left _ _ (ap (λ k. k == 9) kind)))

  symbols_table : is_wrong_table (file parts right) (suc (length parts.sections + length parts.relocations)) ≡ false
  symbols_table =
      let index = suc (length parts.sections + length parts.relocations) in
      let h = section_header (file parts right) index in
      let f = symbols_found parts right in
      let kind : h.kind ≡ 2 = ap (λ (h : SectionHeader). h.kind) f.header in
      let entries = has_all h (length parts.symbols + 1) (ap (λ (h : SectionHeader). h.entry_size) f.header) (ap (λ (h : SectionHeader). h.size) f.header ∙ length-symbols parts.symbols) in
      let link : h.link ≡ suc (length parts.sections + length parts.relocations + 1) = ap (λ (h : SectionHeader). h.link) f.header ∙ omega arith in
      let names : is_string_table (file parts right) h.link ≡ true =
      ap (is_string_table (file parts right)) link ∙ string_table_at _ _ (names_found parts right) refl (omega arith) in
      let first : is_some (first_below (is_symbol_table (file parts right)) index) ≡ false = ap is_some (no_symbols_before parts right index (omega arith)) in
      or_from (is_none (section_name (file parts right) index)) (is_wrong_table_of (file parts right) index h)
      (ap is_none f.name)
      (or_from (h.kind == 2 && is_wrong_symbol_table (file parts right) index h || h.kind == 4 && is_wrong_rela (file parts right) index h) (h.kind == 9 && is_wrong_rel (file parts right) h)
      (or_from (h.kind == 2 && is_wrong_symbol_table (file parts right) index h) (h.kind == 4 && is_wrong_rela (file parts right) index h)
      (and_right _ _ (or_from (is_some (first_below (is_symbol_table (file parts right)) index) || not (has_entries h)) (not (is_string_table (file parts right) h.link))
      (or_from (is_some (first_below (is_symbol_table (file parts right)) index)) (not (has_entries h)) first (ap not entries)) (ap not names)))
      (and_left _ _ (ap (λ k. k == 4) kind)))
      (and_left _ _ (ap (λ k. k == 9) kind)))

  right_tables : (index : ℕ) → index < section_count parts → is_wrong_table (file parts right) index ≡ false
  right_tables =
      each_index parts right (λ index. is_wrong_table (file parts right) index ≡ false) null_table section_table relocations_table symbols_table
      (no_table _ _ _ (names_found parts right) refl refl refl) (no_table _ _ _ (own_found parts right) refl refl refl)

  no_table_fault : table_fault (file parts right) ≡ None
  unfolding table_fault
  no_table_fault =
      let none : first_below (is_wrong_table (file parts right)) (e_shnum (file parts right)) ≡ None = none_first _ _ (λ k below. right_tables k (below_count k below)) in
      rw (right_start, none) refl

  -- no section is kept but those of the parts
  pub null_dropped : is_kept (file parts right) 0 ≡ false
  null_dropped = first_dropped parts.flags (entries_of parts) (are_entries parts right) (are_clean parts right) (are_whole parts right)

  pub others_dropped : (index : ℕ) → index < section_count parts → length parts.sections < index → is_kept (file parts right) index ≡ false
  others_dropped =
      each_index parts right (λ index. length parts.sections < index → is_kept (file parts right) index ≡ false) (λ past. absurd (omega arith))
      (λ k below past. absurd (omega arith)) (λ j below past. (table_found parts right j below).kept)
      (λ past. (symbols_found parts right).kept) (λ past. (names_found parts right).kept) (λ past. (own_found parts right).kept)

  section_kind : (k : ℕ) → k < length parts.sections → is_wrong_kind (file parts right) (suc k) ≡ false
  section_kind k below =
      let f = section_found parts right k below in
      let group : ((section_header (file parts right) (suc k)).kind == 17) ≡ false = ap (λ (h : SectionHeader). h.kind == 17) f.header ∙ (kinds_of parts right k below).no_group in
      or_from ((section_header (file parts right) (suc k)).kind == 17) (is_kept (file parts right) (suc k) && is_wrong_kept (section_header (file parts right) (suc k))) group
      (elim (cases_Bool (is_kept (file parts right) (suc k))) [
        | inr dropped ↦ and_left _ _ dropped
        | inl kept ↦ and_right _ _ (ap is_wrong_kept f.header ∙ (right.sections k below).right (sym f.kept ∙ kept))
      ])

  other_kind : (index : ℕ) (e : Entry) → Found (file parts right) index e → (e.heading.kind == 17) ≡ false → is_kept_entry e ≡ false → is_wrong_kind (file parts right) index ≡ false
  other_kind index e f group dropped =
      or_from ((section_header (file parts right) index).kind == 17) (is_kept (file parts right) index && is_wrong_kept (section_header (file parts right) index))
      (ap (λ (h : SectionHeader). h.kind == 17) f.header ∙ group) (and_left _ _ (f.kept ∙ dropped))

  null_kind : is_wrong_kind (file parts right) 0 ≡ false
  null_kind = rw (null_dropped, null_is parts right) refl

  right_kinds : (index : ℕ) → index < section_count parts → is_wrong_kind (file parts right) index ≡ false
  right_kinds =
      each_index parts right (λ index. is_wrong_kind (file parts right) index ≡ false) null_kind section_kind
      (λ j below. other_kind _ _ (table_found parts right j below) refl refl)
      (other_kind _ _ (symbols_found parts right) refl refl) (other_kind _ _ (names_found parts right) refl refl) (other_kind _ _ (own_found parts right) refl refl)

  no_kind_fault : kind_fault (file parts right) ≡ None
  unfolding kind_fault
  no_kind_fault =
      let none : first_below (is_wrong_kind (file parts right)) (e_shnum (file parts right)) ≡ None = none_first _ _ (λ k below. right_kinds k (below_count k below)) in
      rw none refl

  -- a symbol stands within its section
  within : (section value : ℕ)
      → ((k : ℕ) → section ≡ suc k → k < length parts.sections → is_kept_part (get_or parts.sections k no_section) ≡ true → value ≤ (get_or parts.sections k no_section).size)
      → (not (section == 0) && nat_lt section (e_shnum (file parts right)) && is_kept (file parts right) section
      && nat_lt (section_header (file parts right) section).size value) ≡ false
  within zero value inside = refl
  within (suc k) value inside = elim (cases_lt (suc k) (section_count parts)) [
    | inr past ↦
        let outside : nat_lt (suc k) (e_shnum (file parts right)) ≡ false = le-ltb _ _ (omega (arith, shnum_is parts right)) in
        and_left _ _ (and_left _ _ (and_right _ _ outside))
    | inl below ↦ elim (cases_lt k (length parts.sections)) [
      | inr other ↦ and_left _ _ (and_right _ _ (others_dropped (suc k) below (omega arith)))
      | inl section ↦ elim (cases_Bool (is_kept (file parts right) (suc k))) [
        | inr dropped ↦ and_left _ _ (and_right _ _ dropped)
        | inl kept ↦
            let f = section_found parts right k section in
            let most = inside k refl section (sym f.kept ∙ kept) in
            let size : (section_header (file parts right) (suc k)).size ≡ (get_or parts.sections k no_section).size = ap (λ (h : SectionHeader). h.size) f.header in
            let inside_it : nat_lt (section_header (file parts right) (suc k)).size value ≡ false = le-ltb _ _ (omega (arith, size, most)) in
            and_right _ _ inside_it
      ]
    ]
  ]

  right_entry : (k : ℕ) → k < length parts.symbols → is_wrong_entry (file parts right) (symbol (file parts right) (suc k)) ≡ false
  right_entry k below =
      let p = get_or parts.symbols k no_symbol in
      let s = symbol_of_part (name_place 1 (part_names parts.symbols) k) p in
      let is = right.symbols k below in
      let placed : (nat_lt p.section (e_shnum (file parts right)) || p.section == 0xfff1 || p.section == 0xfff2) ≡ true =
      ap (λ n. nat_lt p.section n || p.section == 0xfff1 || p.section == 0xfff2) (shnum_is parts right) ∙ is.placed in
      ap (is_wrong_entry (file parts right)) (symbol_is parts right k below)
      ∙ or_from (is_none (string_at (symbol_names (file parts right)) s.name) || has_no_place (file parts right) s || has_wrong_type s || is_past_end (file parts right) s) (has_wrong_alignment s)
      (or_from (is_none (string_at (symbol_names (file parts right)) s.name) || has_no_place (file parts right) s || has_wrong_type s) (is_past_end (file parts right) s)
      (or_from (is_none (string_at (symbol_names (file parts right)) s.name) || has_no_place (file parts right) s) (has_wrong_type s)
      (or_from (is_none (string_at (symbol_names (file parts right)) s.name)) (has_no_place (file parts right) s) (ap is_none (name_read parts right k below)) (ap not placed))
      is.kind)
      (within p.section p.value is.within))
      is.aligned

  right_symbols : (number : ℕ) → number < symbol_count (file parts right) → is_wrong_symbol (file parts right) number ≡ false
  right_symbols zero below = refl
  right_symbols (suc k) below = and_right _ _ (right_entry k (omega (arith, below, symbol_count_is parts right)))

  named_there : (j k : ℕ) → j < length parts.relocations → k < length (get_or parts.relocations j no_relocations).entries
      → stray_at (symbol_count (file parts right)) (relocations_bytes (get_or parts.relocations j no_relocations).entries) k ≡ None
  named_there j k below inside =
      let r = right.relocations j below in
      let read = reloc_read (get_or parts.relocations j no_relocations).entries k inside (r.each k inside) in
      let there : nat_lt (get_or (get_or parts.relocations j no_relocations).entries k no_reloc).symbol (symbol_count (file parts right)) ≡ true =
      lt-ltb _ _ (omega (arith, r.named k inside, symbol_count_is parts right)) in
      rw (read, there) refl

  none_stray : stray_symbol (file parts right) ≡ None
  unfolding stray_symbol
  none_stray =
      none_least _ _ (λ target below. elim (relocations_cases parts right target) [
        | inl none ↦ ap (stray_in (symbol_count (file parts right))) none ∙ no_stray _
        | inr (j, there, same, bytes) ↦
            ap (stray_in (symbol_count (file parts right))) bytes
            ∙ none_least _ _ (λ k inside. named_there j k there (omega (arith, inside, reloc_count (get_or parts.relocations j no_relocations).entries)))
      ])

  no_symbol_fault : symbol_fault (file parts right) ≡ None
  unfolding symbol_fault
  no_symbol_fault =
      let none : first_below (is_wrong_symbol (file parts right)) (symbol_count (file parts right)) ≡ None = none_first _ _ right_symbols in
      rw (none, none_stray) refl

  pub faultless : fault_of (file parts right) ≡ None
  unfolding fault_of
  faultless = rw (no_header_fault, not_truncated, no_table_fault, no_kind_fault, no_symbol_fault) refl
