-- Which section stands at which index, and that the sections of right parts can be written and read.
use Rattle.std.proofs.Common.{◌≡◌, ◌==◌, ℕ, ◌+◌, ◌-◌, ◌^◌, ◌<◌, true, List, [], ◌∷◌, ◌++◌, length, get_or, map, inl, inr, refl, sym, ap, subst, ◌∙◌, arith, codes, length-append, add-zero, lit<}
use Rattle.std.proofs.lemmas.Bool.{cases_Bool, cases_lt, eqb-true}
use Rattle.std.proofs.lemmas.List.{get_or-append-add, get_or-map, get_or_append_left, length-map}
use Rattle.std.proofs.lemmas.List.Sums.{count_by-le-length}
use Rattle.elf_object.specs.Header.{are_flags_taken}
use Rattle.elf_writer.specs.Names.{is_clean, string_table}
use Rattle.elf_writer.specs.File.{Entry, all_names, file_of, strings_entry, with_names}
use Rattle.elf_writer.specs.Parts.{ObjectParts}
use Rattle.elf_writer.specs.Object.{first_global, is_local, entries_of, object_bytes, relocations_entry, section_entry, symbol_index, symbol_names_entry, symbols_entry}
use Rattle.elf_writer.specs.Right.{AreObjectParts, no_relocations, no_section}
use Rattle.elf_writer.proofs.Stands.{stands_room}
use Rattle.elf_writer.proofs.Fields.{HasRoom, length-symbols}
use Rattle.elf_writer.proofs.Back.{AreEntries, content_there, no_entry, own_entry}
use Rattle.elf_writer.proofs.Closing.{length-entries}
use Rattle.elf_writer.proofs.Found.{IsWhole}

abbrev pub all_of : ObjectParts → List Entry
all_of parts = with_names (entries_of parts)

-- the names of all sections
abbrev pub own_of : ObjectParts → Entry
own_of parts = strings_entry (codes ".shstrtab") (string_table (all_names (entries_of parts)))

module _ (parts : ObjectParts) where
  last_two : List Entry
  last_two = symbols_entry (symbol_index parts) parts.symbols ∷ symbol_names_entry parts.symbols ∷ []

  length-sections : length (map section_entry parts.sections) ≡ length parts.sections
  length-sections = length-map parts.sections section_entry

  length-tables : length (map (relocations_entry (symbol_index parts)) parts.relocations) ≡ length parts.relocations
  length-tables = length-map parts.relocations (relocations_entry (symbol_index parts))

  pub length-parts : length (entries_of parts) ≡ length parts.sections + length parts.relocations + 2
  unfolding last_two
  length-parts =
      length-append (map section_entry parts.sections) (map (relocations_entry (symbol_index parts)) parts.relocations ++ last_two)
      ∙ omega (arith, length-append (map (relocations_entry (symbol_index parts)) parts.relocations) last_two, length-sections, length-tables)

  pub length-all : length (all_of parts) ≡ length parts.sections + length parts.relocations + 3
  length-all = length-entries parts ∙ omega arith

  inner : (k : ℕ) → k < length (entries_of parts) → get_or (all_of parts) k no_entry ≡ get_or (entries_of parts) k no_entry
  inner k below = get_or_append_left (entries_of parts) (own_of parts ∷ []) no_entry k below

  pub at_section : (k : ℕ) → k < length parts.sections → get_or (all_of parts) k no_entry ≡ section_entry (get_or parts.sections k no_section)
  unfolding last_two
  at_section k below =
      inner k (omega (arith, length-parts))
      ∙ get_or_append_left (map section_entry parts.sections) (map (relocations_entry (symbol_index parts)) parts.relocations ++ last_two) no_entry k (omega (arith, length-sections))
      ∙ get_or-map section_entry parts.sections k no_section no_entry below

  -- past the sections
  past : (j : ℕ) → j < length parts.relocations + 2
      → get_or (all_of parts) (length parts.sections + j) no_entry ≡ get_or (map (relocations_entry (symbol_index parts)) parts.relocations ++ last_two) j no_entry
  unfolding last_two
  past j below =
      inner (length parts.sections + j) (omega (arith, length-parts))
      ∙ ap (λ n. get_or (entries_of parts) (n + j) no_entry) (sym length-sections)
      ∙ get_or-append-add (map section_entry parts.sections) (map (relocations_entry (symbol_index parts)) parts.relocations ++ last_two) j no_entry

  pub at_table : (j : ℕ) → j < length parts.relocations
      → get_or (all_of parts) (length parts.sections + j) no_entry ≡ relocations_entry (symbol_index parts) (get_or parts.relocations j no_relocations)
  at_table j below =
      past j (omega arith)
      ∙ get_or_append_left (map (relocations_entry (symbol_index parts)) parts.relocations) last_two no_entry j (omega (arith, length-tables))
      ∙ get_or-map (relocations_entry (symbol_index parts)) parts.relocations j no_relocations no_entry below

  -- past the relocations
  past_both : (i : ℕ) → i < 2 → get_or (all_of parts) (length parts.sections + length parts.relocations + i) no_entry ≡ get_or last_two i no_entry
  past_both i below =
      let place : length parts.sections + length parts.relocations + i ≡ length parts.sections + (length parts.relocations + i) = omega arith in
      ap (λ k. get_or (all_of parts) k no_entry) place ∙ past (length parts.relocations + i) (omega arith)
      ∙ ap (λ n. get_or (map (relocations_entry (symbol_index parts)) parts.relocations ++ last_two) (n + i) no_entry) (sym length-tables)
      ∙ get_or-append-add (map (relocations_entry (symbol_index parts)) parts.relocations) last_two i no_entry

  pub at_symbols : get_or (all_of parts) (length parts.sections + length parts.relocations) no_entry ≡ symbols_entry (symbol_index parts) parts.symbols
  unfolding last_two
  at_symbols = ap (λ k. get_or (all_of parts) k no_entry) (sym (add-zero (length parts.sections + length parts.relocations))) ∙ past_both 0 (lit< tt)

  pub at_names : get_or (all_of parts) (length parts.sections + length parts.relocations + 1) no_entry ≡ symbol_names_entry parts.symbols
  unfolding last_two
  at_names = past_both 1 (lit< tt)

  pub at_own : get_or (all_of parts) (length parts.sections + length parts.relocations + 2) no_entry ≡ own_of parts
  at_own = ap (λ k. get_or (all_of parts) k no_entry) (sym length-parts) ∙ own_entry (entries_of parts)

  -- what holds of the sections, the relocations, and the three tables holds at each index
  pub by_index : (P : ℕ → Type 0) → ((k : ℕ) → k < length parts.sections → P k)
      → ((j : ℕ) → j < length parts.relocations → P (length parts.sections + j)) → P (length parts.sections + length parts.relocations)
      → P (length parts.sections + length parts.relocations + 1) → P (length parts.sections + length parts.relocations + 2)
      → (k : ℕ) → k < length (all_of parts) → P k
  by_index P sections tables symbols names own k below = elim (cases_lt k (length parts.sections)) [
    | inl section ↦ sections k section
    | inr other ↦ elim (cases_lt k (length parts.sections + length parts.relocations)) [
      | inl table ↦
          let place : length parts.sections + (k - length parts.sections) ≡ k = omega arith in
          subst P place (tables (k - length parts.sections) (omega arith))
      | inr more ↦ elim (cases_lt k (length parts.sections + length parts.relocations + 1)) [
        | inl first ↦ let place : length parts.sections + length parts.relocations ≡ k = omega arith in subst P place symbols
        | inr most ↦ elim (cases_lt k (length parts.sections + length parts.relocations + 2)) [
          | inl second ↦ let place : length parts.sections + length parts.relocations + 1 ≡ k = omega arith in subst P place names
          | inr last ↦ let place : length parts.sections + length parts.relocations + 2 ≡ k = omega (arith, length-all) in subst P place own
        ]
      ]
    ]
  ]

  -- and of each section of the list
  pub by_entry : (P : Entry → Type 0) → ((k : ℕ) → k < length parts.sections → P (section_entry (get_or parts.sections k no_section)))
      → ((j : ℕ) → j < length parts.relocations → P (relocations_entry (symbol_index parts) (get_or parts.relocations j no_relocations)))
      → P (symbols_entry (symbol_index parts) parts.symbols) → P (symbol_names_entry parts.symbols) → P (own_of parts)
      → (k : ℕ) → k < length (all_of parts) → P (get_or (all_of parts) k no_entry)
  by_entry P sections tables symbols names own =
      by_index (λ k. P (get_or (all_of parts) k no_entry))
      (λ k below. subst P (sym (at_section k below)) (sections k below))
      (λ j below. subst P (sym (at_table j below)) (tables j below))
      (subst P (sym at_symbols) symbols) (subst P (sym at_names) names) (subst P (sym at_own) own)

flags_small : (flags : ℕ) → are_flags_taken flags ≡ true → flags < 2 ^ 32
flags_small flags e = elim (cases_Bool (flags == 0)) [
  | inl none ↦ omega (arith, eqb-true flags 0 none)
  | inr other ↦ let rest : (flags == 0x10) ≡ true = rw other at e in omega (arith, eqb-true flags 0x10 rest)
]

module _ (parts : ObjectParts) (right : AreObjectParts parts) where
  pub small : length (file_of parts.flags (all_of parts)) < 2 ^ 32
  unfolding object_bytes
  small = right.small

  -- the bytes of each section have room in the file
  content_small : (k : ℕ) (e : Entry) → k < length (all_of parts) → get_or (all_of parts) k no_entry ≡ e → length e.content < 2 ^ 32
  content_small k e below is =
      let long : length (get_or (all_of parts) k no_entry).content ≡ length e.content = ap (λ (x : Entry). length x.content) is in
      omega (arith, stands_room (content_there parts.flags (all_of parts) k below), small, long)

  -- values of tables have room
  table_room : (kind size link info align entry : ℕ) → kind < 2 ^ 32 → size < 2 ^ 32 → link < 2 ^ 32 → info < 2 ^ 32 → align < 2 ^ 64 → entry < 2 ^ 64
      → HasRoom 0 0 (record { kind = kind; flags = 0; size = size; link = link; info = info; align = align; entry_size = entry })
  table_room kind size link info align entry p q t u v w = record {
    name_fits = lit< tt;
    kind_fits = p;
    flags_fit = lit< tt;
    offset_fits = lit< tt;
    size_fits = omega (arith, q);
    link_fits = t;
    info_fits = u;
    align_fits = v;
    entry_size_fits = w;
  }

  headings_fit : (k : ℕ) → k < length (all_of parts) → HasRoom 0 0 (get_or (all_of parts) k no_entry).heading
  headings_fit =
      by_entry parts (λ (e : Entry). HasRoom 0 0 e.heading)
      (λ k below. let p = right.sections k below in record {
        name_fits = lit< tt;
        kind_fits = p.kind;
        flags_fit = p.flags;
        offset_fits = lit< tt;
        size_fits = p.size;
        link_fits = lit< tt;
        info_fits = lit< tt;
        align_fits = p.align;
        entry_size_fits = lit< tt;
      })
      (λ j below.
      let place : length parts.sections + j < length (all_of parts) = omega (arith, length-all parts) in
      table_room 4 _ (symbol_index parts) (get_or parts.relocations j no_relocations).target 8 24 (lit< tt)
      (content_small (length parts.sections + j) _ place (at_table parts j below)) (omega (arith, right.few))
      (omega (arith, (right.relocations j below).target_to, right.few)) (lit< tt) (lit< tt))
      (let small_table = content_small (length parts.sections + length parts.relocations) _ (omega (arith, length-all parts)) (at_symbols parts) in
      table_room 2 _ (symbol_index parts + 1) (first_global parts.symbols) 8 24 (lit< tt) small_table (omega (arith, right.few))
      (omega (arith, small_table, length-symbols parts.symbols, count_by-le-length is_local parts.symbols)) (lit< tt) (lit< tt))
      (table_room 3 _ 0 0 1 0 (lit< tt)
      (content_small (length parts.sections + length parts.relocations + 1) _ (omega (arith, length-all parts)) (at_names parts)) (lit< tt) (lit< tt) (lit< tt) (lit< tt))
      (table_room 3 _ 0 0 1 0 (lit< tt)
      (content_small (length parts.sections + length parts.relocations + 2) _ (omega (arith, length-all parts)) (at_own parts)) (lit< tt) (lit< tt) (lit< tt) (lit< tt))

  pub are_entries : AreEntries parts.flags (all_of parts)
  are_entries = record {
    flags_fit = flags_small parts.flags right.flags;
    few = omega (arith, length-all parts, right.few);
    small = small;
    headings = headings_fit;
  }

  pub are_clean : (k : ℕ) → k < length (all_of parts) → is_clean (get_or (all_of parts) k no_entry).name ≡ true
  are_clean =
      by_entry parts (λ (e : Entry). is_clean e.name ≡ true) (λ k below. (right.sections k below).clean) (λ j below. (right.relocations j below).clean) refl refl refl

  pub are_whole : (k : ℕ) → k < length (all_of parts) → IsWhole (get_or (all_of parts) k no_entry)
  are_whole =
      by_entry parts IsWhole (λ k below. (right.sections k below).whole) (λ j below there. refl) (λ there. refl) (λ there. refl) (λ there. refl)
