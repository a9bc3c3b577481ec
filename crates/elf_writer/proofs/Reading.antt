-- What a reader of objects finds at each index of the file of right parts: sections, tables, and what is looked up of them.
use Rattle.std.proofs.Common.{◌≡◌, ◌==◌, ◌&&◌, ℕ, zero, suc, ◌+◌, ◌<◌, ◌≤◌, Bool, true, false, not, Some, None, List, length, get_or, refl, sym, ap, ◌∙◌, arith}
use Rattle.std.proofs.lemmas.Bool.{and_parts, eq-eqb, eqb-true, false_from_ne_true, not-true}
use Rattle.elf_tables.specs.declared.header.SectionHeader.{SectionHeader}
use Rattle.elf_tables.specs.Header.{e_shnum}
use Rattle.elf_tables.specs.Section.{section_bytes, section_header}
use Rattle.elf_tables.specs.Table.{is_symbol_table, relocates, symbol_table}
use Rattle.elf_tables.specs.Symbol.{bytes_of, linked_bytes, symbol_bytes, symbol_names}
use Rattle.elf_tables.specs.Relocation.{relocations_of}
use Rattle.least.specs.First.{first_below}
use Rattle.least.proofs.Firsts.{first_found, none_first}
use Rattle.elf_writer.specs.Names.{string_table}
use Rattle.elf_writer.specs.Header.{header_of, null_heading}
use Rattle.elf_writer.specs.File.{Entry, file_of}
use Rattle.elf_writer.specs.Parts.{ObjectParts, symbol_names as part_names}
use Rattle.elf_writer.specs.Tables.{symbols_bytes}
use Rattle.elf_writer.specs.Object.{entries_of, relocations_entry, section_count, section_entry, symbol_index, symbol_names_entry, symbols_entry}
use Rattle.elf_writer.specs.Right.{AreObjectParts, is_content_kind, no_relocations, no_section}
use Rattle.elf_writer.proofs.Back.{no_entry}
use Rattle.elf_writer.proofs.Found.{Found, count_is, first_is, found}
use Rattle.elf_writer.proofs.Indexes.{all_of, are_clean, are_entries, are_whole, at_names, at_own, at_section, at_symbols, at_table, by_index, length-all, length-parts, own_of}

-- a type that is left to sections is none of the writer's own
pub record IsContentKind (kind : ℕ) : Type 0 where
  pub no_symbols : (kind == 2) ≡ false
  pub no_rela : (kind == 4) ≡ false
  pub no_rel : (kind == 9) ≡ false
  pub no_group : (kind == 17) ≡ false

content_kind : (kind : ℕ) → is_content_kind kind ≡ true → IsContentKind kind
content_kind kind e =
    let c = and_parts (not (kind == 2) && not (kind == 4) && not (kind == 9)) (not (kind == 17)) e in
    let b = and_parts (not (kind == 2) && not (kind == 4)) (not (kind == 9)) c.0 in
    let a = and_parts (not (kind == 2)) (not (kind == 4)) b.0 in
    record { no_symbols = not-true _ a.0; no_rela = not-true _ a.1; no_rel = not-true _ b.1; no_group = not-true _ c.1 }

-- what a section's header says, by what was written
kind_is : (file : List ℕ) (index : ℕ) (e : Entry) → Found file index e → (section_header file index).kind ≡ e.heading.kind
kind_is file index e f = ap (λ (h : SectionHeader). h.kind) f.header

pub relocates_is : (file : List ℕ) (index target : ℕ) (e : Entry) → Found file index e
    → relocates file target index ≡ (e.heading.kind == 4 && e.heading.info == target)
relocates_is file index target e f = rw f.header refl

pub symbol_table_at : (file : List ℕ) (index : ℕ) (e : Entry) → Found file index e → is_symbol_table file index ≡ (e.heading.kind == 2)
symbol_table_at file index e f = rw f.header refl

false_and : (a b : Bool) → a ≡ false → (a && b) ≡ false
false_and true b e = absurd (cc)
false_and false b e = refl

no_test : {P : Type 0} (a b : Bool) → b ≡ true → b ≡ a → a ≡ false → P
no_test a b holds e fails = let no : true ≡ false = sym holds ∙ e ∙ fails in absurd (cc)

module _ (parts : ObjectParts) (right : AreObjectParts parts) where
  abbrev pub file : List ℕ
  file = file_of parts.flags (all_of parts)

  found_entry : (k : ℕ) (e : Entry) → k < length (all_of parts) → get_or (all_of parts) k no_entry ≡ e → Found file (suc k) e
  found_entry k e below is = found parts.flags (entries_of parts) (are_entries parts right) (are_clean parts right) (are_whole parts right) k e below is

  pub section_found : (k : ℕ) → k < length parts.sections → Found file (suc k) (section_entry (get_or parts.sections k no_section))
  section_found k below = found_entry k _ (omega (arith, length-all parts)) (at_section parts k below)

  pub table_found : (j : ℕ) → j < length parts.relocations
      → Found file (suc (length parts.sections + j)) (relocations_entry (symbol_index parts) (get_or parts.relocations j no_relocations))
  table_found j below = found_entry (length parts.sections + j) _ (omega (arith, length-all parts)) (at_table parts j below)

  pub symbols_found : Found file (suc (length parts.sections + length parts.relocations)) (symbols_entry (symbol_index parts) parts.symbols)
  symbols_found = found_entry (length parts.sections + length parts.relocations) _ (omega (arith, length-all parts)) (at_symbols parts)

  pub names_found : Found file (suc (length parts.sections + length parts.relocations + 1)) (symbol_names_entry parts.symbols)
  names_found = found_entry (length parts.sections + length parts.relocations + 1) _ (omega (arith, length-all parts)) (at_names parts)

  pub own_found : Found file (suc (length parts.sections + length parts.relocations + 2)) (own_of parts)
  own_found = found_entry (length parts.sections + length parts.relocations + 2) _ (omega (arith, length-all parts)) (at_own parts)

  pub shnum_is : e_shnum file ≡ section_count parts
  shnum_is = count_is parts.flags (entries_of parts) (are_entries parts right) (are_clean parts right) (are_whole parts right) ∙ omega (arith, length-parts parts)

  pub null_is : section_header file 0 ≡ header_of 0 0 null_heading
  null_is = first_is parts.flags (entries_of parts) (are_entries parts right) (are_clean parts right) (are_whole parts right)

  pub kinds_of : (k : ℕ) → k < length parts.sections → IsContentKind (get_or parts.sections k no_section).kind
  kinds_of k below = content_kind _ (right.sections k below).taken

  -- what holds of section 0 and of each of the sections holds at each index
  pub each_index : (P : ℕ → Type 0) → P 0 → ((k : ℕ) → k < length parts.sections → P (suc k))
      → ((j : ℕ) → j < length parts.relocations → P (suc (length parts.sections + j))) → P (suc (length parts.sections + length parts.relocations))
      → P (suc (length parts.sections + length parts.relocations + 1)) → P (suc (length parts.sections + length parts.relocations + 2))
      → (index : ℕ) → index < section_count parts → P index
  each_index P first sections tables symbols names own zero below = first
  each_index P first sections tables symbols names own (suc k) below =
      by_index parts (λ i. P (suc i)) sections tables symbols names own k (omega (arith, length-all parts))

  -- the one symbol table
  only_symbols : (index : ℕ) → index < section_count parts → is_symbol_table file index ≡ true
      → index ≡ suc (length parts.sections + length parts.relocations)
  only_symbols =
      each_index (λ index. is_symbol_table file index ≡ true → index ≡ suc (length parts.sections + length parts.relocations))
      (λ holds. let no : false ≡ true = rw null_is at holds in absurd (cc))
      (λ k below holds. no_test _ _ holds (symbol_table_at file (suc k) _ (section_found k below)) (kinds_of k below).no_symbols)
      (λ j below holds. no_test _ _ holds (symbol_table_at file (suc (length parts.sections + j)) _ (table_found j below)) refl)
      (λ holds. refl)
      (λ holds. no_test _ _ holds (symbol_table_at file _ _ names_found) refl)
      (λ holds. no_test _ _ holds (symbol_table_at file _ _ own_found) refl)

  pub no_symbols_before : (index : ℕ) → index ≤ suc (length parts.sections + length parts.relocations) → first_below (is_symbol_table file) index ≡ None
  no_symbols_before index most =
      none_first (is_symbol_table file) index (λ k below.
      false_from_ne_true _ (λ holds. let same = only_symbols k (omega arith) holds in absurd (omega arith)))

  pub symbol_table_is : symbol_table file ≡ Some (suc (length parts.sections + length parts.relocations))
  unfolding symbol_table
  symbol_table_is =
      let n = suc (length parts.sections + length parts.relocations) in
      first_found (is_symbol_table file) n (e_shnum file) (omega (arith, shnum_is)) (no_symbols_before n (omega arith)) (symbol_table_at file n _ symbols_found)

  -- only the tables of relocations have relocations, each of its target
  pub only_tables : (target index : ℕ) → index < section_count parts → relocates file target index ≡ true
      → (j : ℕ) × (j < length parts.relocations) × (index ≡ suc (length parts.sections + j)) × ((get_or parts.relocations j no_relocations).target ≡ target)
  only_tables target =
      each_index (λ index. relocates file target index ≡ true
      → (j : ℕ) × (j < length parts.relocations) × (index ≡ suc (length parts.sections + j)) × ((get_or parts.relocations j no_relocations).target ≡ target))
      (λ holds. let no : false ≡ true = rw null_is at holds in absurd (cc))
      (λ k below holds. no_test _ _ holds (relocates_is file (suc k) target _ (section_found k below)) (false_and _ _ (kinds_of k below).no_rela))
      (λ j below holds.
      let same : ((get_or parts.relocations j no_relocations).target == target) ≡ true = sym (relocates_is file (suc (length parts.sections + j)) target _ (table_found j below)) ∙ holds in
      (j, below, refl, eqb-true _ _ same))
      (λ holds. no_test _ _ holds (relocates_is file _ target _ symbols_found) refl)
      (λ holds. no_test _ _ holds (relocates_is file _ target _ names_found) refl)
      (λ holds. no_test _ _ holds (relocates_is file _ target _ own_found) refl)

  -- no two of one target
  pub none_before : (j : ℕ) → j < length parts.relocations
      → first_below (relocates file (get_or parts.relocations j no_relocations).target) (suc (length parts.sections + j)) ≡ None
  none_before j below =
      none_first (relocates file (get_or parts.relocations j no_relocations).target) (suc (length parts.sections + j)) (λ k less.
      false_from_ne_true _ (λ holds.
      let (i, there, place, same) = only_tables _ k (omega arith) holds in
      right.apart i j (omega arith) below same))

  pub table_relocates : (j : ℕ) → j < length parts.relocations
      → relocates file (get_or parts.relocations j no_relocations).target (suc (length parts.sections + j)) ≡ true
  table_relocates j below = relocates_is file _ _ _ (table_found j below) ∙ eq-eqb _ _ refl

  pub relocations_are : (j : ℕ) → j < length parts.relocations
      → relocations_of file (get_or parts.relocations j no_relocations).target ≡ Some (suc (length parts.sections + j))
  unfolding relocations_of
  relocations_are j below =
      first_found (relocates file (get_or parts.relocations j no_relocations).target) (suc (length parts.sections + j)) (e_shnum file) (omega (arith, shnum_is)) (none_before j below) (table_relocates j below)

  -- the bytes of the three tables
  pub symbol_bytes_are : symbol_bytes file ≡ symbols_bytes parts.symbols
  unfolding symbol_bytes
  symbol_bytes_are = ap (bytes_of file) symbol_table_is ∙ symbols_found.bytes refl

  pub symbol_names_are : symbol_names file ≡ string_table (part_names parts.symbols)
  unfolding symbol_names
  symbol_names_are =
      let link : (section_header file (suc (length parts.sections + length parts.relocations))).link ≡ suc (length parts.sections + length parts.relocations + 1) =
      ap (λ (h : SectionHeader). h.link) symbols_found.header ∙ omega arith in
      ap (linked_bytes file) symbol_table_is ∙ ap (section_bytes file) link ∙ names_found.bytes refl
