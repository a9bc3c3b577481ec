-- What is known of each section, relocation and symbol of an object without a fault.
use Rattle.std.proofs.Common.{◌≡◌, ◌≢◌, ◌⊎◌, ℕ, ◌<◌, ◌≤◌, ◌%◌, nat_lt, nat_le, ◌==◌, ◌&&◌, ◌||◌, not, if◌then◌else◌, true, false, List, Option, Some, None, is_none, inl, inr, refl, ap}
use Rattle.std.specs.Prelude.{IsSome}
use Rattle.std.proofs.lemmas.Bool.{cases_Bool, or_parts, and_parts, and_from, eqb-true, eqb-false, eq-eqb, ne_eqb, lt-ltb, ltb-true, ltb-false, leb-true, not-false}
use Rattle.rv_word.proofs.Booleans.{one_of, and_rest}
use Rattle.elf_bytes.specs.Fields.{string_at}
use Rattle.elf_tables.specs.declared.header.SectionHeader.{SectionHeader}
use Rattle.elf_tables.specs.declared.entry.SymbolEntry.{SymbolEntry}
use Rattle.least.proofs.Leasts.{least_none}
use Rattle.elf_tables.specs.Header.{e_shnum}
use Rattle.elf_tables.specs.Section.{section_header}
use Rattle.elf_tables.specs.Kept.{is_executable, is_kept, is_thread_local, is_writable}
use Rattle.elf_tables.specs.Symbol.{symbol, symbol_count, symbol_name, symbol_names, symbol_type}
use Rattle.elf_tables.specs.Relocation.{relocation_bytes, relocation_count}
use Rattle.elf_object.specs.Kind.{is_alignment, is_wrong_kept, is_wrong_code, is_wrong_data}
use Rattle.elf_object.specs.Symbol.{is_wrong_entry, has_no_place, has_wrong_type, is_past_end, has_wrong_alignment}
use Rattle.elf_object.specs.Stray.{stray_at, stray_in, stray_symbol}
use Rattle.elf_object.specs.Laws.{SectionsAreNamed, SectionsAreWhole, IsRightKept, KeptSectionsAreRight, RelocationsNameSymbols, IsRightSymbol, SymbolsAreRight}
use Rattle.elf_object.proofs.Sound.{sound, section_named, section_whole}

pub sections_named : SectionsAreNamed
sections_named bytes k e below = rw (section_named bytes k e below) refl

pub sections_whole : SectionsAreWhole
sections_whole = section_whole

right_sort : (kind : ℕ) → not (kind == 1 || kind == 8) ≡ false → (kind ≡ 1) ⊎ (kind ≡ 8)
right_sort kind e = elim (one_of (kind == 1) (kind == 8) (not-false _ e)) [
  | inl one ↦ inl (eqb-true kind 1 one)
  | inr eight ↦ inr (eqb-true kind 8 eight)
]

pub not_zeros : (kind : ℕ) → (kind ≡ 1) ⊎ (kind ≡ 8) → (kind == 8) ≡ false → kind ≡ 1
not_zeros kind (inl one) other = one
not_zeros kind (inr eight) other = let no : true ≡ false = rw eight at other in absurd (cc)

right_kept : (h : SectionHeader) → is_wrong_kept h ≡ false → IsRightKept h
right_kept h right =
    let d = or_parts (not (h.kind == 1 || h.kind == 8) || is_thread_local h || not (is_alignment h.align) || is_executable h && is_wrong_code h) (not (is_executable h) && is_wrong_data h) right in
    let c = or_parts (not (h.kind == 1 || h.kind == 8) || is_thread_local h || not (is_alignment h.align)) (is_executable h && is_wrong_code h) d.0 in
    let b = or_parts (not (h.kind == 1 || h.kind == 8) || is_thread_local h) (not (is_alignment h.align)) c.0 in
    let a = or_parts (not (h.kind == 1 || h.kind == 8)) (is_thread_local h) b.0 in
    let sort = right_sort h.kind a.0 in
    let code = λ (executable : is_executable h ≡ true). or_parts (is_writable h || h.kind == 8) (not (h.size % 4 == 0)) (and_rest (is_executable h) (is_wrong_code h) c.1 executable) in
    let whole = λ (executable : is_executable h ≡ true). or_parts (is_writable h) (h.kind == 8) (code executable).0 in
    record {
      sort = sort;
      not_thread_local = a.1;
      aligned = not-false (is_alignment h.align) b.1;
      code_in_file = λ executable. not_zeros h.kind sort (whole executable).1;
      code_not_writable = λ executable. (whole executable).0;
      code_whole = λ executable. eqb-true (h.size % 4) 0 (not-false _ (code executable).1);
      data_aligned = λ other. ltb-false 4096 h.align (and_rest (not (is_executable h)) (is_wrong_data h) d.1 (ap not other));
    }

pub kept_right : KeptSectionsAreRight
kept_right bytes k e below kept =
    let right = (sound bytes e).kinds k below in
    let rest = or_parts ((section_header bytes k).kind == 17) (is_kept bytes k && is_wrong_kept (section_header bytes k)) right in
    right_kept (section_header bytes k) (and_rest (is_kept bytes k) (is_wrong_kept (section_header bytes k)) rest.1 kept)

there : (number count : ℕ) → (if nat_lt number count then None else Some number) ≡ None → number < count
there number count none = elim (cases_Bool (nat_lt number count)) [
  | inl below ↦ ltb-true number count below
  | inr past ↦ let no : Some number ≡ None = rw past at none in absurd (cc)
]

pub relocations_named : RelocationsNameSymbols
unfolding stray_symbol
relocations_named bytes k j e section index =
    let here = least_none (λ target. stray_in (symbol_count bytes) (relocation_bytes bytes target)) (e_shnum bytes) k (sound bytes e).named section in
    there _ _ (least_none (stray_at (symbol_count bytes) (relocation_bytes bytes k)) (relocation_count (relocation_bytes bytes k)) j here index)

right_place : (section count : ℕ) → not (nat_lt section count || section == 0xfff1 || section == 0xfff2) ≡ false
    → (section < count) ⊎ ((section ≡ 0xfff1) ⊎ (section ≡ 0xfff2))
right_place section count e = elim (one_of (nat_lt section count || section == 0xfff1) (section == 0xfff2) (not-false _ e)) [
  | inl before ↦ elim (one_of (nat_lt section count) (section == 0xfff1) before) [
    | inl below ↦ inl (ltb-true section count below)
    | inr absolute ↦ inr (inl (eqb-true section 0xfff1 absolute))
  ]
  | inr common ↦ inr (inr (eqb-true section 0xfff2 common))
]

within : (bytes : List ℕ) (s : SymbolEntry) → is_past_end bytes s ≡ false → s.section ≢ 0 → s.section < e_shnum bytes → is_kept bytes s.section ≡ true
    → s.value ≤ (section_header bytes s.section).size
within bytes s right defined below kept =
    let third = and_rest (not (s.section == 0) && nat_lt s.section (e_shnum bytes) && is_kept bytes s.section) (nat_lt (section_header bytes s.section).size s.value) right in
    ltb-false _ _ (third (and_from _ _ (and_from _ _ (ap not (ne_eqb s.section 0 defined)) (lt-ltb _ _ below)) kept))

right_symbol : (bytes : List ℕ) (s : SymbolEntry) → is_wrong_entry bytes s ≡ false → IsRightSymbol bytes s
right_symbol bytes s right =
    let d = or_parts (is_none (string_at (symbol_names bytes) s.name) || has_no_place bytes s || has_wrong_type s || is_past_end bytes s) (has_wrong_alignment s) right in
    let c = or_parts (is_none (string_at (symbol_names bytes) s.name) || has_no_place bytes s || has_wrong_type s) (is_past_end bytes s) d.0 in
    let b = or_parts (is_none (string_at (symbol_names bytes) s.name) || has_no_place bytes s) (has_wrong_type s) c.0 in
    let a = or_parts (is_none (string_at (symbol_names bytes) s.name)) (has_no_place bytes s) b.0 in
    let type = or_parts (symbol_type s.info == 6) (symbol_type s.info == 10) b.1 in
    let common = λ (e : s.section ≡ 0xfff2). and_parts (is_alignment s.value) (nat_le s.value 4096) (not-false _ (and_rest (s.section == 0xfff2) _ d.1 (eq-eqb _ _ e))) in
    record {
      placed = right_place s.section (e_shnum bytes) a.1;
      not_thread_local = λ e. eqb-false (symbol_type s.info) 6 type.0 e;
      not_chosen_late = λ e. eqb-false (symbol_type s.info) 10 type.1 e;
      inside = within bytes s c.1;
      common_aligned = λ e. (common e).0;
      common_within_page = λ e. leb-true s.value 4096 (common e).1;
    }

named : {A : Type 0} (o : Option A) → is_none o ≡ false → IsSome o
named None e = absurd (cc)
named (Some x) e = refl

pub symbols_right : SymbolsAreRight
symbols_right bytes k e below other =
    let right = and_rest (not (k == 0)) (is_wrong_entry bytes (symbol bytes k)) ((sound bytes e).symbols k below) (ap not (ne_eqb k 0 other)) in
    let d = or_parts (is_none (symbol_name bytes k) || has_no_place bytes (symbol bytes k) || has_wrong_type (symbol bytes k) || is_past_end bytes (symbol bytes k)) (has_wrong_alignment (symbol bytes k)) right in
    let c = or_parts (is_none (symbol_name bytes k) || has_no_place bytes (symbol bytes k) || has_wrong_type (symbol bytes k)) (is_past_end bytes (symbol bytes k)) d.0 in
    let b = or_parts (is_none (symbol_name bytes k) || has_no_place bytes (symbol bytes k)) (has_wrong_type (symbol bytes k)) c.0 in
    (right_symbol bytes (symbol bytes k) right, named (symbol_name bytes k) (or_parts (is_none (symbol_name bytes k)) (has_no_place bytes (symbol bytes k)) b.0).0)
