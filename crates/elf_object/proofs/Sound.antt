-- What is known of the bytes of an object without a fault.
use Rattle.std.proofs.Common.{◌≡◌, ℕ, ◌+◌, ◌<◌, ◌≤◌, nat_lt, ◌&&◌, List, [], length, drop, true, false, is_none, unwrap_or, Option, Some, None, option_map, inl, inr, refl, arith}
use Rattle.std.proofs.lemmas.Bool.{cases_Bool, or_parts, ltb-false}
use Rattle.std.proofs.lemmas.List.{length-take-le, length-drop}
use Rattle.rv_word.proofs.Cases.{neither, unmapped}
use Rattle.elf_tables.specs.declared.header.SectionHeader.{SectionHeader}
use Rattle.elf_object.specs.declared.fault.ObjectFault.TheVariants.{BadTable, Truncated}
use Rattle.least.specs.First.{first_below}
use Rattle.elf_tables.specs.Header.{e_shnum, e_shoff, section_headers_end}
use Rattle.elf_tables.specs.Section.{section_header, section_name, is_in_file, content}
use Rattle.elf_object.specs.Kind.{is_wrong_kind}
use Rattle.elf_object.specs.Table.{is_wrong_start, is_wrong_table, is_wrong_table_of}
use Rattle.elf_tables.specs.Symbol.{symbol_count}
use Rattle.elf_object.specs.Symbol.{is_wrong_symbol}
use Rattle.elf_object.specs.Stray.{stray_symbol}
use Rattle.elf_object.specs.Fault.{is_cut, header_fault, truncated, table_fault, kind_fault, symbol_fault, fault_of}
use Rattle.least.proofs.Firsts.{first_none}

pub record IsSound (bytes : List ℕ) : Type 0 where
  pub header : header_fault bytes ≡ None
  pub whole : truncated bytes ≡ None
  pub start : is_wrong_start bytes ≡ false
  pub tables : (k : ℕ) → k < e_shnum bytes → is_wrong_table bytes k ≡ false
  pub kinds : (k : ℕ) → k < e_shnum bytes → is_wrong_kind bytes k ≡ false
  pub symbols : (k : ℕ) → k < symbol_count bytes → is_wrong_symbol bytes k ≡ false
  pub named : stray_symbol bytes ≡ None

right_tables : (bytes : List ℕ) → table_fault bytes ≡ None → (is_wrong_start bytes ≡ false) × (first_below (is_wrong_table bytes) (e_shnum bytes) ≡ None)
unfolding table_fault
right_tables bytes e = elim (cases_Bool (is_wrong_start bytes)) [
  | inl wrong ↦ let no : Some (BadTable 0) ≡ None = rw wrong at e in absurd (cc)
  | inr right ↦
      let rest : option_map (λ k. BadTable k) (first_below (is_wrong_table bytes) (e_shnum bytes)) ≡ None = rw right at e in
      (right, unmapped (λ (k : ℕ). BadTable k) _ rest)
]

pub sound : (bytes : List ℕ) → fault_of bytes ≡ None → IsSound bytes
unfolding fault_of kind_fault symbol_fault
sound bytes e =
    let first = neither _ _ e in
    let second = neither _ _ first.1 in
    let third = neither _ _ second.1 in
    let fourth = neither _ _ third.1 in
    let tables = right_tables bytes third.0 in
    let kinds = unmapped _ _ fourth.0 in
    let symbols = neither _ _ (unmapped _ _ fourth.1) in
    record {
      header = first.0;
      whole = second.0;
      start = tables.0;
      tables = λ k below. first_none _ _ k tables.1 below;
      kinds = λ k below. first_none _ _ k kinds below;
      symbols = λ k below. first_none _ _ k symbols.0 below;
      named = symbols.1;
    }

there : {A : Type 0} (o : Option A) (d : A) → is_none o ≡ false → o ≡ Some (unwrap_or o d)
there None d e = absurd (cc)
there (Some x) d e = refl

-- each section has a name
pub section_named : (bytes : List ℕ) (k : ℕ) → fault_of bytes ≡ None → k < e_shnum bytes
    → section_name bytes k ≡ Some (unwrap_or (section_name bytes k) [])
section_named bytes k e below =
    let right = (sound bytes e).tables k below in
    there (section_name bytes k) [] (or_parts (is_none (section_name bytes k)) (is_wrong_table_of bytes k (section_header bytes k)) right).0

-- each section that has bytes in the file has all of them there
right_places : (bytes : List ℕ) → truncated bytes ≡ None → first_below (is_cut bytes) (e_shnum bytes) ≡ None
unfolding truncated
right_places bytes e = elim (cases_Bool (nat_lt (length bytes) (section_headers_end bytes))) [
  | inl past ↦ let no : Some (Truncated (e_shoff bytes)) ≡ None = rw past at e in absurd (cc)
  | inr within ↦
      let rest : option_map (λ k. Truncated (section_header bytes k).offset) (first_below (is_cut bytes) (e_shnum bytes)) ≡ None = rw within at e in
      unmapped (λ (k : ℕ). Truncated (section_header bytes k).offset) _ rest
]

within_file : (bytes : List ℕ) (h : SectionHeader) → is_in_file h ≡ true
    → (is_in_file h && nat_lt (length bytes) (h.offset + h.size)) ≡ false → length (content bytes h) ≡ h.size
unfolding content
within_file bytes h there right =
    let inside : nat_lt (length bytes) (h.offset + h.size) ≡ false = rw there at right in
    let room : h.offset + h.size ≤ length bytes = ltb-false _ _ inside in
    rw there (length-take-le h.size (drop h.offset bytes) (omega (arith, length-drop h.offset bytes)))

pub section_whole : (bytes : List ℕ) (k : ℕ) → fault_of bytes ≡ None → k < e_shnum bytes → is_in_file (section_header bytes k) ≡ true
    → length (content bytes (section_header bytes k)) ≡ (section_header bytes k).size
section_whole bytes k e below there =
    within_file bytes (section_header bytes k) there (first_none (is_cut bytes) _ k (right_places bytes (sound bytes e).whole) below)
