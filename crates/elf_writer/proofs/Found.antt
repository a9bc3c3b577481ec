-- Each section is found in the file, with its header, its name and its bytes.
use Rattle.std.proofs.Common.{◌≡◌, ◌==◌, ◌&&◌, nat_lt, ℕ, suc, ◌+◌, ◌*◌, ◌^◌, ◌<◌, ◌≤◌, Bool, true, false, not, Some, List, [], ◌∷◌, length, get_or, refl, ap, subst, ◌∙◌, arith, codes, add-zero}
use Rattle.std.specs.Str.{bytes_eq}
use Rattle.std.specs.List.{flat_map}
use Rattle.std.proofs.lemmas.Bool.{lt-ltb}
use Rattle.std.proofs.lemmas.List.{get_or-map, length-map}
use Rattle.elf_bytes.specs.Fields.{string_at}
use Rattle.elf_tables.specs.declared.header.SectionHeader.{SectionHeader}
use Rattle.elf_tables.specs.Header.{e_shnum, e_shoff, e_shstrndx}
use Rattle.elf_tables.specs.Section.{content, is_in_file, section_bytes, section_header, section_header_at, section_name, section_names}
use Rattle.elf_tables.specs.Kept.{is_allocated, is_kept, is_kept_by}
use Rattle.elf_writer.specs.declared.heading.Heading.{Heading}
use Rattle.elf_writer.specs.FileLayout.{place_of}
use Rattle.elf_writer.specs.Names.{ended, is_clean, name_place, string_table}
use Rattle.elf_writer.specs.Header.{header_of, null_heading}
use Rattle.elf_writer.specs.File.{Entry, all_names, contents, file_of, names, table_place, with_names}
use Rattle.elf_writer.proofs.Stands.{StandsAt, name_stands, stands_room, stands_taken}
use Rattle.elf_writer.proofs.Fields.{HasRoom, IsElfHeader, elf_read}
use Rattle.elf_writer.proofs.Back.{AreEntries, content_there, elf_there, first_header, length-with, names-with, no_entry, other_header, own_entry, stands_is, string_read, table_room}

-- allocated, no SHT_NOTE, and not named ".eh_frame"
abbrev pub is_kept_entry : Entry → Bool
is_kept_entry e = is_allocated (header_of 0 0 e.heading) && not (e.heading.kind == 7) && not (bytes_eq e.name (codes ".eh_frame"))

-- a section that says its own size
abbrev pub IsWhole : Entry → Type 0
IsWhole e = is_in_file (header_of 0 0 e.heading) ≡ true → e.heading.size ≡ length e.content

pub record Found (file : List ℕ) (index : ℕ) (e : Entry) : Type 0 where
  pub name_place_is : ℕ
  pub offset : ℕ
  pub header : section_header file index ≡ header_of name_place_is offset e.heading
  pub name : section_name file index ≡ Some e.name
  pub bytes : is_in_file (header_of 0 0 e.heading) ≡ true → section_bytes file index ≡ e.content
  pub room : is_in_file (header_of 0 0 e.heading) ≡ true → offset + e.heading.size ≤ length file
  pub kept : is_kept file index ≡ is_kept_entry e

-- what a header with these values says of its bytes
bytes_read : (file : List ℕ) (index name offset : ℕ) (h : Heading) (part : List ℕ) → index < e_shnum file
    → section_header file index ≡ header_of name offset h → is_in_file (header_of 0 0 h) ≡ true → h.size ≡ length part → StandsAt file offset part
    → section_bytes file index ≡ part
unfolding section_bytes content
bytes_read file index name offset h part below e there size s =
    let inside : nat_lt index (e_shnum file) ≡ true = lt-ltb _ _ below in
    rw (inside, e, there, size) (stands_taken s)

kept_read : (names name : List ℕ) (h : SectionHeader) (place offset : ℕ) (heading : Heading) → h ≡ header_of place offset heading
    → string_at names h.name ≡ Some name
    → is_kept_by names h ≡ (is_allocated (header_of 0 0 heading) && not (heading.kind == 7) && not (bytes_eq name (codes ".eh_frame")))
kept_read names name h place offset heading e found = rw (found, e) refl

module _ (flags : ℕ) (es : List Entry) (are : AreEntries flags (with_names es))
    (clean : (k : ℕ) → k < length (with_names es) → is_clean (get_or (with_names es) k no_entry).name ≡ true)
    (whole : (k : ℕ) → k < length (with_names es) → IsWhole (get_or (with_names es) k no_entry)) where
  abbrev all : List Entry
  all = with_names es

  abbrev file : List ℕ
  file = file_of flags (with_names es)

  pub elf_is : IsElfHeader file flags (table_place all) (length all)
  elf_is = elf_read file flags (table_place all) (length all) are.flags_fit (omega (arith, table_room flags all, are.small)) are.few (elf_there flags all)

  pub count_is : e_shnum file ≡ length es + 2
  count_is = elf_is.count ∙ omega (arith, length-with es)

  pub first_is : section_header file 0 ≡ header_of 0 0 null_heading
  first_is = ap (λ p. section_header_at file p) (add-zero (e_shoff file) ∙ elf_is.place) ∙ first_header flags all

  place_small : (k : ℕ) → k < length all → place_of 64 (contents all) k < 2 ^ 64
  place_small k below = omega (arith, stands_room (content_there flags all k below), are.small)

  own_below : length es < length all
  own_below = omega (arith, length-with es)

  own_there : StandsAt file (place_of 64 (contents all) (length es)) (string_table (all_names es))
  own_there = stands_is refl (ap (λ (e : Entry). e.content) (own_entry es)) (content_there flags all (length es) own_below)

  name_there : (k : ℕ) → k < length all → StandsAt (string_table (all_names es)) (name_place 1 (names all) k) (ended (get_or all k no_entry).name)
  unfolding string_table
  name_there k below =
      let inside : k < length (names all) = omega (arith, length-map all (λ (e : Entry). e.name)) in
      let s = name_stands (0 ∷ []) 1 (names all) k refl inside in
      let P : List (List ℕ) → Type 0 = λ ns. StandsAt (0 ∷ flat_map ended ns) (name_place 1 (names all) k) (ended (get_or all k no_entry).name) in
      subst P (names-with es) (stands_is refl (ap ended (get_or-map (λ (e : Entry). e.name) all k no_entry [] below)) s)

  name_small : (k : ℕ) → k < length all → name_place 1 (names all) k < 2 ^ 32
  name_small k below = omega (arith, stands_room (name_there k below), stands_room own_there, are.small)

  header_at : (k : ℕ) → k < length all
      → section_header file (suc k) ≡ header_of (name_place 1 (names all) k) (place_of 64 (contents all) k) (get_or all k no_entry).heading
  header_at k below =
      let h = are.headings k below in
      let room : HasRoom (name_place 1 (names all) k) (place_of 64 (contents all) k) (get_or all k no_entry).heading = record {
        name_fits = name_small k below;
        kind_fits = h.kind_fits;
        flags_fit = h.flags_fit;
        offset_fits = place_small k below;
        size_fits = h.size_fits;
        link_fits = h.link_fits;
        info_fits = h.info_fits;
        align_fits = h.align_fits;
        entry_size_fits = h.entry_size_fits;
      } in
      ap (λ p. section_header_at file (p + 64 * suc k)) elf_is.place ∙ other_header flags all k below room

  bytes_at : (k : ℕ) → k < length all → is_in_file (header_of 0 0 (get_or all k no_entry).heading) ≡ true
      → section_bytes file (suc k) ≡ (get_or all k no_entry).content
  bytes_at k below there =
      bytes_read file (suc k) (name_place 1 (names all) k) (place_of 64 (contents all) k) (get_or all k no_entry).heading (get_or all k no_entry).content
      (omega (arith, elf_is.count)) (header_at k below) there (whole k below there) (content_there flags all k below)

  pub names_are_there : section_names file ≡ string_table (all_names es)
  names_are_there =
      let index : e_shstrndx file ≡ suc (length es) = elf_is.names ∙ length-with es in
      let own = own_entry es in
      let there : is_in_file (header_of 0 0 (get_or all (length es) no_entry).heading) ≡ true = ap (λ (e : Entry). is_in_file (header_of 0 0 e.heading)) own in
      ap (section_bytes file) index ∙ bytes_at (length es) own_below there ∙ ap (λ (e : Entry). e.content) own

  name_at : (k : ℕ) → k < length all → section_name file (suc k) ≡ Some (get_or all k no_entry).name
  name_at k below =
      ap (λ ns. string_at ns (section_header file (suc k)).name) names_are_there
      ∙ ap (λ (h : SectionHeader). string_at (string_table (all_names es)) h.name) (header_at k below)
      ∙ string_read (string_table (all_names es)) (get_or all k no_entry).name (name_place 1 (names all) k) (clean k below) (name_there k below)

  found_at : (k : ℕ) → k < length all → Found file (suc k) (get_or all k no_entry)
  unfolding is_kept
  found_at k below = record {
    name_place_is = name_place 1 (names all) k;
    offset = place_of 64 (contents all) k;
    header = header_at k below;
    name = name_at k below;
    bytes = bytes_at k below;
    room = λ there. omega (arith, stands_room (content_there flags all k below), whole k below there);
    kept = kept_read (section_names file) (get_or all k no_entry).name (section_header file (suc k)) _ _ (get_or all k no_entry).heading (header_at k below) (name_at k below);
  }

  pub found : (k : ℕ) (e : Entry) → k < length all → get_or all k no_entry ≡ e → Found file (suc k) e
  found k e below is = let P : Entry → Type 0 = λ x. Found file (suc k) x in subst P is (found_at k below)

  -- section 0 is not kept
  pub first_dropped : is_kept file 0 ≡ false
  unfolding is_kept
  first_dropped = rw first_is refl
