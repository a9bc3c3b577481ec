-- The file of sections is read as these sections: their headers, contents and names.
use Rattle.std.proofs.Common.{◌≡◌, ◌==◌, ℕ, zero, suc, ◌+◌, ◌*◌, ◌^◌, ◌<◌, ◌≤◌, true, not, Some, List, [], ◌∷◌, ◌++◌, length, drop, get_or, refl, sym, ap, subst, ◌∙◌, arith, position, add-zero, lit<, length-append, codes}
use Rattle.std.specs.List.{prefix_len}
use Rattle.std.proofs.lemmas.Bool.{and_parts, lt-ltb}
use Rattle.std.proofs.lemmas.List.{append_assoc, get_or-map, get_or_append_left, length-map, map-append, take_at}
use Rattle.std.proofs.Math.Seq.{get_or-append_seam}
use Rattle.elf_bytes.specs.Fields.{string_at, string_of}
use Rattle.elf_tables.specs.Section.{section_header_at}
use Rattle.elf_writer.specs.FileLayout.{up8, laid_out, place_of}
use Rattle.elf_writer.specs.Names.{ended, is_clean, name_place, string_table}
use Rattle.elf_writer.specs.Header.{elf_header, header_bytes, header_of, null_heading}
use Rattle.elf_writer.specs.File.{Entry, all_names, contents, entry, file_of, headers_from, names, strings_entry, table, table_place, with_names}
use Rattle.elf_writer.proofs.Stands.{StandsAt, content_stands, place-append, stands_at, stands_dropped, stands_first, stands_room, stands_second, stands_within}
use Rattle.elf_writer.proofs.Fields.{HasRoom, header_read, length-elf, length-header}

abbrev pub no_entry : Entry
no_entry = entry [] null_heading []

-- where each of several section headers stands
headers_stand : (name at : ℕ) (es : List Entry) (k : ℕ) → k < length es
    → StandsAt (headers_from name at es) (64 * k) (header_bytes (name_place name (names es) k) (place_of at (contents es) k) (get_or es k no_entry).heading)
unfolding headers_from name_place place_of
headers_stand name at [] k below = absurd (omega arith)
headers_stand name at (e ∷ es) zero below = stands_first (header_bytes name (up8 at) e.heading) (headers_from (name + length e.name + 1) (up8 at + length e.content) es)
headers_stand name at (e ∷ es) (suc k) below =
    let s = headers_stand (name + length e.name + 1) (up8 at + length e.content) es k (omega arith) in
    let step : length (header_bytes name (up8 at) e.heading) + 64 * k ≡ 64 * suc k = omega (arith, length-header name (up8 at) e.heading) in
    stands_at step (stands_within (stands_second (header_bytes name (up8 at) e.heading) (headers_from (name + length e.name + 1) (up8 at + length e.content) es)) s)

pub length-headers : (name at : ℕ) (es : List Entry) → length (headers_from name at es) ≡ 64 * length es
unfolding headers_from
length-headers name at [] = refl
length-headers name at (e ∷ es) =
    length-append (header_bytes name (up8 at) e.heading) (headers_from (name + length e.name + 1) (up8 at + length e.content) es)
    ∙ omega (arith, length-header name (up8 at) e.heading, length-headers (name + length e.name + 1) (up8 at + length e.content) es)

pub stands_is : {file : List ℕ} {at at' : ℕ} {part part' : List ℕ} → at ≡ at' → part ≡ part' → StandsAt file at part → StandsAt file at' part'
stands_is {file = file} {at' = at'} p q s = let P : List ℕ → Type 0 = λ xs. StandsAt file at' xs in subst P q (stands_at p s)

-- when sections can be written and read: their values have room
pub record AreEntries (flags : ℕ) (es : List Entry) : Type 0 where
  pub flags_fit : flags < 2 ^ 32
  pub few : length es + 1 < 2 ^ 16
  pub small : length (file_of flags es) < 2 ^ 32
  pub headings : (k : ℕ) → k < length es → HasRoom 0 0 (get_or es k no_entry).heading

module _ (flags : ℕ) (es : List Entry) where
  front : List ℕ
  front = elf_header flags (table_place es) (length es)

  pub content_there : (k : ℕ) → k < length es → StandsAt (file_of flags es) (place_of 64 (contents es) k) (get_or es k no_entry).content
  unfolding file_of
  content_there k below =
      let inside : k < length (contents es) = omega (arith, length-map es (λ (e : Entry). e.content)) in
      let all : k < length (contents es ++ (table es ∷ [])) = omega (arith, length-append (contents es) (table es ∷ [])) in
      stands_is (place-append 64 (contents es) (table es) k (omega arith))
      (get_or_append_left (contents es) (table es ∷ []) [] k inside ∙ get_or-map (λ (e : Entry). e.content) es k no_entry [] below)
      (content_stands (elf_header flags (table_place es) (length es)) 64 (contents es ++ (table es ∷ [])) k (length-elf flags (table_place es) (length es)) all)

  pub table_there : StandsAt (file_of flags es) (table_place es) (table es)
  unfolding file_of
  table_there =
      let long : length (contents es) ≡ length es = length-map es (λ (e : Entry). e.content) in
      let all : length es < length (contents es ++ (table es ∷ [])) = omega (arith, long, length-append (contents es) (table es ∷ [])) in
      stands_is (place-append 64 (contents es) (table es) (length es) (omega arith))
      (ap (λ k. get_or (contents es ++ (table es ∷ [])) k []) (sym long) ∙ get_or-append_seam (contents es) (table es) [] [])
      (content_stands (elf_header flags (table_place es) (length es)) 64 (contents es ++ (table es ∷ [])) (length es) (length-elf flags (table_place es) (length es)) all)

  pub table_room : table_place es + 64 * (length es + 1) ≤ length (file_of flags es)
  unfolding table
  table_room =
      omega (arith, stands_room table_there, length-append (header_bytes 0 0 null_heading) (headers_from 1 64 es), length-header 0 0 null_heading, length-headers 1 64 es)

  pub elf_there : StandsAt (file_of flags es) 0 (elf_header flags (table_place es) (length es))
  unfolding file_of
  elf_there = stands_first (elf_header flags (table_place es) (length es)) (laid_out 64 (contents es ++ (table es ∷ [])))

  pub first_header : section_header_at (file_of flags es) (table_place es) ≡ header_of 0 0 null_heading
  unfolding table
  first_header =
      let room : HasRoom 0 0 null_heading = record { name_fits = lit< tt; kind_fits = lit< tt; flags_fit = lit< tt; offset_fits = lit< tt; size_fits = lit< tt; link_fits = lit< tt; info_fits = lit< tt; align_fits = lit< tt; entry_size_fits = lit< tt } in
      header_read (file_of flags es) (table_place es) 0 0 null_heading room (stands_at (add-zero (table_place es)) (stands_within table_there (stands_first (header_bytes 0 0 null_heading) (headers_from 1 64 es))))

  pub other_header : (k : ℕ) → k < length es
      → HasRoom (name_place 1 (names es) k) (place_of 64 (contents es) k) (get_or es k no_entry).heading
      → section_header_at (file_of flags es) (table_place es + 64 * suc k) ≡ header_of (name_place 1 (names es) k) (place_of 64 (contents es) k) (get_or es k no_entry).heading
  unfolding table
  other_header k below room =
      let s = stands_within table_there (stands_within (stands_second (header_bytes 0 0 null_heading) (headers_from 1 64 es)) (headers_stand 1 64 es k below)) in
      let step : table_place es + (length (header_bytes 0 0 null_heading) + 64 * k) ≡ table_place es + 64 * suc k = omega (arith, length-header 0 0 null_heading) in
      header_read (file_of flags es) (table_place es + 64 * suc k) (name_place 1 (names es) k) (place_of 64 (contents es) k) (get_or es k no_entry).heading room (stands_at step s)

-- the table of names is the last content
pub names-with : (es : List Entry) → names (with_names es) ≡ all_names es
names-with es = map-append (λ (e : Entry). e.name) es (strings_entry (codes ".shstrtab") (string_table (all_names es)) ∷ [])

pub length-with : (es : List Entry) → length (with_names es) ≡ suc (length es)
length-with es = length-append es (strings_entry (codes ".shstrtab") (string_table (all_names es)) ∷ []) ∙ omega arith

pub own_entry : (es : List Entry) → get_or (with_names es) (length es) no_entry ≡ strings_entry (codes ".shstrtab") (string_table (all_names es))
own_entry es = get_or-append_seam es (strings_entry (codes ".shstrtab") (string_table (all_names es))) [] no_entry

-- a name without a NUL is read as it was written
clean_len : (name rest : List ℕ) → is_clean name ≡ true → prefix_len (λ b. not (b == 0)) (name ++ (0 ∷ rest)) ≡ length name
clean_len [] rest clean = refl
clean_len (b ∷ name) rest clean =
    let parts = and_parts (not (b == 0)) (is_clean name) clean in
    rw parts.0 (ap (λ n. 1 + n) (clean_len name rest parts.1) ∙ omega arith)

pub string_read : (table name : List ℕ) (at : ℕ) → is_clean name ≡ true → StandsAt table at (ended name) → string_at table at ≡ Some name
string_read table name at clean s =
    let whole : drop at table ≡ name ++ (0 ∷ s.after) = stands_dropped s ∙ append_assoc name (0 ∷ []) s.after in
    let len = clean_len name s.after clean in
    let long : length name < length (name ++ (0 ∷ s.after)) = omega (arith, length-append name (0 ∷ s.after)) in
    let found : position (λ b. b == 0) (name ++ (0 ∷ s.after)) ≡ Some (length name) = rw (len, lt-ltb _ _ long) refl in
    let here : string_of (name ++ (0 ∷ s.after)) ≡ Some name = rw found (ap Some (take_at name (0 ∷ s.after) (length name) refl)) in
    ap string_of whole ∙ here
