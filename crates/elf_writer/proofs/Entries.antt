-- Symbols and relocations are read as they were written.
use Rattle.std.proofs.Common.{◌≡◌, ℕ, zero, suc, ◌+◌, ◌*◌, ◌/◌, ◌^◌, ◌<◌, true, Some, ◌⊎◌, List, [], ◌∷◌, ◌++◌, length, get_or, inl, inr, refl, sym, ap, ◌∙◌, arith, length-append, lit<}
use Rattle.std.specs.List.{flat_map}
use Rattle.std.proofs.lemmas.Bool.{cases_Bool}
use Rattle.std.proofs.lemmas.List.{get_or-map, length-map}
use Rattle.rv_word.proofs.Cases.{cases_Option}
use Rattle.elf_bytes.specs.Fields.{string_at}
use Rattle.elf_tables.specs.declared.entry.Reloc.{Reloc}
use Rattle.elf_tables.specs.declared.entry.SymbolEntry.{SymbolEntry}
use Rattle.elf_tables.specs.Header.{e_shnum}
use Rattle.elf_tables.specs.Kept.{is_kept}
use Rattle.elf_tables.specs.Table.{relocates}
use Rattle.elf_tables.specs.Symbol.{bytes_of, symbol, symbol_count, symbol_in, symbol_name, symbol_names}
use Rattle.elf_tables.specs.Relocation.{relocation_bytes, relocation_count, relocation_in, relocations_of}
use Rattle.least.proofs.Firsts.{found_parts}
use Rattle.elf_writer.specs.Names.{ended, name_place, string_table}
use Rattle.elf_writer.specs.Parts.{ObjectParts, SymbolPart, symbol_names as part_names}
use Rattle.elf_writer.specs.Tables.{null_symbol, relocation_entry_bytes, relocations_bytes, symbol_bytes, symbols_bytes, symbols_from}
use Rattle.elf_writer.specs.Right.{AreObjectParts, IsReloc, no_reloc, no_relocations, no_symbol}
use Rattle.elf_writer.specs.Holds.{null_entry}
use Rattle.elf_writer.proofs.Stands.{StandsAt, name_stands, stands_at, stands_first, stands_room, stands_second, stands_within}
use Rattle.elf_writer.proofs.Fields.{SymbolHasRoom, length-relocation, length-symbol, length-symbols, relocation_read, symbol_of_part, symbol_read}
use Rattle.elf_writer.proofs.Back.{stands_is, string_read}
use Rattle.elf_writer.proofs.Indexes.{small}
use Rattle.elf_writer.proofs.Reading.{file, names_found, only_tables, relocations_are, shnum_is, symbol_bytes_are, symbol_names_are, table_found}

-- where each of several symbols stands
symbols_stand : (name : ℕ) (ss : List SymbolPart) (k : ℕ) → k < length ss
    → StandsAt (symbols_from name ss) (24 * k) (symbol_bytes (name_place name (part_names ss) k) (get_or ss k no_symbol))
unfolding symbols_from name_place
symbols_stand name [] k below = absurd (omega arith)
symbols_stand name (x ∷ ss) zero below = stands_first (symbol_bytes name x) (symbols_from (name + length x.name + 1) ss)
symbols_stand name (x ∷ ss) (suc k) below =
    let step : length (symbol_bytes name x) + 24 * k ≡ 24 * suc k = omega (arith, length-symbol name x) in
    stands_at step (stands_within (stands_second (symbol_bytes name x) (symbols_from (name + length x.name + 1) ss)) (symbols_stand (name + length x.name + 1) ss k (omega arith)))

null_read : (ss : List SymbolPart) → symbol_in (symbols_bytes ss) 0 ≡ null_entry
unfolding symbols_bytes
null_read ss =
    symbol_read (symbol_bytes 0 null_symbol ++ symbols_from 1 ss) 0 0 null_symbol (record { name_fits = lit< tt; info_fits = lit< tt; section_fits = lit< tt; value_fits = lit< tt; size_fits = lit< tt })
    (stands_first (symbol_bytes 0 null_symbol) (symbols_from 1 ss))

other_read : (ss : List SymbolPart) (k : ℕ) → k < length ss → SymbolHasRoom (name_place 1 (part_names ss) k) (get_or ss k no_symbol)
    → symbol_in (symbols_bytes ss) (suc k) ≡ symbol_of_part (name_place 1 (part_names ss) k) (get_or ss k no_symbol)
unfolding symbols_bytes
other_read ss k below room =
    let step : length (symbol_bytes 0 null_symbol) + 24 * k ≡ 24 * suc k = omega (arith, length-symbol 0 null_symbol) in
    symbol_read (symbol_bytes 0 null_symbol ++ symbols_from 1 ss) (suc k) (name_place 1 (part_names ss) k) (get_or ss k no_symbol) room
    (stands_at step (stands_within (stands_second (symbol_bytes 0 null_symbol) (symbols_from 1 ss)) (symbols_stand 1 ss k below)))

-- where each of several relocations stands
relocs_stand : (rs : List Reloc) (k : ℕ) → k < length rs → StandsAt (flat_map relocation_entry_bytes rs) (24 * k) (relocation_entry_bytes (get_or rs k no_reloc))
relocs_stand [] k below = absurd (omega arith)
relocs_stand (x ∷ rs) zero below = stands_first (relocation_entry_bytes x) (flat_map relocation_entry_bytes rs)
relocs_stand (x ∷ rs) (suc k) below =
    let step : length (relocation_entry_bytes x) + 24 * k ≡ 24 * suc k = omega (arith, length-relocation x) in
    stands_at step (stands_within (stands_second (relocation_entry_bytes x) (flat_map relocation_entry_bytes rs)) (relocs_stand rs k (omega arith)))

length-relocs : (rs : List Reloc) → length (flat_map relocation_entry_bytes rs) ≡ 24 * length rs
length-relocs [] = refl
length-relocs (x ∷ rs) =
    length-append (relocation_entry_bytes x) (flat_map relocation_entry_bytes rs) ∙ omega (arith, length-relocation x, length-relocs rs)

pub length-relocations : (rs : List Reloc) → length (relocations_bytes rs) ≡ 24 * length rs
unfolding relocations_bytes
length-relocations rs = length-relocs rs

pub reloc_read : (rs : List Reloc) (k : ℕ) → k < length rs → IsReloc (get_or rs k no_reloc) → relocation_in (relocations_bytes rs) k ≡ get_or rs k no_reloc
unfolding relocations_bytes
reloc_read rs k below is = relocation_read (flat_map relocation_entry_bytes rs) k (get_or rs k no_reloc) is (relocs_stand rs k below)

pub reloc_count : (rs : List Reloc) → relocation_count (relocations_bytes rs) ≡ length rs
reloc_count rs = ap (λ n. n / 24) (length-relocations rs) ∙ omega arith

-- a table of names begins with an empty one
pub empty_name : (names : List (List ℕ)) → string_at (string_table names) 0 ≡ Some []
unfolding string_table
empty_name names = string_read (0 ∷ flat_map ended names) [] 0 refl (stands_first (0 ∷ []) (flat_map ended names))

module _ (parts : ObjectParts) (right : AreObjectParts parts) where
  -- names of symbols stand in their table
  name_there : (k : ℕ) → k < length parts.symbols
      → StandsAt (string_table (part_names parts.symbols)) (name_place 1 (part_names parts.symbols) k) (ended (get_or parts.symbols k no_symbol).name)
  unfolding string_table
  name_there k below =
      let inside : k < length (part_names parts.symbols) = omega (arith, length-map parts.symbols (λ (x : SymbolPart). x.name)) in
      stands_is refl (ap ended (get_or-map (λ (x : SymbolPart). x.name) parts.symbols k no_symbol [] below)) (name_stands (0 ∷ []) 1 (part_names parts.symbols) k refl inside)

  name_small : (k : ℕ) → k < length parts.symbols → name_place 1 (part_names parts.symbols) k < 2 ^ 32
  name_small k below = omega (arith, stands_room (name_there k below), (names_found parts right).room refl, small parts right)

  pub symbol_count_is : symbol_count (file parts right) ≡ length parts.symbols + 1
  symbol_count_is = ap (λ (xs : List ℕ). length xs / 24) (symbol_bytes_are parts right) ∙ ap (λ n. n / 24) (length-symbols parts.symbols) ∙ omega arith

  pub null_symbol_is : symbol (file parts right) 0 ≡ null_entry
  null_symbol_is = ap (λ table. symbol_in table 0) (symbol_bytes_are parts right) ∙ null_read parts.symbols

  pub symbol_is : (k : ℕ) → k < length parts.symbols
      → symbol (file parts right) (suc k) ≡ symbol_of_part (name_place 1 (part_names parts.symbols) k) (get_or parts.symbols k no_symbol)
  symbol_is k below =
      let p = right.symbols k below in
      let room : SymbolHasRoom (name_place 1 (part_names parts.symbols) k) (get_or parts.symbols k no_symbol) = record {
        name_fits = name_small k below;
        info_fits = p.info;
        section_fits = p.section;
        value_fits = p.value;
        size_fits = p.size;
      } in
      ap (λ table. symbol_in table (suc k)) (symbol_bytes_are parts right) ∙ other_read parts.symbols k below room

  pub name_read : (k : ℕ) → k < length parts.symbols
      → string_at (symbol_names (file parts right)) (name_place 1 (part_names parts.symbols) k) ≡ Some (get_or parts.symbols k no_symbol).name
  name_read k below =
      ap (λ names. string_at names (name_place 1 (part_names parts.symbols) k)) (symbol_names_are parts right)
      ∙ string_read (string_table (part_names parts.symbols)) (get_or parts.symbols k no_symbol).name (name_place 1 (part_names parts.symbols) k) (right.symbols k below).clean (name_there k below)

  pub symbol_name_is : (k : ℕ) → k < length parts.symbols → symbol_name (file parts right) (suc k) ≡ Some (get_or parts.symbols k no_symbol).name
  symbol_name_is k below =
      ap (λ (x : SymbolEntry). string_at (symbol_names (file parts right)) x.name) (symbol_is k below) ∙ name_read k below

  pub null_symbol_named : symbol_name (file parts right) 0 ≡ Some []
  null_symbol_named =
      ap (λ (x : SymbolEntry). string_at (symbol_names (file parts right)) x.name) null_symbol_is
      ∙ ap (λ names. string_at names 0) (symbol_names_are parts right) ∙ empty_name (part_names parts.symbols)

  pub relocation_bytes_are : (j : ℕ) → j < length parts.relocations → is_kept (file parts right) (get_or parts.relocations j no_relocations).target ≡ true
      → relocation_bytes (file parts right) (get_or parts.relocations j no_relocations).target ≡ relocations_bytes (get_or parts.relocations j no_relocations).entries
  relocation_bytes_are j below kept =
      let bytes : bytes_of (file parts right) (relocations_of (file parts right) (get_or parts.relocations j no_relocations).target) ≡ relocations_bytes (get_or parts.relocations j no_relocations).entries =
      ap (bytes_of (file parts right)) (relocations_are parts right j below) ∙ (table_found parts right j below).bytes refl in
      rw kept bytes

  -- a section has no relocations, or those of one of the tables
  pub relocations_cases : (target : ℕ) → (relocation_bytes (file parts right) target ≡ [])
      ⊎ ((j : ℕ) × (j < length parts.relocations) × ((get_or parts.relocations j no_relocations).target ≡ target)
      × (relocation_bytes (file parts right) target ≡ relocations_bytes (get_or parts.relocations j no_relocations).entries))
  unfolding relocations_of
  relocations_cases target = elim (cases_Bool (is_kept (file parts right) target)) [
    | inr dropped ↦ inl (rw dropped refl)
    | inl kept ↦ elim (cases_Option (relocations_of (file parts right) target)) [
      | inl none ↦ inl (rw (kept, none) refl)
      | inr (index, some) ↦
          let parted = found_parts (relocates (file parts right) target) (e_shnum (file parts right)) index some in
          let (j, below, place, same) = only_tables parts right target index (omega (arith, parted.0, shnum_is parts right)) parted.1 in
          let there : is_kept (file parts right) (get_or parts.relocations j no_relocations).target ≡ true = ap (is_kept (file parts right)) same ∙ kept in
          inr (j, below, same, ap (relocation_bytes (file parts right)) (sym same) ∙ relocation_bytes_are j below there)
    ]
  ]
