-- How many bytes the file of an object has at most.
use Rattle.std.proofs.Common.{◌≡◌, ℕ, ◌+◌, ◌-◌, ◌*◌, ◌≤◌, List, [], ◌∷◌, ◌++◌, length, map, replicate, refl, ap, ◌∙◌, arith, codes, length-append}
use Rattle.std.specs.List.{flat_map, sum_by}
use Rattle.std.proofs.lemmas.List.{length-replicate}
use Rattle.std.proofs.lemmas.List.Sums.{sum_by-append, sum_by-cons}
use Rattle.std.proofs.lemmas.List.Concat.{flat_map-append}
use Rattle.elf_writer.specs.FileLayout.{laid_out, up8}
use Rattle.elf_writer.specs.Names.{ended, string_table}
use Rattle.elf_writer.specs.Header.{elf_header, header_bytes, null_heading}
use Rattle.elf_writer.specs.File.{Entry, all_names, contents, file_of, headers_from, names, strings_entry, table, table_place, with_names}
use Rattle.elf_writer.specs.Parts.{RelocationsPart, SectionPart, SymbolPart, symbol_names}
use Rattle.elf_writer.specs.Object.{entries_of, object_bytes, relocations_entry, section_entry, symbol_index, symbol_names_entry, symbols_entry}
use Rattle.elf_writer.specs.Size.{ObjectsAreSmall, relocations_size, section_size, symbol_size}
use Rattle.elf_writer.proofs.Fields.{length-elf, length-header, length-symbols}
use Rattle.elf_writer.proofs.Back.{length-headers, length-with}
use Rattle.elf_writer.proofs.Entries.{length-relocations}

-- a section's bytes and header; and with its name
abbrev placed_size : Entry → ℕ
placed_size e = length e.content + 71

abbrev entry_size : Entry → ℕ
entry_size e = length e.content + length e.name + 72

-- each content with the zeros before it
laid_size : (at : ℕ) (es : List Entry) (t : List ℕ)
    → length (laid_out at (contents es ++ (t ∷ []))) + 64 * length es ≤ sum_by placed_size es + length t + 7
unfolding laid_out
laid_size at [] t =
    omega (arith, length-append (replicate (up8 at - at) 0) (t ++ []), length-append t [], length-replicate {A = ℕ} (up8 at - at) 0)
laid_size at (e ∷ es) t =
    let rest = laid_out (up8 at + length e.content) (contents es ++ (t ∷ [])) in
    omega (
      arith,
      length-append (replicate (up8 at - at) 0) (e.content ++ rest),
      length-append e.content rest,
      length-replicate {A = ℕ} (up8 at - at) 0,
      laid_size (up8 at + length e.content) es t,
      sum_by-cons placed_size e es,
    )

names_size : (es : List Entry) → length (flat_map ended (names es)) + sum_by placed_size es ≡ sum_by entry_size es
names_size [] = refl
names_size (e ∷ es) =
    omega (arith, length-append (ended e.name) (flat_map ended (names es)), length-append e.name (0 ∷ []), names_size es, sum_by-cons placed_size e es, sum_by-cons entry_size e es)

own_size : (es : List Entry) → length (string_table (all_names es)) ≡ length (flat_map ended (names es)) + 11
unfolding string_table
own_size es =
    omega (arith, ap length (flat_map-append ended (names es) (codes ".shstrtab" ∷ [])), length-append (flat_map ended (names es)) (flat_map ended (codes ".shstrtab" ∷ [])))

file_size : (flags : ℕ) (es : List Entry) → length (file_of flags (with_names es)) ≤ sum_by entry_size es + 217
unfolding file_of table
file_size flags es =
    let all = with_names es in
    let own = strings_entry (codes ".shstrtab") (string_table (all_names es)) in
    let header = elf_header flags (table_place all) (length all) in
    let one : sum_by placed_size (own ∷ []) ≡ placed_size own = sum_by-cons placed_size own [] ∙ omega arith in
    omega (
      arith,
      length-append header (laid_out 64 (contents all ++ (table all ∷ []))),
      length-elf flags (table_place all) (length all),
      laid_size 64 all (table all),
      length-append (header_bytes 0 0 null_heading) (headers_from 1 64 all),
      length-header 0 0 null_heading,
      length-headers 1 64 all,
      length-with es,
      sum_by-append placed_size es (own ∷ []),
      one,
      own_size es,
      names_size es,
    )

sections_size : (ps : List SectionPart) → sum_by entry_size (map section_entry ps) ≡ sum_by section_size ps
sections_size [] = refl
sections_size (p ∷ ps) =
    omega (arith, sum_by-cons entry_size (section_entry p) (map section_entry ps), sum_by-cons section_size p ps, sections_size ps)

tables_size : (index : ℕ) (rs : List RelocationsPart) → sum_by entry_size (map (relocations_entry index) rs) ≡ sum_by relocations_size rs
tables_size index [] = refl
tables_size index (r ∷ rs) =
    omega (arith, sum_by-cons entry_size (relocations_entry index r) (map (relocations_entry index) rs), sum_by-cons relocations_size r rs, length-relocations r.entries, tables_size index rs)

symbols_size : (ss : List SymbolPart) → length (flat_map ended (symbol_names ss)) + 24 * length ss ≡ sum_by symbol_size ss
symbols_size [] = refl
symbols_size (s ∷ ss) =
    omega (arith, length-append (ended s.name) (flat_map ended (symbol_names ss)), length-append s.name (0 ∷ []), symbols_size ss, sum_by-cons symbol_size s ss)

both_tables : (index : ℕ) (ss : List SymbolPart) → sum_by entry_size (symbols_entry index ss ∷ symbol_names_entry ss ∷ []) ≡ sum_by symbol_size ss + 183
unfolding string_table
both_tables index ss =
    omega (arith, sum_by-cons entry_size (symbols_entry index ss) (symbol_names_entry ss ∷ []), sum_by-cons entry_size (symbol_names_entry ss) [], length-symbols ss, symbols_size ss)

pub objects_small : ObjectsAreSmall
unfolding object_bytes
objects_small parts =
    let a = map section_entry parts.sections in
    let b = map (relocations_entry (symbol_index parts)) parts.relocations in
    let t = symbols_entry (symbol_index parts) parts.symbols ∷ symbol_names_entry parts.symbols ∷ [] in
    omega (
      arith,
      file_size parts.flags (entries_of parts),
      sum_by-append entry_size a (b ++ t),
      sum_by-append entry_size b t,
      sections_size parts.sections,
      tables_size (symbol_index parts) parts.relocations,
      both_tables (symbol_index parts) parts.symbols,
    )
