-- What the writer's calls come to for all parts of an object.
use Rattle.std.proofs.Common.{◌≡◌, ℕ, ◌+◌, List, [], ◌∷◌, ◌++◌, length, map, sym, ap, ◌∙◌, arith, length-append, codes}
use Rattle.std.proofs.lemmas.List.{length-map}
use Rattle.elf_writer.specs.Names.{string_table}
use Rattle.elf_writer.specs.File.{all_names, strings_entry, with_names}
use Rattle.elf_writer.specs.Parts.{ObjectParts}
use Rattle.elf_writer.specs.Object.{section_entry, relocations_entry, symbols_entry, symbol_names_entry, symbol_index, entries_of, object_bytes}
use Rattle.elf_writer.specs.Writing.{Written, added, begun, finished, own_names, written}
use Rattle.elf_writer.proofs.Loops.{written-append, all_written, closed}

-- how many sections are written
pub length-entries : (parts : ObjectParts) → length (with_names (entries_of parts)) ≡ symbol_index parts + 2
length-entries parts =
    let a = map section_entry parts.sections in
    let b = map (relocations_entry (symbol_index parts)) parts.relocations in
    let t = symbols_entry (symbol_index parts) parts.symbols ∷ symbol_names_entry parts.symbols ∷ [] in
    let own = strings_entry (codes ".shstrtab") (string_table (all_names (entries_of parts))) ∷ [] in
    length-append (a ++ (b ++ t)) own
    ∙ omega (arith, length-append a (b ++ t), length-append b t, length-map parts.sections section_entry, length-map parts.relocations (relocations_entry (symbol_index parts)))

-- all but the names of the sections
entries_written : (parts : ObjectParts) → written begun (entries_of parts)
    ≡ added (added (written (written begun (map section_entry parts.sections)) (map (relocations_entry (symbol_index parts)) parts.relocations)) (symbols_entry (symbol_index parts) parts.symbols)) (symbol_names_entry parts.symbols)
unfolding written
entries_written parts =
    let a = map section_entry parts.sections in
    let b = map (relocations_entry (symbol_index parts)) parts.relocations in
    let t = symbols_entry (symbol_index parts) parts.symbols ∷ symbol_names_entry parts.symbols ∷ [] in
    written-append begun a (b ++ t) ∙ written-append (written begun a) b t

pub object_written : (parts : ObjectParts) (index : ℕ) (w0 w1 w2 w3 w4 : Written) (file : List ℕ) → index ≡ symbol_index parts
    → w0 ≡ begun → w1 ≡ written w0 (map section_entry parts.sections) → w2 ≡ written w1 (map (relocations_entry index) parts.relocations)
    → w3 ≡ added (added w2 (symbols_entry index parts.symbols)) (symbol_names_entry parts.symbols)
    → w4 ≡ added w3 (own_names w3.names) → file ≡ finished parts.flags (index + 2) w4 → file ≡ object_bytes parts
unfolding object_bytes
object_written parts index w0 w1 w2 w3 w4 file i e0 e1 e2 e3 e4 e =
    let p1 : w1 ≡ written begun (map section_entry parts.sections) = e1 ∙ ap (λ w. written w (map section_entry parts.sections)) e0 in
    let p2 : w2 ≡ written (written begun (map section_entry parts.sections)) (map (relocations_entry (symbol_index parts)) parts.relocations) =
    e2 ∙ ap (λ w. written w (map (relocations_entry index) parts.relocations)) p1
    ∙ ap (λ k. written (written begun (map section_entry parts.sections)) (map (relocations_entry k) parts.relocations)) i in
    let p3 : w3 ≡ written begun (entries_of parts) =
    e3 ∙ ap (λ w. added (added w (symbols_entry index parts.symbols)) (symbol_names_entry parts.symbols)) p2
    ∙ ap (λ k. added (added (written (written begun (map section_entry parts.sections)) (map (relocations_entry (symbol_index parts)) parts.relocations)) (symbols_entry k parts.symbols)) (symbol_names_entry parts.symbols)) i
    ∙ sym (entries_written parts) in
    let p4 : w4 ≡ written begun (with_names (entries_of parts)) =
    e4 ∙ ap (λ (w : Written). added w (own_names w.names)) p3 ∙ all_written (entries_of parts) in
    let count : index + 2 ≡ length (with_names (entries_of parts)) = ap (λ k. k + 2) i ∙ sym (length-entries parts) in
    e ∙ ap (λ k. finished parts.flags k w4) count ∙ ap (λ w. finished parts.flags (length (with_names (entries_of parts))) w) p4
    ∙ closed parts.flags (with_names (entries_of parts))
