-- The parts of each number's object are right, so its file holds them.
use Rattle.std.proofs.Common.{◌≡◌, ℕ, zero, suc, ◌*◌, ◌%◌, ◌^◌, ◌<◌, ◌≤◌, false, true, ◌==◌, ◌∙◌, List, [], ◌∷◌, length, get_or, refl, sym, arith, lit<, lit≤, eq-eqb, subst}
use Rattle.elf_writer.specs.Names.{is_clean}
use Rattle.std.proofs.lemmas.List.Sums.{sum_by-cons}
use lib.Count.{ones}
use Rattle.elf_writer.specs.Parts.{RelocationsPart, SymbolPart}
use Rattle.elf_writer.specs.Object.{is_local, object_bytes}
use Rattle.elf_writer.specs.Right.{AreLocalFirst, AreObjectParts, IsRightRelocations, IsRightSection, IsRightSymbol, is_kept_part, no_reloc, no_relocations, no_section, no_symbol}
use Rattle.elf_writer.specs.Holds.{Holds}
use Rattle.elf_writer.specs.Size.{relocations_size, section_size, symbol_size}
use Rattle.elf_writer.proofs.Holding.{holds}
use Rattle.elf_writer.proofs.Sizes.{objects_small}
use Rattle.cfi_gen.specs.declared.function.Function.{Function}
use Rattle.cfi_gen.specs.Lines.{code_size}
use Rattle.cfi_gen.specs.Code.{main_lines, program_lines}
use Rattle.cfi_gen.specs.Drawing.{functions_from}
use Rattle.cfi_gen.specs.Demo.{data_part, data_relocs, demo_parts, function_symbols, main_part, parts_with, table_part, text_part, text_relocs}
use Rattle.cfi_gen.proofs.Every.{Every, every_at, sum_within}
use Rattle.cfi_gen.proofs.Writing.{length-code, length-functions, length-table}
use Rattle.cfi_gen.proofs.Bounds.{IsCodeSymbol, IsFunction, IsThere, functions_right, pointers_length, pointers_right, program_length, program_right, program_within, relocs_length, relocs_right, symbols_length, symbols_right}

-- the sections
whole_words : (n : ℕ) → (4 * n % 4 == 0) ≡ true
whole_words n = eq-eqb (4 * n % 4) 0 (omega arith)

text_right : (fs : List Function) → length fs ≡ 2000 → IsRightSection (text_part fs)
unfolding ones
text_right fs many = record {
  clean = refl;
  kind = lit< tt;
  flags = lit< tt;
  size = omega (arith, program_within fs);
  align = lit< tt;
  taken = refl;
  right = λ kept. rw (whole_words (length (program_lines fs))) refl;
  whole = λ there. sym (length-code (program_lines fs));
}

data_right : IsRightSection data_part
unfolding ones
data_right = record {
  clean = refl;
  kind = lit< tt;
  flags = lit< tt;
  size = lit< tt;
  align = lit< tt;
  taken = refl;
  right = λ kept. refl;
  whole = λ there. sym length-table;
}

sections_right : (fs : List Function) → length fs ≡ 2000 → (k : ℕ) → k < 2 → IsRightSection (get_or (parts_with fs).sections k no_section)
sections_right fs many zero below = text_right fs many
sections_right fs many (suc zero) below = data_right
sections_right fs many (suc (suc k)) below = absurd (omega arith)

-- the relocations
symbols_many : (fs : List Function) → length fs ≡ 2000 → length (parts_with fs).symbols ≡ 2002
symbols_many fs many = omega (arith, symbols_length (code_size main_lines) 0 fs)

entries_right : (fs : List Function) → length fs ≡ 2000 → (r : RelocationsPart) → Every IsThere r.entries → is_clean r.name ≡ true → 1 ≤ r.target → r.target ≤ 2
    → IsRightRelocations (parts_with fs) r
entries_right fs many r right clean from to = record {
  clean = clean;
  target_from = from;
  target_to = to;
  each = λ k below. (every_at IsThere r.entries no_reloc k right below).right;
  named = λ k below. omega (arith, (every_at IsThere r.entries no_reloc k right below).symbol, symbols_many fs many);
}

text_relocs_right : (fs : List Function) → length fs ≡ 2000 → Every IsFunction fs → Every IsThere (text_relocs fs).entries
text_relocs_right fs many right = relocs_right 0 (program_lines fs) (omega (arith, program_within fs)) (program_right fs right)

tables_right : (fs : List Function) → length fs ≡ 2000 → Every IsFunction fs → (k : ℕ) → k < 2
    → IsRightRelocations (parts_with fs) (get_or (parts_with fs).relocations k no_relocations)
tables_right fs many right zero below = entries_right fs many (text_relocs fs) (text_relocs_right fs many right) refl (lit≤ tt) (lit≤ tt)
tables_right fs many right (suc zero) below = entries_right fs many data_relocs (pointers_right 2000 0 (lit≤ tt)) refl (lit≤ tt) (lit≤ tt)
tables_right fs many right (suc (suc k)) below = absurd (omega arith)

tables_apart : (fs : List Function) (i j : ℕ) → i < j → j < 2
    → (get_or (parts_with fs).relocations i no_relocations).target ≡ (get_or (parts_with fs).relocations j no_relocations).target → ⊥
tables_apart fs zero (suc zero) less below same = omega arith
tables_apart fs zero zero less below same = omega arith
tables_apart fs (suc i) zero less below same = absurd (omega arith)
tables_apart fs (suc i) (suc zero) less below same = omega arith
tables_apart fs i (suc (suc j)) less below same = omega arith

-- the symbols
code_symbol_within : (fs : List Function) (s : SymbolPart) → IsCodeSymbol (code_size (program_lines fs)) s → (k : ℕ) → s.section ≡ suc k → k < 2
    → is_kept_part (get_or (parts_with fs).sections k no_section) ≡ true → s.value ≤ (get_or (parts_with fs).sections k no_section).size
code_symbol_within fs s right zero e below kept = right.value
code_symbol_within fs s right (suc k) e below kept = absurd (omega (arith, right.section))

code_symbol_right : (fs : List Function) → length fs ≡ 2000 → (s : SymbolPart) → IsCodeSymbol (code_size (program_lines fs)) s → IsRightSymbol (parts_with fs) s
code_symbol_right fs many s right = record {
  clean = right.clean;
  info = omega (arith, right.info);
  section = omega (arith, right.section);
  value = omega (arith, right.value, program_within fs);
  size = omega (arith, right.size, program_within fs);
  placed = rw right.section refl;
  kind = rw right.info refl;
  within = code_symbol_within fs s right;
  aligned = rw right.section refl;
}

table_within : (fs : List Function) (k : ℕ) → 2 ≡ suc k → k < 2 → is_kept_part (get_or (parts_with fs).sections k no_section) ≡ true
    → 0 ≤ (get_or (parts_with fs).sections k no_section).size
table_within fs k e below kept = omega arith

table_part_right : (fs : List Function) → IsRightSymbol (parts_with fs) table_part
table_part_right fs = record {
  clean = refl;
  info = lit< tt;
  section = lit< tt;
  value = lit< tt;
  size = lit< tt;
  placed = refl;
  kind = refl;
  within = table_within fs;
  aligned = refl;
}

main_part_is : (fs : List Function) → IsCodeSymbol (code_size (program_lines fs)) main_part
unfolding main_lines
main_part_is fs =
    record { clean = refl; short = lit≤ tt; info = refl; section = refl; value = omega arith; size = omega (arith, program_length fs) }

function_symbols_are : (fs : List Function) → length fs ≡ 2000
    → Every (IsCodeSymbol (code_size (program_lines fs))) (function_symbols (code_size main_lines) 0 fs)
unfolding main_lines
function_symbols_are fs many =
    symbols_right (code_size (program_lines fs)) 68 0 fs (omega (arith, program_length fs)) (omega arith)

all_symbols_right : (fs : List Function) → length fs ≡ 2000 → (k : ℕ) → k < length (parts_with fs).symbols
    → IsRightSymbol (parts_with fs) (get_or (parts_with fs).symbols k no_symbol)
all_symbols_right fs many zero below = code_symbol_right fs many main_part (main_part_is fs)
all_symbols_right fs many (suc zero) below = table_part_right fs
all_symbols_right fs many (suc (suc k)) below =
    code_symbol_right fs many _
    (every_at (IsCodeSymbol (code_size (program_lines fs))) (function_symbols (code_size main_lines) 0 fs) no_symbol k (function_symbols_are fs many) (omega arith))

-- no symbol is local
none_local : (fs : List Function) → length fs ≡ 2000 → (k : ℕ) → k < length (parts_with fs).symbols
    → is_local (get_or (parts_with fs).symbols k no_symbol) ≡ false
none_local fs many zero below = refl
none_local fs many (suc zero) below = refl
none_local fs many (suc (suc k)) below =
    let one = every_at (IsCodeSymbol (code_size (program_lines fs))) (function_symbols (code_size main_lines) 0 fs) no_symbol k (function_symbols_are fs many) (omega arith) in
    rw one.info refl

locals_first : (fs : List Function) → length fs ≡ 2000 → AreLocalFirst (parts_with fs).symbols
locals_first fs many i j less below local =
    let none = none_local fs many j below in
    let no : true ≡ false = sym local ∙ none in
    absurd (cc)

-- the file is small
names_short : (total : ℕ) (ss : List SymbolPart) → Every (IsCodeSymbol total) ss → Every (λ s. symbol_size s ≤ 36) ss
names_short total [] right = tt
names_short total (s ∷ ss) right = (omega (arith, right.0.short), names_short total ss right.1)

parts_small : (fs : List Function) → length fs ≡ 2000 → Every IsFunction fs → length (object_bytes (parts_with fs)) < 2 ^ 32
parts_small fs many right =
    let functions = function_symbols (code_size main_lines) 0 fs in
    let parts = parts_with fs in
    omega (
      arith,
      objects_small parts,
      sum_by-cons section_size (text_part fs) (data_part ∷ []),
      sum_by-cons section_size data_part [],
      sum_by-cons relocations_size (text_relocs fs) (data_relocs ∷ []),
      sum_by-cons relocations_size data_relocs [],
      sum_by-cons symbol_size main_part (table_part ∷ functions),
      sum_by-cons symbol_size table_part functions,
      sum_within symbol_size 36 functions (names_short _ functions (function_symbols_are fs many)),
      symbols_length (code_size main_lines) 0 fs,
      length-code (program_lines fs),
      program_within fs,
      length-table,
      relocs_length 0 (program_lines fs) (program_right fs right),
      pointers_length 2000 0,
    )

pub parts_right : (fs : List Function) → length fs ≡ 2000 → Every IsFunction fs → AreObjectParts (parts_with fs)
parts_right fs many right = record {
  flags = refl;
  few = lit< tt;
  small = parts_small fs many right;
  sections = sections_right fs many;
  relocations = tables_right fs many right;
  apart = tables_apart fs;
  symbols = all_symbols_right fs many;
  local_first = locals_first fs many;
}

pub demo_right : (number : ℕ) → AreObjectParts (demo_parts number)
demo_right number = parts_right (functions_from 2000 0 number) (length-functions 2000 0 number) (functions_right 2000 0 number (lit≤ tt))

pub demo_holds : (number : ℕ) (file : List ℕ) → file ≡ object_bytes (demo_parts number) → Holds (demo_parts number) file
demo_holds number file is = subst (λ f. Holds (demo_parts number) f) (sym is) (holds (demo_parts number) (demo_right number))
