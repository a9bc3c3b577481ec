-- Numbers in a row are read as they were written: headers, symbols and relocations.
use Rattle.std.proofs.Common.{◌≡◌, ℕ, ◌+◌, ◌*◌, ◌/◌, ◌%◌, ◌^◌, ◌<◌, FitsSigned, pos, negsuc, ℤ, List, [], ◌∷◌, length, length-append, drop, get_or, slice_index, refl, sym, ap, ◌∙◌, arith, add-zero, lit<}
use Rattle.std.specs.Int.{cast_unsigned, w64}
use Rattle.std.proofs.lemmas.Int.{to_z-of_z}
use Rattle.std.proofs.lemmas.List.{get_or-drop}
use Rattle.byteorder.specs.Numbers.{length-bytes_low_first}
use Rattle.elf_bytes.specs.Fields.{number_at}
use Rattle.elf_tables.specs.declared.entry.Reloc.{Reloc}
use Rattle.elf_tables.specs.declared.entry.SymbolEntry.{SymbolEntry}
use Rattle.elf_tables.specs.Section.{section_header_at}
use Rattle.elf_tables.specs.Symbol.{symbol_in}
use Rattle.elf_tables.specs.Relocation.{relocation_in}
use Rattle.elf_writer.specs.declared.number.Number.{Number}
use Rattle.elf_writer.specs.declared.heading.Heading.{Heading}
use Rattle.elf_writer.specs.Numbers.{number_bytes, numbers}
use Rattle.elf_writer.specs.Header.{elf_header, elf_numbers, header_bytes, header_of, section_numbers}
use Rattle.elf_writer.specs.Parts.{SymbolPart}
use Rattle.elf_writer.specs.Tables.{null_symbol, relocation_entry_bytes, relocation_numbers, symbol_bytes, symbol_numbers, symbols_bytes, symbols_from}
use Rattle.elf_writer.specs.Right.{IsReloc}
use Rattle.elf_writer.proofs.Stands.{StandsAt, stands_at, stands_first, stands_number, stands_second, stands_within}

-- the numbers have their values at a place, from an offset on
abbrev pub Reads : List ℕ → ℕ → ℕ → List Number → Type 0
Reads file at o [] = Unit {0}
Reads file at o (n ∷ ns) = (number_at file (at + o) n.size ≡ n.value) × Reads file at (o + n.size) ns

-- each value has room in its number
abbrev pub Fit : List Number → Type 0
Fit [] = Unit {0}
Fit (n ∷ ns) = (n.value < 256 ^ n.size) × Fit ns

pub numbers_read : (file : List ℕ) (at o : ℕ) (ns : List Number) → Fit ns → StandsAt file (at + o) (numbers ns) → Reads file at o ns
numbers_read file at o [] fit s = tt
numbers_read file at o (n ∷ ns) fit s =
    let first : StandsAt file (at + o) (number_bytes n) = stands_at (add-zero (at + o)) (stands_within s (stands_first (number_bytes n) (numbers ns))) in
    let step : at + o + length (number_bytes n) ≡ at + (o + n.size) = omega (arith, length-bytes_low_first 0 n.size n.value) in
    let rest = stands_at step (stands_within s (stands_second (number_bytes n) (numbers ns))) in
    (stands_number n.size n.value fit.0 first, numbers_read file at (o + n.size) ns fit.1 rest)

-- what is read at the place itself
first_number : (file : List ℕ) (at size value : ℕ) → number_at file (at + 0) size ≡ value → number_at file at size ≡ value
first_number file at size value e = ap (λ k. number_at file k size) (sym (add-zero at)) ∙ e

-- the values of a section header have room
pub record HasRoom (name offset : ℕ) (h : Heading) : Type 0 where
  pub name_fits : name < 2 ^ 32
  pub kind_fits : h.kind < 2 ^ 32
  pub flags_fit : h.flags < 2 ^ 64
  pub offset_fits : offset < 2 ^ 64
  pub size_fits : h.size < 2 ^ 64
  pub link_fits : h.link < 2 ^ 32
  pub info_fits : h.info < 2 ^ 32
  pub align_fits : h.align < 2 ^ 64
  pub entry_size_fits : h.entry_size < 2 ^ 64

pub header_read : (file : List ℕ) (at name offset : ℕ) (h : Heading) → HasRoom name offset h → StandsAt file at (header_bytes name offset h)
    → section_header_at file at ≡ header_of name offset h
unfolding section_header_at section_numbers
header_read file at name offset h f s =
    let fit : Fit (section_numbers name offset h) =
    (f.name_fits, (f.kind_fits, (f.flags_fit, (lit< tt, (f.offset_fits, (f.size_fits, (f.link_fits, (f.info_fits, (f.align_fits, (f.entry_size_fits, tt)))))))))) in
    let r = numbers_read file at 0 (section_numbers name offset h) fit (stands_at (sym (add-zero at)) s) in
    let e0 = first_number file at 4 name r.0 in
    let r1 = r.1 in
    let r4 = r1.1.1.1 in
    rw (e0, r1.0, r1.1.0, r4.0, r4.1.0, r4.1.1.0, r4.1.1.1.0, r4.1.1.1.1.0, r4.1.1.1.1.1.0) refl

pub length-header : (name offset : ℕ) (h : Heading) → length (header_bytes name offset h) ≡ 64
unfolding section_numbers
length-header name offset h = refl

-- the fields of the ELF header that a reader of objects asks
pub record IsElfHeader (file : List ℕ) (flags at sections : ℕ) : Type 0 where
  pub ident : number_at file 0 8 ≡ 0x01_01_02_46_4c_45_7f
  pub type : number_at file 16 2 ≡ 1
  pub machine : number_at file 18 2 ≡ 243
  pub place : number_at file 40 8 ≡ at
  pub taken : number_at file 48 4 ≡ flags
  pub entry : number_at file 58 2 ≡ 64
  pub count : number_at file 60 2 ≡ sections + 1
  pub names : number_at file 62 2 ≡ sections

pub elf_read : (file : List ℕ) (flags at sections : ℕ) → flags < 2 ^ 32 → at < 2 ^ 64 → sections + 1 < 2 ^ 16
    → StandsAt file 0 (elf_header flags at sections) → IsElfHeader file flags at sections
unfolding elf_header elf_numbers
elf_read file flags at sections p q few s =
    let less : sections < 2 ^ 16 = omega arith in
    let fit : Fit (elf_numbers flags at sections) =
    (lit< tt, (lit< tt, (lit< tt, (lit< tt, (lit< tt, (lit< tt, (lit< tt, (q, (p, (lit< tt, (lit< tt, (lit< tt, (lit< tt, (few, (less, tt))))))))))))))) in
    let r = numbers_read file 0 0 (elf_numbers flags at sections) fit s in
    let r2 = r.1.1 in
    let r7 = r2.1.1.1.1.1 in
    let r12 = r7.1.1.1.1.1 in
    record {
      ident = r.0;
      type = r2.0;
      machine = r2.1.0;
      place = r7.0;
      taken = r7.1.0;
      entry = r12.0;
      count = r12.1.0;
      names = r12.1.1.0;
    }

pub length-elf : (flags at sections : ℕ) → length (elf_header flags at sections) ≡ 64
unfolding elf_header elf_numbers
length-elf flags at sections = refl

-- a number of one byte
one_byte : (table : List ℕ) (at : ℕ) → number_at table at 1 ≡ slice_index table at
unfolding number_at
one_byte table at = add-zero (get_or (drop at table) 0 0) ∙ get_or-drop at table 0 0 ∙ ap (λ k. get_or table k 0) (add-zero at)

pub record SymbolHasRoom (name : ℕ) (s : SymbolPart) : Type 0 where
  pub name_fits : name < 2 ^ 32
  pub info_fits : s.info < 2 ^ 8
  pub section_fits : s.section < 2 ^ 16
  pub value_fits : s.value < 2 ^ 64
  pub size_fits : s.size < 2 ^ 64

abbrev pub symbol_of_part : ℕ → SymbolPart → SymbolEntry
symbol_of_part name s = record { name = name; info = s.info; section = s.section; value = s.value; size = s.size }

pub symbol_read : (table : List ℕ) (number name : ℕ) (p : SymbolPart) → SymbolHasRoom name p → StandsAt table (24 * number) (symbol_bytes name p)
    → symbol_in table number ≡ symbol_of_part name p
unfolding symbol_in symbol_numbers
symbol_read table number name p f s =
    let fit : Fit (symbol_numbers name p) = (f.name_fits, (f.info_fits, (lit< tt, (f.section_fits, (f.value_fits, (f.size_fits, tt)))))) in
    let r = numbers_read table (24 * number) 0 (symbol_numbers name p) fit (stands_at (sym (add-zero (24 * number))) s) in
    let e0 = first_number table (24 * number) 4 name r.0 in
    let e1 : slice_index table (24 * number + 4) ≡ p.info = sym (one_byte table (24 * number + 4)) ∙ r.1.0 in
    let r3 = r.1.1.1 in
    rw (e0, e1, r3.0, r3.1.0, r3.1.1.0) refl

pub length-symbol : (name : ℕ) (p : SymbolPart) → length (symbol_bytes name p) ≡ 24
unfolding symbol_numbers
length-symbol name p = refl

-- how many bytes symbols have
length-symbols_from : (name : ℕ) (ss : List SymbolPart) → length (symbols_from name ss) ≡ 24 * length ss
unfolding symbols_from
length-symbols_from name [] = refl
length-symbols_from name (x ∷ ss) =
    length-append (symbol_bytes name x) (symbols_from (name + length x.name + 1) ss)
    ∙ omega (arith, length-symbol name x, length-symbols_from (name + length x.name + 1) ss)

pub length-symbols : (ss : List SymbolPart) → length (symbols_bytes ss) ≡ 24 * (length ss + 1)
unfolding symbols_bytes
length-symbols ss =
    length-append (symbol_bytes 0 null_symbol) (symbols_from 1 ss) ∙ omega (arith, length-symbol 0 null_symbol, length-symbols_from 1 ss)

-- a number that stands for a signed one has room
unsigned_fits : (z : ℤ) → FitsSigned w64 z → cast_unsigned w64 z < 2 ^ 64
unsigned_fits (pos n) f = omega arith
unsigned_fits (negsuc n) f = omega arith

pub relocation_read : (table : List ℕ) (index : ℕ) (r : Reloc) → IsReloc r → StandsAt table (24 * index) (relocation_entry_bytes r)
    → relocation_in table index ≡ r
unfolding relocation_in relocation_numbers
relocation_read table index r f s =
    let info : r.symbol * 2 ^ 32 + r.kind < 2 ^ 64 = omega (arith, f.symbol, f.kind) in
    let fit : Fit (relocation_numbers r) = (f.offset, (info, (unsigned_fits r.addend f.addend, tt))) in
    let e = numbers_read table (24 * index) 0 (relocation_numbers r) fit (stands_at (sym (add-zero (24 * index))) s) in
    let e0 = first_number table (24 * index) 8 r.offset e.0 in
    let high : (r.symbol * 2 ^ 32 + r.kind) / 2 ^ 32 ≡ r.symbol = omega (arith, f.kind) in
    let low : (r.symbol * 2 ^ 32 + r.kind) % 2 ^ 32 ≡ r.kind = omega (arith, f.kind) in
    rw (e0, e.1.0, e.1.1.0, high, low, to_z-of_z w64 r.addend f.addend) refl

pub length-relocation : (r : Reloc) → length (relocation_entry_bytes r) ≡ 24
unfolding relocation_numbers
length-relocation r = refl
