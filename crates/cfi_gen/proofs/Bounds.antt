-- What holds of the lines, relocations and symbols of a program of `n` functions.
use Rattle.std.proofs.Common.{◌≡◌, ℕ, zero, suc, ◌+◌, ◌*◌, ◌/◌, ◌%◌, ◌^◌, ◌<◌, ◌≤◌, FitsSigned, true, ◌==◌, not, List, [], ◌∷◌, ◌++◌, length, map, inl, inr, refl, ap, ◌∙◌, arith, codes, length-append, lit<, lit≤}
use Rattle.std.specs.Int.{w64}
use Rattle.std.specs.List.{flat_map}
use Rattle.std.specs.Fmt.{decimal}
use Rattle.std.proofs.lemmas.Bool.{cases_Bool, and_from, eqb-true, ne_eqb}
use Rattle.std.proofs.lemmas.List.Folds.{list_all-append}
use Rattle.std.proofs.lemmas.Fmt.{decimal_by_steps, length-decimal-le}
use Rattle.std.proofs.lemmas.List.{length-map}
use Rattle.elf_tables.specs.declared.entry.Reloc.{Reloc}
use Rattle.elf_writer.specs.Names.{is_clean}
use Rattle.elf_writer.specs.Parts.{SymbolPart}
use Rattle.elf_writer.specs.Right.{IsReloc}
use Rattle.rv_instr.specs.declared.instr.Instr.{Instr}
use Rattle.cfi_gen.specs.declared.mark.Mark.{Mark}
use Rattle.cfi_gen.specs.declared.function.Function.{Function}
use Rattle.cfi_gen.specs.declared.function.Shape.{Shape}
use Rattle.cfi_gen.specs.declared.function.Shape.TheVariants.{Leaf, Call, Table, Skip}
use Rattle.cfi_gen.specs.Lines.{Line, code_size, mark_at, marked, plain, relocs_from}
use Rattle.cfi_gen.specs.Code.{closing_lines, function_lines, main_lines, mark, opening_lines, program_lines, shape_lines, table_symbol}
use Rattle.cfi_gen.specs.Drawing.{are_near, drawn, function_at, functions_from, next, shape_of}
use Rattle.cfi_gen.specs.Demo.{function_name, function_symbols, table_relocs}
use Rattle.cfi_gen.proofs.Every.{Every, every_append, every_map, every_of_each}

-- a shape that names functions below 2,000 alone
abbrev pub IsShape : Shape → Type 0
IsShape Leaf = Unit
IsShape (Call j) = j < 2000
IsShape (Table j) = j < 2000
IsShape Skip = Unit

abbrev pub IsFunction : Function → Type 0
IsFunction f = IsShape f.shape

-- drawn functions name such alone
near : (i j : ℕ) → i < 2000 → are_near i j ≡ true → j < 2000
near i j below e = let same : i / 50 ≡ j / 50 = eqb-true (i / 50) (j / 50) e in omega arith

shape_right : (i k j : ℕ) → i < 2000 → IsShape (shape_of i k j)
unfolding shape_of
shape_right i k j below = elim (cases_Bool (k == 3)) [
  | inl skip ↦ rw skip tt
  | inr e ↦
      rw e (elim (cases_Bool (are_near i j)) [
        | inr far ↦ rw far tt
        | inl close ↦
            rw close (elim (cases_Bool (k == 1)) [
              | inl one ↦ rw one (near i j below close)
              | inr other ↦
                  rw other (elim (cases_Bool (k == 2)) [ inl two ↦ rw two (near i j below close) | inr none ↦ rw none tt ])
            ])
      ])
]

pub functions_right : (count i s : ℕ) → i + count ≤ 2000 → Every IsFunction (functions_from count i s)
unfolding functions_from function_at
functions_right zero i s within = tt
functions_right (suc count) i s within =
    (shape_right i (drawn (next s) % 4) (i + 1 + drawn (next (next s)) % 8) (omega arith), functions_right count (i + 1) (next (next (next s))) (omega arith))

-- a relocation of a symbol that is there
pub record IsMark (m : Mark) : Type 0 where
  pub kind : m.kind < 2 ^ 32
  pub symbol : m.symbol ≤ 2002
  pub addend : FitsSigned w64 m.addend

pub record IsLine (l : Line) : Type 0 where
  pub marks : Every IsMark l.marks
  pub few : length l.marks ≤ 2

plain_right : (instr : Instr) → IsLine (plain instr)
plain_right instr = record { marks = tt; few = lit≤ tt }

mark_right : (kind symbol addend : ℕ) → kind < 100 → symbol ≤ 2002 → addend ≤ 16000 → IsMark (mark kind symbol addend)
mark_right kind symbol addend small there within =
    record { kind = omega arith; symbol = there; addend = record { sfits = omega arith } }

-- a line with a relocation of the table
table_right : (instr : Instr) (kind offset : ℕ) → kind < 100 → offset ≤ 16000 → IsLine (marked instr (mark kind table_symbol offset ∷ []))
table_right instr kind offset small within = record { marks = (mark_right kind table_symbol offset small (lit≤ tt) within, tt); few = lit≤ tt }

main_right : Every IsLine main_lines
unfolding main_lines
main_right = (
  plain_right _,
  (
    plain_right _,
    (
      plain_right _,
      (
        plain_right _,
        (
          table_right _ 26 0 (lit< tt) (lit≤ tt),
          (
            table_right _ 27 0 (lit< tt) (lit≤ tt),
            (
              table_right _ 26 16000 (lit< tt) (lit≤ tt),
              (
                table_right _ 27 16000 (lit< tt) (lit≤ tt),
                (plain_right _, (plain_right _, (plain_right _, (plain_right _, (plain_right _, (plain_right _, (plain_right _, (plain_right _, (plain_right _, tt))))))))),
              ),
            ),
          ),
        ),
      ),
    ),
  ),
)

shape_lines_right : (shape : Shape) → IsShape shape → Every IsLine (shape_lines shape)
unfolding shape_lines
shape_lines_right Leaf right = tt
shape_lines_right (Call j) right = (
  record { marks = (mark_right 19 (j + 3) 0 (lit< tt) (omega arith) (lit≤ tt), (mark_right 51 0 0 (lit< tt) (lit≤ tt) (lit≤ tt), tt)); few = lit≤ tt },
  (plain_right _, tt),
)
shape_lines_right (Table j) right =
    (table_right _ 26 (8 * j) (lit< tt) (omega arith), (table_right _ 27 (8 * j) (lit< tt) (omega arith), (plain_right _, tt)))
shape_lines_right Skip right = (plain_right _, (plain_right _, tt))

function_right : (f : Function) → IsFunction f → Every IsLine (function_lines f)
unfolding function_lines opening_lines closing_lines
function_right f right =
    every_append IsLine (opening_lines f.amount) (shape_lines f.shape ++ closing_lines) (plain_right _, (plain_right _, (plain_right _, tt)))
    (every_append IsLine (shape_lines f.shape) closing_lines (shape_lines_right f.shape right) (plain_right _, (plain_right _, (plain_right _, tt))))

pub program_right : (fs : List Function) → Every IsFunction fs → Every IsLine (program_lines fs)
unfolding program_lines
program_right fs right =
    every_append IsLine main_lines (flat_map function_lines fs) main_right (every_of_each IsFunction IsLine function_lines fs function_right right)

-- how many lines there are
shape_length : (shape : Shape) → length (shape_lines shape) ≤ 3
unfolding shape_lines
shape_length Leaf = lit≤ tt
shape_length (Call j) = lit≤ tt
shape_length (Table j) = lit≤ tt
shape_length Skip = lit≤ tt

function_length : (f : Function) → length (function_lines f) ≤ 9
unfolding function_lines opening_lines closing_lines
function_length f =
    omega (arith, length-append (opening_lines f.amount) (shape_lines f.shape ++ closing_lines), length-append (shape_lines f.shape) closing_lines, shape_length f.shape)

functions_length : (fs : List Function) → length (flat_map function_lines fs) ≤ 9 * length fs
functions_length [] = lit≤ tt
functions_length (f ∷ fs) =
    omega (arith, length-append (function_lines f) (flat_map function_lines fs), function_length f, functions_length fs)

pub program_length : (fs : List Function) → length (program_lines fs) ≡ 17 + length (flat_map function_lines fs)
unfolding program_lines main_lines
program_length fs = length-append main_lines (flat_map function_lines fs)

pub program_within : (fs : List Function) → length (program_lines fs) ≤ 17 + 9 * length fs
program_within fs = omega (arith, program_length fs, functions_length fs)

-- relocations of symbols that are there
pub record IsThere (r : Reloc) : Type 0 where
  pub right : IsReloc r
  pub symbol : r.symbol ≤ 2002

mark_there : (at : ℕ) → at < 2 ^ 64 → (m : Mark) → IsMark m → IsThere (mark_at at m)
mark_there at below m right =
    record { right = record { offset = below; symbol = omega (arith, right.symbol); kind = right.kind; addend = right.addend }; symbol = right.symbol }

pub relocs_right : (at : ℕ) (ls : List Line) → at + 4 * length ls < 2 ^ 64 → Every IsLine ls → Every IsThere (relocs_from at ls)
unfolding relocs_from
relocs_right at [] within right = tt
relocs_right at (l ∷ ls) within right =
    every_append IsThere (map (mark_at at) l.marks) (relocs_from (at + 4) ls)
    (every_map IsMark IsThere (mark_at at) l.marks (mark_there at (omega arith)) right.0.marks)
    (relocs_right (at + 4) ls (omega arith) right.1)

pub relocs_length : (at : ℕ) (ls : List Line) → Every IsLine ls → length (relocs_from at ls) ≤ 2 * length ls
unfolding relocs_from
relocs_length at [] right = lit≤ tt
relocs_length at (l ∷ ls) right =
    omega (arith, length-append (map (mark_at at) l.marks) (relocs_from (at + 4) ls), length-map l.marks (mark_at at), right.0.few, relocs_length (at + 4) ls right.1)

pub pointers_right : (count i : ℕ) → i + count ≤ 2000 → Every IsThere (table_relocs count i)
unfolding table_relocs
pointers_right zero i within = tt
pointers_right (suc count) i within = (
  record { right = record { offset = omega arith; symbol = omega arith; kind = lit< tt; addend = record { sfits = lit< tt } }; symbol = omega arith },
  pointers_right count (i + 1) (omega arith),
)

pub pointers_length : (count i : ℕ) → length (table_relocs count i) ≡ count
unfolding table_relocs
pointers_length zero i = refl
pointers_length (suc count) i = ap suc (pointers_length count (i + 1))

-- a symbol of the code, which has `total` bytes
pub record IsCodeSymbol (total : ℕ) (s : SymbolPart) : Type 0 where
  pub clean : is_clean s.name ≡ true
  pub short : length s.name ≤ 11
  pub info : s.info ≡ 0x12
  pub section : s.section ≡ 1
  pub value : s.value ≤ total
  pub size : s.size ≤ total

digit_clean : (d : ℕ) → is_clean ((48 + d) ∷ []) ≡ true
digit_clean d = rw (ne_eqb (48 + d) 0 (λ h. absurd (omega arith))) refl

decimal_clean : (n : ℕ) → n < 2 ^ 64 → is_clean (decimal n) ≡ true
decimal_clean n small =
    decimal_by_steps (λ m ds. is_clean ds ≡ true) (λ m low. digit_clean m)
    (λ m ds high clean. list_all-append (λ b. not (b == 0)) ds ((48 + m % 10) ∷ []) ∙ and_from _ _ clean (digit_clean (m % 10)))
    n small

name_right : (i : ℕ) → i < 10000 → (is_clean (function_name i) ≡ true) × (length (function_name i) ≤ 11)
name_right i small =
    (decimal_clean i (omega arith), omega (arith, length-append (codes "f") (decimal i), length-decimal-le 10 i (lit< tt) (omega arith) (omega arith)))

pub symbols_right : (total at i : ℕ) (fs : List Function) → at + code_size (flat_map function_lines fs) ≤ total → i + length fs ≤ 10000
    → Every (IsCodeSymbol total) (function_symbols at i fs)
unfolding function_symbols
symbols_right total at i [] within few = tt
symbols_right total at i (f ∷ fs) within few =
    let whole = length-append (function_lines f) (flat_map function_lines fs) in
    let name = name_right i (omega arith) in (
      record { clean = name.0; short = name.1; info = refl; section = refl; value = omega arith; size = omega arith },
      symbols_right total (at + code_size (function_lines f)) (i + 1) fs (omega arith) (omega arith),
    )

pub symbols_length : (at i : ℕ) (fs : List Function) → length (function_symbols at i fs) ≡ length fs
unfolding function_symbols
symbols_length at i [] = refl
symbols_length at i (f ∷ fs) = ap suc (symbols_length (at + code_size (function_lines f)) (i + 1) fs)
