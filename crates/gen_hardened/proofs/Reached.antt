-- What relocations do to the code of a generated object: each gives a part of an address in the table, or names the target of a call.
use Rattle.std.proofs.Common.{◌≡◌, ◌==◌, ℕ, ℤ, pos, negsuc, ◌+◌, ◌*◌, ◌^◌, ◌<◌, nat_lt, Bool, true, false, ◌&&◌, List, [], ◌∷◌, ◌++◌, map, refl, ap, ◌∙◌, arith, lt-ltb, ltb-true, eqb-true}
use Rattle.std.specs.List.{All, flat_map, list_all}
use Rattle.std.proofs.lemmas.Bool.{and_from, and_parts}
use Rattle.std.proofs.lemmas.List.{map-append}
use Rattle.std.proofs.lemmas.List.Elements.{All-append, All-cons, All-nil}
use Rattle.std.proofs.lemmas.List.Folds.{list_all-append}
use Rattle.gen_hardened.proofs.Prelude.{Definition, Within, Relocation, RelocKind, High, RelativeHigh, RelativeLowI, RelativeLowS, TableHigh, kind_of, Function, Shape, Leaf, Call, Table, Skip, Mark, closing_lines, function_lines, main_lines, opening_lines, program_lines, shape_lines, table_symbol, Line, mark_at, relocs_from, symbol_definition, use_of}
use Rattle.gen_hardened.proofs.Small.{AreSmall, IsSmallShape}

-- a high part is that of the table and an offset, and none is of a distance
abbrev reaches : RelocKind → ℕ → ℤ → Bool
reaches High symbol (pos a) = symbol == table_symbol && nat_lt a (2 ^ 23)
reaches High symbol (negsuc n) = false
reaches RelativeHigh symbol addend = false
reaches RelativeLowI symbol addend = false
reaches RelativeLowS symbol addend = false
reaches TableHigh symbol addend = false
reaches other symbol addend = true

abbrev mark_reaches : Mark → Bool
mark_reaches m = reaches (kind_of m.kind) m.symbol m.addend

abbrev line_reaches : Line → Bool
line_reaches l = list_all mark_reaches l.marks

abbrev lines_reach : List Line → Bool
lines_reach ls = list_all line_reaches ls

main_reaches : lines_reach main_lines ≡ true
unfolding main_lines kind_of
main_reaches = refl

shape_reaches : (shape : Shape) → IsSmallShape shape → lines_reach (shape_lines shape) ≡ true
unfolding shape_lines kind_of
shape_reaches Leaf small = refl
shape_reaches (Call j) small = refl
shape_reaches (Table j) small = let below : nat_lt (8 * j) (2 ^ 23) ≡ true = lt-ltb (8 * j) (2 ^ 23) (omega arith) in rw below refl
shape_reaches Skip small = refl

opening_reaches : (amount : ℕ) → lines_reach (opening_lines amount) ≡ true
unfolding opening_lines
opening_reaches amount = refl

closing_reaches : lines_reach closing_lines ≡ true
unfolding closing_lines
closing_reaches = refl

both_reach : (ls more : List Line) → lines_reach ls ≡ true → lines_reach more ≡ true → lines_reach (ls ++ more) ≡ true
both_reach ls more first second = list_all-append line_reaches ls more ∙ and_from (lines_reach ls) (lines_reach more) first second

function_reaches : (f : Function) → IsSmallShape f.shape → lines_reach (function_lines f) ≡ true
unfolding function_lines
function_reaches f small =
    both_reach (opening_lines f.amount) (shape_lines f.shape ++ closing_lines) (opening_reaches f.amount)
    (both_reach (shape_lines f.shape) closing_lines (shape_reaches f.shape small) closing_reaches)

functions_reach : (fs : List Function) → AreSmall fs → lines_reach (flat_map function_lines fs) ≡ true
functions_reach [] small = refl
functions_reach (f ∷ fs) small =
    both_reach (function_lines f) (flat_map function_lines fs) (function_reaches f small.0) (functions_reach fs small.1)

program_reaches : (fs : List Function) → AreSmall fs → lines_reach (program_lines fs) ≡ true
unfolding program_lines
program_reaches fs small = both_reach main_lines (flat_map function_lines fs) main_reaches (functions_reach fs small)

-- the same of a relocation with what its symbol stands for
abbrev pub Reaches : RelocKind → Definition → ℤ → Type 0
Reaches High definition addend = (definition ≡ Within 2 0) × (a : ℕ) × (addend ≡ pos a) × (a < 2 ^ 23)
Reaches RelativeHigh definition addend = ⊥
Reaches RelativeLowI definition addend = ⊥
Reaches RelativeLowS definition addend = ⊥
Reaches TableHigh definition addend = ⊥
Reaches other definition addend = Unit {0}

abbrev pub UseReaches : Relocation → Type 0
UseReaches u = Reaches (kind_of u.number) u.definition u.addend

module _ (fs : List Function) where
  kind_reaches : (kind : RelocKind) (symbol : ℕ) (addend : ℤ) → reaches kind symbol addend ≡ true
      → Reaches kind (symbol_definition fs symbol) addend
  kind_reaches High symbol (pos a) e =
      let parts = and_parts (symbol == table_symbol) (nat_lt a (2 ^ 23)) e in
      (ap (symbol_definition fs) (eqb-true symbol table_symbol parts.0), a, refl, ltb-true a (2 ^ 23) parts.1)
  kind_reaches High symbol (negsuc n) e = absurd (cc)
  kind_reaches RelativeHigh symbol addend e = absurd (cc)
  kind_reaches RelativeLowI symbol addend e = absurd (cc)
  kind_reaches RelativeLowS symbol addend e = absurd (cc)
  kind_reaches TableHigh symbol addend e = absurd (cc)
  kind_reaches other symbol addend e = tt

  marks_reach : (at : ℕ) (ms : List Mark) → list_all mark_reaches ms ≡ true → All UseReaches (map (use_of fs) (map (mark_at at) ms))
  marks_reach at [] e = All-nil UseReaches
  marks_reach at (m ∷ ms) e =
      let parts = and_parts (mark_reaches m) (list_all mark_reaches ms) e in
      All-cons UseReaches (use_of fs (mark_at at m)) (map (use_of fs) (map (mark_at at) ms))
      (kind_reaches (kind_of m.kind) m.symbol m.addend parts.0) (marks_reach at ms parts.1)

  lines_uses : (at : ℕ) (ls : List Line) → lines_reach ls ≡ true → All UseReaches (map (use_of fs) (relocs_from at ls))
  unfolding relocs_from
  lines_uses at [] e = All-nil UseReaches
  lines_uses at (l ∷ ls) e =
      let parts = and_parts (line_reaches l) (lines_reach ls) e in
      rw (map-append (use_of fs) (map (mark_at at) l.marks) (relocs_from (at + 4) ls))
      (All-append UseReaches (map (use_of fs) (map (mark_at at) l.marks)) (map (use_of fs) (relocs_from (at + 4) ls))
      (marks_reach at l.marks parts.0) (lines_uses (at + 4) ls parts.1))

  pub uses_reach : AreSmall fs → All UseReaches (map (use_of fs) (relocs_from 0 (program_lines fs)))
  uses_reach small = lines_uses 0 (program_lines fs) (program_reaches fs small)
