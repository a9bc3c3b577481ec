-- No relocation of a generated object is a use of the table of addresses.
use Rattle.std.proofs.Common.{◌≡◌, ℕ, zero, suc, ◌+◌, ◌<◌, get_or, Bool, true, false, not, ◌&&◌, List, [], ◌∷◌, ◌++◌, length, map, refl, ap, ◌∙◌, arith}
use Rattle.std.specs.List.{flat_map, list_all}
use Rattle.std.proofs.lemmas.Bool.{and_parts, not-true}
use Rattle.std.proofs.lemmas.List.Folds.{list_all-append}
use Rattle.gen_hardened.proofs.Prelude.{Reloc, is_table_high, kind_of, Mark, Function, Shape, Leaf, Call, Table, Skip, Line, mark_at, relocs_from, closing_lines, function_lines, main_lines, opening_lines, program_lines, shape_lines, table_relocs}

abbrev pub is_plain : Reloc → Bool
is_plain r = not (is_table_high (kind_of r.kind))

pub plain_in : (xs : List Reloc) → list_all is_plain xs ≡ true → (j : ℕ) (d : Reloc) → j < length xs → is_table_high (kind_of (get_or xs j d).kind) ≡ false
plain_in [] all j d below = absurd (omega arith)
plain_in (x ∷ xs) all zero d below = not-true _ (and_parts (is_plain x) (list_all is_plain xs) all).0
plain_in (x ∷ xs) all (suc j) d below = plain_in xs (and_parts (is_plain x) (list_all is_plain xs) all).1 j d (omega arith)

is_plain_mark : Mark → Bool
is_plain_mark m = not (is_table_high (kind_of m.kind))

is_plain_line : Line → Bool
is_plain_line l = list_all is_plain_mark l.marks

both : (ls ms : List Line) → list_all is_plain_line ls ≡ true → list_all is_plain_line ms ≡ true → list_all is_plain_line (ls ++ ms) ≡ true
both ls ms first second = list_all-append is_plain_line ls ms ∙ rw (first, second) refl

main_plain : list_all is_plain_line main_lines ≡ true
unfolding main_lines is_plain_line is_plain_mark kind_of
main_plain = refl

shape_plain : (s : Shape) → list_all is_plain_line (shape_lines s) ≡ true
unfolding shape_lines is_plain_line is_plain_mark kind_of
shape_plain Leaf = refl
shape_plain (Call j) = refl
shape_plain (Table j) = refl
shape_plain Skip = refl

opening_plain : (amount : ℕ) → list_all is_plain_line (opening_lines amount) ≡ true
unfolding opening_lines is_plain_line
opening_plain amount = refl

closing_plain : list_all is_plain_line closing_lines ≡ true
unfolding closing_lines is_plain_line
closing_plain = refl

function_plain : (f : Function) → list_all is_plain_line (function_lines f) ≡ true
unfolding function_lines
function_plain f =
    both (opening_lines f.amount) (shape_lines f.shape ++ closing_lines) (opening_plain f.amount) (both (shape_lines f.shape) closing_lines (shape_plain f.shape) closing_plain)

functions_plain : (fs : List Function) → list_all is_plain_line (flat_map function_lines fs) ≡ true
functions_plain [] = refl
functions_plain (f ∷ fs) = both (function_lines f) (flat_map function_lines fs) (function_plain f) (functions_plain fs)

program_plain : (fs : List Function) → list_all is_plain_line (program_lines fs) ≡ true
unfolding program_lines
program_plain fs = both main_lines (flat_map function_lines fs) main_plain (functions_plain fs)

marks_plain : (at : ℕ) (marks : List Mark) → list_all is_plain (map (mark_at at) marks) ≡ list_all is_plain_mark marks
unfolding is_plain_mark
marks_plain at [] = refl
marks_plain at (m ∷ marks) = ap (λ b. is_plain_mark m && b) (marks_plain at marks)

lines_plain : (at : ℕ) (ls : List Line) → list_all is_plain (relocs_from at ls) ≡ list_all is_plain_line ls
unfolding relocs_from is_plain_line
lines_plain at [] = refl
lines_plain at (l ∷ ls) = list_all-append is_plain (map (mark_at at) l.marks) (relocs_from (at + 4) ls) ∙ rw (marks_plain at l.marks, lines_plain (at + 4) ls) refl

pub text_plain : (fs : List Function) → list_all is_plain (relocs_from 0 (program_lines fs)) ≡ true
text_plain fs = lines_plain 0 (program_lines fs) ∙ program_plain fs

pub table_plain : (count i : ℕ) → list_all is_plain (table_relocs count i) ≡ true
unfolding table_relocs kind_of
table_plain zero i = refl
table_plain (suc count) i = table_plain count (i + 1)
