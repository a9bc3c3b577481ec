-- The loops that write the object.
use Rattle.std.proofs.Common.{◌≡◌, ℕ, pos, zero, suc, ◌+◌, ◌-◌, ◌*◌, ◌<◌, ◌≤◌, List, [], ◌∷◌, ◌++◌, length, drop, get_or, map, refl, sym, ap, ◌∙◌, arith, add-one, drop-cons, append_assoc, length-append, codes}
use Rattle.std.specs.List.{flat_map}
use Rattle.std.proofs.lemmas.List.{append-nil, drop_all, length-replicate, map-append}
use Rattle.byteorder.specs.Numbers.{length-bytes_low_first}
use Rattle.rv_code.specs.Encode.{code_of}
use Rattle.elf_tables.specs.declared.entry.Reloc.{Reloc}
use Rattle.elf_writer.specs.declared.parts.Symbol.{Symbol}
use Rattle.elf_writer.specs.Parts.{RelocationsPart, SectionPart, SymbolPart, symbol_of}
use Rattle.rv_instr.specs.declared.instr.Instr.{Instr}
use Rattle.cfi_gen.specs.declared.function.Function.{Function}
use Rattle.cfi_gen.specs.Lines.{Line, code_bytes, code_size, mark_at, plain, relocs_from, word_bytes}
use Rattle.cfi_gen.specs.Code.{closing_lines, function_lines, function_symbol, main_lines, opening_lines, program_lines, shape_lines}
use Rattle.cfi_gen.specs.Drawing.{function_at, functions_from, next}
use Rattle.cfi_gen.specs.Demo.{code_symbol, data_part, demo_parts, parts_with, table_bytes, function_name, function_symbols, main_part, table_part, table_relocs}
use Rattle.cfi_gen.specs.Writing.{Written, nothing, parts_from, with_line, with_lines}

pub with_lines-append : (w : Written) (a b : List Line) → with_lines w (a ++ b) ≡ with_lines (with_lines w a) b
unfolding with_lines
with_lines-append w [] b = refl
with_lines-append w (l ∷ a) b = with_lines-append (with_line w l) a b

-- what stands at an index, and what stands after it
next_of : {X : Type 0} (xs : List X) (i : ℕ) (x : X) → i < length xs → x ≡ get_or xs i x → drop i xs ≡ x ∷ drop (i + 1) xs
next_of xs i x below e = drop-cons xs i x below ∙ ap (λ y. y ∷ drop (suc i) xs) (sym e) ∙ ap (λ k. x ∷ drop k xs) (sym (add-one i))

pub instr_next : (instrs : List Instr) (i : ℕ) (instr : Instr) (w v : Written) → i < length instrs → instr ≡ get_or instrs i instr
    → v ≡ with_line w (plain instr) → with_lines v (map plain (drop (i + 1) instrs)) ≡ with_lines w (map plain (drop i instrs))
unfolding with_lines
instr_next instrs i instr w v below e new = rw (next_of instrs i instr below e, new) refl

pub instrs_end : (instrs : List Instr) (i : ℕ) (w : Written) → length instrs ≤ i → with_lines w (map plain (drop i instrs)) ≡ w
unfolding with_lines
instrs_end instrs i w past = rw (drop_all i instrs past) refl

pub function_next : (fs : List Function) (i : ℕ) (f : Function) (w v : Written) → i < length fs → f ≡ get_or fs i f
    → v ≡ with_lines w (function_lines f)
    → with_lines v (flat_map function_lines (drop (i + 1) fs)) ≡ with_lines w (flat_map function_lines (drop i fs))
function_next fs i f w v below e new =
    rw (next_of fs i f below e, new) (sym (with_lines-append w (function_lines f) (flat_map function_lines (drop (i + 1) fs))))

pub functions_end : (fs : List Function) (i : ℕ) (w : Written) → length fs ≤ i → with_lines w (flat_map function_lines (drop i fs)) ≡ w
unfolding with_lines
functions_end fs i w past = rw (drop_all i fs past) refl

pub drawn_next : (fs : List Function) (count i s s' : ℕ) (f : Function) → i < count → f ≡ function_at i s → s' ≡ next (next (next s))
    → (fs ++ (f ∷ [])) ++ functions_from (count - (i + 1)) (i + 1) s' ≡ fs ++ functions_from (count - i) i s
unfolding functions_from
drawn_next fs count i s s' f below e state =
    let left : count - i ≡ suc (count - (i + 1)) = omega arith in
    rw (left, e, state) (append_assoc fs (function_at i s ∷ []) (functions_from (count - (i + 1)) (i + 1) (next (next (next s)))))

pub drawn_end : (fs : List Function) (count i s : ℕ) → count ≤ i → fs ++ functions_from (count - i) i s ≡ fs
unfolding functions_from
drawn_end fs count i s past =
    let none : count - i ≡ 0 = omega arith in
    rw none (append-nil fs)

pub pointer_next : (rs : List Reloc) (count i : ℕ) (r : Reloc) → i < count
    → r ≡ record { offset = 8 * i; symbol = function_symbol i; kind = 2; addend = pos 0 }
    → (rs ++ (r ∷ [])) ++ table_relocs (count - (i + 1)) (i + 1) ≡ rs ++ table_relocs (count - i) i
unfolding table_relocs
pointer_next rs count i r below e =
    let left : count - i ≡ suc (count - (i + 1)) = omega arith in
    rw (left, e) (append_assoc rs (record { offset = 8 * i; symbol = function_symbol i; kind = 2; addend = pos 0 } ∷ []) (table_relocs (count - (i + 1)) (i + 1)))

pub pointers_end : (rs : List Reloc) (count i : ℕ) → count ≤ i → rs ++ table_relocs (count - i) i ≡ rs
unfolding table_relocs
pointers_end rs count i past =
    let none : count - i ≡ 0 = omega arith in
    rw none (append-nil rs)

pub symbol_next : (ss : List SymbolPart) (fs : List Function) (at i : ℕ) (f : Function) (s : SymbolPart) → i < length fs → f ≡ get_or fs i f
    → s ≡ code_symbol (function_name i) at (code_size (function_lines f))
    → (ss ++ (s ∷ [])) ++ function_symbols (at + code_size (function_lines f)) (i + 1) (drop (i + 1) fs) ≡ ss ++ function_symbols at i (drop i fs)
unfolding function_symbols
symbol_next ss fs at i f s below e is =
    rw (next_of fs i f below e, is)
    (append_assoc ss (code_symbol (function_name i) at (code_size (function_lines f)) ∷ []) (function_symbols (at + code_size (function_lines f)) (i + 1) (drop (i + 1) fs)))

pub symbols_end : (ss : List SymbolPart) (fs : List Function) (at i : ℕ) → length fs ≤ i → ss ++ function_symbols at i (drop i fs) ≡ ss
unfolding function_symbols
symbols_end ss fs at i past = rw (drop_all i fs past) (append-nil ss)

-- a function, part by part
pub function_written : (w a b d : Written) (f : Function) (opening closing : List Instr) → map plain opening ≡ opening_lines f.amount
    → map plain closing ≡ closing_lines → a ≡ with_lines w (map plain opening) → b ≡ with_lines a (shape_lines f.shape)
    → d ≡ with_lines b (map plain closing) → d ≡ with_lines w (function_lines f)
unfolding function_lines
function_written w a b d f opening closing o e first second third =
    third ∙ rw (second, first, o, e)
    (sym (with_lines-append (with_lines w (opening_lines f.amount)) (shape_lines f.shape) closing_lines)
    ∙ sym (with_lines-append w (opening_lines f.amount) (shape_lines f.shape ++ closing_lines)))

-- `main`, before the functions
pub main_written : (w v : Written) (fs : List Function) → w ≡ nothing → v ≡ with_lines w main_lines
    → with_lines v (flat_map function_lines fs) ≡ with_lines nothing (program_lines fs)
unfolding program_lines
main_written w v fs start new = rw (new, start) (sym (with_lines-append nothing main_lines (flat_map function_lines fs)))

pub first_symbols_are : (a b : Symbol) (symbols : List Symbol) (name : List ℕ) → symbols ≡ a ∷ b ∷ [] → symbol_of a ≡ code_symbol name 0 68
    → name ≡ codes "main" → symbol_of b ≡ table_part → map symbol_of symbols ≡ main_part ∷ table_part ∷ []
unfolding main_lines
first_symbols_are a b symbols name is main named table =
    ap (map symbol_of) is ∙ ap (λ s. s ∷ symbol_of b ∷ []) (main ∙ ap (λ n. code_symbol n 0 68) named) ∙ ap (λ s. code_symbol (codes "main") 0 68 ∷ s ∷ []) table

-- no symbol of a function yet
pub symbols_begin : (ss : List SymbolPart) (fs : List Function) → ss ≡ main_part ∷ table_part ∷ []
    → ss ++ function_symbols 68 0 fs ≡ main_part ∷ table_part ∷ function_symbols (code_size main_lines) 0 fs
unfolding main_lines
symbols_begin ss fs e = ap (λ s. s ++ function_symbols 68 0 fs) e

pub symbol_pushed : (old new : List Symbol) (s : Symbol) (fs : List Function) (f : Function) (at size i : ℕ) (name : List ℕ)
    → i < length fs → f ≡ get_or fs i f → new ≡ old ++ (s ∷ []) → symbol_of s ≡ code_symbol name at size → name ≡ function_name i
    → size ≡ code_size (function_lines f)
    → map symbol_of new ++ function_symbols (at + size) (i + 1) (drop (i + 1) fs) ≡ map symbol_of old ++ function_symbols at i (drop i fs)
symbol_pushed old new s fs f at size i name below e pushed is named sized =
    let it : symbol_of s ≡ code_symbol (function_name i) at (code_size (function_lines f)) =
    is ∙ ap (λ n. code_symbol n at size) named ∙ ap (code_symbol (function_name i) at) sized in
    ap (λ ss. map symbol_of ss ++ function_symbols (at + size) (i + 1) (drop (i + 1) fs)) pushed
    ∙ ap (λ ss. ss ++ function_symbols (at + size) (i + 1) (drop (i + 1) fs)) (map-append symbol_of old (s ∷ []))
    ∙ ap (λ n. (map symbol_of old ++ (symbol_of s ∷ [])) ++ function_symbols (at + n) (i + 1) (drop (i + 1) fs)) sized
    ∙ symbol_next (map symbol_of old) fs at i f (symbol_of s) below e it

-- the parts of written code
pub parts_are : (w : Written) (pointers : List Reloc) (symbols : List SymbolPart) (a b : SectionPart) (r s : RelocationsPart)
    → a ≡ record { name = codes ".text"; kind = 1; flags = 6; size = length w.code; align = 4; content = w.code } → b ≡ data_part
    → r ≡ record { name = codes ".rela.text"; target = 1; entries = w.relocs }
    → s ≡ record { name = codes ".rela.data"; target = 2; entries = pointers }
    → record { flags = 0; sections = a ∷ b ∷ []; relocations = r ∷ s ∷ []; symbols = symbols } ≡ parts_from w pointers symbols
parts_are w pointers symbols a b r s e f g h = rw (e, f, g, h) refl

-- the table's section
with_size : List ℕ → ℕ → SectionPart
with_size xs size = record { name = codes ".data"; kind = 1; flags = 3; size = size; align = 8; content = xs }

pub length-table : length table_bytes ≡ 16000
unfolding table_bytes
length-table = length-replicate {A = ℕ} 16000 0

pub data_is : (xs : List ℕ) → xs ≡ table_bytes
    → record { name = codes ".data"; kind = 1; flags = 3; size = length xs; align = 8; content = xs } ≡ data_part
unfolding with_size
data_is xs e = ap (λ ys. with_size ys (length ys)) e ∙ ap (with_size table_bytes) length-table

-- the bytes and the relocations of lines
pub length-code : (ls : List Line) → length (code_bytes ls) ≡ code_size ls
unfolding code_bytes
length-code [] = refl
length-code (l ∷ ls) =
    length-append (word_bytes l) (code_bytes ls) ∙ omega (arith, length-bytes_low_first 0 4 (code_of l.instr), length-code ls)

pub lines_written : (w : Written) (ls : List Line)
    → with_lines w ls ≡ record { code = w.code ++ code_bytes ls; relocs = w.relocs ++ relocs_from (length w.code) ls }
unfolding with_lines code_bytes relocs_from
lines_written w [] = rw (append-nil w.code, append-nil w.relocs) refl
lines_written w (l ∷ ls) =
    let place : length (w.code ++ word_bytes l) ≡ length w.code + 4 =
    length-append w.code (word_bytes l) ∙ ap (λ n. length w.code + n) (length-bytes_low_first 0 4 (code_of l.instr)) in
    let code = append_assoc w.code (word_bytes l) (code_bytes ls) in
    let relocs = append_assoc w.relocs (map (mark_at (length w.code)) l.marks) (relocs_from (length w.code + 4) ls) in
    lines_written (with_line w l) ls ∙ rw (place, code, relocs) refl

pub length-functions : (count i s : ℕ) → length (functions_from count i s) ≡ count
unfolding functions_from
length-functions zero i s = refl
length-functions (suc count) i s = ap suc (length-functions count (i + 1) (next (next (next s))))

-- the object of written code is that of its number
pub object_is : (number : ℕ) (fs : List Function) (w : Written) (pointers : List Reloc) (symbols : List SymbolPart)
    → fs ≡ functions_from 2000 0 number → w ≡ with_lines nothing (program_lines fs) → pointers ≡ table_relocs 2000 0
    → symbols ≡ main_part ∷ table_part ∷ function_symbols (code_size main_lines) 0 fs → parts_from w pointers symbols ≡ demo_parts number
object_is number fs w pointers symbols drawn text table named =
    let whole = text ∙ lines_written nothing (program_lines fs) in
    rw (whole, table, named, length-code (program_lines fs)) (ap parts_with drawn)
