-- The unit that begins a list of words has the shape of the table that is found there: of two shapes some word tells
-- which it is, or the longer one goes on where the other has ended.
use Rattle.std.proofs.Common.{◌≡◌, ℕ, ◌+◌, ◌==◌, ◌&&◌, ◌||◌, Bool, true, false, not, refl, ap, sym, ◌∙◌, inl, inr, lit<, List, [], ◌∷◌, ◌++◌, drop, arith}
use Rattle.std.specs.Prelude.{Option, Some, None, if◌then◌else◌}
use Rattle.std.specs.List.{list_all}
use Rattle.std.proofs.lemmas.Bool.{and_from, and_parts, cases_Bool, eq-eqb, eqb-true, not-true, or_cases}
use Rattle.rv_instr.specs.Reserved.{is_reserved}
use Rattle.rv_instr.specs.declared.instr.Instr.{Instr}
use Rattle.rv_instr.specs.declared.instr.Instr.TheVariants.{Upper, Jal, Jalr, Branch, Load, Store, Immediate, Shift, Register, Ecall, Ebreak}
use Rattle.rv_instr.specs.declared.instr.UpperOp.TheVariants.{Lui}
use Rattle.rv_code.specs.Decode.{decoded}
use Rattle.rv_code.specs.Encode.{code_of}
use Rattle.rv_code.proofs.ReadBack.{decoded-code_of}
use Rattle.cfi_unit.specs.declared.pattern.Pattern.{Pattern}
use Rattle.cfi_unit.specs.declared.pattern.Pattern.TheVariants as P
use Rattle.cfi_unit.specs.declared.pattern.End.{End}
use Rattle.cfi_unit.specs.declared.pattern.End.TheVariants as E
use Rattle.cfi_unit.specs.declared.unit.Unit as U
use Rattle.cfi_unit.specs.Reach.{led_to, reaches}
use Rattle.cfi_unit.specs.UnitWords.{BAD_TARGET, Begins, is_plain, jump, jump_offset, word_count, words_of}
use Rattle.cfi_unit.specs.Patterns.{decodes_to, has_form, is_addi, is_and, matches}
use Rattle.cfi_unit.specs.Shapes.{SHAPES, Shape}
use Rattle.cfi_unit.specs.ShapeOf.{shape_of}
use Rattle.cfi_unit.specs.Opens.{Among, Opens}
use Rattle.cfi_unit.specs.FoundShape.{begins_as, continues, first_of, found_shape, goes_on}
use Rattle.cfi_unit.proofs.Further.{precedes_by}
use Rattle.cfi_unit.proofs.Jumps.{is_jump_instr}
use Rattle.cfi_unit.proofs.Listed.{each_among}
use Rattle.cfi_unit.proofs.ShapedUnits.{shape_among, unit_opens}
use Rattle.cfi_unit.proofs.UnitInList.{begun_parts}

-- what sort of instruction it is, of those that begin units: 0 is that of plain ones
abbrev sort : Instr → ℕ
sort (Upper Lui rd imm) = if rd == 0 then 1 else 0
sort (Jal rd imm) = 2
sort (Branch op rs1 rs2 imm) = 3
sort Ecall = 4
sort Ebreak = 5
sort (Immediate op rd rs1 imm) = if rd == 31 then 6 else 0
sort (Shift op rd rs1 amount) = if rd == 30 then 7 else 0
sort (Load op rd rs1 imm) = if rd == 31 then 8 else 0
sort (Register op rd rs1 rs2) = if rd == 31 then 9 else 0
sort (Jalr rd rs1 imm) = 10
sort other = 0

abbrev sort_in : Option Instr → ℕ
sort_in None = 0
sort_in (Some instr) = sort instr

-- the sort of a word that is as a pattern says
abbrev sort_of : Pattern → ℕ
sort_of (P.Is code) = sort_in (decoded code)
sort_of P.Gate = 1
sort_of (P.Halt to) = 2
sort_of P.Goto = 2
sort_of P.Jump = 2
sort_of P.Link = 2
sort_of P.Skip = 3
sort_of P.Near = 3
sort_of P.Address = 6
sort_of P.Number = 6
sort_of P.Masked = 9
sort_of other = 0

-- a register that programs may write is none that units keep
free : (r n : ℕ) → not (is_reserved r) ≡ true → is_reserved n ≡ true → (r == n) ≡ false
free r n h kept =
    elim (cases_Bool (r == n)) [
      | inl same ↦ let bad = ap (λ (k : ℕ). not (is_reserved k)) (eqb-true r n same) ∙ ap not kept in cc
      | inr differs ↦ differs
    ]

plain_sort : (i : Instr) → is_plain i ≡ true → sort i ≡ 0
plain_sort (Upper Lui rd imm) h = rw (not-true (rd == 0) (and_parts (not (is_reserved rd)) (not (rd == 0)) h).1) refl
plain_sort (Load op rd rs1 imm) h = rw (free rd 31 h refl) refl
plain_sort (Immediate op rd rs1 imm) h = rw (free rd 31 h refl) refl
plain_sort (Shift op rd rs1 amount) h = rw (free rd 30 h refl) refl
plain_sort (Register op rd rs1 rs2) h = rw (free rd 31 h refl) refl
plain_sort (Jal rd imm) h = absurd (cc)
plain_sort (Jalr rd rs1 imm) h = absurd (cc)
plain_sort (Branch op rs1 rs2 imm) h = absurd (cc)
plain_sort Ecall h = absurd (cc)
plain_sort Ebreak h = absurd (cc)
plain_sort other h = refl

form_sort : (p : Pattern) (here : ℕ) (i : Instr) → has_form p here i ≡ true → sort i ≡ sort_of p
form_sort P.Gate here (Upper Lui rd imm) e = rw e refl
form_sort P.Label here (Upper Lui rd imm) e = ap (λ (r : ℕ). if r == 0 then 1 else 0) (eqb-true rd 4 e)
form_sort P.Skip here (Branch op rs1 rs2 imm) e = refl
form_sort P.Near here (Branch op rs1 rs2 imm) e = refl
form_sort P.Goto here (Jal rd imm) e = refl
form_sort P.Jump here (Jal rd imm) e = refl
form_sort P.Link here (Jal rd imm) e = refl
form_sort P.Address here (Immediate op rd rs1 imm) e = rw (and_parts (is_addi op) (rd == 31) e).1 refl
form_sort P.Number here (Immediate op rd rs1 imm) e = rw (and_parts (rd == 31) _ (and_parts (is_addi op) _ e).1).0 refl
form_sort P.Member here (Store op rs1 rs2 imm) e = refl
form_sort P.Masked here (Register op rd rs1 rs2) e = rw (and_parts (rd == 31) _ (and_parts (is_and op) _ e).1).0 refl
form_sort P.Plain here i e = plain_sort i e
form_sort p here i e = absurd (cc)

option_sort : (p : Pattern) (here : ℕ) (o : Option Instr) → decodes_to (has_form p here) o ≡ true → sort_in o ≡ sort_of p
option_sort p here None e = absurd (cc)
option_sort p here (Some i) e = form_sort p here i e

word_sort : (p : Pattern) (w here : ℕ) → matches p w here ≡ true → sort_in (decoded w) ≡ sort_of p
word_sort (P.Is code) w here m = ap (λ c. sort_in (decoded c)) (eqb-true w code m)
word_sort (P.Halt to) w here m =
    ap (λ c. sort_in (decoded c)) (eqb-true w (code_of (jump here to)) (and_parts (reaches here to) _ m).1)
    ∙ ap sort_in (decoded-code_of (jump here to) (is_jump_instr 0 here to (lit< tt)))
word_sort p w here m = option_sort p here (decoded w) m

-- two patterns that no word has both
abbrev same_sort_apart : Pattern → Pattern → Bool
same_sort_apart (P.Is a) (P.Is b) = not (a == b)
same_sort_apart (P.Halt to) P.Goto = to == BAD_TARGET
same_sort_apart (P.Halt to) P.Link = true
same_sort_apart P.Goto P.Link = true
same_sort_apart P.Near P.Skip = true
same_sort_apart one other = false

abbrev are_apart : Pattern → Pattern → Bool
are_apart p q = same_sort_apart p q || not (sort_of p == sort_of q)

skip_or_near : (here : ℕ) (o : Option Instr) → decodes_to (has_form P.Near here) o ≡ true → decodes_to (has_form P.Skip here) o ≡ true → ⊥
skip_or_near here None m n = cc
skip_or_near here (Some (Branch op rs1 rs2 imm)) m n = let differs = not-true (imm == 4) m in cc
skip_or_near here (Some other) m n = cc

jump_or_link : (here : ℕ) (o : Option Instr) → decodes_to (has_form P.Goto here) o ≡ true → decodes_to (has_form P.Link here) o ≡ true → ⊥
jump_or_link here None m n = cc
jump_or_link here (Some (Jal rd imm)) m n =
    let no = eqb-true rd 0 (and_parts (rd == 0) _ m).0 in
    let one = eqb-true rd 1 n in
    omega arith
jump_or_link here (Some other) m n = cc

never_same : (p q : Pattern) (w here : ℕ) → same_sort_apart p q ≡ true → matches p w here ≡ true → matches q w here ≡ true → ⊥
never_same (P.Is a) (P.Is b) w here e m n =
    let same : a ≡ b = sym (eqb-true w a m) ∙ eqb-true w b n in
    let differs = not-true (a == b) e in
    let equal = eq-eqb a b same in
    cc
never_same (P.Halt to) P.Goto w here e m n =
    let halts = and_parts (reaches here to) (w == code_of (jump here to)) m in
    let is = decoded-code_of (jump here to) (is_jump_instr 0 here to (lit< tt)) in
    let other : not (led_to here (jump_offset here to) == BAD_TARGET) ≡ true =
    sym (ap (decodes_to (has_form P.Goto here)) (ap decoded (eqb-true w (code_of (jump here to)) halts.1) ∙ is)) ∙ n in
    let differs = not-true (led_to here (jump_offset here to) == BAD_TARGET) other in
    let equal = eq-eqb (led_to here (jump_offset here to)) BAD_TARGET (eqb-true (led_to here (jump_offset here to)) to halts.0 ∙ eqb-true to BAD_TARGET e) in
    cc
never_same (P.Halt to) P.Link w here e m n =
    let halts = and_parts (reaches here to) (w == code_of (jump here to)) m in
    let is = decoded-code_of (jump here to) (is_jump_instr 0 here to (lit< tt)) in
    let links = sym (ap (decodes_to (has_form P.Link here)) (ap decoded (eqb-true w (code_of (jump here to)) halts.1) ∙ is)) ∙ n in
    cc
never_same P.Goto P.Link w here e m n = jump_or_link here (decoded w) m n
never_same P.Near P.Skip w here e m n = skip_or_near here (decoded w) m n
never_same p q w here e m n = cc

never_both : (p q : Pattern) (w here : ℕ) → are_apart p q ≡ true → matches p w here ≡ true → matches q w here ≡ true → ⊥
never_both p q w here e m n =
    elim (or_cases (same_sort_apart p q) (not (sort_of p == sort_of q)) e) [
      | inl same ↦ never_same p q w here same m n
      | inr sorts ↦
          let differs = not-true (sort_of p == sort_of q) sorts in
          let equal = eq-eqb (sort_of p) (sort_of q) (sym (word_sort p w here m) ∙ word_sort q w here n) in
          cc
    ]

-- words that begin as one shape says, and are all of it, are not all of another
abbrev tells : List Pattern → List Pattern → End → Bool
tells [] qs end = false
tells (p ∷ ps) [] end = continues end p
tells (p ∷ ps) (q ∷ qs) end = are_apart p q || tells ps qs end

pub goes : (end : End) (p : Pattern) (w : ℕ) (ws : List ℕ) (at : ℕ) → continues end p ≡ true → matches p w at ≡ true → goes_on end (w ∷ ws) at ≡ true
goes E.Over P.Jump w ws at e m = m
goes (E.Stores mask) P.Member w ws at e m = m
goes end p w ws at e m = absurd (cc)

told_apart : (ps qs : List Pattern) (one other : End) (ws : List ℕ) (at : ℕ) → tells ps qs other ≡ true → begins_as ps one ws at ≡ true →
    begins_as qs other ws at ≡ true → ⊥
told_apart [] qs one other ws at e b d = cc
told_apart (p ∷ ps) [] one other [] at e b d = cc
told_apart (p ∷ ps) [] one other (w ∷ ws) at e b d =
    let more = goes other p w ws at e (and_parts (matches p w at) (begins_as ps one ws (at + 4)) b).0 in
    let ends = not-true (goes_on other (w ∷ ws) at) d in
    cc
told_apart (p ∷ ps) (q ∷ qs) one other [] at e b d = cc
told_apart (p ∷ ps) (q ∷ qs) one other (w ∷ ws) at e b d =
    let m = and_parts (matches p w at) (begins_as ps one ws (at + 4)) b in
    let n = and_parts (matches q w at) (begins_as qs other ws (at + 4)) d in
    elim (or_cases (are_apart p q) (tells ps qs other) e) [
      | inl here ↦ never_both p q w at here m.0 n.0
      | inr later ↦ told_apart ps qs one other ws (at + 4) later m.1 n.1
    ]

-- each shape is told from those that come later
abbrev all_told : List Shape → Bool
all_told [] = true
all_told (s ∷ ss) = list_all (λ (r : Shape). tells s.words r.words r.end) ss && all_told ss

table_told : all_told SHAPES ≡ true
unfolding code_of decoded
table_told = refl

-- so only one is that of a unit which begins some words
first_is : (ss : List Shape) (s : Shape) (ws : List ℕ) (at : ℕ) → all_told ss ≡ true → Among s ss → begins_as s.words s.end ws at ≡ true →
    first_of ss ws at ≡ Some s
unfolding Among
first_is [] s ws at all a starts = absurd a
first_is (r ∷ ss) s ws at all (inl e) starts =
    rw (ap (λ (t : Shape). begins_as t.words t.end ws at) (sym e) ∙ starts) (ap (λ (t : Shape). Some t) (sym e))
first_is (r ∷ ss) s ws at all (inr a) starts =
    let two = and_parts (list_all (λ (t : Shape). tells r.words t.words t.end) ss) (all_told ss) all in
    elim (cases_Bool (begins_as r.words r.end ws at)) [
      | inl bad ↦ absurd (told_apart r.words s.words r.end s.end ws at (each_among (λ t. tells r.words t.words t.end) ss s two.0 a) bad starts)
      | inr other ↦ rw other (first_is ss s ws at two.1 a starts)
    ]

opens_begins : (ps : List Pattern) (end : End) (ws rest : List ℕ) (at : ℕ) → Opens ps ws at [] → ((here : ℕ) → not (goes_on end rest here) ≡ true) →
    begins_as ps end (ws ++ rest) at ≡ true
unfolding Opens
opens_begins [] end [] rest at o ends = ends at
opens_begins [] end (w ∷ ws) rest at o ends = absurd o
opens_begins (p ∷ ps) end [] rest at o ends = absurd (cc)
opens_begins (p ∷ ps) end (w ∷ ws) rest at o ends =
    and_from (matches p w at) (begins_as ps end (ws ++ rest) (at + 4)) o.0 (opens_begins ps end ws rest (at + 4) o.1 ends)

pub found_first : (ws : List ℕ) (at : ℕ) (u : U.Unit) → Begins ws at u → found_shape ws at ≡ Some (shape_of u at)
found_first ws at u b =
    let s = shape_of u at in
    let rest = drop (word_count u) ws in
    first_is SHAPES s ws at table_told (shape_among u at b.fits)
    (ap (λ (l : List ℕ). begins_as s.words s.end l at) (sym (begun_parts ws at u b))
    ∙ opens_begins s.words s.end (words_of u at) rest at (unit_opens u at b.fits) (λ here. sym (precedes_by u at rest here b.fits) ∙ b.ahead))
