-- Where the first word of a unit leads.
use Rattle.std.proofs.Common.{◌≡◌, ◌≢◌, ℕ, ◌/◌, ◌^◌, ◌<◌, ◌==◌, ◌&&◌, Bool, true, false, inl, inr, List, [], ◌∷◌, length, refl, ap, sym, ◌∙◌, arith, lit<}
use Rattle.std.specs.Prelude.{Some, None}
use Rattle.std.proofs.lemmas.Bool.{and_parts, cases_Bool}
use Rattle.std.proofs.lemmas.Nat.{mod_below}
use Rattle.std.proofs.lemmas.Option.{same_Some}
use Rattle.rv_instr.specs.InRange.{IsInstr}
use Rattle.rv_instr.specs.declared.instr.Instr.{Instr}
use Rattle.rv_instr.specs.declared.instr.Instr.TheVariants.{Upper, Jal, Branch}
use Rattle.rv_code.specs.Decode.{decoded}
use Rattle.rv_code.specs.Encode.{code_of}
use Rattle.rv_code.proofs.ReadBack.{decoded-code_of}
use Rattle.rv_code.proofs.Inverse.{code_of-decoded, decoded-in_range}
use Rattle.cfi_unit.specs.declared.pattern.Pattern.{Pattern}
use Rattle.cfi_unit.specs.declared.pattern.Pattern.TheVariants as P
use Rattle.cfi_unit.specs.declared.pattern.End.{End}
use Rattle.cfi_unit.specs.declared.pattern.End.TheVariants as D
use Rattle.cfi_unit.specs.declared.unit.Unit as U
use Rattle.cfi_unit.specs.declared.unit.Unit.TheVariants as V
use Rattle.cfi_unit.specs.declared.unit.SystemOp.TheVariants as S
use Rattle.cfi_unit.specs.UnitWords.{Fits, gate, jump, jump_offset, near_offset, skip_offset, words_of}
use Rattle.cfi_unit.specs.Patterns.{matches}
use Rattle.cfi_unit.specs.Shapes.{SHAPES, Shape, shape}
use Rattle.cfi_unit.specs.ShapeOf.{shape_of}
use Rattle.cfi_unit.specs.Opens.{Among}
use Rattle.cfi_unit.proofs.Counts.{some_word}
use Rattle.cfi_reader.specs.Left.{Reads, is_alone}
use Rattle.cfi_reader.specs.Nodes.{rest_of}
use Rattle.cfi_reader.specs.Kept.{Keeps, count_on, label_by, numbers_by, told_by}
use Rattle.cfi_reader.specs.Entries.{entry_of, plain_entry, writes_link}
use Rattle.cfi_reader.specs.Reading.{AtLeast, Opened}
use Rattle.cfi_reader.specs.PlainWord.{IsPlainWord}
use Rattle.cfi_reader.specs.declared.entry.Entry.{Entry}
use Rattle.cfi_reader.specs.declared.entry.Entry.TheVariants as E
use Rattle.cfi_reader.specs.declared.first.First.TheVariants.{More, Done}
use Rattle.cfi_reader.proofs.Ahead.{alone_precedes}
use Rattle.cfi_reader.proofs.Begin.{opens_one}
use Rattle.cfi_reader.proofs.Followed.{Whole, first_ended, whole_unit}
use Rattle.cfi_reader.proofs.Keeping.{numbers_none}

-- a word that opens a unit is in it
first_least : (word at : ℕ) → AtLeast (word ∷ []) at
first_least word at rest u b = let some = some_word u in omega arith

-- a unit whose first word is a number is a system call, and no first word is a label
abbrev is_number_first : End → Pattern → Bool
is_number_first D.Guarded P.Number = true
is_number_first D.Guarded q = false
is_number_first end P.Label = false
is_number_first end q = true

abbrev first_right : End → List Pattern → Bool
first_right end [] = false
first_right end (q ∷ left) = is_number_first end q

abbrev all_right : List Shape → Bool
all_right [] = true
all_right (r ∷ rs) = first_right r.end r.words && all_right rs

right_of : (rs : List Shape) (s : Shape) → all_right rs ≡ true → Among s rs → first_right s.end s.words ≡ true
unfolding Among
right_of [] s e a = absurd a
right_of (r ∷ rs) s e (inl is) =
    ap (λ (x : Shape). first_right x.end x.words) is ∙ (and_parts (first_right r.end r.words) (all_right rs) e).0
right_of (r ∷ rs) s e (inr a) = right_of rs s (and_parts (first_right r.end r.words) (all_right rs) e).1 a

first_of : (s : Shape) (q : Pattern) (left : List Pattern) → Among s SHAPES → s.words ≡ q ∷ left → is_number_first s.end q ≡ true
first_of s q left a e = ap (first_right s.end) (sym e) ∙ right_of SHAPES s refl a

number_first : (q : Pattern) → is_number_first D.Guarded q ≡ true → q ≡ P.Number
number_first P.Number e = refl
number_first q e = absurd (cc)

never_label : (end : End) → is_number_first end P.Label ≡ true → ⊥
never_label D.Guarded e = cc
never_label end e = cc

no_words : (left : List Pattern) → label_by left [] None ≡ None
no_words [] = refl
no_words (q ∷ left) = refl

label_none : (end : End) (q : Pattern) (left : List Pattern) (word label : ℕ) → is_number_first end q ≡ true → label_by (q ∷ left) (word ∷ []) None ≡ Some label → ⊥
label_none end P.Label left word label e some = never_label end e
label_none end q left word label e some = let f : None ≡ Some label = sym (no_words left) ∙ some in cc

one_number : (left : List Pattern) (n : ℕ) → n ∷ [] ≡ n ∷ numbers_by left []
one_number left n = ap (λ (ns : List ℕ). n ∷ ns) (sym (numbers_none left))

told_one : (calls : List ℕ) (n : ℕ) → count_on calls 0 n ≡ told_by calls (n ∷ [])
told_one [] n = refl
told_one (call ∷ calls) n = elim (cases_Bool (n == call)) [ inl e ↦ rw e refl | inr e ↦ rw e refl ]

first_keeps : (calls : List ℕ) (numbers label word at : ℕ) → (matches P.Number word at ≡ true → numbers ≡ count_on calls 0 (word / 2 ^ 20)) →
    Keeps calls numbers label (word ∷ []) at
first_keeps calls numbers label word at number = record {
  label_is = λ s left among opens told e.
      let (q, (is, fits)) = opens_one word at s.words left opens in
      absurd (label_none s.end q left word told (first_of s q left among is) (ap (λ (ps : List Pattern). label_by ps (word ∷ []) None) (sym is) ∙ e));
  numbers_are = λ s left among opens guarded.
      let (q, (is, fits)) = opens_one word at s.words left opens in
      let one : q ≡ P.Number = number_first q (ap (λ (end : End). is_number_first end q) (sym guarded) ∙ first_of s q left among is) in
      number (ap (λ (p : Pattern). matches p word at) (sym one) ∙ fits)
      ∙ told_one calls (word / 2 ^ 20)
      ∙ ap (told_by calls) (one_number left (word / 2 ^ 20) ∙ ap (λ (ps : List Pattern). numbers_by ps (word ∷ [])) (ap (λ (p : Pattern). p ∷ left) (sym one) ∙ sym is));
}

-- the entry of a unit of one word, by its instruction
abbrev pub first_entry : End → Instr → Entry
first_entry D.Gate (Upper op rd imm) = E.Gate imm
first_entry D.Near (Branch op rs1 rs2 imm) = E.Near imm
first_entry D.Jump (Jal rd imm) = E.Jump imm
first_entry D.Stop i = E.Stop
first_entry D.Ecall i = E.Ecall
first_entry D.LinkCall (Jal rd imm) = E.LinkCall imm
first_entry D.LeafReturn i = E.LeafReturn
first_entry D.Ebreak i = E.Break
first_entry D.Plain i = plain_entry (writes_link i)
first_entry _ i = E.Other

-- a unit of this kind may have one word, and is one whatever follows
abbrev pub is_single : End → Bool
is_single D.Gate = true
is_single D.Near = true
is_single D.Jump = true
is_single D.Stop = true
is_single D.Ecall = true
is_single D.Plain = true
is_single D.Ebreak = true
is_single D.LinkCall = true
is_single D.LeafReturn = true
is_single _ = false

single_alone : (end : End) → is_single end ≡ true → is_alone end ≡ true
single_alone D.Over e = absurd (cc)
single_alone (D.Stores mask) e = absurd (cc)
single_alone end e = refl

instr_is : (ws : List ℕ) (word : ℕ) (i j : Instr) → decoded word ≡ Some i → IsInstr j → code_of j ∷ [] ≡ word ∷ [] → j ≡ i
instr_is ws word i j is range e =
    let w : code_of j ≡ word = cc in
    let same : Some j ≡ Some i = sym (decoded-code_of j range) ∙ ap decoded w ∙ is in
    same_Some j i same

single_told : (u : U.Unit) (calls : List ℕ) (i : Instr) (word at : ℕ) → Fits u at → words_of u at ≡ word ∷ [] → decoded word ≡ Some i →
    is_single ((shape_of u at).end) ≡ true → first_entry ((shape_of u at).end) i ≡ entry_of calls u at
unfolding words_of
single_told (V.Gate label) calls i word at f e is l =
    ap (first_entry D.Gate) (sym (instr_is [] word i (gate label) is (lit< tt, f) e))
single_told (V.Plain instr) calls i word at f e is l =
    ap (first_entry D.Plain) (sym (instr_is [] word i instr is f.0 e))
single_told (V.Branch op rs1 rs2 target) calls i word at f e is l = absurd (cc)
single_told (V.Near op rs1 rs2 target) calls i word at f e is l =
    elim (cases_Bool (near_offset at target == skip_offset)) [
      | inl over ↦ let g : false ≡ true = rw over at l in absurd (cc)
      | inr near ↦ rw near (ap (first_entry D.Near) (sym (instr_is [] word i (Branch op rs1 rs2 (near_offset at target)) is (f.0, f.1, mod_below _ (2 ^ 12) (lit< tt)) e)))
    ]
single_told (V.Jump target) calls i word at f e is l =
    ap (first_entry D.Jump) (sym (instr_is [] word i (jump at target) is (lit< tt, mod_below _ (2 ^ 20) (lit< tt)) e))
single_told V.Stop calls i word at f e is l = refl
single_told (V.System S.Ecall) calls i word at f e is l = refl
single_told (V.System S.Ebreak) calls i word at f e is l = refl
single_told (V.Guarded ns) calls i word at f e is l = absurd (cc)
single_told (V.Stores mask rs1 imm members) calls i word at f e is l =
    elim (cases_Bool (length members == 16)) [
      | inl all ↦ let g : false ≡ true = rw all at l in absurd (cc)
      | inr fewer ↦ let g : false ≡ true = rw fewer at l in absurd (cc)
    ]
single_told (V.Call target) calls i word at f e is l = absurd (cc)
single_told (V.Ijump which rs1 imm label) calls i word at f e is l = absurd (cc)
single_told (V.Icall rs1 imm label) calls i word at f e is l = absurd (cc)
single_told V.Return calls i word at f e is l = absurd (cc)
single_told (V.LinkCall target) calls i word at f e is l =
    ap (first_entry D.LinkCall) (sym (instr_is [] word i (Jal 1 (jump_offset at target)) is (lit< tt, mod_below _ (2 ^ 20) (lit< tt)) e))
single_told V.Enter calls i word at f e is l = absurd (cc)
single_told (V.LeanIjump rs1 imm label) calls i word at f e is l = absurd (cc)
single_told (V.LeanIcall rs1 imm label) calls i word at f e is l = absurd (cc)
single_told V.LeafReturn calls i word at f e is l = refl

module _ (calls : List ℕ) (word at : ℕ) (small : word < 2 ^ 32) where
  -- at a node, of a word that is no number
  pub node_by : (node : ℕ) → node ≢ 1 → (numbers label : ℕ) → Reads (rest_of node) (word ∷ []) at →
      (matches P.Number word at ≡ true → numbers ≡ count_on calls 0 (word / 2 ^ 20)) → Opened calls word at (More (record { node = node; numbers = numbers; label = label }))
  node_by node other numbers label reads number = record {
    reads = reads;
    least = first_least word at;
    keeps = first_keeps calls numbers label word at number;
    begun = λ one. absurd (other one);
    small = (small, tt);
  }

  pub done_by : (i : Instr) (end : End) → decoded word ≡ Some i → is_single end ≡ true → Reads (shape end [] ∷ []) (word ∷ []) at →
      Opened calls word at (Done (first_entry end i))
  done_by i end is single reads =
      let w : Whole end (word ∷ []) at = whole_unit end (word ∷ []) at (first_ended end (word ∷ []) at reads) (small, tt) in
      let m = w.made.1 in
      let one : is_single ((shape_of m.unit at).end) ≡ true = ap is_single w.end_is ∙ single in (
        record {
          unit = m.unit;
          fits = m.fits;
          entry_is = ap (λ (d : End). first_entry d i) (sym w.end_is) ∙ single_told m.unit calls i word at m.fits m.words is one;
          words_are = sym m.words;
        },
        λ rest. alone_precedes m.unit at rest m.fits (single_alone ((shape_of m.unit at).end) one),
      )

-- a plain word that does not write x1 is a unit
pub plain_opens : (calls : List ℕ) (word at : ℕ) → word < 2 ^ 32 → IsPlainWord word → Opened calls word at (Done E.Other)
unfolding words_of
plain_opens calls word at small p = (
  record {
    unit = V.Plain p.instr;
    fits = (decoded-in_range word p.instr small p.is, p.plain);
    entry_is = ap plain_entry (sym p.no_link);
    words_are = ap (λ (w : ℕ). w ∷ []) (sym (code_of-decoded word p.instr small p.is));
  },
  λ rest. refl,
)
