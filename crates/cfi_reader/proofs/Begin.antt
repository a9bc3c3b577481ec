-- The first word of a unit: what is left of the shapes that it opens, by its instruction.
use Rattle.std.proofs.Common.{◌≡◌, ℕ, ◌^◌, ◌<◌, ◌==◌, ◌&&◌, ◌||◌, Bool, true, false, inl, inr, List, [], ◌∷◌, refl, ap, ap₂, sym, subst, ◌∙◌, lit<}
use Rattle.std.specs.Prelude.{Some, None, if◌then◌else◌}
use Rattle.std.proofs.lemmas.Bool.{and_parts, cases_Bool, eqb-true, eq-eqb}
use Rattle.std.proofs.lemmas.Option.{same_Some}
use Rattle.rv_instr.specs.InRange.{IsInstr}
use Rattle.rv_instr.specs.declared.instr.Instr.{Instr}
use Rattle.rv_instr.specs.declared.instr.Instr.TheVariants.{Jal, Jalr, Load, Shift, Ecall, Ebreak}
use Rattle.rv_instr.specs.declared.instr.ShiftOp.TheVariants.{Slli}
use Rattle.rv_instr.specs.declared.instr.LoadOp.TheVariants.{Ld}
use Rattle.rv_code.specs.Decode.{decoded}
use Rattle.rv_code.specs.Encode.{code_of}
use Rattle.rv_code.proofs.ReadBack.{decoded-code_of}
use Rattle.rv_code.proofs.Inverse.{IsWordOf, word-decoded}
use Rattle.cfi_unit.specs.declared.pattern.Pattern.{Pattern}
use Rattle.cfi_unit.specs.declared.pattern.Pattern.TheVariants as P
use Rattle.cfi_unit.specs.declared.pattern.End.{End}
use Rattle.cfi_unit.specs.Reach.{led_to}
use Rattle.cfi_unit.specs.UnitWords.{BAD_TARGET, MINUS_EIGHT, Reaches, jump, jump_offset}
use Rattle.cfi_unit.specs.Patterns.{decodes_to, has_form, matches}
use Rattle.cfi_unit.specs.Shapes.{SHAPES, Shape, is, shape}
use Rattle.cfi_unit.specs.Opens.{Among, InCode, Opens}
use Rattle.cfi_unit.proofs.LedBack.{led_back}
use Rattle.cfi_unit.proofs.Jumps.{is_jump_instr}
use Rattle.cfi_reader.proofs.Halts.{halt_by, handler_reached}
use Rattle.cfi_reader.specs.Left.{Reads, same}
use Rattle.cfi_reader.specs.FirstStep.{is_leaf_return, opens_call, opens_return}
use Rattle.cfi_reader.proofs.Steps.{same_is}

-- what is left of those whose first pattern a word has
abbrev pub pick_one : (Pattern → Bool) → End → List Pattern → List Shape → List Shape
pick_one test end [] rest = rest
pick_one test end (q ∷ left) rest = if test q then shape end left ∷ rest else rest

abbrev pub pick : (Pattern → Bool) → List Shape → List Shape
pick test [] = []
pick test (r ∷ rs) = pick_one test r.end r.words (pick test rs)

-- the patterns with which units begin
abbrev pub FIRSTS : List Pattern
FIRSTS =
    P.Gate
    ∷ P.Plain
    ∷ P.Halt BAD_TARGET
    ∷ P.Goto
    ∷ is Ecall
    ∷ is Ebreak
    ∷ P.Near
    ∷ P.Skip
    ∷ is (Shift Slli 30 3 48)
    ∷ is (Load Ld 31 3 MINUS_EIGHT)
    ∷ P.Address
    ∷ P.Number
    ∷ P.Link
    ∷ P.Masked
    ∷ is (Jalr 0 1 0)
    ∷ []

-- what each of some patterns is told to be
abbrev pub choose : List Pattern → List Bool → Pattern → Bool
choose [] bs q = false
choose (p ∷ ps) [] q = false
choose (p ∷ ps) (b ∷ bs) q = if same p q then b else choose ps bs q

unfoldable pub Agrees : List Pattern → List Bool → ℕ → ℕ → Type 0
Agrees [] bs word at = Unit {0}
Agrees (p ∷ ps) [] word at = ⊥
Agrees (p ∷ ps) (b ∷ bs) word at = (matches p word at ≡ b) × Agrees ps bs word at

abbrev pub listed : List Pattern → Pattern → Bool
listed [] q = false
listed (p ∷ ps) q = same p q || listed ps q

abbrev pub begins_in : List Pattern → List Pattern → Bool
begins_in ps [] = false
begins_in ps (q ∷ left) = listed ps q

abbrev pub all_begin : List Pattern → List Shape → Bool
all_begin ps [] = true
all_begin ps (r ∷ rs) = begins_in ps r.words && all_begin ps rs

chosen : (ps : List Pattern) (bs : List Bool) (q : Pattern) (word at : ℕ) → Agrees ps bs word at → listed ps q ≡ true → matches q word at ≡ choose ps bs q
unfolding Agrees
chosen [] bs q word at a l = absurd (cc)
chosen (p ∷ ps) [] q word at a l = absurd a
chosen (p ∷ ps) (b ∷ bs) q word at a l =
    elim (cases_Bool (same p q)) [
      | inl e ↦ rw e (ap (λ (r : Pattern). matches r word at) (sym (same_is p q e)) ∙ a.0)
      | inr e ↦ rw e (chosen ps bs q word at a.1 (rw e at l))
    ]

pick_one_same : (f g : Pattern → Bool) (end : End) (words : List Pattern) (rest other : List Shape) → (ps : List Pattern) → begins_in ps words ≡ true →
    ((q : Pattern) → listed ps q ≡ true → f q ≡ g q) → rest ≡ other → pick_one f end words rest ≡ pick_one g end words other
pick_one_same f g end [] rest other ps b same_at e = e
pick_one_same f g end (q ∷ left) rest other ps b same_at e =
    ap₂ (λ (t : Bool) (rs : List Shape). if t then shape end left ∷ rs else rs) (same_at q b) e

pub pick_same : (f g : Pattern → Bool) (rs : List Shape) (ps : List Pattern) → all_begin ps rs ≡ true →
    ((q : Pattern) → listed ps q ≡ true → f q ≡ g q) → pick f rs ≡ pick g rs
pick_same f g [] ps b same_at = refl
pick_same f g (r ∷ rs) ps b same_at =
    let two = and_parts (begins_in ps r.words) (all_begin ps rs) b in
    pick_one_same f g r.end r.words (pick f rs) (pick g rs) ps two.0 same_at (pick_same f g rs ps two.1 same_at)

-- of the shapes that a word opens the rest is left
module _ (word at : ℕ) where
  abbrev fits : Pattern → Bool
  fits q = matches q word at

  stays : (x : Shape) (end : End) (words : List Pattern) (rest : List Shape) → Among x rest → Among x (pick_one fits end words rest)
  unfolding Among
  stays x end [] rest a = a
  stays x end (q ∷ left) rest a = elim (cases_Bool (matches q word at)) [ inl e ↦ rw e (inr a) | inr e ↦ rw e a ]

  pick_has : (rs : List Shape) (end : End) (q : Pattern) (left : List Pattern) → Among (shape end (q ∷ left)) rs → matches q word at ≡ true →
      Among (shape end left) (pick fits rs)
  unfolding Among
  pick_has [] end q left a e = absurd a
  pick_has (r ∷ rs) end q left (inl is) e =
      let first : Among (shape end left) (pick_one fits end (q ∷ left) (pick fits rs)) = rw e (inl refl) in
      subst (λ (s : Shape). Among (shape end left) (pick_one fits s.end s.words (pick fits rs))) is first
  pick_has (r ∷ rs) end q left (inr a) e = stays (shape end left) r.end r.words (pick fits rs) (pick_has rs end q left a e)

  abbrev From : Shape → List Shape → Type 0
  From x rs = (q : Pattern) × ((matches q word at ≡ true) × Among (shape x.end (q ∷ x.words)) rs)

  one_from : (x : Shape) (end : End) (words : List Pattern) (rest rs : List Shape) → Among x (pick_one fits end words rest) → (Among x rest → From x rs) →
      From x (shape end words ∷ rs)
  unfolding Among
  one_from x end [] rest rs a f = let g : From x rs = f a in (g.0, (g.1.0, inr g.1.1))
  one_from x end (q ∷ left) rest rs a f =
      elim (cases_Bool (matches q word at)) [
        | inl e ↦
            elim (rw e at a) [
              | inl is ↦ (q, (e, inl (ap (λ (s : Shape). shape s.end (q ∷ s.words)) is)))
              | inr b ↦ let g : From x rs = f b in (g.0, (g.1.0, inr g.1.1))
            ]
        | inr e ↦ let g : From x rs = f (rw e at a) in (g.0, (g.1.0, inr g.1.1))
      ]

  pick_from : (x : Shape) (rs : List Shape) → Among x (pick fits rs) → From x rs
  unfolding Among
  pick_from x [] a = absurd a
  pick_from x (r ∷ rs) a = one_from x r.end r.words (pick fits rs) rs a (pick_from x rs)

  pub opens_one : (ps left : List Pattern) → Opens ps (word ∷ []) at left → (q : Pattern) × ((ps ≡ q ∷ left) × (matches q word at ≡ true))
  unfolding Opens
  opens_one [] left o = absurd o
  opens_one (p ∷ ps) left o = (p, (ap (λ (qs : List Pattern). p ∷ qs) o.1, o.0))

  one_opens : (ps : List Pattern) (q : Pattern) (left : List Pattern) → ps ≡ q ∷ left → matches q word at ≡ true → Opens ps (word ∷ []) at left
  unfolding Opens
  one_opens ps q left e f = subst (λ (qs : List Pattern). Opens qs (word ∷ []) at left) (sym e) (f, refl)

  picked : Reads (pick fits SHAPES) (word ∷ []) at
  picked = record {
    sound = λ s left among opens.
        let (q, (e, f)) = opens_one s.words left opens in
        pick_has SHAPES s.end q left (subst (λ (qs : List Pattern). Among (shape s.end qs) SHAPES) e among) f;
    made = λ r a.
        let (q, (f, b)) = pick_from r SHAPES a in
        (shape r.end (q ∷ r.words), (b, refl, one_opens (q ∷ r.words) q r.words refl f));
  }

  first_begins : all_begin FIRSTS SHAPES ≡ true
  unfolding code_of
  first_begins = refl

  pub first_reads : (bs : List Bool) → Agrees FIRSTS bs word at → Reads (pick (choose FIRSTS bs) SHAPES) (word ∷ []) at
  first_reads bs a =
      subst (λ (rs : List Shape). Reads rs (word ∷ []) at)
      (pick_same fits (choose FIRSTS bs) SHAPES FIRSTS first_begins (λ q l. chosen FIRSTS bs q word at a l)) picked

-- the tests of an instruction for those that are one word
abbrev pub is_halt : Instr → ℕ → Bool
is_halt (Jal rd imm) at = (rd == 0) && (led_to at imm == BAD_TARGET)
is_halt other at = false

abbrev pub is_ecall : Instr → Bool
is_ecall Ecall = true
is_ecall other = false

abbrev pub is_ebreak : Instr → Bool
is_ebreak Ebreak = true
is_ebreak other = false

abbrev pub is_push : Instr → Bool
is_push (Shift op rd rs1 amount) = opens_call op rd rs1 amount
is_push other = false

abbrev pub is_return : Instr → Bool
is_return (Load op rd rs1 imm) = opens_return op rd rs1 imm
is_return other = false

abbrev pub is_leaf : Instr → Bool
is_leaf (Jalr rd rs1 imm) = is_leaf_return rd rs1 imm
is_leaf other = false

halt_is : (i : Instr) (at : ℕ) → IsInstr i → is_halt i at ≡ true → i ≡ jump at BAD_TARGET
halt_is (Jal rd imm) at range e =
    let two = and_parts (rd == 0) (led_to at imm == BAD_TARGET) e in
    let back : jump_offset at (led_to at imm) ≡ imm = led_back at imm range.1 in
    let field : imm ≡ jump_offset at BAD_TARGET = sym back ∙ ap (jump_offset at) (eqb-true (led_to at imm) BAD_TARGET two.1) in
    ap₂ Jal (eqb-true rd 0 two.0) field
halt_is i at range e = absurd (cc)

ecall_is : (i : Instr) → is_ecall i ≡ true → i ≡ Ecall
ecall_is Ecall e = refl
ecall_is i e = absurd (cc)

ebreak_is : (i : Instr) → is_ebreak i ≡ true → i ≡ Ebreak
ebreak_is Ebreak e = refl
ebreak_is i e = absurd (cc)

push_is : (i : Instr) → is_push i ≡ true → i ≡ Shift Slli 30 3 48
push_is (Shift Slli rd rs1 amount) e =
    let a = and_parts (rd == 30) ((rs1 == 3) && (amount == 48)) e in
    let b = and_parts (rs1 == 3) (amount == 48) a.1 in
    rw (eqb-true rd 30 a.0, eqb-true rs1 3 b.0, eqb-true amount 48 b.1) refl
push_is i e = absurd (cc)

return_is : (i : Instr) → is_return i ≡ true → i ≡ Load Ld 31 3 MINUS_EIGHT
return_is (Load Ld rd rs1 imm) e =
    let a = and_parts (rd == 31) ((rs1 == 3) && (imm == MINUS_EIGHT)) e in
    let b = and_parts (rs1 == 3) (imm == MINUS_EIGHT) a.1 in
    rw (eqb-true rd 31 a.0, eqb-true rs1 3 b.0, eqb-true imm MINUS_EIGHT b.1) refl
return_is i e = absurd (cc)

leaf_is : (i : Instr) → is_leaf i ≡ true → i ≡ Jalr 0 1 0
leaf_is (Jalr rd rs1 imm) e =
    let a = and_parts (rd == 0) ((rs1 == 1) && (imm == 0)) e in
    let b = and_parts (rs1 == 1) (imm == 0) a.1 in
    rw (eqb-true rd 0 a.0, eqb-true rs1 1 b.0, eqb-true imm 0 b.1) refl
leaf_is i e = absurd (cc)

-- a word is one word, by a test of its instruction
code_told : (word : ℕ) (i j : Instr) (b : Bool) → IsWordOf word i → decoded word ≡ Some i → IsInstr j → (b ≡ true → i ≡ j) → (i ≡ j → b ≡ true) →
    (word == code_of j) ≡ b
code_told word i j true of is range to from = eq-eqb word (code_of j) (sym of.code ∙ ap code_of (to refl))
code_told word i j false of is range to from =
    elim (cases_Bool (word == code_of j)) [
      | inl e ↦
          let same : Some i ≡ Some j = sym is ∙ ap decoded (eqb-true word (code_of j) e) ∙ decoded-code_of j range in
          let one : i ≡ j = same_Some i j same in
          let f : false ≡ true = from one in
          absurd (cc)
      | inr e ↦ e
    ]

code_none : (word : ℕ) (j : Instr) → decoded word ≡ None → IsInstr j → (word == code_of j) ≡ false
code_none word j none range =
    elim (cases_Bool (word == code_of j)) [
      | inl e ↦
          let same : None ≡ Some j = sym none ∙ ap decoded (eqb-true word (code_of j) e) ∙ decoded-code_of j range in
          absurd (cc)
      | inr e ↦ e
    ]

-- what each is told by an instruction
abbrev pub answers : Instr → ℕ → List Bool
answers i at =
    has_form P.Gate at i
    ∷ has_form P.Plain at i
    ∷ is_halt i at
    ∷ has_form P.Goto at i
    ∷ is_ecall i
    ∷ is_ebreak i
    ∷ has_form P.Near at i
    ∷ has_form P.Skip at i
    ∷ is_push i
    ∷ is_return i
    ∷ has_form P.Address at i
    ∷ has_form P.Number at i
    ∷ has_form P.Link at i
    ∷ has_form P.Masked at i
    ∷ is_leaf i
    ∷ []

halt_test : (at : ℕ) → Reaches at BAD_TARGET → is_halt (jump at BAD_TARGET) at ≡ true
halt_test at r = eq-eqb (led_to at (jump_offset at BAD_TARGET)) BAD_TARGET r

pub agrees : (word at : ℕ) (i : Instr) → InCode at 1 → word < 2 ^ 32 → decoded word ≡ Some i → Agrees FIRSTS (answers i at) word at
unfolding Agrees
agrees word at i place small is =
    let of : IsWordOf word i = word-decoded word i small is in
    let halt : matches (P.Halt BAD_TARGET) word at ≡ is_halt i at =
    sym (halt_by BAD_TARGET word at place refl)
    ∙ code_told word i (jump at BAD_TARGET) (is_halt i at) of is (is_jump_instr 0 at BAD_TARGET (lit< tt))
    (halt_is i at of.in_range) (λ e. ap (λ (k : Instr). is_halt k at) e ∙ halt_test at (handler_reached BAD_TARGET at place refl)) in
    let ecall = code_told word i Ecall (is_ecall i) of is tt (ecall_is i) (λ e. ap is_ecall e) in
    let ebreak = code_told word i Ebreak (is_ebreak i) of is tt (ebreak_is i) (λ e. ap is_ebreak e) in
    let push = code_told word i (Shift Slli 30 3 48) (is_push i) of is (lit< tt, lit< tt, lit< tt) (push_is i) (λ e. ap is_push e) in
    let return = code_told word i (Load Ld 31 3 MINUS_EIGHT) (is_return i) of is (lit< tt, lit< tt, lit< tt) (return_is i) (λ e. ap is_return e) in
    let leaf = code_told word i (Jalr 0 1 0) (is_leaf i) of is (lit< tt, lit< tt, lit< tt) (leaf_is i) (λ e. ap is_leaf e) in (
      ap (decodes_to (has_form P.Gate at)) is,
      (
        ap (decodes_to (has_form P.Plain at)) is,
        (
          halt,
          (
            ap (decodes_to (has_form P.Goto at)) is,
            (
              ecall,
              (
                ebreak,
                (
                  ap (decodes_to (has_form P.Near at)) is,
                  (
                    ap (decodes_to (has_form P.Skip at)) is,
                    (push, (return, (ap (decodes_to (has_form P.Address at)) is, (ap (decodes_to (has_form P.Number at)) is, (ap (decodes_to (has_form P.Link at)) is, (ap (decodes_to (has_form P.Masked at)) is, (leaf, tt))))))),
                  ),
                ),
              ),
            ),
          ),
        ),
      ),
    )

-- and what is told of a word that is no instruction
pub none_agrees : (word at : ℕ) → InCode at 1 → decoded word ≡ None →
    Agrees FIRSTS (false ∷ false ∷ false ∷ false ∷ false ∷ false ∷ false ∷ false ∷ false ∷ false ∷ false ∷ false ∷ false ∷ false ∷ false ∷ []) word at
unfolding Agrees
none_agrees word at place is =
    let halt : matches (P.Halt BAD_TARGET) word at ≡ false =
    sym (halt_by BAD_TARGET word at place refl) ∙ code_none word (jump at BAD_TARGET) is (is_jump_instr 0 at BAD_TARGET (lit< tt)) in
    let push : (word == code_of (Shift Slli 30 3 48)) ≡ false = code_none word (Shift Slli 30 3 48) is (lit< tt, lit< tt, lit< tt) in
    let return : (word == code_of (Load Ld 31 3 MINUS_EIGHT)) ≡ false = code_none word (Load Ld 31 3 MINUS_EIGHT) is (lit< tt, lit< tt, lit< tt) in
    let leaf : (word == code_of (Jalr 0 1 0)) ≡ false = code_none word (Jalr 0 1 0) is (lit< tt, lit< tt, lit< tt) in (
      ap (decodes_to (has_form P.Gate at)) is,
      (
        ap (decodes_to (has_form P.Plain at)) is,
        (
          halt,
          (
            ap (decodes_to (has_form P.Goto at)) is,
            (
              code_none word Ecall is tt,
              (
                code_none word Ebreak is tt,
                (
                  ap (decodes_to (has_form P.Near at)) is,
                  (
                    ap (decodes_to (has_form P.Skip at)) is,
                    (push, (return, (ap (decodes_to (has_form P.Address at)) is, (ap (decodes_to (has_form P.Number at)) is, (ap (decodes_to (has_form P.Link at)) is, (ap (decodes_to (has_form P.Masked at)) is, (leaf, tt))))))),
                  ),
                ),
              ),
            ),
          ),
        ),
      ),
    )
