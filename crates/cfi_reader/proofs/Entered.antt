-- The entry of a unit, by what is kept of it and by its last word.
use Rattle.std.proofs.Common.{◌≡◌, ℕ, ◌+◌, ◌*◌, ◌/◌, ◌^◌, ◌<◌, ◌≤◌, ◌==◌, true, false, inl, inr, List, [], ◌∷◌, ◌++◌, map, length, refl, ap, ap₂, sym, ◌∙◌, arith, lit<}
use Rattle.std.specs.Prelude.{Some, None}
use Rattle.std.proofs.lemmas.Bool.{cases_Bool, eqb-true}
use Rattle.std.proofs.lemmas.Nat.{mod_below}
use Rattle.rv_word.specs.Numbers.{MOST_NUMBERS}
use Rattle.rv_instr.specs.declared.instr.Instr.{Instr}
use Rattle.rv_instr.specs.declared.instr.Instr.TheVariants.{Upper, Jal, Immediate, Ecall}
use Rattle.rv_instr.specs.declared.instr.UpperOp.TheVariants.{Lui}
use Rattle.rv_instr.specs.declared.instr.ImmediateOp.TheVariants.{Addi}
use Rattle.rv_code.specs.Decode.{decoded}
use Rattle.rv_code.specs.Encode.{code_of}
use Rattle.rv_code.proofs.ReadBack.{decoded-code_of}
use Rattle.cfi_unit.specs.declared.target_word.TargetWord.TheVariants.{First, Second, Third}
use Rattle.cfi_unit.specs.declared.unit.Unit as U
use Rattle.cfi_unit.specs.declared.unit.Unit.TheVariants as V
use Rattle.cfi_unit.specs.declared.unit.SystemOp.TheVariants as S
use Rattle.cfi_unit.specs.Guarded.{guards}
use Rattle.cfi_unit.specs.UnitWords.{BAD_TARGET, Fits, jump, jump_offset, near_offset, skip_offset, words_of}
use Rattle.cfi_unit.specs.Shapes.{guarded}
use Rattle.cfi_unit.specs.ShapeOf.{shape_of}
use Rattle.cfi_reader.specs.Left.{is_alone}
use Rattle.cfi_reader.specs.Entries.{entry_of}
use Rattle.cfi_reader.specs.Kept.{Keeps, entry_by, field_in, is_longer, label_by, numbers_by, open_entry, told_by, with_field}
use Rattle.cfi_reader.specs.declared.entry.Entry.TheVariants as E
use Rattle.cfi_reader.proofs.Keeping.{told_all}
use Rattle.cfi_reader.proofs.Law.{whole_opens}
use Rattle.cfi_unit.proofs.ShapedUnits.{shape_among}

-- the last of some words
last : List ℕ → ℕ
last [] = 0
last (w ∷ []) = w
last (v ∷ w ∷ ws) = last (w ∷ ws)

last_push : (ws : List ℕ) (word : ℕ) → last (ws ++ word ∷ []) ≡ word
unfolding last
last_push [] word = refl
last_push (w ∷ []) word = refl
last_push (v ∷ w ∷ ws) word = last_push (w ∷ ws) word

-- the field of a jump that is the last word
jump_field : (rd from to : ℕ) → rd < 32 → field_in (decoded (code_of (Jal rd (jump_offset from to)))) ≡ Some (jump_offset from to)
jump_field rd from to low = ap field_in (decoded-code_of (Jal rd (jump_offset from to)) (low, mod_below _ (2 ^ 20) (lit< tt)))

last_field : (ws held : List ℕ) (word rd from to : ℕ) → rd < 32 → last ws ≡ code_of (Jal rd (jump_offset from to)) → ws ≡ held ++ word ∷ [] →
    field_in (decoded word) ≡ Some (jump_offset from to)
last_field ws held word rd from to low is e =
    ap (λ (w : ℕ). field_in (decoded w)) (sym (last_push held word) ∙ ap last (sym e) ∙ is) ∙ jump_field rd from to low

-- a label, and a number, in its word
label_there : (label : ℕ) → code_of (Upper Lui 4 label) / 2 ^ 12 ≡ label
unfolding code_of
label_there label = omega arith

pub number_there : (n : ℕ) → code_of (Immediate Addi 31 0 n) / 2 ^ 20 ≡ n
unfolding code_of
number_there n = omega arith

numbers_there : (ns : List ℕ) (a b : Instr) → numbers_by (guarded (length ns)) (map code_of (guards ns ++ (a ∷ b ∷ []))) ≡ ns
numbers_there [] a b = refl
numbers_there (n ∷ ns) a b = ap₂ (λ (k : ℕ) (ks : List ℕ). k ∷ ks) (number_there n) (numbers_there ns a b)

-- the entry
pub entry_told : (u : U.Unit) (calls : List ℕ) (numbers label : ℕ) (held : List ℕ) (word at : ℕ) → length calls ≤ MOST_NUMBERS → Fits u at →
    words_of u at ≡ held ++ word ∷ [] → Keeps calls numbers label (held ++ word ∷ []) at → is_longer ((shape_of u at).end) ≡ true →
    entry_by calls ((shape_of u at).end) numbers label (decoded word) ≡ entry_of calls u at
unfolding words_of last
entry_told (V.Gate own) calls numbers label held word at most f e k l = absurd (cc)
entry_told (V.Plain instr) calls numbers label held word at most f e k l = absurd (cc)
entry_told (V.Branch op rs1 rs2 target) calls numbers label held word at most f e k l =
    ap (with_field E.Branch) (last_field (words_of (V.Branch op rs1 rs2 target) at) held word 0 (at + 4) target (lit< tt) refl e)
entry_told (V.Near op rs1 rs2 target) calls numbers label held word at most f e k l =
    elim (cases_Bool (near_offset at target == skip_offset)) [
      | inl over ↦ let g : false ≡ true = rw over at l in absurd (cc)
      | inr near ↦ let g : false ≡ true = rw near at l in absurd (cc)
    ]
entry_told (V.Jump target) calls numbers label held word at most f e k l = absurd (cc)
entry_told V.Stop calls numbers label held word at most f e k l = absurd (cc)
entry_told (V.System S.Ecall) calls numbers label held word at most f e k l = absurd (cc)
entry_told (V.System S.Ebreak) calls numbers label held word at most f e k l = absurd (cc)
entry_told (V.Guarded ns) calls numbers label held word at most f e k l =
    let u : U.Unit = V.Guarded ns in
    let told : numbers ≡ told_by calls ns =
    k.numbers_are (shape_of u at) [] (shape_among u at f) (whole_opens u at (held ++ word ∷ []) f e) refl
    ∙ ap (λ (ws : List ℕ). told_by calls (numbers_by (guarded (length ns)) ws)) (sym e)
    ∙ ap (told_by calls) (numbers_there ns (jump (at + 8 * length ns) BAD_TARGET) Ecall) in
    ap E.Guarded (ap (λ (n : ℕ). n == length calls) told ∙ told_all calls ns most)
entry_told (V.Stores mask rs1 imm members) calls numbers label held word at most f e k l =
    elim (cases_Bool (length members == 16)) [
      | inl all ↦ rw all refl
      | inr fewer ↦ let g : false ≡ true = rw fewer at l in absurd (cc)
    ]
entry_told (V.Call target) calls numbers label held word at most f e k l =
    ap (with_field E.Call) (last_field (words_of (V.Call target) at) held word 1 (at + 28) target (lit< tt) refl e)
entry_told (V.Ijump First rs1 imm own) calls numbers label held word at most f e k l =
    let u : U.Unit = V.Ijump First rs1 imm own in
    ap (E.Ijump First)
    (sym (k.label_is (shape_of u at) [] (shape_among u at f) (whole_opens u at (held ++ word ∷ []) f e) own
    (ap (λ (ws : List ℕ). label_by (shape_of u at).words ws None) (sym e) ∙ ap Some (label_there own))))
entry_told (V.Ijump Second rs1 imm own) calls numbers label held word at most f e k l =
    let u : U.Unit = V.Ijump Second rs1 imm own in
    ap (E.Ijump Second)
    (sym (k.label_is (shape_of u at) [] (shape_among u at f) (whole_opens u at (held ++ word ∷ []) f e) own
    (ap (λ (ws : List ℕ). label_by (shape_of u at).words ws None) (sym e) ∙ ap Some (label_there own))))
entry_told (V.Ijump Third rs1 imm own) calls numbers label held word at most f e k l =
    let u : U.Unit = V.Ijump Third rs1 imm own in
    ap (E.Ijump Third)
    (sym (k.label_is (shape_of u at) [] (shape_among u at f) (whole_opens u at (held ++ word ∷ []) f e) own
    (ap (λ (ws : List ℕ). label_by (shape_of u at).words ws None) (sym e) ∙ ap Some (label_there own))))
entry_told (V.Icall rs1 imm own) calls numbers label held word at most f e k l =
    let u : U.Unit = V.Icall rs1 imm own in
    ap (E.Icall)
    (sym (k.label_is (shape_of u at) [] (shape_among u at f) (whole_opens u at (held ++ word ∷ []) f e) own
    (ap (λ (ws : List ℕ). label_by (shape_of u at).words ws None) (sym e) ∙ ap Some (label_there own))))
entry_told V.Return calls numbers label held word at most f e k l = refl
entry_told (V.LinkCall target) calls numbers label held word at most f e k l = absurd (cc)
entry_told V.Enter calls numbers label held word at most f e k l = refl
entry_told (V.LeanIjump rs1 imm own) calls numbers label held word at most f e k l =
    let u : U.Unit = V.LeanIjump rs1 imm own in
    ap (E.LeanIjump)
    (sym (k.label_is (shape_of u at) [] (shape_among u at f) (whole_opens u at (held ++ word ∷ []) f e) own
    (ap (λ (ws : List ℕ). label_by (shape_of u at).words ws None) (sym e) ∙ ap Some (label_there own))))
entry_told (V.LeanIcall rs1 imm own) calls numbers label held word at most f e k l =
    let u : U.Unit = V.LeanIcall rs1 imm own in
    ap (E.LeanIcall)
    (sym (k.label_is (shape_of u at) [] (shape_among u at f) (whole_opens u at (held ++ word ∷ []) f e) own
    (ap (λ (ws : List ℕ). label_by (shape_of u at).words ws None) (sym e) ∙ ap Some (label_there own))))
entry_told V.LeafReturn calls numbers label held word at most f e k l = absurd (cc)

-- that of one which more may follow
pub open_told : (u : U.Unit) (calls : List ℕ) (at : ℕ) → is_alone ((shape_of u at).end) ≡ false → open_entry ((shape_of u at).end) ≡ entry_of calls u at
open_told (V.Near op rs1 rs2 target) calls at e =
    elim (cases_Bool (near_offset at target == skip_offset)) [
      | inl over ↦ rw over (ap E.Near (sym (eqb-true (near_offset at target) skip_offset over)))
      | inr near ↦ let g : true ≡ false = rw near at e in absurd (cc)
    ]
open_told (V.Stores mask rs1 imm members) calls at e =
    elim (cases_Bool (length members == 16)) [
      | inl all ↦ let g : true ≡ false = rw all at e in absurd (cc)
      | inr fewer ↦ rw fewer refl
    ]
open_told (V.System S.Ecall) calls at e = absurd (cc)
open_told (V.System S.Ebreak) calls at e = absurd (cc)
open_told u calls at e = absurd (cc)
