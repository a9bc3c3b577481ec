-- The words of a unit that fits are as its shape says, and its shape is one of the table.
use Rattle.std.proofs.Common.{◌≡◌, ℕ, zero, suc, ◌+◌, ◌*◌, ◌==◌, ◌<◌, ◌≤◌, ◌^◌, true, not, refl, ap, sym, subst, ◌∙◌, lit<, inl, inr, List, [], ◌∷◌, ◌++◌, length, map, arith}
use Rattle.std.specs.Prelude.{if◌then◌else◌, replicate, take, ◌≢◌}
use Rattle.std.specs.List.{AllByRecursion}
use Rattle.std.proofs.lemmas.Bool.{cases_Bool, cases_eq, lt-ltb, ne_eqb}
use Rattle.std.proofs.lemmas.Nat.{mod_below}
use Rattle.rv_word.specs.Numbers.{IsNumber}
use Rattle.rv_instr.specs.InRange.{IsInstr}
use Rattle.rv_instr.specs.declared.instr.Instr.TheVariants.{Upper, Jal, Branch, Immediate, Register}
use Rattle.rv_instr.specs.declared.instr.UpperOp.TheVariants.{Lui}
use Rattle.rv_instr.specs.declared.instr.ImmediateOp.TheVariants.{Addi}
use Rattle.rv_instr.specs.declared.instr.RegisterOp.TheVariants.{And}
use Rattle.rv_code.specs.Encode.{code_of}
use Rattle.cfi_unit.specs.declared.mask.Mask.{Mask}
use Rattle.cfi_unit.specs.declared.mask.Mask.TheVariants.{Shifts, Short, Long}
use Rattle.cfi_unit.specs.declared.members.Member.{Member}
use Rattle.cfi_unit.specs.declared.pattern.Pattern.TheVariants as P
use Rattle.cfi_unit.specs.declared.pattern.End.TheVariants as E
use Rattle.cfi_unit.specs.declared.target_word.TargetWord.TheVariants.{First, Second, Third}
use Rattle.cfi_unit.specs.declared.unit.Unit as U
use Rattle.cfi_unit.specs.declared.unit.Unit.TheVariants as V
use Rattle.cfi_unit.specs.declared.unit.SystemOp.TheVariants as S
use Rattle.cfi_unit.specs.Members.{IsMember, member_instr}
use Rattle.cfi_unit.specs.Reach.{reaches}
use Rattle.cfi_unit.specs.UnitWords.{BAD_RETURN, BAD_TARGET, DEEP, Fits, Reaches, gate, jump, jump_offset, near_offset, skip_offset, word_count, words_of}
use Rattle.cfi_unit.specs.Patterns.{has_form, matches}
use Rattle.cfi_unit.specs.Shapes.{SHAPES, Shape, all_stores, each_guarded, guarded, shape, stores}
use Rattle.cfi_unit.specs.ShapeOf.{shape_of}
use Rattle.cfi_unit.specs.Opens.{Among, Opens}
use Rattle.cfi_unit.proofs.Forms.{passes}
use Rattle.cfi_unit.proofs.GuardedWords.{is_load}
use Rattle.cfi_unit.proofs.Jumps.{is_jump_instr, tested}
use Rattle.cfi_unit.proofs.UnitInList.{words_counted}
use Rattle.cfi_unit.proofs.Holes.{Fill, filled_opens, opened_length}
use Rattle.cfi_unit.proofs.Listed.{STORES, among_back, among_front, guarded_listed, listed, stores_listed}
use Rattle.cfi_unit.proofs.UnitHoles.{holes_of, load_word, member_word, unit_filled}

-- the two families
guards_fill : (ns : List ℕ) (at k : ℕ) → AllByRecursion IsNumber ns → reaches (at + (k + 8 * length ns)) BAD_TARGET ≡ true →
    Fill (guarded (length ns)) at k (map load_word ns)
guards_fill [] at k all halts =
    let e : at + (k + 8 * 0) ≡ at + k = omega arith in (subst (λ (a : ℕ). reaches a BAD_TARGET ≡ true) e halts, tt)
guards_fill (n ∷ ns) at k all halts =
    let e : at + (k + 8 * suc (length ns)) ≡ at + (k + 4 + 4 + 8 * length ns) = omega arith in (
      passes (has_form P.Number (at + k)) (Immediate Addi 31 0 n) (is_load n all.0) (lt-ltb n 2048 all.0),
      guards_fill ns at (k + 4 + 4) all.1 (subst (λ (a : ℕ). reaches a BAD_TARGET ≡ true) e halts),
    )

members_fill : (ms : List Member) (at k : ℕ) → AllByRecursion IsMember ms → Fill (replicate (length ms) P.Member) at k (map member_word ms)
members_fill [] at k all = tt
members_fill (m ∷ ms) at k all =
    let low = all.0.1 in (
      passes (has_form P.Member (at + k)) (member_instr m) (lit< tt, all.0.0, omega arith) (lt-ltb m.distance 2048 low),
      members_fill ms at (k + 4) all.1,
    )

address : (at rs1 imm : ℕ) → rs1 < 32 → imm < 2 ^ 12 → matches P.Address (code_of (Immediate Addi 31 rs1 imm)) at ≡ true
address at rs1 imm r i = passes (has_form P.Address at) (Immediate Addi 31 rs1 imm) (lit< tt, r, i) refl

masks : (at rs1 : ℕ) → rs1 < 32 → matches P.Masked (code_of (Register And 31 rs1 4)) at ≡ true
masks at rs1 r = passes (has_form P.Masked at) (Register And 31 rs1 4) (lit< tt, r, lit< tt) refl

labelled : (at label : ℕ) → label < 2 ^ 20 → matches P.Label (code_of (Upper Lui 4 label)) at ≡ true
labelled at label low = passes (has_form P.Label at) (Upper Lui 4 label) (lit< tt, low) refl

goes : (at target : ℕ) → target ≢ BAD_TARGET → Reaches at target → has_form P.Goto at (jump at target) ≡ true
goes at target other reach = ap (λ (t : ℕ). not (t == BAD_TARGET)) reach ∙ ap not (ne_eqb target BAD_TARGET other)

unit_fill : (u : U.Unit) (at : ℕ) → Fits u at → Fill ((shape_of u at).words) at 0 (holes_of u at)
unit_fill (V.Gate label) at f = (passes (has_form P.Gate (at + 0)) (gate label) (lit< tt, f) refl, tt)
unit_fill (V.Plain instr) at f = (passes (has_form P.Plain (at + 0)) instr f.0 f.1, tt)
unit_fill (V.Branch op rs1 rs2 target) at f = (
  passes (has_form P.Skip (at + 0)) (Branch op rs1 rs2 skip_offset) (f.0, f.1, lit< tt) refl,
  (passes (has_form P.Jump (at + 4)) (jump (at + 4) target) (is_jump_instr 0 (at + 4) target (lit< tt)) refl, tt),
)
unit_fill (V.Near op rs1 rs2 target) at f =
    let fields : IsInstr (Branch op rs1 rs2 (near_offset at target)) = (f.0, f.1, mod_below _ (2 ^ 12) (lit< tt)) in
    elim (cases_Bool (near_offset at target == skip_offset)) [
      | inl over ↦ rw over (passes (has_form P.Skip (at + 0)) (Branch op rs1 rs2 (near_offset at target)) fields over, tt)
      | inr other ↦ rw other (passes (has_form P.Near (at + 0)) (Branch op rs1 rs2 (near_offset at target)) fields (ap not other), tt)
    ]
unit_fill (V.Jump target) at f =
    let e : at ≡ at + 0 = omega arith in (
      subst (λ (a : ℕ). matches P.Goto (code_of (jump at target)) a ≡ true) e
          (passes (has_form P.Goto at) (jump at target) (is_jump_instr 0 at target (lit< tt)) (goes at target f.0 f.1)),
      tt,
    )
unit_fill V.Stop at f =
    let e : at ≡ at + 0 = omega arith in (subst (λ (a : ℕ). reaches a BAD_TARGET ≡ true) e (tested at BAD_TARGET f), tt)
unit_fill (V.System S.Ecall) at f = tt
unit_fill (V.System S.Ebreak) at f = tt
unit_fill (V.Guarded numbers) at f =
    let e : at + 8 * length numbers ≡ at + (0 + 8 * length numbers) = omega arith in
    guards_fill numbers at 0 f.0.each (subst (λ (a : ℕ). reaches a BAD_TARGET ≡ true) e (tested (at + 8 * length numbers) BAD_TARGET f.1))
unit_fill (V.Stores Shifts rs1 imm members) at f = (address (at + 0) rs1 imm f.0 f.1, members_fill members at 12 f.2.each)
unit_fill (V.Stores Short rs1 imm members) at f = (masks (at + 0) rs1 f.0, members_fill members at 4 f.2.each)
unit_fill (V.Stores Long rs1 imm members) at f = (address (at + 0) rs1 imm f.0 f.1, members_fill members at 8 f.2.each)
unit_fill (V.Call target) at f = (
  tested (at + 8) DEEP f.0,
  (passes (has_form P.Link (at + 28)) (Jal 1 (jump_offset (at + 28) target)) (is_jump_instr 1 (at + 28) target (lit< tt)) refl, tt),
)
unit_fill (V.Ijump which rs1 imm label) at f = (
  address (at + 0) rs1 imm f.0 f.1,
  (tested (at + 24) BAD_TARGET f.3, (labelled (at + 32) label f.2, (tested (at + 44) BAD_TARGET f.4, tt))),
)
unit_fill (V.Icall rs1 imm label) at f = (
  address (at + 0) rs1 imm f.0.0 f.0.1,
  (
    tested (at + 24) BAD_TARGET f.0.3,
    (labelled (at + 32) label f.0.2, (tested (at + 44) BAD_TARGET f.0.4, (tested (at + 56) DEEP f.1, tt))),
  ),
)
unit_fill V.Return at f = (tested (at + 12) BAD_RETURN f, tt)
unit_fill (V.LinkCall target) at f = (passes (has_form P.Link (at + 0)) (Jal 1 (jump_offset at target)) (is_jump_instr 1 at target (lit< tt)) refl, tt)
unit_fill V.Enter at f = (tested (at + 8) DEEP f, tt)
unit_fill (V.LeanIjump rs1 imm label) at f = (
  address (at + 0) rs1 imm f.0 f.1,
  (tested (at + 24) BAD_TARGET f.3, (labelled (at + 32) label f.2, (tested (at + 44) BAD_TARGET f.4, tt))),
)
unit_fill (V.LeanIcall rs1 imm label) at f = (
  address (at + 0) rs1 imm f.0 f.1,
  (tested (at + 24) BAD_TARGET f.3, (labelled (at + 32) label f.2, (tested (at + 44) BAD_TARGET f.4, tt))),
)
unit_fill V.LeafReturn at f = tt

pub unit_opens : (u : U.Unit) (at : ℕ) → Fits u at → Opens ((shape_of u at).words) (words_of u at) at []
unit_opens u at f =
    let ps = (shape_of u at).words in
    let e : at + 0 ≡ at = omega arith in
    subst (λ (a : ℕ). Opens ps (words_of u at) a []) e
    (subst (λ (ws : List ℕ). Opens ps ws (at + 0) []) (unit_filled u at) (filled_opens ps at 0 (holes_of u at) (unit_fill u at f)))

-- the places of the families in the table
pub guarded_among : (n : ℕ) → 0 < n → n ≤ 8 → Among (shape E.Guarded (guarded n)) SHAPES
guarded_among zero some most = absurd (omega arith)
guarded_among (suc n) some most =
    among_back (shape E.Guarded (guarded (suc n))) (take 20 SHAPES) (each_guarded 8 ++ STORES)
    (among_front (shape E.Guarded (guarded (suc n))) (each_guarded 8) STORES (guarded_listed n 8 most))

stored_among : (m : Mask) (s : Shape) → Among s (all_stores m) → Among s STORES
stored_among Shifts s a = among_front s (all_stores Shifts) (all_stores Short ++ all_stores Long) a
stored_among Short s a =
    among_back s (all_stores Shifts) (all_stores Short ++ all_stores Long) (among_front s (all_stores Short) (all_stores Long) a)
stored_among Long s a =
    among_back s (all_stores Shifts) (all_stores Short ++ all_stores Long) (among_back s (all_stores Short) (all_stores Long) a)

counted_among : (m : Mask) (n : ℕ) → 0 < n → n ≤ 16 → Among (shape (if n == 16 then E.Full m else E.Stores m) (stores m n)) (all_stores m)
unfolding Among
counted_among m zero some most = absurd (omega arith)
counted_among m (suc n) some most =
    elim (cases_eq (suc n) 16) [
      | inl all ↦ inl (ap (λ (k : ℕ). shape (if k == 16 then E.Full m else E.Stores m) (stores m k)) all)
      | inr fewer ↦ rw (ne_eqb (suc n) 16 fewer) (inr (stores_listed m n 15 (omega arith)))
    ]

pub stores_among : (m : Mask) (n : ℕ) → 0 < n → n ≤ 16 → Among (shape (if n == 16 then E.Full m else E.Stores m) (stores m n)) SHAPES
stores_among m n some most =
    let s = shape (if n == 16 then E.Full m else E.Stores m) (stores m n) in
    among_back s (take 28 SHAPES) STORES (stored_among m s (counted_among m n some most))

pub shape_among : (u : U.Unit) (at : ℕ) → Fits u at → Among (shape_of u at) SHAPES
shape_among (V.Gate label) at f = listed SHAPES 0 _ refl
shape_among (V.Plain instr) at f = listed SHAPES 1 _ refl
shape_among (V.Branch op rs1 rs2 target) at f = listed SHAPES 7 _ refl
shape_among (V.Near op rs1 rs2 target) at f =
    elim (cases_Bool (near_offset at target == skip_offset)) [
      | inl over ↦ rw over (listed SHAPES 8 (shape E.Over (P.Skip ∷ [])) refl)
      | inr other ↦ rw other (listed SHAPES 6 (shape E.Near (P.Near ∷ [])) refl)
    ]
shape_among (V.Jump target) at f = listed SHAPES 3 _ refl
shape_among V.Stop at f = listed SHAPES 2 _ refl
shape_among (V.System S.Ecall) at f = listed SHAPES 4 _ refl
shape_among (V.System S.Ebreak) at f = listed SHAPES 5 _ refl
shape_among (V.Guarded numbers) at f = guarded_among (length numbers) f.0.some f.0.most
shape_among (V.Stores mask rs1 imm members) at f = stores_among mask (length members) f.2.some f.2.most
shape_among (V.Call target) at f = listed SHAPES 9 _ refl
shape_among (V.Ijump First rs1 imm label) at f = listed SHAPES 10 _ refl
shape_among (V.Ijump Second rs1 imm label) at f = listed SHAPES 11 _ refl
shape_among (V.Ijump Third rs1 imm label) at f = listed SHAPES 12 _ refl
shape_among (V.Icall rs1 imm label) at f = listed SHAPES 13 _ refl
shape_among V.Return at f = listed SHAPES 14 _ refl
shape_among (V.LinkCall target) at f = listed SHAPES 15 _ refl
shape_among V.Enter at f = listed SHAPES 16 _ refl
shape_among (V.LeanIjump rs1 imm label) at f = listed SHAPES 17 _ refl
shape_among (V.LeanIcall rs1 imm label) at f = listed SHAPES 18 _ refl
shape_among V.LeafReturn at f = listed SHAPES 19 _ refl

-- and it has as many patterns as the unit has words
pub counted : (u : U.Unit) (at : ℕ) → Fits u at → word_count u ≡ length ((shape_of u at).words)
counted u at f = sym (words_counted u at) ∙ opened_length ((shape_of u at).words) (words_of u at) at (unit_opens u at f)
