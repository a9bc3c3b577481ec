-- Words that are as a shape of the table says are the words of a unit with that shape.
use Rattle.std.proofs.lemmas.Bool.{ne_eqb}
use Rattle.std.proofs.Common.{◌≡◌, ◌≢◌, ℕ, zero, suc, ◌+◌, ◌*◌, ◌==◌, ◌<◌, ◌≤◌, ◌^◌, true, refl, ap, sym, subst, ◌∙◌, lit<, inl, inr, List, [], ◌∷◌, ◌++◌, length, map, arith}
use Rattle.std.specs.Prelude.{drop, if◌then◌else◌, replicate, take}
use Rattle.std.specs.List.{AllByRecursion}
use Rattle.rv_word.specs.Numbers.{IsNumber}
use Rattle.rv_instr.specs.declared.instr.Instr.TheVariants.{Upper, Jalr, Branch, Ecall, Ebreak}
use Rattle.rv_instr.specs.declared.instr.UpperOp.TheVariants.{Lui}
use Rattle.rv_code.specs.Encode.{code_of}
use Rattle.cfi_unit.specs.declared.mask.Mask.{Mask}
use Rattle.cfi_unit.specs.declared.mask.Mask.TheVariants.{Shifts, Short, Long}
use Rattle.cfi_unit.specs.declared.members.Member.{Member}
use Rattle.cfi_unit.specs.declared.pattern.End.{End}
use Rattle.cfi_unit.specs.declared.pattern.End.TheVariants as E
use Rattle.cfi_unit.specs.declared.pattern.Pattern.TheVariants as P
use Rattle.cfi_unit.specs.declared.target_word.TargetWord.{TargetWord}
use Rattle.cfi_unit.specs.declared.target_word.TargetWord.TheVariants.{First, Second, Third}
use Rattle.cfi_unit.specs.declared.unit.Unit as U
use Rattle.cfi_unit.specs.declared.unit.Unit.TheVariants as V
use Rattle.cfi_unit.specs.declared.unit.SystemOp.TheVariants as S
use Rattle.cfi_unit.specs.Members.{IsMember}
use Rattle.cfi_unit.specs.Reach.{near_to, reaches}
use Rattle.cfi_unit.specs.UnitWords.{BAD_TARGET, BAD_RETURN, DEEP, Fits, MaskFits, jump, skip_offset}
use Rattle.cfi_unit.specs.Patterns.{matches}
use Rattle.cfi_unit.specs.Shapes.{SHAPES, Shape, all_stores, call, each_guarded, enter, guarded, icall, ijump, is, lean_icall, lean_ijump, return, shape, stores}
use Rattle.cfi_unit.specs.ShapeOf.{shape_of}
use Rattle.cfi_unit.specs.Opens.{Among, Made, Opens, Small}
use Rattle.cfi_unit.proofs.Forms.{IsBranch, address_hole, gate_hole, goto_hole, jump_hole, label_hole, link_hole, masked_hole, member_hole, near_hole, number_hole, plain_hole, skip_hole}
use Rattle.cfi_unit.proofs.Holes.{Fill, filled, holes_in}
use Rattle.cfi_unit.proofs.LedBack.{near_back}
use Rattle.cfi_unit.proofs.Listed.{STORES, among_either, guarded_of, stores_of}
use Rattle.cfi_unit.proofs.Jumps.{told}
use Rattle.cfi_unit.proofs.UnitHoles.{holes_of, load_word, mask_word, member_word, unit_filled}

-- the unit with these words in the holes
record Holds (s : Shape) (hs : List ℕ) (at : ℕ) : Type 0 where
  pub unit : U.Unit
  pub fits : Fits unit at
  pub holes : holes_of unit at ≡ hs
  pub shape_is : shape_of unit at ≡ s

By : Shape → ℕ → Type 0
By s at = (hs : List ℕ) → Small hs → Fill s.words at 0 hs → Holds s hs at

gate_by : (at : ℕ) → By (shape E.Gate (P.Gate ∷ [])) at
unfolding By
gate_by at [] s f = absurd f
gate_by at (h ∷ []) s f =
    let (label, (low, is)) = gate_hole h (at + 0) s.0 f.0 in
    record { unit = V.Gate label; fits = low; holes = ap (λ w. w ∷ []) is; shape_is = refl }
gate_by at (h ∷ g ∷ hs) s f = absurd f.1

plain_by : (at : ℕ) → By (shape E.Plain (P.Plain ∷ [])) at
unfolding By
plain_by at [] s f = absurd f
plain_by at (h ∷ []) s f =
    let (instr, (fields, (plain, is))) = plain_hole h (at + 0) s.0 f.0 in
    record { unit = V.Plain instr; fits = (fields, plain); holes = ap (λ w. w ∷ []) is; shape_is = refl }
plain_by at (h ∷ g ∷ hs) s f = absurd f.1

stop_by : (at : ℕ) → By (shape E.Stop (P.Halt BAD_TARGET ∷ [])) at
unfolding By
stop_by at [] s f =
    let e : at + 0 ≡ at = omega arith in
    record { unit = V.Stop; fits = told at BAD_TARGET (subst (λ (a : ℕ). reaches a BAD_TARGET ≡ true) e f.0); holes = refl; shape_is = refl }
stop_by at (h ∷ hs) s f = absurd f.1

jump_by : (at : ℕ) → By (shape E.Jump (P.Goto ∷ [])) at
unfolding By
jump_by at [] s f = absurd f
jump_by at (h ∷ []) s f =
    let e : at + 0 ≡ at = omega arith in
    let (jumps, other) = goto_hole h at s.0 (subst (λ (a : ℕ). matches P.Goto h a ≡ true) e f.0) in
    record { unit = V.Jump jumps.target; fits = (other, jumps.reaches); holes = ap (λ w. w ∷ []) jumps.code; shape_is = refl }
jump_by at (h ∷ g ∷ hs) s f = absurd f.1

ecall_by : (at : ℕ) → By (shape E.Ecall (is Ecall ∷ [])) at
unfolding By
ecall_by at [] s f = record { unit = V.System S.Ecall; fits = tt; holes = refl; shape_is = refl }
ecall_by at (h ∷ hs) s f = absurd f

ebreak_by : (at : ℕ) → By (shape E.Ebreak (is Ebreak ∷ [])) at
unfolding By
ebreak_by at [] s f = record { unit = V.System S.Ebreak; fits = tt; holes = refl; shape_is = refl }
ebreak_by at (h ∷ hs) s f = absurd f

-- a near branch
branches : (h at : ℕ) (b : IsBranch h) (s : Shape) →
    (if b.imm == skip_offset then shape E.Over (P.Skip ∷ []) else shape E.Near (P.Near ∷ [])) ≡ s → Holds s (h ∷ []) at
branches h at b s e =
    let back = near_back at b.imm b.fields.2 in
    record {
      unit = V.Near b.op b.rs1 b.rs2 (near_to at b.imm);
      fits = (b.fields.0, b.fields.1, ap (near_to at) back);
      holes = ap (λ w. w ∷ []) (ap (λ n. code_of (Branch b.op b.rs1 b.rs2 n)) back ∙ b.code);
      shape_is = ap (λ (n : ℕ). if n == skip_offset then shape E.Over (P.Skip ∷ []) else shape E.Near (P.Near ∷ [])) back ∙ e;
    }

near_by : (at : ℕ) → By (shape E.Near (P.Near ∷ [])) at
unfolding By
near_by at [] s f = absurd f
near_by at (h ∷ []) s f =
    let (b, other) = near_hole h (at + 0) s.0 f.0 in
    branches h at b (shape E.Near (P.Near ∷ [])) (rw other refl)
near_by at (h ∷ g ∷ hs) s f = absurd f.1

over_by : (at : ℕ) → By (shape E.Over (P.Skip ∷ [])) at
unfolding By
over_by at [] s f = absurd f
over_by at (h ∷ []) s f =
    let (b, same) = skip_hole h (at + 0) s.0 f.0 in
    branches h at b (shape E.Over (P.Skip ∷ [])) (rw same refl)
over_by at (h ∷ g ∷ hs) s f = absurd f.1

branch_by : (at : ℕ) → By (shape E.Branch (P.Skip ∷ P.Jump ∷ [])) at
unfolding By
branch_by at [] s f = absurd f
branch_by at (h ∷ []) s f = absurd f.1
branch_by at (h ∷ g ∷ []) s f =
    let (b, same) = skip_hole h (at + 0) s.0 f.0 in
    let jumps = jump_hole g (at + 4) s.1.0 f.1.0 in
    record {
      unit = V.Branch b.op b.rs1 b.rs2 jumps.target;
      fits = (b.fields.0, b.fields.1, jumps.reaches);
      holes = ap (λ w. w ∷ code_of (jump (at + 4) jumps.target) ∷ []) (ap (λ n. code_of (Branch b.op b.rs1 b.rs2 n)) (sym same) ∙ b.code) ∙ ap (λ w. h ∷ w ∷ []) jumps.code;
      shape_is = refl;
    }
branch_by at (h ∷ g ∷ k ∷ hs) s f = absurd f.1.1

call_by : (at : ℕ) → By (shape E.Call call) at
unfolding By
call_by at [] s f = absurd f.1
call_by at (h ∷ []) s f =
    let links = link_hole h (at + 28) s.0 f.1.0 in
    record {
      unit = V.Call links.target;
      fits = (told (at + 8) DEEP f.0, links.reaches);
      holes = ap (λ w. w ∷ []) links.code;
      shape_is = refl;
    }
call_by at (h ∷ g ∷ hs) s f = absurd f.1.1

ijump_by : (which : TargetWord) (at : ℕ) → By (shape (E.Ijump which) (ijump which)) at
unfolding By
ijump_by which at [] s f = absurd f
ijump_by which at (h ∷ []) s f = absurd f.1.1
ijump_by which at (h ∷ g ∷ []) s f =
    let a = address_hole h (at + 0) s.0 f.0 in
    let (label, (low, is)) = label_hole g (at + 32) s.1.0 f.1.1.0 in
    record {
      unit = V.Ijump which a.rs1 a.imm label;
      fits = (a.register, a.field, low, told (at + 24) BAD_TARGET f.1.0, told (at + 44) BAD_TARGET f.1.1.1.0);
      holes = ap (λ w. w ∷ code_of (Upper Lui 4 label) ∷ []) a.code ∙ ap (λ w. h ∷ w ∷ []) is;
      shape_is = refl;
    }
ijump_by which at (h ∷ g ∷ k ∷ hs) s f = absurd f.1.1.1.1

icall_by : (at : ℕ) → By (shape E.Icall icall) at
unfolding By
icall_by at [] s f = absurd f
icall_by at (h ∷ []) s f = absurd f.1.1
icall_by at (h ∷ g ∷ []) s f =
    let a = address_hole h (at + 0) s.0 f.0 in
    let (label, (low, is)) = label_hole g (at + 32) s.1.0 f.1.1.0 in
    record {
      unit = V.Icall a.rs1 a.imm label;
      fits = (
        (a.register, a.field, low, told (at + 24) BAD_TARGET f.1.0, told (at + 44) BAD_TARGET f.1.1.1.0),
        told (at + 56) DEEP f.1.1.1.1.0,
      );
      holes = ap (λ w. w ∷ code_of (Upper Lui 4 label) ∷ []) a.code ∙ ap (λ w. h ∷ w ∷ []) is;
      shape_is = refl;
    }
icall_by at (h ∷ g ∷ k ∷ hs) s f = absurd f.1.1.1.1.1

return_by : (at : ℕ) → By (shape E.Return return) at
unfolding By
return_by at [] s f = record { unit = V.Return; fits = told (at + 12) BAD_RETURN f.0; holes = refl; shape_is = refl }
return_by at (h ∷ hs) s f = absurd f.1

-- those of lean images
link_call_by : (at : ℕ) → By (shape E.LinkCall (P.Link ∷ [])) at
unfolding By
link_call_by at [] s f = absurd f
link_call_by at (h ∷ []) s f =
    let e : at + 0 ≡ at = omega arith in
    let links = link_hole h at s.0 (subst (λ (a : ℕ). matches P.Link h a ≡ true) e f.0) in
    record { unit = V.LinkCall links.target; fits = links.reaches; holes = ap (λ w. w ∷ []) links.code; shape_is = refl }
link_call_by at (h ∷ g ∷ hs) s f = absurd f.1

enter_by : (at : ℕ) → By (shape E.Enter enter) at
unfolding By
enter_by at [] s f = record { unit = V.Enter; fits = told (at + 8) DEEP f.0; holes = refl; shape_is = refl }
enter_by at (h ∷ hs) s f = absurd f.1

lean_ijump_by : (at : ℕ) → By (shape E.LeanIjump lean_ijump) at
unfolding By
lean_ijump_by at [] s f = absurd f
lean_ijump_by at (h ∷ []) s f = absurd f.1.1
lean_ijump_by at (h ∷ g ∷ []) s f =
    let a = address_hole h (at + 0) s.0 f.0 in
    let (label, (low, is)) = label_hole g (at + 32) s.1.0 f.1.1.0 in
    record {
      unit = V.LeanIjump a.rs1 a.imm label;
      fits = (a.register, a.field, low, told (at + 24) BAD_TARGET f.1.0, told (at + 44) BAD_TARGET f.1.1.1.0);
      holes = ap (λ w. w ∷ code_of (Upper Lui 4 label) ∷ []) a.code ∙ ap (λ w. h ∷ w ∷ []) is;
      shape_is = refl;
    }
lean_ijump_by at (h ∷ g ∷ k ∷ hs) s f = absurd f.1.1.1.1

lean_icall_by : (at : ℕ) → By (shape E.LeanIcall lean_icall) at
unfolding By
lean_icall_by at [] s f = absurd f
lean_icall_by at (h ∷ []) s f = absurd f.1.1
lean_icall_by at (h ∷ g ∷ []) s f =
    let a = address_hole h (at + 0) s.0 f.0 in
    let (label, (low, is)) = label_hole g (at + 32) s.1.0 f.1.1.0 in
    record {
      unit = V.LeanIcall a.rs1 a.imm label;
      fits = (a.register, a.field, low, told (at + 24) BAD_TARGET f.1.0, told (at + 44) BAD_TARGET f.1.1.1.0);
      holes = ap (λ w. w ∷ code_of (Upper Lui 4 label) ∷ []) a.code ∙ ap (λ w. h ∷ w ∷ []) is;
      shape_is = refl;
    }
lean_icall_by at (h ∷ g ∷ k ∷ hs) s f = absurd f.1.1.1.1

leaf_return_by : (at : ℕ) → By (shape E.LeafReturn (is (Jalr 0 1 0) ∷ [])) at
unfolding By
leaf_return_by at [] s f = record { unit = V.LeafReturn; fits = tt; holes = refl; shape_is = refl }
leaf_return_by at (h ∷ hs) s f = absurd f

-- the tests of so many numbers
record Tests (n at k : ℕ) (hs : List ℕ) : Type 0 where
  pub numbers : List ℕ
  pub count : length numbers ≡ n
  pub each : AllByRecursion IsNumber numbers
  pub halts : reaches (at + (k + 8 * n)) BAD_TARGET ≡ true
  pub holes : map load_word numbers ≡ hs

tests_in : (n at k : ℕ) (hs : List ℕ) → Small hs → Fill (guarded n) at k hs → Tests n at k hs
tests_in zero at k [] s f =
    let e : at + k ≡ at + (k + 8 * 0) = omega arith in
    record { numbers = []; count = refl; each = tt; halts = subst (λ (a : ℕ). reaches a BAD_TARGET ≡ true) e f.0; holes = refl }
tests_in zero at k (h ∷ hs) s f = absurd f.1
tests_in (suc n) at k [] s f = absurd f
tests_in (suc n) at k (h ∷ hs) s f =
    let (number, (low, is)) = number_hole h (at + k) s.0 f.0 in
    let more = tests_in n at (k + 4 + 4) hs s.1 f.1 in
    let e : at + (k + 4 + 4 + 8 * n) ≡ at + (k + 8 * suc n) = omega arith in
    record {
      numbers = number ∷ more.numbers;
      count = ap (λ m. suc m) more.count;
      each = (low, more.each);
      halts = subst (λ (a : ℕ). reaches a BAD_TARGET ≡ true) e more.halts;
      holes = ap (λ w. w ∷ map load_word more.numbers) is ∙ ap (λ l. h ∷ l) more.holes;
    }

guarded_by : (n at : ℕ) → 0 < n → n ≤ 8 → By (shape E.Guarded (guarded n)) at
unfolding By
guarded_by n at some most hs s f =
    let t = tests_in n at 0 hs s f in
    let count = t.count in
    let e : at + (0 + 8 * n) ≡ at + 8 * length t.numbers = omega arith in
    record {
      unit = V.Guarded t.numbers;
      fits = (
        record { some = omega arith; most = omega arith; each = t.each },
        told (at + 8 * length t.numbers) BAD_TARGET (subst (λ (a : ℕ). reaches a BAD_TARGET ≡ true) e t.halts),
      );
      holes = t.holes;
      shape_is = ap (λ m. shape E.Guarded (guarded m)) t.count;
    }

-- so many stores
record StoresIn (n : ℕ) (hs : List ℕ) : Type 0 where
  pub members : List Member
  pub count : length members ≡ n
  pub each : AllByRecursion IsMember members
  pub holes : map member_word members ≡ hs

stores_in : (n at k : ℕ) (hs : List ℕ) → Small hs → Fill (replicate n P.Member) at k hs → StoresIn n hs
stores_in zero at k [] s f = record { members = []; count = refl; each = tt; holes = refl }
stores_in zero at k (h ∷ hs) s f = absurd f
stores_in (suc n) at k [] s f = absurd f
stores_in (suc n) at k (h ∷ hs) s f =
    let (member, (fine, is)) = member_hole h (at + k) s.0 f.0 in
    let more = stores_in n at (k + 4) hs s.1 f.1 in
    record {
      members = member ∷ more.members;
      count = ap (λ m. suc m) more.count;
      each = (fine, more.each);
      holes = ap (λ w. w ∷ map member_word more.members) is ∙ ap (λ l. h ∷ l) more.holes;
    }

-- what a mask begins with
record MaskIn (m : Mask) (h : ℕ) : Type 0 where
  pub rs1 : ℕ
  pub imm : ℕ
  pub register : rs1 < 32
  pub field : imm < 2 ^ 12
  pub fits : MaskFits m imm
  pub hole : mask_word m rs1 imm ≡ h

by_address : (h at : ℕ) → h < 2 ^ 32 → matches P.Address h at ≡ true → MaskIn Shifts h × MaskIn Long h
by_address h at small m =
    let a = address_hole h at small m in (
      record { rs1 = a.rs1; imm = a.imm; register = a.register; field = a.field; fits = tt; hole = a.code },
      record { rs1 = a.rs1; imm = a.imm; register = a.register; field = a.field; fits = tt; hole = a.code },
    )

by_register : (h at : ℕ) → h < 2 ^ 32 → matches P.Masked h at ≡ true → MaskIn Short h
by_register h at small m =
    let a = masked_hole h at small m in
    record { rs1 = a.rs1; imm = 0; register = a.register; field = lit< tt; fits = refl; hole = a.code }

stores_with : (m : Mask) (n at : ℕ) (h : ℕ) (hs : List ℕ) → 0 < n → n ≤ 16 → MaskIn m h → StoresIn n hs →
    Holds (shape (if n == 16 then E.Full m else E.Stores m) (stores m n)) (h ∷ hs) at
stores_with m n at h hs some most a t =
    let count = t.count in
    record {
      unit = V.Stores m a.rs1 a.imm t.members;
      fits = (a.register, a.field, record { some = omega arith; most = omega arith; each = t.each }, a.fits);
      holes = ap (λ w. w ∷ map member_word t.members) a.hole ∙ ap (λ l. h ∷ l) t.holes;
      shape_is = ap (λ k. shape (if k == 16 then E.Full m else E.Stores m) (stores m k)) t.count;
    }

stores_by : (m : Mask) (n at : ℕ) → 0 < n → n ≤ 16 → By (shape (if n == 16 then E.Full m else E.Stores m) (stores m n)) at
unfolding By
stores_by Shifts n at some most [] s f = absurd f
stores_by Shifts n at some most (h ∷ hs) s f =
    stores_with Shifts n at h hs some most (by_address h (at + 0) s.0 f.0).0 (stores_in n at 12 hs s.1 f.1)
stores_by Short n at some most [] s f = absurd f
stores_by Short n at some most (h ∷ hs) s f =
    stores_with Short n at h hs some most (by_register h (at + 0) s.0 f.0) (stores_in n at 4 hs s.1 f.1)
stores_by Long n at some most [] s f = absurd f
stores_by Long n at some most (h ∷ hs) s f =
    stores_with Long n at h hs some most (by_address h (at + 0) s.0 f.0).1 (stores_in n at 8 hs s.1 f.1)

-- each shape of the table
fewer_by : (m : Mask) (k at : ℕ) → suc k ≤ 15 → By (shape (E.Stores m) (stores m (suc k))) at
fewer_by m k at few =
    let fewer : suc k ≢ 16 = λ e. omega arith in
    subst (λ (end : End). By (shape end (stores m (suc k))) at) (ap (λ b. if b then E.Full m else E.Stores m) (ne_eqb (suc k) 16 fewer))
    (stores_by m (suc k) at (omega arith) (omega arith))

module _ (s : Shape) (at : ℕ) where
  same_by : (r : Shape) → s ≡ r → By r at → By s at
  same_by r e b = subst (λ (t : Shape). By t at) (sym e) b

  stored_by : (m : Mask) → Among s (all_stores m) → By s at
  unfolding Among
  stored_by m (inl e) = same_by (shape (E.Full m) (stores m 16)) e (stores_by m 16 at (omega arith) (omega arith))
  stored_by m (inr a) =
      let (k, (few, e)) = stores_of s m 15 a in same_by (shape (E.Stores m) (stores m (suc k))) e (fewer_by m k at few)

  masked_by : Among s STORES → By s at
  masked_by a = elim (among_either s (all_stores Shifts) (all_stores Short ++ all_stores Long) a) [
    | inl shifts ↦ stored_by Shifts shifts
    | inr others ↦ elim (among_either s (all_stores Short) (all_stores Long) others) [
      | inl short ↦ stored_by Short short
      | inr long ↦ stored_by Long long
    ]
  ]

  -- the shapes of which there is one each, in the order of the table
  lean_by : Among s (drop 15 (take 20 SHAPES)) → By s at
  unfolding Among
  lean_by (inl e) = same_by _ e (link_call_by at)
  lean_by (inr (inl e)) = same_by _ e (enter_by at)
  lean_by (inr (inr (inl e))) = same_by _ e (lean_ijump_by at)
  lean_by (inr (inr (inr (inl e)))) = same_by _ e (lean_icall_by at)
  lean_by (inr (inr (inr (inr (inl e))))) = same_by _ e (leaf_return_by at)
  lean_by (inr (inr (inr (inr (inr none))))) = absurd none

  longer_by : Among s (drop 7 (take 20 SHAPES)) → By s at
  unfolding Among
  longer_by (inl e) = same_by _ e (branch_by at)
  longer_by (inr (inl e)) = same_by _ e (over_by at)
  longer_by (inr (inr (inl e))) = same_by _ e (call_by at)
  longer_by (inr (inr (inr (inl e)))) = same_by _ e (ijump_by First at)
  longer_by (inr (inr (inr (inr (inl e))))) = same_by _ e (ijump_by Second at)
  longer_by (inr (inr (inr (inr (inr (inl e)))))) = same_by _ e (ijump_by Third at)
  longer_by (inr (inr (inr (inr (inr (inr (inl e))))))) = same_by _ e (icall_by at)
  longer_by (inr (inr (inr (inr (inr (inr (inr (inl e)))))))) = same_by _ e (return_by at)
  longer_by (inr (inr (inr (inr (inr (inr (inr (inr lean)))))))) = lean_by lean

  single_by : Among s (take 20 SHAPES) → By s at
  unfolding Among
  single_by (inl e) = same_by _ e (gate_by at)
  single_by (inr (inl e)) = same_by _ e (plain_by at)
  single_by (inr (inr (inl e))) = same_by _ e (stop_by at)
  single_by (inr (inr (inr (inl e)))) = same_by _ e (jump_by at)
  single_by (inr (inr (inr (inr (inl e))))) = same_by _ e (ecall_by at)
  single_by (inr (inr (inr (inr (inr (inl e)))))) = same_by _ e (ebreak_by at)
  single_by (inr (inr (inr (inr (inr (inr (inl e))))))) = same_by _ e (near_by at)
  single_by (inr (inr (inr (inr (inr (inr (inr rest))))))) = longer_by rest

  by_shape : Among s SHAPES → By s at
  by_shape a = elim (among_either s (take 20 SHAPES) (each_guarded 8 ++ STORES) a) [
    | inl one ↦ single_by one
    | inr family ↦ elim (among_either s (each_guarded 8) STORES family) [
      | inl tested ↦
          let (k, (few, e)) = guarded_of s 8 tested in same_by (shape E.Guarded (guarded (suc k))) e (guarded_by (suc k) at (omega arith) few)
      | inr stored ↦ masked_by stored
    ]
  ]

pub made : (s : Shape) (ws : List ℕ) (at : ℕ) → Among s SHAPES → Small ws → Opens s.words ws at [] → Made s ws at
unfolding By
made s ws at among small opens =
    let e : at ≡ at + 0 = omega arith in
    let f = holes_in s.words ws at 0 small (subst (λ (a : ℕ). Opens s.words ws a []) e opens) in
    let h = by_shape s at among f.holes f.small f.fill in
    record {
      unit = h.unit;
      fits = h.fits;
      words = sym (unit_filled h.unit at) ∙ ap (λ (r : Shape). filled r.words at 0 (holes_of h.unit at)) h.shape_is
          ∙ ap (λ hs. filled s.words at 0 hs) h.holes ∙ f.words;
      shape_is = h.shape_is;
    }
