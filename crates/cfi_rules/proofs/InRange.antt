-- The instructions of a unit, and of the prologue, have their fields in range.
use Rattle.std.proofs.Common.{◌≡◌, ℕ, zero, suc, ◌+◌, ◌*◌, ◌^◌, ◌≤◌, ◌<◌, inl, inr, List, [], ◌∷◌, ◌++◌, length, Some, lit<, sym, subst, arith}
use Rattle.std.specs.Prelude.{map, slice_get}
use Rattle.std.specs.List.{AllByRecursion}
use Rattle.std.proofs.lemmas.Nat.{mod_below}
use Rattle.rv_image.specs.MemoryMap.{IsProfile, Profile, lean_version_1, lean_version_2, version_1, version_2}
use Rattle.rv_word.specs.Numbers.{IsNumber, MOST_NUMBERS}
use Rattle.rv_instr.specs.InRange.{IsInstr}
use Rattle.rv_instr.specs.declared.instr.Instr.{Instr}
use Rattle.rv_instr.specs.declared.instr.Instr.TheVariants.{Jal, Jalr, Ecall, Ebreak}
use Rattle.cfi_unit.specs.declared.mask.Mask.TheVariants.{Shifts, Short, Long}
use Rattle.cfi_unit.specs.declared.target_word.TargetWord.{TargetWord}
use Rattle.cfi_unit.specs.declared.target_word.TargetWord.TheVariants.{First, Second, Third}
use Rattle.cfi_unit.specs.declared.unit.Unit as U
use Rattle.cfi_unit.specs.declared.unit.Unit.TheVariants as V
use Rattle.cfi_unit.specs.declared.unit.SystemOp.TheVariants as S
use Rattle.cfi_unit.specs.declared.members.Member.{Member}
use Rattle.cfi_unit.specs.Guarded.{guards}
use Rattle.cfi_unit.specs.Members.{IsMember, member_instr}
use Rattle.cfi_unit.specs.Prologue.{call_at, closing_instrs, lean_lone_set_up, lean_own_set_up, lone_set_up, opening_instrs, own_set_up, prologue_instrs}
use Rattle.cfi_unit.specs.UnitWords.{BAD_TARGET, Fits, instrs_of, jump, jump_offset, push, check, mask_made, past}
use Rattle.cfi_unit.proofs.Jumps.{is_jump_instr}

abbrev pub AreInstrs : List Instr → Type 0
AreInstrs instrs = AllByRecursion IsInstr instrs

pub each_instr : (instrs : List Instr) → AreInstrs instrs → (k : ℕ) (i : Instr) → slice_get instrs k ≡ Some i → IsInstr i
each_instr [] all k i e = absurd (cc)
each_instr (x ∷ xs) all zero i e = let same : x ≡ i = cc in subst (λ (y : Instr). IsInstr y) same all.0
each_instr (x ∷ xs) all (suc k) i e = each_instr xs all.1 k i e

append_instrs : (xs ys : List Instr) → AreInstrs xs → AreInstrs ys → AreInstrs (xs ++ ys)
append_instrs [] ys a b = b
append_instrs (x ∷ xs) ys a b = (a.0, append_instrs xs ys a.1 b)

push_instrs : (at : ℕ) → AreInstrs (push at)
push_instrs at = (
  (lit< tt, lit< tt, lit< tt),
  (
    (lit< tt, lit< tt, lit< tt),
    (
      is_jump_instr 0 _ _ (lit< tt),
      (
        (lit< tt, lit< tt),
        (
          (lit< tt, lit< tt, lit< tt),
          ((lit< tt, lit< tt, lit< tt), ((lit< tt, lit< tt, lit< tt), tt)),
        ),
      ),
    ),
  ),
)

past_small : (which : TargetWord) → past which < 2 ^ 12
past_small First = lit< tt
past_small Second = lit< tt
past_small Third = lit< tt

check_instrs : (at rs1 imm label : ℕ) (which : TargetWord) → rs1 < 32 → imm < 2 ^ 12 → label < 2 ^ 20 → AreInstrs (check at rs1 imm label which)
check_instrs at rs1 imm label which r i l = (
  (lit< tt, r, i),
  (
    (lit< tt, lit< tt, lit< tt),
    (
      (lit< tt, lit< tt),
      (
        (lit< tt, lit< tt, lit< tt),
        (
          (lit< tt, lit< tt, lit< tt),
          (
            (lit< tt, lit< tt, lit< tt),
            (
              is_jump_instr 0 _ _ (lit< tt),
              (
                (lit< tt, lit< tt, past_small which),
                (
                  (lit< tt, l),
                  (
                    (lit< tt, lit< tt, lit< tt),
                    ((lit< tt, lit< tt, lit< tt), (is_jump_instr 0 _ _ (lit< tt), tt)),
                  ),
                ),
              ),
            ),
          ),
        ),
      ),
    ),
  ),
)

jump_back : (rd : ℕ) → rd < 32 → AreInstrs (Jalr rd 31 0 ∷ [])
jump_back rd low = ((low, lit< tt, lit< tt), tt)

call_instrs : (at target : ℕ) → AreInstrs (instrs_of (V.Call target) at)
call_instrs at target = append_instrs (push at) (Jal 1 (jump_offset (at + 28) target) ∷ []) (push_instrs at) (is_jump_instr 1 _ _ (lit< tt), tt)

lean_instrs : (at rs1 imm label : ℕ) (which : TargetWord) (rd past : ℕ) → rs1 < 32 → imm < 2 ^ 12 → label < 2 ^ 20 → rd < 32 → past < 2 ^ 12 →
    AreInstrs (check at rs1 imm label which ++ mask_made ++ Jalr rd 31 past ∷ [])
lean_instrs at rs1 imm label which rd past r i l d p =
    append_instrs (check at rs1 imm label which) (mask_made ++ Jalr rd 31 past ∷ []) (check_instrs at rs1 imm label which r i l)
    ((lit< tt, lit< tt), ((lit< tt, lit< tt, lit< tt), ((d, lit< tt, p), tt)))

members_instrs : (members : List Member) → AllByRecursion IsMember members → AreInstrs (map member_instr members)
members_instrs [] all = tt
members_instrs (m ∷ members) all = ((lit< tt, all.0.0, (let low = all.0.1 in omega arith)), members_instrs members all.1)

guards_instrs : (ns : List ℕ) → length ns ≤ MOST_NUMBERS → AllByRecursion IsNumber ns → AreInstrs (guards ns)
guards_instrs [] most all = tt
guards_instrs (n ∷ ns) most all =
    let low = all.0 in
    ((lit< tt, lit< tt, omega arith), ((lit< tt, lit< tt, omega arith), guards_instrs ns (omega arith) all.1))

pub unit_instrs : (u : U.Unit) (at : ℕ) → Fits u at → AreInstrs (instrs_of u at)
unit_instrs (V.Gate label) at f = ((lit< tt, f), tt)
unit_instrs (V.Plain instr) at f = (f.0, tt)
unit_instrs (V.Branch op rs1 rs2 target) at f = ((f.0, f.1, lit< tt), (is_jump_instr 0 _ _ (lit< tt), tt))
unit_instrs (V.Near op rs1 rs2 target) at f = ((f.0, f.1, mod_below _ (2 ^ 12) (lit< tt)), tt)
unit_instrs (V.Jump target) at f = (is_jump_instr 0 _ _ (lit< tt), tt)
unit_instrs V.Stop at f = (is_jump_instr 0 _ _ (lit< tt), tt)
unit_instrs (V.System S.Ecall) at f = (tt, tt)
unit_instrs (V.System S.Ebreak) at f = (tt, tt)
unit_instrs (V.Guarded ns) at f =
    append_instrs (guards ns) (jump (at + 8 * length ns) BAD_TARGET ∷ Ecall ∷ []) (guards_instrs ns f.0.most f.0.each) (is_jump_instr 0 _ _ (lit< tt), (tt, tt))
unit_instrs (V.Stores Shifts rs1 imm members) at f =
    ((lit< tt, f.0, f.1), ((lit< tt, lit< tt, lit< tt), ((lit< tt, lit< tt, lit< tt), members_instrs members f.2.each)))
unit_instrs (V.Stores Short rs1 imm members) at f = ((lit< tt, f.0, lit< tt), members_instrs members f.2.each)
unit_instrs (V.Stores Long rs1 imm members) at f = ((lit< tt, f.0, f.1), ((lit< tt, lit< tt, lit< tt), members_instrs members f.2.each))
unit_instrs (V.Call target) at f = call_instrs at target
unit_instrs (V.Ijump which rs1 imm label) at f =
    append_instrs (check at rs1 imm label which) (Jalr 0 31 0 ∷ []) (check_instrs at rs1 imm label which f.0 f.1 f.2) (jump_back 0 (lit< tt))
unit_instrs (V.Icall rs1 imm label) at f =
    append_instrs (check at rs1 imm label First ++ push (at + 48)) (Jalr 1 31 0 ∷ [])
    (append_instrs (check at rs1 imm label First) (push (at + 48)) (check_instrs at rs1 imm label First f.0.0 f.0.1 f.0.2) (push_instrs (at + 48)))
    (jump_back 1 (lit< tt))
unit_instrs V.Return at f =
    ((lit< tt, lit< tt, lit< tt), ((lit< tt, lit< tt, lit< tt), ((lit< tt, lit< tt, lit< tt), (is_jump_instr 0 _ _ (lit< tt), ((lit< tt, lit< tt, lit< tt), tt)))))
unit_instrs (V.LinkCall target) at f = (is_jump_instr 1 _ _ (lit< tt), tt)
unit_instrs V.Enter at f =
    ((lit< tt, lit< tt, lit< tt), ((lit< tt, lit< tt, lit< tt), (is_jump_instr 0 _ _ (lit< tt), ((lit< tt, lit< tt, lit< tt), ((lit< tt, lit< tt, lit< tt), tt)))))
unit_instrs (V.LeanIjump rs1 imm label) at f = lean_instrs at rs1 imm label First 0 0 f.0 f.1 f.2 (lit< tt) (lit< tt)
unit_instrs (V.LeanIcall rs1 imm label) at f = lean_instrs at rs1 imm label Third 1 8 f.0 f.1 f.2 (lit< tt) (lit< tt)
unit_instrs V.LeafReturn at f = ((lit< tt, lit< tt, lit< tt), tt)

lone_instrs : AreInstrs lone_set_up
lone_instrs = ((lit< tt, lit< tt), ((lit< tt, lit< tt), ((lit< tt, lit< tt, lit< tt), tt)))

own_instrs : AreInstrs own_set_up
own_instrs = (
  (lit< tt, lit< tt),
  (
    (lit< tt, lit< tt, lit< tt),
    (
      (lit< tt, lit< tt, lit< tt),
      (
        (lit< tt, lit< tt),
        (
          (lit< tt, lit< tt, lit< tt),
          ((lit< tt, lit< tt, lit< tt), ((lit< tt, lit< tt, lit< tt), tt)),
        ),
      ),
    ),
  ),
)

lean_lone_instrs : AreInstrs lean_lone_set_up
lean_lone_instrs = (
  (lit< tt, lit< tt),
  ((lit< tt, lit< tt), ((lit< tt, lit< tt, lit< tt), ((lit< tt, lit< tt), ((lit< tt, lit< tt, lit< tt), tt)))),
)

lean_own_instrs : AreInstrs lean_own_set_up
lean_own_instrs = (
  (lit< tt, lit< tt),
  (
    (lit< tt, lit< tt),
    (
      (lit< tt, lit< tt, lit< tt),
      (
        (lit< tt, lit< tt, lit< tt),
        (
          (lit< tt, lit< tt, lit< tt),
          (
            (lit< tt, lit< tt),
            ((lit< tt, lit< tt, lit< tt), ((lit< tt, lit< tt, lit< tt), ((lit< tt, lit< tt, lit< tt), tt))),
          ),
        ),
      ),
    ),
  ),
)

-- the opening, by both versions
called : (entry at : ℕ) (ready : List Instr) → AreInstrs ready → AreInstrs (ready ++ instrs_of (V.Call entry) at)
called entry at ready all = append_instrs ready (instrs_of (V.Call entry) at) all (call_instrs at entry)

linked : (entry at : ℕ) (ready : List Instr) → AreInstrs ready → AreInstrs (ready ++ instrs_of (V.LinkCall entry) at)
linked entry at ready all = append_instrs ready (instrs_of (V.LinkCall entry) at) all (is_jump_instr 1 _ _ (lit< tt), tt)

opening_in_range : (p : Profile) → IsProfile p → (entry : ℕ) → AreInstrs (opening_instrs p entry)
opening_in_range p (inl (inl e)) entry =
    subst (λ (q : Profile). AreInstrs (opening_instrs q entry)) (sym e) (called entry (call_at version_1) lone_set_up lone_instrs)
opening_in_range p (inl (inr e)) entry =
    subst (λ (q : Profile). AreInstrs (opening_instrs q entry)) (sym e) (called entry (call_at version_2) own_set_up own_instrs)
opening_in_range p (inr (inl e)) entry =
    subst (λ (q : Profile). AreInstrs (opening_instrs q entry)) (sym e) (linked entry lean_version_1.opening_call lean_lone_set_up lean_lone_instrs)
opening_in_range p (inr (inr e)) entry =
    subst (λ (q : Profile). AreInstrs (opening_instrs q entry)) (sym e) (linked entry lean_version_2.opening_call lean_own_set_up lean_own_instrs)

pub prologue_in_range : (p : Profile) → IsProfile p → (entry : ℕ) → AreInstrs (prologue_instrs p entry)
prologue_in_range p is entry =
    append_instrs ((Ebreak ∷ Ebreak ∷ Ebreak ∷ []) ++ opening_instrs p entry) closing_instrs
    (append_instrs (Ebreak ∷ Ebreak ∷ Ebreak ∷ []) (opening_instrs p entry) (tt, (tt, (tt, tt))) (opening_in_range p is entry))
    ((lit< tt, lit< tt, lit< tt), (tt, tt))
