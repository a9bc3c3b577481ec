-- What is known of each unit of a list where it stands holds of the whole list: all fit, and what follows
-- each may follow it. Only a jump or a stop begins with `jal x0`, so only it may not follow a branch over
-- one word; and none begins with a store.
use Rattle.std.proofs.Common.{◌≡◌, ℕ, ◌+◌, ◌*◌, ◌==◌, ◌≤◌, inl, inr, Bool, true, false, List, [], ◌∷◌, ◌++◌, length, refl, sym, ap, ◌∙◌, arith}
use Rattle.std.specs.Prelude.{Some, None, IsTrue, map, nat_le, slice_get}
use Rattle.std.proofs.lemmas.Bool.{cases_Bool, eqb-true}
use Rattle.std.proofs.lemmas.List.{length-map}
use Rattle.rv_instr.specs.declared.instr.Instr.{Instr}
use Rattle.rv_instr.specs.declared.instr.Instr.TheVariants.{Jal, Store}
use Rattle.rv_code.specs.Encode.{code_of}
use Rattle.rv_code.proofs.ReadBack.{decoded-code_of}
use Rattle.cfi_unit.specs.declared.mask.Mask.TheVariants.{Shifts, Short, Long}
use Rattle.cfi_unit.specs.declared.unit.Unit as U
use Rattle.cfi_unit.specs.declared.unit.Unit.TheVariants as V
use Rattle.cfi_unit.specs.declared.unit.SystemOp.TheVariants as S
use Rattle.cfi_unit.specs.Members.{MOST_MEMBERS, member_of}
use Rattle.cfi_unit.specs.UnitWords.{Fits, instr_at, instrs_of, is_jump, is_plain, may_precede, near_offset, skip_offset, word_count, words_of}
use Rattle.cfi_unit.proofs.UnitInList.{words_counted}
use Rattle.cfi_rules.proofs.InRange.{AreInstrs, unit_instrs}
use Rattle.cfi_unit.proofs.Splits.{precedes_nothing}
use Rattle.cfi_rules.specs.Placed.{AllAhead, AllFit, code_from}
use Rattle.cfi_rules.specs.Split.{unit_in}
use Rattle.cfi_unit.proofs.Counts.{some_word}
use Rattle.cfi_rules.proofs.UnitIn.{in_here, in_past}

-- a near branch over the next word
abbrev pub IsShortSkip : U.Unit → ℕ → Type 0
IsShortSkip (V.Near op rs1 rs2 target) at = near_offset at target ≡ skip_offset
IsShortSkip other at = ⊥

-- a unit whose first word is `jal x0`
abbrev pub is_jump_unit : U.Unit → Bool
is_jump_unit (V.Jump target) = true
is_jump_unit V.Stop = true
is_jump_unit other = false

-- only a jump or a stop begins with `jal x0`, and none with a store
plain_opens : (i : Instr) → is_plain i ≡ true → (is_jump (Some i) ≡ false) × (member_of (Some i) ≡ None)
plain_opens (Jal rd imm) e = absurd (cc)
plain_opens (Store op rs1 rs2 imm) e = absurd (cc)
plain_opens other e = (refl, refl)

unit_opens : (v : U.Unit) (at : ℕ) → Fits v at → (i : Instr) → slice_get (instrs_of v at) 0 ≡ Some i →
    (is_jump (Some i) ≡ is_jump_unit v) × (member_of (Some i) ≡ None)
unit_opens (V.Plain instr) at f i e = let p = plain_opens instr f.1 in (ap is_jump (sym e) ∙ p.0, ap member_of (sym e) ∙ p.1)
unit_opens (V.System S.Ecall) at f i e = (ap is_jump (sym e), ap member_of (sym e))
unit_opens (V.System S.Ebreak) at f i e = (ap is_jump (sym e), ap member_of (sym e))
unit_opens (V.Guarded []) at f i e = absurd (let some = f.0.some in let none : length {A = ℕ} [] ≡ 0 = refl in omega arith)
unit_opens (V.Guarded (n ∷ numbers)) at f i e = (ap is_jump (sym e), ap member_of (sym e))
unit_opens (V.Stores Shifts rs1 imm members) at f i e = (ap is_jump (sym e), ap member_of (sym e))
unit_opens (V.Stores Short rs1 imm members) at f i e = (ap is_jump (sym e), ap member_of (sym e))
unit_opens (V.Stores Long rs1 imm members) at f i e = (ap is_jump (sym e), ap member_of (sym e))
unit_opens other at f i e = (ap is_jump (sym e), ap member_of (sym e))

first_opens : (is : List Instr) (rest : List ℕ) (jumps : Bool) → 1 ≤ length is → AreInstrs is →
    ((i : Instr) → slice_get is 0 ≡ Some i → (is_jump (Some i) ≡ jumps) × (member_of (Some i) ≡ None)) →
    (is_jump (instr_at (map code_of is ++ rest) 0) ≡ jumps) × (member_of (instr_at (map code_of is ++ rest) 0) ≡ None)
first_opens [] rest jumps some all known = absurd (let none : length {A = Instr} [] ≡ 0 = refl in omega arith)
first_opens (i ∷ is) rest jumps some all known =
    let back = decoded-code_of i all.0 in
    let p = known i refl in
    (ap is_jump back ∙ p.0, ap member_of back ∙ p.1)

opens : (v : U.Unit) (at : ℕ) (rest : List ℕ) → Fits v at →
    (is_jump (instr_at (words_of v at ++ rest) 0) ≡ is_jump_unit v) × (member_of (instr_at (words_of v at ++ rest) 0) ≡ None)
unfolding words_of
opens v at rest f =
    let some = some_word v in
    let counted : length (map code_of (instrs_of v at)) ≡ word_count v = words_counted v at in
    let all = length-map (instrs_of v at) code_of in
    first_opens (instrs_of v at) rest (is_jump_unit v) (omega arith) (unit_instrs v at f) (unit_opens v at f)

-- a unit may precede another that is no jump, or that it does not lead over
pub precedes_unit : (u v : U.Unit) (at next : ℕ) (rest : List ℕ) → Fits v next → (IsTrue (is_jump_unit v) → IsShortSkip u at → ⊥) → IsTrue (may_precede u at (words_of v next ++ rest))
precedes_unit (V.Near op rs1 rs2 target) v at next rest fits not_both =
    elim (cases_Bool (near_offset at target == skip_offset)) [
      | inl skips ↦ elim (cases_Bool (is_jump (instr_at (words_of v next ++ rest) 0))) [
        | inl jump ↦ absurd (not_both (sym (opens v next rest fits).0 ∙ jump) (eqb-true (near_offset at target) skip_offset skips))
        | inr other ↦ rw (skips, other) refl
      ]
      | inr far ↦ rw far refl
    ]
precedes_unit (V.Stores mask rs1 imm members) v at next rest fits not_both =
    rw (opens v next rest fits).1 (elim (cases_Bool (nat_le MOST_MEMBERS (length members))) [ inl most ↦ rw most refl | inr fewer ↦ rw fewer refl ])
precedes_unit other v at next rest fits not_both = refl

-- where no branch over one word stands before a jump or a stop, what follows each unit may follow it
pub all_ahead : (us : List U.Unit) (at : ℕ) → AllFit at us →
    ((a : ℕ) (u v : U.Unit) → unit_in us at a ≡ Some u → unit_in us at (a + 4 * word_count u) ≡ Some v → IsTrue (is_jump_unit v) → IsShortSkip u a → ⊥) → AllAhead at us
unfolding AllAhead AllFit code_from
all_ahead [] at fit no_skip = tt
all_ahead (u ∷ []) at fit no_skip = (precedes_nothing u at, tt)
all_ahead (u ∷ v ∷ us) at fit no_skip = (
  precedes_unit u v at (at + 4 * word_count u) (code_from (at + 4 * word_count u + 4 * word_count v) us) fit.1.0
      (no_skip at u v (in_here u (v ∷ us) at) (in_past u v (v ∷ us) at (at + 4 * word_count u) (in_here v us (at + 4 * word_count u)))),
  all_ahead (v ∷ us) (at + 4 * word_count u) fit.1
      (λ a x y here next. no_skip a x y (in_past u x (v ∷ us) at a here) (in_past u y (v ∷ us) at (a + 4 * word_count x) next)),
)

-- what fits where it stands fits as a list
pub all_fit : (us : List U.Unit) (at : ℕ) → ((a : ℕ) (u : U.Unit) → unit_in us at a ≡ Some u → Fits u a) → AllFit at us
unfolding AllFit
all_fit [] at fits = tt
all_fit (u ∷ us) at fits =
    (fits at u (in_here u us at), all_fit us (at + 4 * word_count u) (λ a v e. fits a v (in_past u v us at a e)))
