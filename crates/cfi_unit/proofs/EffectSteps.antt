-- The words of a unit, executed one after the other: what holds after an instruction's execution is
-- asked for after the step, whatever may happen from outside before it.
use Rattle.std.proofs.Common.{◌≡◌, ℕ, zero, suc, ◌+◌, ◌*◌, ◌==◌, ◌<◌, ◌≤◌, inl, inr, true, false, List, length, Some, refl, sym, ap, subst, ◌∙◌, arith}
use Rattle.std.specs.Prelude.{slice_get}
use Rattle.std.proofs.lemmas.Bool.{cases_Bool, ne_eqb}
use Rattle.std.proofs.lemmas.Option.{slice_get_within}
use Rattle.rv_word.specs.Bits.{wrap}
use Rattle.rv_image.specs.MemoryMap.{Profile, SHADOW_START, can_load, can_store}
use Rattle.rv_word.specs.Memory.{Memory, read, write}
use Rattle.rv_instr.specs.Registers.{Registers, get_reg, set_reg}
use Rattle.rv_instr.specs.Reserved.{is_reserved}
use Rattle.rv_instr.specs.declared.instr.Instr.{Instr}
use Rattle.rv_instr.specs.declared.instr.Instr.TheVariants.{Branch, Load, Store}
use Rattle.rv_instr.specs.declared.instr.BranchOp.{BranchOp}
use Rattle.rv_instr.specs.declared.instr.LoadOp.{LoadOp}
use Rattle.rv_instr.specs.declared.instr.StoreOp.{StoreOp}
use Rattle.rv_code.specs.Arithmetic.{branch_taken, load_size, load_result, store_size}
use Rattle.rv_code.proofs.Within.{Onward, Within}
use Rattle.rv_code.specs.State.{Hart, Shared, After}
use Rattle.rv_code.specs.Step.{exec, puts, stops, address}
use Rattle.rv_code.specs.declared.turn.Turn.TheVariants.{Ran}
use Rattle.cfi_unit.specs.UnitWords.{skip_offset, jump, Reaches}
use Rattle.cfi_unit.specs.Shadow.{IsPart}
use Rattle.cfi_unit.specs.Stand.{Stand}
use Rattle.cfi_unit.specs.Context.{Context}
use Rattle.cfi_unit.specs.Leaving.{SameRegisters, pushed, with_memory}
use Rattle.cfi_unit.specs.EffectLaw.{Inside}
use Rattle.cfi_unit.proofs.Context.{at_word}
use Rattle.cfi_unit.proofs.Jumps.{jump_leads}

-- what may happen from outside keeps what units build on
pub record IsHarmless (may : Shared → Shared → Type 0) : Type 0 where
  pub self : (s : Shared) → may s s
  pub further : (a b c : Shared) → may a b → may b c → may a c
  pub keeps : (part : ℕ) (image base : Memory) (pending : List ℕ) (s s' : Shared) → SHADOW_START ≤ part →
      Context part image base pending s → may s s' → Context part image base pending s'
  pub pushes : (part n site : ℕ) (s s' : Shared) → may s s' → may (pushed part n site s) (pushed part n site s')

-- a run that goes on from here
abbrev pub before : Hart → Shared → After
before h s = stops h s Ran

-- within `n` steps Q holds, whatever may happen before each; the program's registers are `r` until then
abbrev pub Runs : (Shared → Shared → Type 0) → Profile → Registers → ℕ → (After → Type 0) → After → Type 0
Runs may p r n Q a = Within (Inside r) may p n Q a

-- the same after one step more, which is made
abbrev pub RunsOn : (Shared → Shared → Type 0) → Profile → Registers → ℕ → (After → Type 0) → After → Type 0
RunsOn may p r n Q a = Onward (Inside r) may p n Q a

-- what is known at each word: `start` is what was shared at the first, but for what the unit pushed
pub record Now (may : Shared → Shared → Type 0) (p : Profile) (part : ℕ) (image base : Memory) (pending : List ℕ) (r : Registers) (start : Shared) (h : Hart) (s : Shared) : Type 0 where
  pub harmless : IsHarmless may
  pub own : IsPart p part
  pub since : may start s
  pub context : Context part image base pending s
  pub same : SameRegisters r h.regs

-- a write of a reserved register
pub same_set : (r regs : Registers) (rd v : ℕ) → is_reserved rd ≡ true → SameRegisters r regs → SameRegisters r (set_reg regs rd v)
same_set r regs zero v reserved same = absurd (cc)
same_set r regs (suc rd) v reserved same = record { same = λ k free. other k free (λ e. let t : is_reserved k ≡ true = ap is_reserved e ∙ reserved in cc) }
  where
    other : (k : ℕ) → is_reserved k ≡ false → (k ≡ suc rd → ⊥) → set_reg regs (suc rd) v k ≡ r k
    other k free apart = rw (ne_eqb k (suc rd) apart) (same.same k free)

-- an equal write of x1
pub same_link : (r regs : Registers) (v w : ℕ) → v ≡ w → SameRegisters r regs → SameRegisters (set_reg r 1 w) (set_reg regs 1 v)
same_link r regs v w e same = record { same = λ k free. elim (cases_Bool (k == 1)) [ inl here ↦ rw here e | inr other ↦ rw other (same.same k free) ] }

-- a register that was written is written again, with an equal value
pub same_again : (r regs : Registers) (rd u v w : ℕ) → v ≡ w → SameRegisters (set_reg r rd u) regs →
    SameRegisters (set_reg r rd w) (set_reg regs rd v)
same_again r regs zero u v w e same = same
same_again r regs (suc rd) u v w e same = record {
  same = λ k free.
      elim (cases_Bool (k == suc rd)) [
        | inl here ↦ rw here e
        | inr other ↦ let kept : set_reg r (suc rd) u k ≡ r k = rw other refl in rw other (same.same k free ∙ kept)
      ];
}

module _ {may : Shared → Shared → Type 0} {p : Profile} {part : ℕ} {image base : Memory} {pending : List ℕ} {r : Registers} {start : Shared} {h : Hart} {s : Shared} where
  later : Now may p part image base pending r start h s → (s' : Shared) → may s s' → Now may p part image base pending r start h s'
  later now s' t = record {
    harmless = now.harmless;
    own = now.own;
    since = now.harmless.further start s s' now.since t;
    context = now.harmless.keeps part image base pending s s' (now.own.low) now.context t;
    same = now.same;
  }

  -- other registers that are the program's alike, and another pc
  pub moved : Now may p part image base pending r start h s → (h' : Hart) → SameRegisters r h'.regs →
      Now may p part image base pending r start h' s
  moved now h' same = record { harmless = now.harmless; own = now.own; since = now.since; context = now.context; same = same }

module _ {may : Shared → Shared → Type 0} {p : Profile} {part : ℕ} {image base : Memory} {pending : List ℕ} {r : Registers} {start : Shared} {h : Hart} {s : Shared} where
  module _ {at : ℕ} {instrs : List Instr} (n : ℕ) (Q : After → Type 0) (now : Now may p part image base pending r start h s) (w : Stand image at instrs) (k : ℕ) (e : h.pc ≡ at + 4 * k) where
    -- any instruction
    pub onto : (i : Instr) → slice_get instrs k ≡ Some i →
        ((s' : Shared) → Now may p part image base pending r start h s' → Runs may p r n Q (exec p i h s')) →
        RunsOn may p r n Q (before h s)
    onto i is next = (
      record { turn = refl; regs = now.same },
      λ s' t. let on = later now s' t in at_word (Runs may p r n Q) p h on.context w k i is e (next s' on),
    )

    -- one that puts a value into a reserved register
    pub onto_put : (i : Instr) → slice_get instrs k ≡ Some i → (rd x v : ℕ) → is_reserved rd ≡ true →
        ((s' : Shared) → exec p i h s' ≡ puts h s' rd x) → x ≡ v →
        ((pc : ℕ) (s' : Shared) → pc ≡ at + 4 * suc k → Now may p part image base pending r start (record { pc = pc; regs = set_reg h.regs rd v }) s' →
        Runs may p r n Q (before (record { pc = pc; regs = set_reg h.regs rd v }) s')) →
        RunsOn may p r n Q (before h s)
    onto_put i is rd x v reserved does value next =
        onto i is (λ s' on.
        subst (λ (a : After). Runs may p r n Q a) (sym (does s' ∙ ap (λ y. puts h s' rd y) value))
        (next (h.pc + 4) s' (omega arith) (moved on (record { pc = h.pc + 4; regs = set_reg h.regs rd v }) (same_set r h.regs rd v reserved on.same))))

    -- a branch over the next word
    pub onto_branch : (op : BranchOp) (rs1 rs2 : ℕ) → slice_get instrs k ≡ Some (Branch op rs1 rs2 skip_offset) →
        (branch_taken op (get_reg h.regs rs1) (get_reg h.regs rs2) ≡ true → (pc : ℕ) (s' : Shared) → pc ≡ at + 4 * suc (suc k) →
        Now may p part image base pending r start (record { pc = pc; regs = h.regs }) s' →
        Runs may p r n Q (before (record { pc = pc; regs = h.regs }) s')) →
        (branch_taken op (get_reg h.regs rs1) (get_reg h.regs rs2) ≡ false → (pc : ℕ) (s' : Shared) → pc ≡ at + 4 * suc k →
        Now may p part image base pending r start (record { pc = pc; regs = h.regs }) s' →
        Runs may p r n Q (before (record { pc = pc; regs = h.regs }) s')) →
        RunsOn may p r n Q (before h s)
    onto_branch op rs1 rs2 is skips goes_on =
        let within : k < length instrs = slice_get_within instrs k (Branch op rs1 rs2 skip_offset) is in
        let low = w.low in
        let high = w.high in
        onto (Branch op rs1 rs2 skip_offset) is
        (λ s' on.
        elim (cases_Bool (branch_taken op (get_reg h.regs rs1) (get_reg h.regs rs2))) [
          | inl taken ↦ rw taken (skips taken (wrap (h.pc + 8)) s' (omega arith) (moved on (record { pc = wrap (h.pc + 8); regs = h.regs }) on.same))
          | inr not_taken ↦ rw not_taken (goes_on not_taken (h.pc + 4) s' (omega arith) (moved on (record { pc = h.pc + 4; regs = h.regs }) on.same))
        ])

    -- a jump
    pub onto_jump : (from to : ℕ) → slice_get instrs k ≡ Some (jump from to) → from ≡ at + 4 * k → Reaches from to →
        ((pc : ℕ) (s' : Shared) → pc ≡ to → Now may p part image base pending r start (record { pc = pc; regs = h.regs }) s' →
        Runs may p r n Q (before (record { pc = pc; regs = h.regs }) s')) →
        RunsOn may p r n Q (before h s)
    onto_jump from to is here reach next =
        onto (jump from to) is
        (λ s' on. next _ s' (jump_leads h.pc from to (e ∙ sym here) reach) (moved on (record { pc = _; regs = h.regs }) on.same))

    -- a load into a reserved register
    pub onto_load : (op : LoadOp) (rd rs1 imm : ℕ) → slice_get instrs k ≡ Some (Load op rd rs1 imm) → is_reserved rd ≡ true →
        (a v : ℕ) → address h rs1 imm ≡ a → can_load p a (load_size op) ≡ true →
        ((s' : Shared) → Context part image base pending s' → load_result op (read (load_size op) s'.memory a) ≡ v) →
        ((pc : ℕ) (s' : Shared) → pc ≡ at + 4 * suc k → Now may p part image base pending r start (record { pc = pc; regs = set_reg h.regs rd v }) s' →
        Runs may p r n Q (before (record { pc = pc; regs = set_reg h.regs rd v }) s')) →
        RunsOn may p r n Q (before h s)
    onto_load op rd rs1 imm is reserved a v place can reads next =
        onto (Load op rd rs1 imm) is
        (λ s' on.
        rw (place, can, reads s' on.context)
        (next (h.pc + 4) s' (omega arith) (moved on (record { pc = h.pc + 4; regs = set_reg h.regs rd v }) (same_set r h.regs rd v reserved on.same))))

    -- a store
    pub onto_store : (op : StoreOp) (rs1 rs2 imm : ℕ) → slice_get instrs k ≡ Some (Store op rs1 rs2 imm) →
        (a v : ℕ) → address h rs1 imm ≡ a → get_reg h.regs rs2 ≡ v → can_store p a (store_size op) ≡ true →
        ((pc : ℕ) (s' : Shared) → pc ≡ at + 4 * suc k → Now may p part image base pending r start (record { pc = pc; regs = h.regs }) s' →
        Runs may p r n Q (before (record { pc = pc; regs = h.regs }) (with_memory s' (write (store_size op) s'.memory a v)))) →
        RunsOn may p r n Q (before h s)
    onto_store op rs1 rs2 imm is a v place value can next =
        onto (Store op rs1 rs2 imm) is
        (λ s' on.
        rw (place, can, value)
        (next (h.pc + 4) s' (omega arith) (moved on (record { pc = h.pc + 4; regs = h.regs }) on.same)))
