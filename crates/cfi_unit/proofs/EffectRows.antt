-- What units do, all units, and so the two laws: a run meets what is asked within so many steps.
use Rattle.std.proofs.Common.{◌≡◌, ℕ, suc, ◌-◌, ◌+◌, ◌^◌, ◌<◌, ◌≤◌, inl, inr, true, List, [], ◌∷◌, length, replicate, refl, sym, ap, subst, ◌∙◌, arith}
use Rattle.std.specs.List.{AllByRecursion}
use Rattle.std.specs.Prelude.{◌&&◌, nat_le, nat_lt}
use Rattle.std.proofs.lemmas.Bool.{cases_Bool}
use Rattle.rv_image.specs.MemoryMap.{Profile, SHADOW_START, DATA_END}
use Rattle.rv_word.specs.Memory.{Memory, write}
use Rattle.rv_instr.specs.Registers.{Registers}
use Rattle.rv_code.specs.Run.{ByteChange, IsDataChange, disturbed}
use Rattle.rv_code.specs.State.{Hart, Shared, After, last_exit}
use Rattle.rv_code.specs.Step.{step}
use Rattle.rv_code.specs.declared.turn.Turn.TheVariants.{Ran}
use Rattle.rv_code.proofs.Changes.{changed_above}
use Rattle.rv_code.proofs.Within.{ComesTo, Onward, comes_on, comes_on_calmly, within_map}
use Rattle.cfi_unit.specs.declared.mask.Mask.TheVariants.{Shifts, Short, Long}
use Rattle.cfi_unit.specs.declared.unit.Unit as U
use Rattle.cfi_unit.specs.declared.unit.Unit.TheVariants as V
use Rattle.cfi_unit.specs.declared.unit.SystemOp.TheVariants as S
use Rattle.cfi_unit.specs.UnitWords.{instrs_of, word_count}
use Rattle.cfi_unit.specs.Shadow.{IsPart, slot, MOST_PENDING}
use Rattle.cfi_unit.specs.Stand.{Stand}
use Rattle.cfi_unit.specs.Context.{Context}
use Rattle.cfi_unit.specs.Templates.{Asks, is_full}
use Rattle.cfi_unit.specs.UnitLaw.{UnitMayStand}
use Rattle.cfi_unit.specs.Between.{Unchanged, DataChanged}
use Rattle.cfi_unit.specs.Leaving.{pushed}
use Rattle.cfi_unit.specs.Effect.{UnitDoes}
use Rattle.cfi_unit.specs.EffectLaw.{AsksSite, Enters, GoesOn, Inside, DoneWithin, UnitEffect, UnitIsDone, UnitKeepsRegisters}
use Rattle.cfi_unit.proofs.Context.{kept_data}
use Rattle.cfi_unit.proofs.EffectSteps.{IsHarmless, Now, RunsOn, before}
use Rattle.cfi_unit.proofs.EffectUnits.{plain_does, ecall_does, ebreak_does, stop_does, gate_does, jump_does, branch_does, near_does}
use Rattle.cfi_unit.proofs.Counts.{some_word}
use Rattle.cfi_unit.proofs.EffectStores.{stores_does}
use Rattle.cfi_unit.proofs.EffectGuarded.{guarded_does}
use Rattle.cfi_unit.proofs.EffectLean.{enter_does, lean_icall_does, lean_ijump_does, leaf_return_does, link_call_does}
use Rattle.cfi_unit.proofs.EffectTransfers.{call_does, return_does, ijump_does, icall_does}

module _ (may : Shared → Shared → Type 0) (harmless : IsHarmless may) (p : Profile) (part : ℕ) (image base : Memory) (h : Hart) (s : Shared) where
  module _ (own : IsPart p part) (small : (k : ℕ) → image k < 2 ^ 8) (at : ℕ) (e : h.pc ≡ at) where
    first : (pending : List ℕ) → Context part image base pending s → Now may p part image base pending h.regs s h s
    first pending c = record { harmless = harmless; own = own; since = harmless.self s; context = c; same = record { same = λ k free. refl } }

    body_does : (unit : U.Unit) (pending : List ℕ) → UnitMayStand unit at pending → AsksSite unit pending → length pending ≤ MOST_PENDING →
        Stand image at (instrs_of unit at) → Context part image base pending s → h.regs 3 ≡ slot part (length pending) → Asks unit h.regs →
        RunsOn may p h.regs (word_count unit - 1) (UnitIsDone p part image base may h s unit at pending) (before h s)
    body_does (V.Gate label) pending stand some most w c x3 asks = gate_does at (first pending c) e x3 label w
    body_does (V.Plain instr) pending stand some most w c x3 asks = plain_does at (first pending c) e instr stand.0.1 w
    body_does (V.Branch op rs1 rs2 target) pending stand some most w c x3 asks = branch_does at (first pending c) e x3 op rs1 rs2 target stand.0 w
    body_does (V.Near op rs1 rs2 target) pending stand some most w c x3 asks = near_does at (first pending c) e x3 op rs1 rs2 target stand.0 w
    body_does (V.Jump target) pending stand some most w c x3 asks = jump_does at (first pending c) e x3 target stand.0 w
    body_does V.Stop pending stand some most w c x3 asks = stop_does at (first pending c) e stand.0 w
    body_does (V.System S.Ecall) pending stand some most w c x3 asks = ecall_does at (first pending c) e w
    body_does (V.System S.Ebreak) pending stand some most w c x3 asks = ebreak_does at (first pending c) e w
    body_does (V.Guarded numbers) pending stand some most w c x3 asks = guarded_does at (first pending c) e x3 numbers stand.0 w
    body_does (V.Stores mask rs1 imm members) pending stand some most w c x3 asks = stores_does at (first pending c) e x3 mask rs1 imm members stand.0 asks w
    body_does (V.Call target) pending stand some most w c x3 asks = call_does at pending (first pending c) e x3 most target stand.0 w
    body_does (V.Ijump which rs1 imm label) pending stand some most w c x3 asks = ijump_does at pending (first pending c) e x3 most rs1 imm label small which stand.0 w
    body_does (V.Icall rs1 imm label) pending stand some most w c x3 asks = icall_does at pending (first pending c) e x3 most rs1 imm label small stand.0 w
    body_does (V.LinkCall target) pending stand some most w c x3 asks = link_call_does at (first pending c) e x3 target stand.0 w
    body_does V.Enter pending stand some most w c x3 asks = enter_does at (first pending c) e x3 most asks stand.0 w
    body_does (V.LeanIjump rs1 imm label) pending stand some most w c x3 asks = lean_ijump_does at (first pending c) e x3 rs1 imm label small stand.0 w
    body_does (V.LeanIcall rs1 imm label) pending stand some most w c x3 asks = lean_icall_does at (first pending c) e x3 rs1 imm label small stand.0 w
    body_does V.LeafReturn pending stand some most w c x3 asks = leaf_return_does at (first pending c) e x3 w
    body_does V.Return [] stand some most w c x3 asks = absurd (let none : length {A = ℕ} [] ≡ 0 = refl in omega arith)
    body_does V.Return (site ∷ pending) stand some most w c x3 asks =
        return_does at site pending (first (site ∷ pending) c) e x3 most stand.1.0 stand.1.1 stand.0 w

  pub unit_does : (unit : U.Unit) (at : ℕ) (pending : List ℕ) → Enters p part image base unit at pending h s →
      RunsOn may p h.regs (word_count unit - 1) (UnitIsDone p part image base may h s unit at pending) (before h s)
  unit_does unit at pending i = body_does i.own i.bytes at i.pc unit pending i.may_stand i.some i.most i.stands i.context i.pointer i.asks

goes_on : (r : Registers) (a : After) → Inside r a → a.turn ≡ Ran
goes_on r a here = here.turn

pub done_within : (p : Profile) (n : ℕ) (h : Hart) (s : Shared) (changes : List (List ByteChange)) (Until Done : After → Type 0) →
    ComesTo Until p 1 n (before h s) changes Done → DoneWithin p n h s changes Until Done
done_within p n h s changes Until Done m = record { steps = m.steps; some = m.some; few = m.few; until = m.until; done = m.met }

-- nothing happens
unchanged_keeps : (part : ℕ) (image base : Memory) (pending : List ℕ) (s s' : Shared) → Context part image base pending s → Unchanged s s' →
    Context part image base pending s'
unchanged_keeps part image base pending s s' c same = subst (Context part image base pending) (sym same) c

pub unchanged_harmless : IsHarmless Unchanged
unchanged_harmless = record {
  self = λ s. refl;
  further = λ a b c first second. second ∙ first;
  keeps = λ part image base pending s s' low c same. unchanged_keeps part image base pending s s' c same;
  pushes = λ part n site s s' same. ap (pushed part n site) same;
}

-- data may change
changed_keeps : (part : ℕ) (image base : Memory) (pending : List ℕ) (s s' : Shared) → SHADOW_START ≤ part →
    Context part image base pending s → DataChanged s s' → Context part image base pending s'
changed_keeps part image base pending s s' low c changes = record {
  going = ap last_exit changes.events ∙ c.going;
  kept = kept_data low c.kept s'.memory changes.memory;
}

write_same : (m m' : Memory) (n a v : ℕ) → ((k : ℕ) → DATA_END ≤ k → m' k ≡ m k) → (k : ℕ) → DATA_END ≤ k → write n m' a v k ≡ write n m a v k
unfolding write
write_same m m' n a v same k high =
    elim (cases_Bool (nat_le a k && nat_lt k (a + n))) [
      | inl inside ↦ rw inside refl
      | inr outside ↦ rw outside (same k high)
    ]

pub changed_harmless : IsHarmless DataChanged
changed_harmless = record {
  self = λ s. record { memory = λ k high. refl; left = refl; output = refl; events = refl };
  further = λ a b c first second. record {
    memory = λ k high. second.memory k high ∙ first.memory k high;
    left = second.left ∙ first.left;
    output = second.output ∙ first.output;
    events = second.events ∙ first.events;
  };
  keeps = changed_keeps;
  pushes = λ part n site s s' changes. record {
    memory = write_same s.memory s'.memory 8 (slot part n) site changes.memory;
    left = changes.left;
    output = changes.output;
    events = changes.events;
  };
}

pub data_allowed : (changes : List (List ByteChange)) → AllByRecursion (AllByRecursion IsDataChange) changes →
    AllByRecursion (λ cs. (s : Shared) → DataChanged s (disturbed s cs)) changes
data_allowed [] all = tt
data_allowed (cs ∷ changes) all = (
  λ s. record { memory = changed_above s.memory cs all.0; left = refl; output = refl; events = refl },
  data_allowed changes all.1,
)

-- each unit has a word
pub one_word : (unit : U.Unit) → suc (word_count unit - 1) ≡ word_count unit
one_word unit = let some = some_word unit in omega arith

pub unit_effect : UnitEffect
unit_effect p part image base unit at pending h s i =
    let m = word_count unit - 1 in
    let Q : After → Type 0 = UnitIsDone p part image base Unchanged h s unit at pending in
    subst (λ n. DoneWithin p n h s (replicate n []) (Inside h.regs) Q) (one_word unit)
    (done_within p (suc m) h s (replicate (suc m) []) (Inside h.regs) Q
    (comes_on_calmly (Inside h.regs) Unchanged p (goes_on h.regs) Q m (before h s) (λ s'. refl)
    (unit_does Unchanged unchanged_harmless p part image base h s unit at pending i)))

pub unit_keeps_registers : UnitKeepsRegisters
unit_keeps_registers p part image base unit at pending h s i changes all long =
    let m = word_count unit - 1 in
    let Q : After → Type 0 = UnitIsDone p part image base DataChanged h s unit at pending in
    subst (λ n. n ≤ length changes → DoneWithin p n h s changes (Inside h.regs) Q) (one_word unit)
    (λ whole. done_within p (suc m) h s changes (Inside h.regs) Q
    (comes_on (Inside h.regs) DataChanged p (goes_on h.regs) Q m (before h s) changes (data_allowed changes all) whole
    (unit_does DataChanged changed_harmless p part image base h s unit at pending i)))
    long

-- a unit where nothing happens, for runs that go on after it
pub unit_done_within : (p : Profile) (part : ℕ) (image base : Memory) (unit : U.Unit) (at : ℕ) (pending : List ℕ) (h : Hart) (s : Shared) →
    Enters p part image base unit at pending h s →
    Onward GoesOn Unchanged p (word_count unit - 1) (UnitIsDone p part image base Unchanged h s unit at pending) (before h s)
unit_done_within p part image base unit at pending h s i =
    let Q : After → Type 0 = UnitIsDone p part image base Unchanged h s unit at pending in
    let on = unit_does Unchanged unchanged_harmless p part image base h s unit at pending i in (
      refl,
      λ s' t. within_map (Inside h.regs) Unchanged p GoesOn Unchanged (word_count unit - 1) Q Q (step p h s') (goes_on h.regs)
          (λ a b same. same) (λ b q. q) (on.1 s' t),
    )

pub unit_within : (p : Profile) (part : ℕ) (image base : Memory) (unit : U.Unit) (at : ℕ) (pending : List ℕ) (h : Hart) (s : Shared) →
    Enters p part image base unit at pending h s →
    Onward GoesOn Unchanged p (word_count unit - 1) (UnitDoes p part image base Unchanged h s unit at pending) (before h s)
unit_within p part image base unit at pending h s i =
    let on = unit_done_within p part image base unit at pending h s i in (
      on.0,
      λ s' t. within_map GoesOn Unchanged p GoesOn Unchanged (word_count unit - 1) (UnitIsDone p part image base Unchanged h s unit at pending)
          (UnitDoes p part image base Unchanged h s unit at pending) (step p h s') (λ b here. here) (λ a b same. same) (λ b q. q.0) (on.1 s' t),
    )

-- what the laws ask where a site is pending, and of the registers where callers save sites
pub site_asked : (unit : U.Unit) (pending : List ℕ) → 0 < length pending → AsksSite unit pending
site_asked V.Return pending some = some
site_asked other pending some = tt

pub full_asked : (unit : U.Unit) (r : Registers) → is_full unit ≡ true → Asks unit r
full_asked (V.Stores Shifts rs1 imm members) r full = tt
full_asked (V.Stores Short rs1 imm members) r full = absurd (cc)
full_asked (V.Stores Long rs1 imm members) r full = absurd (cc)
full_asked V.Enter r full = absurd (cc)
full_asked other r full = tt
