-- The opening comes to the program's own start, the closing to its own end.
use Rattle.std.proofs.Common.{◌≡◌, ℕ, ◌+◌, ◌-◌, ◌≤◌, Bool, true, false, length, inl, inr, refl, sym, ap, subst, ◌∙◌, arith}
use Rattle.cfi_runs.proofs.Prelude.{IsFullProfile, IsProfile, Profile, SHADOW_START, part_of, Memory, Registers, set_reg, Ecall, Hart, Shared, After, exec, step, Ran, opening_instrs, Unchanged, SameRegisters, pushed, EntersOpening, stack_of, OpeningDoes, ClosingDoes, slot, ComesTo, SameData, MatchesAfter, AtOpening, EntryFits, LeanOpeningDoes, entry_pending, Own, own_closing, own_start, Within}
use Rattle.rv_image.proofs.Profiles.{full_saves, lean_saves}
use Rattle.rv_code.proofs.Frames.{write_outside}
use Rattle.cfi_unit.proofs.PrologueEffect.{same_trans}
use Rattle.cfi_runs.specs.MatchLaws as law
use Rattle.cfi_runs.proofs.AlikeCalls.{call_alike}
use Rattle.cfi_runs.proofs.Calmly.{within_weaker}
use Rattle.cfi_runs.proofs.LeanOpening.{lean_opening_runs}
use Rattle.cfi_runs.proofs.Same.{same_put}
use Rattle.cfi_runs.proofs.UnitRuns.{opening_runs, closing_runs}

-- a site that is pushed is no data
pub push_alike : (part n site : ℕ) (t s : Shared) → SHADOW_START ≤ part → SameData t s → SameData t (pushed part n site s)
push_alike part n site t s low alike = record {
  memory = λ a below. write_outside 8 s.memory (slot part n) site a (inl (omega arith)) ∙ alike.memory a below;
  left = alike.left;
  output = alike.output;
  events = alike.events;
}

-- where callers save sites, the opening is that of their calls
enters : (p : Profile) (image base : Memory) (entry hart : ℕ) (h : Hart) (s : Shared) → IsFullProfile p → AtOpening p image base entry hart h s →
    EntersOpening p image base entry hart h s
enters p image base entry hart h s full i = record {
  is = full;
  below = i.below;
  number = i.number;
  fits = subst (λ (callee : Bool). EntryFits callee p entry) (full_saves p full) i.fits;
  stands = i.stands;
  context = i.context;
  pc = i.pc;
}

module _ (p : Profile) (image base : Memory) (entry hart : ℕ) (r : Registers) (t : Shared) (h : Hart) (s : Shared) (same : SameRegisters r h.regs) (alike : SameData t s) where
  -- the program's own start, by who saves the sites of calls
  abbrev Starts : Bool → After → Type 0
  Starts callee = ComesTo callee (part_of hart) image base (record (own_start p hart entry r t) { pending = entry_pending callee p.closing })

  same_start : (b : After) → SameRegisters (set_reg (set_reg h.regs 2 (stack_of hart)) 1 p.closing) b.hart.regs →
      SameRegisters (set_reg (set_reg r 2 (stack_of hart)) 1 p.closing) b.hart.regs
  same_start b left =
      same_trans _ (set_reg (set_reg h.regs 2 (stack_of hart)) 1 p.closing) _ (same_put _ _ 1 _ _ refl (same_put r h.regs 2 _ _ refl same)) left

  comes : (b : After) → OpeningDoes p image base Unchanged entry hart h s b → Starts false b
  comes b left = (
    left.turn,
    record {
      pc = left.pc;
      regs = same_start b left.regs;
      shared = subst (λ (x : Shared). SameData t x) (sym left.shared) (push_alike (part_of hart) 0 p.closing t s (omega arith) alike);
      pointer = left.pointer;
      mask = tt;
      context = left.context;
    },
  )

  comes_lean : (b : After) → LeanOpeningDoes p image base entry hart h s b → Starts true b
  comes_lean b (left, mask) = (
    left.turn,
    record {
      pc = left.pc;
      regs = same_start b left.regs;
      shared = subst (λ (x : Shared). SameData t x) (sym left.shared) alike;
      pointer = left.pointer;
      mask = mask;
      context = left.context;
    },
  )

  abbrev more : ℕ
  more = length (opening_instrs p entry) - 1

  starts : IsProfile p → AtOpening p image base entry hart h s → Within p more (Starts p.callee_saves) (step p h s)
  starts (inl full) i =
      subst (λ (callee : Bool). Within p more (Starts callee) (step p h s)) (sym (full_saves p full))
      (within_weaker p (OpeningDoes p image base Unchanged entry hart h s) (Starts false) comes more (step p h s)
      (opening_runs p image base entry hart h s (enters p image base entry hart h s full i)))
  starts (inr lean) i =
      subst (λ (callee : Bool). Within p more (Starts callee) (step p h s)) (sym (lean_saves p lean))
      (within_weaker p (LeanOpeningDoes p image base entry hart h s) (Starts true) comes_lean more (step p h s)
      (lean_opening_runs p image base entry hart h s lean i))

pub opening_keeps_match : law.OpeningKeepsMatch
opening_keeps_match p image base entry hart r t h s i same alike = starts p image base entry hart r t h s same alike i.is i

-- call 93 ends the run
closing_ends : (p : Profile) (o : Own) → (own_closing p o).turn ≡ Ran → ⊥
closing_ends p o ran = cc

pub closing_keeps_match : law.ClosingKeepsMatch
closing_keeps_match p part image base o h s own stands m =
    within_weaker p (ClosingDoes p Unchanged h s) (MatchesAfter p.callee_saves part image base (own_closing p o)) comes 1 (step p h s)
    (closing_runs p part image base o.pc o.pending h s (record { own = own; stands = stands; context = m.context; pc = m.pc }))
  where
    comes : (b : After) → ClosingDoes p Unchanged h s b → MatchesAfter p.callee_saves part image base (own_closing p o) b
    comes b does =
        let last : Hart = record { pc = h.pc + 4; regs = set_reg h.regs 17 93 } in
        let e : b ≡ exec p Ecall last s = does.executed ∙ ap (exec p Ecall last) does.may_see in
        let alike = call_alike (set_reg o.regs 17 93) o.pc last (same_put o.regs h.regs 17 93 93 refl m.regs) o.shared s m.shared in
        record {
          turn = ap (λ (a : After). a.turn) e ∙ alike.turn;
          shared = subst (λ (a : After). SameData (own_closing p o).state.shared a.shared) (sym e) alike.shared;
          going = λ ran. absurd (closing_ends p o ran);
        }
