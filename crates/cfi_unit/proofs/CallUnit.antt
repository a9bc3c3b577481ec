-- A call: its push, then the jump to its target. The opening ends with one.
use Rattle.std.proofs.Common.{◌≡◌, ℕ, ◌+◌, ◌<◌, ◌≤◌, ◌⊎◌, inl, inr, List, ◌∷◌, length, refl, arith}
use Rattle.rv_image.specs.MemoryMap.{Profile}
use Rattle.rv_word.specs.Memory.{Memory}
use Rattle.rv_code.specs.State.{Hart, Shared, After}
use Rattle.rv_code.specs.Step.{step}
use Rattle.rv_code.specs.declared.turn.Turn.TheVariants.{Ran}
use Rattle.cfi_unit.specs.declared.unit.Unit.TheVariants as V
use Rattle.cfi_unit.specs.UnitWords.{Fits, push, instrs_of}
use Rattle.cfi_unit.specs.Prologue.{OPENING}
use Rattle.cfi_unit.specs.Shadow.{IsPart, slot, MOST_PENDING}
use Rattle.cfi_unit.specs.Stand.{Stand}
use Rattle.cfi_unit.specs.Context.{Context}
use Rattle.cfi_unit.specs.Leads.{Calls}
use Rattle.cfi_unit.specs.InPlace.{InCall, call_push, call_jump}
use Rattle.cfi_unit.proofs.Context.{at_word, stand_front, kept_pending}
use Rattle.cfi_unit.proofs.Jumps.{jump_leads}
use Rattle.cfi_unit.proofs.Push.{AfterPush, push_inside, push_done, push_halts, push_law}

pub data AfterCall (part : ℕ) (image base : Memory) (at v : ℕ) (pending : List ℕ) (target : ℕ) (after : After) : Type 0 where
  call_inside : after.turn ≡ Ran → Context part image base pending after.shared → at < after.hart.pc →
      InCall part at v (length pending) after.hart after.shared.memory → AfterCall part image base at v pending target after
  call_leaves : (newer : List ℕ) → after.turn ≡ Ran → Context part image base newer after.shared →
      ((after.hart.regs 3 ≡ slot part (length newer)) × Unit {0}) ⊎ (after.hart.pc < OPENING) →
      Calls (at + 32) pending newer after.hart.pc target → AfterCall part image base at v pending target after

module _ (part : ℕ) (image base : Memory) (at v : ℕ) (pending : List ℕ) (target : ℕ) (after : After) where
  after_push : AfterPush part image base at v pending after → AfterCall part image base at v pending target after
  after_push (push_inside t c low i) = call_inside t c low (call_push i)
  after_push (push_done t c e pushed) = call_inside t c (omega arith) (call_jump e pushed)
  after_push (push_halts t c e full) = call_leaves pending t c (inr (omega arith)) (inr (full, refl, e))

module _ (p : Profile) (part : ℕ) (image base : Memory) (at v : ℕ) (pending : List ℕ) (target : ℕ) (h : Hart) (s : Shared) where
  pub call_law : IsPart p part → length pending ≤ MOST_PENDING → Fits (V.Call target) at → Stand image at (instrs_of (V.Call target) at) →
      Context part image base pending s → InCall part at v (length pending) h s.memory →
      AfterCall part image base at v pending target (step p h s)
  call_law own most fits w c (call_push i) =
      after_push part image base at v pending target (step p h s)
      (push_law p part image base at v pending h s own most fits.0 (stand_front (push at) _ w) c i)
  call_law own most fits w c (call_jump e pushed) =
      at_word (AfterCall part image base at v pending target) p h c w 7 _ refl e
      (call_leaves ((at + 32) ∷ pending) refl
      (record { going = c.going; kept = kept_pending (at + 32) c.kept pushed.site_is })
      (inl (pushed.pointer, tt))
      (inl (pushed.room, refl, jump_leads h.pc (at + 28) target e fits.1)))
