-- What a system call may do: it answers into x10 and goes on, changing memory below 2 ^ 28 alone, or
-- it ends the run.
use Rattle.std.proofs.Common.{◌≡◌, ◌≢◌, ℕ, ◌+◌, ◌^◌, ◌≤◌, ◌==◌, ◌||◌, true, false, List, [], ◌∷◌, ◌++◌, length, length-take, take, min, None, inr, refl, ap, ◌∙◌, arith}
use Rattle.std.specs.Prelude.{nat_le}
use Rattle.std.proofs.lemmas.Bool.{eqb-true, leb-true, cond_both}
use Rattle.std.proofs.lemmas.Bool.Decides.{nat_tests}
use Rattle.rv_code.specs.State.{Hart, Shared, After, exit_of, last_exit}
use Rattle.rv_code.specs.SystemCall.{event_of, answers, ends, system_call, write_call, read_call, reads_input, writes_output, if_in_window, bad_address, bad_descriptor, no_such_call}
use Rattle.rv_code.specs.declared.event.Event.{Event}
use Rattle.rv_code.specs.declared.turn.Turn.TheVariants.{Ran, Exit}
use Rattle.rv_code.proofs.Frames.{placed_outside}

pub data AfterCall (h : Hart) (s : Shared) (after : After) : Type 0 where
  answered : after.turn ≡ Ran → after.hart.pc ≡ h.pc + 4 →
      ((r : ℕ) → r ≢ 10 → after.hart.regs r ≡ h.regs r) → last_exit after.shared.events ≡ None →
      ((k : ℕ) → 2 ^ 28 ≤ k → after.shared.memory k ≡ s.memory k) → AfterCall h s after
  ended : (status : ℕ) → after.turn ≡ Exit status → after.shared.memory ≡ s.memory → AfterCall h s after

-- the newest event decides whether the run has ended
pub last_exit-newest : (es : List Event) (e : Event) → last_exit (es ++ e ∷ []) ≡ exit_of e
unfolding last_exit
last_exit-newest [] e = refl
last_exit-newest (f ∷ []) e = refl
last_exit-newest (f ∷ g ∷ es) e = last_exit-newest (g ∷ es) e

no_exit : (h : Hart) (bytes : List ℕ) (answer : ℕ) → (h.regs 17 == 93 || h.regs 17 == 94) ≡ false →
    exit_of (event_of h bytes answer) ≡ None
no_exit h bytes answer other = rw other refl

answers_so : (h : Hart) (s s' : Shared) (bytes : List ℕ) (answer : ℕ) → (h.regs 17 == 93 || h.regs 17 == 94) ≡ false →
    ((k : ℕ) → 2 ^ 28 ≤ k → s'.memory k ≡ s.memory k) → AfterCall h s (answers h s' bytes answer)
answers_so h s s' bytes answer other same =
    answered refl refl (λ r rest. grind (arith, nat_tests)) (last_exit-newest _ _ ∙ no_exit h bytes answer other) same

ends_so : (h : Hart) (s : Shared) → AfterCall h s (ends h s)
ends_so h s = ended _ refl refl

module _ (h : Hart) (s : Shared) (other : (h.regs 17 == 93 || h.regs 17 == 94) ≡ false) where
  unchanged_so : (bytes : List ℕ) (answer : ℕ) → AfterCall h s (answers h s bytes answer)
  unchanged_so bytes answer = answers_so h s s bytes answer other (λ k high. refl)

  reads_so : nat_le (h.regs 11 + h.regs 12) (2 ^ 28) ≡ true → AfterCall h s (reads_input h s)
  reads_so inside = answers_so h s _ _ _ other (λ k high. placed_outside s.memory (h.regs 11) _ k (inr (past k high)))
    where
      past : (k : ℕ) → 2 ^ 28 ≤ k → h.regs 11 + length (take (min (h.regs 12) (length s.left)) s.left) ≤ k
      past k high = let bound = leb-true _ _ inside in let most = length-take (min (h.regs 12) (length s.left)) s.left in rw most (omega arith)

  window_so : (within : After) → (nat_le (h.regs 11 + h.regs 12) (2 ^ 28) ≡ true → AfterCall h s within) →
      AfterCall h s (if_in_window h within (answers h s [] bad_address))
  window_so within so = cond_both _ _ _ (AfterCall h s) so (λ outside. unchanged_so [] bad_address)

  write_so : AfterCall h s (write_call h s)
  write_so =
      cond_both (h.regs 10 == 1 || h.regs 10 == 2) _ _ (AfterCall h s)
      (λ right. window_so (writes_output h s) (λ inside. answers_so h s _ _ _ other (λ k high. refl)))
      (λ wrong. unchanged_so [] bad_descriptor)

  read_so : AfterCall h s (read_call h s)
  read_so =
      cond_both (h.regs 10 == 0) _ _ (AfterCall h s) (λ right. window_so (reads_input h s) reads_so) (λ wrong. unchanged_so [] bad_descriptor)

-- every system call
pub after_call : (h : Hart) (s : Shared) → AfterCall h s (system_call h s)
after_call h s =
    cond_both (h.regs 17 == 64) (write_call h s) _ (AfterCall h s) (λ is. write_so h s (by_number 64 is refl))
    (λ no. cond_both (h.regs 17 == 63) (read_call h s) _ (AfterCall h s) (λ is. read_so h s (by_number 63 is refl))
    (λ nor. cond_both (h.regs 17 == 93 || h.regs 17 == 94) (ends h s) (answers h s [] no_such_call) (AfterCall h s)
    (λ is. ends_so h s) (λ other. unchanged_so h s other [] no_such_call)))
  where
    by_number : (n : ℕ) → (h.regs 17 == n) ≡ true → (n == 93 || n == 94) ≡ false → (h.regs 17 == 93 || h.regs 17 == 94) ≡ false
    by_number n is other = ap (λ k. k == 93 || k == 94) (eqb-true (h.regs 17) n is) ∙ other

-- call 93 ends the run
pub exit_call : (h : Hart) (s : Shared) → h.regs 17 ≡ 93 → system_call h s ≡ ends h s
exit_call h s is = rw is refl
