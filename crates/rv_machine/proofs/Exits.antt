-- A system call after which the run goes on leaves it not ended, and one that ends it leaves its status.
use Rattle.std.proofs.Common.{◌≡◌, ℕ, ◌%◌, ◌^◌, ◌==◌, ◌||◌, true, List, [], Some, None, refl, sym, ap, ◌∙◌}
use Rattle.std.proofs.lemmas.Bool.{cond_both}
use Rattle.rv_code.specs.State.{Hart, Shared, After, last_exit}
use Rattle.rv_code.specs.SystemCall.{answers, bad_address, bad_descriptor, ends, if_in_window, no_such_call, read_call, reads_input, system_call, write_call, writes_output}
use Rattle.rv_code.specs.declared.turn.Turn.TheVariants.{Exit, Ran}
use Rattle.rv_code.proofs.Calls as calls
use Rattle.rv_code.proofs.Calls.{AfterCall, answered, ended, last_exit-newest}

module _ (h : Hart) (s : Shared) where
  -- where a step ended the run, its status is kept
  abbrev Tells : After → Type 0
  Tells after = (status : ℕ) → after.turn ≡ Exit status → last_exit after.shared.events ≡ Some status

  answers_tell : (s' : Shared) (bytes : List ℕ) (answer : ℕ) → Tells (answers h s' bytes answer)
  answers_tell s' bytes answer status e = absurd (cc)

  window_tells : (inside : After) → Tells inside → Tells (if_in_window h inside (answers h s [] bad_address))
  window_tells inside tells = cond_both _ _ _ Tells (λ within. tells) (λ outside. answers_tell s [] bad_address)

  write_tells : Tells (write_call h s)
  write_tells =
      cond_both (h.regs 10 == 1 || h.regs 10 == 2) _ _ Tells
      (λ right. window_tells (writes_output h s) (λ status e. absurd (cc)))
      (λ wrong. answers_tell s [] bad_descriptor)

  read_tells : Tells (read_call h s)
  read_tells = cond_both (h.regs 10 == 0) _ _ Tells (λ right. window_tells (reads_input h s) (λ status e. absurd (cc))) (λ wrong. answers_tell s [] bad_descriptor)

  ends_tell : (h.regs 17 == 93 || h.regs 17 == 94) ≡ true → Tells (ends h s)
  ends_tell is status e = last_exit-newest _ _ ∙ rw is (let same : h.regs 10 % 2 ^ 8 ≡ status = cc in ap Some same)

  call_tells : Tells (system_call h s)
  call_tells =
      cond_both (h.regs 17 == 64) (write_call h s) _ Tells (λ is. write_tells)
      (λ other. cond_both (h.regs 17 == 63) (read_call h s) _ Tells (λ is. read_tells)
      (λ nor. cond_both (h.regs 17 == 93 || h.regs 17 == 94) (ends h s) (answers h s [] no_such_call) Tells ends_tell (λ none. answers_tell s [] no_such_call)))

pub exit_kept : (h : Hart) (s : Shared) (after : After) (status : ℕ) → after ≡ system_call h s → after.turn ≡ Exit status → Some status ≡ last_exit after.shared.events
exit_kept h s after status e turn = sym (ap (λ (a : After). last_exit a.shared.events) e ∙ call_tells h s status (sym (ap (λ (a : After). a.turn) e) ∙ turn))

pub none_kept : (h : Hart) (s : Shared) (after : After) → after ≡ system_call h s → after.turn ≡ Ran → None ≡ last_exit after.shared.events
none_kept h s after e turn = sym (ap (λ (a : After). last_exit a.shared.events) e ∙ by (calls.after_call h s))
  where
    ran : (system_call h s).turn ≡ Ran
    ran = sym (ap (λ (a : After). a.turn) e) ∙ turn

    by : AfterCall h s (system_call h s) → last_exit (system_call h s).shared.events ≡ None
    by (answered is pc regs last memory) = last
    by (ended status is same) = absurd (let clash : Exit status ≡ Ran = sym is ∙ ran in cc)

-- a run that has made no call goes on
pub none_yet : None ≡ last_exit []
unfolding last_exit
none_yet = refl
