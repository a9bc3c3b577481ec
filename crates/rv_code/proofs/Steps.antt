-- A step is the execution of the instruction that is fetched.
use Rattle.std.proofs.Common.{◌≡◌, ℕ, ◌+◌, ◌%◌, ◌≤◌, Some, None, true, arith}
use Rattle.std.proofs.lemmas.Bool.Decides.{nat_tests}
use Rattle.rv_image.specs.MemoryMap.{Profile, CODE_START, CODE_SIZE}
use Rattle.rv_word.specs.Memory.{read}
use Rattle.rv_instr.specs.declared.instr.Instr.{Instr}
use Rattle.rv_code.specs.Decode.{decoded}
use Rattle.rv_code.specs.State.{Hart, Shared, After, last_exit}
use Rattle.rv_code.specs.Step.{step, exec, can_fetch}

pub record Fetches (h : Hart) (s : Shared) (i : Instr) : Type 0 where
  pub going : last_exit s.events ≡ None
  pub place : can_fetch h.pc ≡ true
  pub word : decoded (read 4 s.memory h.pc) ≡ Some i

-- what holds after the instruction's execution holds after the step
pub by_step : (R : After → Type 0) (p : Profile) (h : Hart) (s : Shared) (i : Instr) → Fetches h s i →
    R (exec p i h s) → R (step p h s)
unfolding step
by_step R p h s i f r = rw (f.going, f.place, f.word) r

-- a word of code may be fetched
pub can_fetch_word : (a : ℕ) → a % 4 ≡ 0 → CODE_START ≤ a → a + 4 ≤ CODE_START + CODE_SIZE → can_fetch a ≡ true
can_fetch_word a round low high = grind (arith, nat_tests)
