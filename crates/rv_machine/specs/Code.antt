-- The instructions of code, each word decoded before the run. Nothing writes code, so they stay those of memory.
-- Only private contracts cite this.
use Rattle.std.specs.Prelude.{◌≡◌, ℕ, ◌+◌, ◌*◌, ◌<◌, ◌≤◌, List, Option, Some, None, length, map, slice_get, option_and_then}
use Rattle.rv_image.specs.MemoryMap.{CODE_START, CODE_SIZE}
use Rattle.rv_word.specs.Memory.{Memory, read}
use Rattle.rv_instr.specs.declared.instr.Instr.{Instr}
use Rattle.rv_instr.specs.declared.instr.Instr.TheVariants.{Ebreak}
use Rattle.rv_code.specs.Decode.{decoded}
use Rattle.rv_code.specs.State.{last_exit}
use Rattle.rv_code.specs.declared.event.Event.{Event}
use Rattle.rv_machine.specs.Ready.{instr_of}
use Rattle.rv_machine.specs.declared.ready.Ready.{Ready}

-- the instruction with an index, if one was kept
abbrev pub instr_in : List (Option Instr) → ℕ → Option Instr
instr_in instrs k = option_and_then (λ instr. instr) (slice_get instrs k)

-- an instruction, and any other one where there is none
abbrev pub known_as : Option Instr → Instr
known_as None = Ebreak
known_as (Some instr) = instr

-- the same words, as they are kept for who knows that one is an instruction
pub record AreKnown (instrs : List (Option Instr)) (known : List Ready) : Type 0 where
  pub each : map instr_of known ≡ map known_as instrs

-- at each word of code memory holds the word of the instruction that is kept of it, and no more are kept
pub record IsCodeOf (instrs : List (Option Instr)) (m : Memory) : Type 0 where
  pub within : 4 * length instrs ≤ CODE_SIZE
  pub each : (k : ℕ) → 4 * k < CODE_SIZE → instr_in instrs k ≡ decoded (read 4 m (CODE_START + 4 * k))

-- what a machine keeps beside its memory and its calls, so that a step need not ask them: its code, and the
-- status with which the run has ended
pub record IsKept (instrs : List (Option Instr)) (m : Memory) (ended : Option ℕ) (events : List Event) : Type 0 where
  pub code : IsCodeOf instrs m
  pub exit : ended ≡ last_exit events
