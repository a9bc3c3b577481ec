-- Instructions that stand in code from an address on: a multiple of 4, all of them in the region of
-- code, and each the instruction of its word.
use Rattle.std.specs.Prelude.{◌≡◌, ℕ, ◌+◌, ◌*◌, ◌%◌, ◌≤◌, List, length, slice_get, Some}
use Rattle.rv_image.specs.MemoryMap.{CODE_START, CODE_SIZE}
use Rattle.rv_word.specs.Memory.{Memory, read}
use Rattle.rv_instr.specs.declared.instr.Instr.{Instr}
use Rattle.rv_code.specs.Decode.{decoded}

pub record Stand (m : Memory) (at : ℕ) (instrs : List Instr) : Type 0 where
  pub round : at % 4 ≡ 0
  pub low : CODE_START ≤ at
  pub high : at + 4 * length instrs ≤ CODE_START + CODE_SIZE
  pub words : (k : ℕ) (instr : Instr) → slice_get instrs k ≡ Some instr → decoded (read 4 m (at + 4 * k)) ≡ Some instr
