-- What every word of a hart's code keeps: the run has not ended, code is the image's, the pending
-- sites stand in the hart's own part of the shadow, and no byte outside of data and of that part is
-- written.
use Rattle.std.specs.Prelude.{◌≡◌, ℕ, ◌+◌, ◌≤◌, ◌<◌, ◌⊎◌, List, None}
use Rattle.rv_image.specs.MemoryMap.{CODE_START, CODE_SIZE, CODE_TAIL, DATA_END, PART_SIZE}
use Rattle.rv_word.specs.Memory.{Memory}
use Rattle.rv_word.specs.Same.{SameOn}
use Rattle.rv_code.specs.State.{Shared, last_exit}
use Rattle.cfi_unit.specs.Shadow.{Holds}

-- the code in memory is the image's, and so are the bytes past it that loads may read
abbrev pub IsCodeOf : Memory → Memory → Type 0
IsCodeOf image m = SameOn CODE_START (CODE_START + CODE_SIZE + CODE_TAIL) image m

-- memory is the same as a base memory outside of data and of a hart's own part of the shadow
abbrev pub SameOutside : ℕ → Memory → Memory → Type 0
SameOutside part base m = (k : ℕ) → DATA_END ≤ k → (k < part) ⊎ (part + PART_SIZE ≤ k) → m k ≡ base k

pub record Kept (part : ℕ) (image base : Memory) (pending : List ℕ) (m : Memory) : Type 0 where
  pub code : IsCodeOf image m
  pub held : Holds part m pending
  pub frame : SameOutside part base m

pub record Context (part : ℕ) (image base : Memory) (pending : List ℕ) (s : Shared) : Type 0 where
  pub going : last_exit s.events ≡ None
  pub kept : Kept part image base pending s.memory
