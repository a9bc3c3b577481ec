-- The shadow stack of a hart: its own part of the shadow region, in which the sites of its pending
-- calls stand in slots of eight bytes, the first slot eight bytes from the part's start.
use Rattle.std.specs.Prelude.{◌≡◌, ℕ, ◌+◌, ◌*◌, ◌%◌, ◌≤◌, List, [], ◌∷◌, length}
use Rattle.rv_image.specs.MemoryMap.{Profile, SHADOW_START, PART_SIZE}
use Rattle.rv_word.specs.Memory.{Memory, read}
use Rattle.cfi_unit.specs.declared.handlers.TheConstants as handlers

-- a hart's own part of the shadow region, which has eight parts at most
pub record IsPart (p : Profile) (part : ℕ) : Type 0 where
  pub low : SHADOW_START ≤ part
  pub high : part + PART_SIZE ≤ SHADOW_START + p.shadow_size
  pub aligned : part % PART_SIZE ≡ 0
  pub most : p.shadow_size ≤ 8 * PART_SIZE

abbrev pub slot : ℕ → ℕ → ℕ
slot part n = part + 8 + 8 * n

-- how many sites it holds: as many as there are slots
abbrev pub MOST_PENDING : ℕ
MOST_PENDING = handlers.MOST_PENDING

-- the pending sites, the newest first, stand in their slots, the oldest in slot 0
abbrev pub Holds : ℕ → Memory → List ℕ → Type 0
Holds part m [] = Unit {0}
Holds part m (site ∷ pending) = (read 8 m (slot part (length pending)) ≡ site) × Holds part m pending
