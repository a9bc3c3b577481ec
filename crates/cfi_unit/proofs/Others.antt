-- What a step keeps, and that a step of one hart is to another hart a change outside of its part.
use Rattle.std.proofs.Common.{◌≡◌, ◌≢◌, ℕ, ◌+◌, ◌%◌, ◌≤◌, inl, inr, arith}
use Rattle.std.proofs.lemmas.Bool.{cases_lt}
use Rattle.rv_image.specs.MemoryMap.{DATA_END, PART_SIZE}
use Rattle.rv_word.specs.Memory.{Memory}
use Rattle.rv_word.specs.Same.{SameOn}
use Rattle.cfi_unit.specs.Context.{SameOutside}
use Rattle.cfi_unit.specs.Laws.{OthersKeep}
use Rattle.cfi_unit.proofs.Changed.{in_place_changed}
use Rattle.cfi_unit.proofs.Context.{kept_changed}

-- parts of two harts do not overlap
pub other_part : (part other : ℕ) (m m' : Memory) → part % PART_SIZE ≡ 0 → other % PART_SIZE ≡ 0 → part ≢ other →
    DATA_END ≤ other → SameOutside part m m' → SameOn other (other + PART_SIZE) m m'
other_part part other m m' round others_round apart high same k from to =
    elim (cases_lt k part) [
      | inl below ↦ same k (omega arith) (inl below)
      | inr above ↦ same k (omega arith) (inr (omega arith))
    ]

pub others_keep : OthersKeep
others_keep p part image base place at pending r h m m' most code own = (
  λ kept. kept_changed most kept m' code own,
  λ i. in_place_changed part m m' own p image place at pending r h i,
)
