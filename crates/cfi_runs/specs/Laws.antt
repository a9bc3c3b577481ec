-- What a unit, the opening and the closing come to where nothing is disturbed, in the form from which
-- the next unit's run goes on: after one step, and then within at most as many steps as each has words
-- more.
use Rattle.std.specs.Prelude.{ℕ, ◌-◌, List, length}
use Rattle.rv_image.specs.MemoryMap.{Profile}
use Rattle.rv_word.specs.Memory.{Memory}
use Rattle.rv_code.specs.State.{Hart, Shared}
use Rattle.rv_code.specs.Step.{step}
use Rattle.cfi_unit.specs.declared.unit.Unit as U
use Rattle.cfi_unit.specs.UnitWords.{word_count}
use Rattle.cfi_unit.specs.Prologue.{opening_instrs, closing_instrs}
use Rattle.cfi_unit.specs.Between.{Unchanged}
use Rattle.cfi_unit.specs.EffectLaw.{Enters, UnitIsDone}
use Rattle.cfi_unit.specs.PrologueEffect.{OpeningDoes, ClosingDoes, EntersOpening, EntersClosing}
use Rattle.cfi_runs.specs.Within.{Within}

abbrev pub UnitRuns : Type 0
UnitRuns =
    (p : Profile) (part : ℕ) (image base : Memory) (unit : U.Unit) (at : ℕ) (pending : List ℕ) (h : Hart) (s : Shared) →
    Enters p part image base unit at pending h s →
    Within p (word_count unit - 1) (UnitIsDone p part image base Unchanged h s unit at pending) (step p h s)

abbrev pub OpeningRuns : Type 0
OpeningRuns =
    (p : Profile) (image base : Memory) (entry hart : ℕ) (h : Hart) (s : Shared) → EntersOpening p image base entry hart h s →
    Within p (length (opening_instrs p entry) - 1) (OpeningDoes p image base Unchanged entry hart h s) (step p h s)

abbrev pub ClosingRuns : Type 0
ClosingRuns =
    (p : Profile) (part : ℕ) (image base : Memory) (at : ℕ) (pending : List ℕ) (h : Hart) (s : Shared) →
    EntersClosing p part image base at pending h s →
    Within p (length closing_instrs - 1) (ClosingDoes p Unchanged h s) (step p h s)
