-- The machine keeps the program's own run: from a matching state each tame step is matched within as
-- many steps of the machine as its unit has words, so a path of them within as many as all have.
use Rattle.std.specs.Prelude.{◌≡◌, ℕ, ◌-◌, ◌^◌, ◌<◌, Bool, List, length}
use Rattle.rv_image.specs.MemoryMap.{Profile, part_of}
use Rattle.rv_word.specs.Memory.{Memory}
use Rattle.rv_instr.specs.Registers.{Registers}
use Rattle.rv_code.specs.State.{Hart, Shared, After}
use Rattle.rv_code.specs.Step.{step, stops}
use Rattle.rv_code.specs.declared.turn.Turn.TheVariants.{Ran}
use Rattle.cfi_unit.specs.declared.unit.Unit as U
use Rattle.cfi_unit.specs.UnitWords.{word_count}
use Rattle.cfi_unit.specs.Prologue.{opening_instrs, closing_instrs}
use Rattle.cfi_unit.specs.Shadow.{IsPart}
use Rattle.cfi_unit.specs.Stand.{Stand}
use Rattle.cfi_unit.specs.Leaving.{SameRegisters}
use Rattle.cfi_runs.specs.Matching.{SameData, Matches, MatchesAfter}
use Rattle.cfi_runs.specs.Openings.{AtOpening}
use Rattle.cfi_runs.specs.Own.{Own, own_step, own_closing, own_start}
use Rattle.cfi_runs.specs.OwnRuns.{OwnRuns, SitesFit, words_along}
use Rattle.cfi_runs.specs.Tame.{TameStep}
use Rattle.cfi_runs.specs.Within.{Within}

-- the run goes on, at a state that matches
abbrev pub ComesTo : Bool → ℕ → Memory → Memory → Own → After → Type 0
ComesTo masked part image base o after = (after.turn ≡ Ran) × Matches masked part image base o after.hart after.shared

abbrev pub UnitKeepsMatch : Type 0
UnitKeepsMatch =
    (p : Profile) (part : ℕ) (image base : Memory) (unit : U.Unit) (o : Own) (h : Hart) (s : Shared) →
    IsPart p part → ((k : ℕ) → image k < 2 ^ 8) → SitesFit o.pending → TameStep p.callee_saves image unit o → Matches p.callee_saves part image base o h s →
    Within p (word_count unit - 1) (MatchesAfter p.callee_saves part image base (own_step p o unit)) (step p h s)

abbrev pub PathKeepsMatch : Type 0
PathKeepsMatch =
    (p : Profile) (part : ℕ) (image base : Memory) (path : List U.Unit) (o o' : Own) (h : Hart) (s : Shared) →
    IsPart p part → ((k : ℕ) → image k < 2 ^ 8) → SitesFit o.pending → OwnRuns p image path o o' → Matches p.callee_saves part image base o h s →
    Within p (words_along path) (ComesTo p.callee_saves part image base o') (stops h s Ran)

abbrev pub OpeningKeepsMatch : Type 0
OpeningKeepsMatch =
    (p : Profile) (image base : Memory) (entry hart : ℕ) (r : Registers) (t : Shared) (h : Hart) (s : Shared) →
    AtOpening p image base entry hart h s → SameRegisters r h.regs → SameData t s →
    Within p (length (opening_instrs p entry) - 1) (ComesTo p.callee_saves (part_of hart) image base (own_start p hart entry r t)) (step p h s)

abbrev pub ClosingKeepsMatch : Type 0
ClosingKeepsMatch =
    (p : Profile) (part : ℕ) (image base : Memory) (o : Own) (h : Hart) (s : Shared) →
    IsPart p part → Stand image o.pc closing_instrs → Matches p.callee_saves part image base o h s →
    Within p (length closing_instrs - 1) (MatchesAfter p.callee_saves part image base (own_closing p o)) (step p h s)
