-- What a unit, the opening and the closing do, undisturbed, in the form of runs.
use Rattle.std.proofs.Common.{◌-◌, length}
use Rattle.cfi_runs.proofs.Prelude.{After, word_count, opening_instrs, Unchanged, UnitIsDone, OpeningDoes, ClosingDoes}
use Rattle.cfi_unit.proofs.EffectRows.{unit_done_within, unchanged_harmless}
use Rattle.cfi_unit.proofs.PrologueEffect.{opening_does, closing_does}
use Rattle.cfi_runs.specs.Laws as law
use Rattle.cfi_runs.proofs.Calmly.{from_first}

pub unit_runs : law.UnitRuns
unit_runs p part image base unit at pending h s i =
    let Q : After → Type 0 = UnitIsDone p part image base Unchanged h s unit at pending in
    from_first p Q Q (λ b q. q) (word_count unit - 1) h s (unit_done_within p part image base unit at pending h s i)

pub opening_runs : law.OpeningRuns
opening_runs p image base entry hart h s i =
    let Q : After → Type 0 = OpeningDoes p image base Unchanged entry hart h s in
    from_first p Q Q (λ b q. q) (length (opening_instrs p entry) - 1) h s
    (opening_does Unchanged unchanged_harmless image base entry hart h s p i)

pub closing_runs : law.ClosingRuns
closing_runs p part image base at pending h s i =
    let Q : After → Type 0 = ClosingDoes p Unchanged h s in
    from_first p Q Q (λ b q. q) 1 h s (closing_does Unchanged unchanged_harmless p image base part at pending h s i)
