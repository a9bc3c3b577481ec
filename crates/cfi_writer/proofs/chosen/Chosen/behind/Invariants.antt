use Rattle.std.proofs.Common.{◌≡◌, ◌+◌, ◌-◌, ◌≤◌}
use Rattle.cfi_writer.specs.Units.{later_from}
use Rattle.cfi_writer.proofs.chosen.Chosen.behind.Given as goal

abbrev pub invariant-loop-j : goal.invariant-loop-j
invariant-loop-j l = (l.k + 1 ≤ l.j) × (later_from l.self (l.k + 1) ≡ (l.j - (l.k + 1)) + later_from l.self l.j)
