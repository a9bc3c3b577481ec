use Rattle.std.specs.Prelude.{◌≡◌, ◌-◌, None}
use Rattle.src_machine.proofs.Prelude.{first_below, is_wrong, stores_before}
use Rattle.src_machine.proofs.legal.first_wrong.Given as goal

abbrev pub invariant-loop-j : goal.invariant-loop-j
invariant-loop-j l = (first_below (is_wrong l.form l.grouping l.lines) l.j ≡ None) × (l.before ≡ stores_before l.grouping l.lines (l.j - 1))
