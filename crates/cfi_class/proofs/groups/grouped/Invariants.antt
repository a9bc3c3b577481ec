use Rattle.cfi_class.proofs.Grouping.{Grouped}
use Rattle.cfi_class.proofs.groups.grouped.Given as goal

abbrev pub invariant-loop-i : goal.invariant-loop-i
invariant-loop-i l = Grouped l.targets l.numbers l.i l.places.items l.groups.items
