use Rattle.std.proofs.Common.{◌≡◌, ◌+◌, ◌*◌, ◌^◌, ◌≤◌, drop, length}
use Rattle.cfi_closed.specs.Closed.{classes_of}
use Rattle.cfi_closed.proofs.closed.Closed.classes.Given as goal

abbrev pub invariant-loop-side : goal.invariant-loop-side
invariant-loop-side l =
    (l.count + length (classes_of (drop l.side-index l.side-items)) ≡ length (classes_of l.self.sides)) × (l.count ≤ l.side-index * 2 ^ 63)
