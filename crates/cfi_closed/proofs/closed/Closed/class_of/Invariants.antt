use Rattle.std.proofs.Common.{◌≡◌, ◌+◌, ◌*◌, ◌^◌, ◌≤◌, drop}
use Rattle.std.specs.Prelude.{option_map}
use Rattle.cfi_closed.specs.Closed.{class_among}
use Rattle.cfi_closed.proofs.closed.Closed.class_of.Given as goal

abbrev pub invariant-loop-side : goal.invariant-loop-side
invariant-loop-side l =
    (option_map (λ k. l.before + k) (class_among (drop l.side-index l.side-items) l.place) ≡ class_among l.self.sides l.place) × (l.before ≤ l.side-index * 2 ^ 63)
