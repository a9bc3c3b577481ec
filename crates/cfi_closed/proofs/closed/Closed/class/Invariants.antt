use Rattle.std.proofs.Common.{◌≡◌, ◌<◌, [], drop, length}
use Rattle.std.specs.Prelude.{slice_index_or}
use Rattle.cfi_closed.specs.Closed.{classes_of}
use Rattle.cfi_closed.proofs.closed.Closed.class.Given as goal

abbrev pub invariant-loop-side : goal.invariant-loop-side
invariant-loop-side l =
    (slice_index_or (classes_of (drop l.side-index l.side-items)) l.left [] ≡ slice_index_or (classes_of l.self.sides) l.k []) × (l.left < length (classes_of (drop l.side-index l.side-items)))
