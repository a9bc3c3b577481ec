use Rattle.std.proofs.Common.{◌≡◌, length, map, take}
use Rattle.std.specs.List.{All}
use Rattle.cfi_closed.specs.Closed.{IsSideInside, Side}
use Rattle.cfi_flow.specs.Closing.{IsSide}
use Rattle.cfi_flow.proofs.closing.close_sides.Given as goal

abbrev pub invariant-loop-sort : goal.invariant-loop-sort
invariant-loop-sort l =
    (map (λ (s : Side). s.sort) l.sides.items ≡ take l.sort-index l.sort-items) × All (IsSide l.raw) l.sides.items × All (IsSideInside (length l.raw.taken)) l.sides.items
