use Rattle.std.proofs.Common.{◌≡◌, ◌+◌, ◌/◌, drop}
use Rattle.std.specs.List.{concat}
use Rattle.cfi_verify.proofs.Fed.{IsFed}
use Rattle.cfi_verify.proofs.pieces.feed_pieces.Given as goal

abbrev pub invariant-loop-piece : goal.invariant-loop-piece
invariant-loop-piece g l =
    IsFed (concat l.pieces) (concat (drop l.piece-index l.pieces)) l.fn.scan l.scan
    × (l.steps + l.fn.scan.seen.fed / 4 ≡ l.fn.steps + l.scan.seen.fed / 4)
