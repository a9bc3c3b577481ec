use Rattle.std.proofs.Common.{arith}
use Rattle.cfi_verify.proofs.Fed.{fed_more, next_piece}
use Rattle.cfi_verify.proofs.pieces.feed_pieces.Goals as goal

pub loop-piece-preserved : goal.loop-piece-preserved
loop-piece-preserved g c =
    let before = c.loop-piece.invariant.1 in
    let cost = c.feed.ensures.cost in (
      fed_more _ _ c.as_slice.result.now _ _ _ _ c.loop-piece.invariant.0
          (rw (c.as_slice.ensures, c.piece-item.is) (next_piece c.args.pieces.now c.loop-piece.piece-index _ c.loop-piece-test.true))
          (record { seen = c.feed.ensures.seen; versions = c.feed.ensures.versions; fed = c.feed.ensures.fed; graph = c.feed.ensures.graph }),
      omega arith,
    )
