use Rattle.std.proofs.Common.{◌≡◌, take}
use Rattle.obj_program.specs.Pieces.{bytes_of}
use Rattle.obj_program.proofs.initial_data.all_bytes.Given as goal

abbrev pub invariant-loop-piece : goal.invariant-loop-piece
invariant-loop-piece l = l.bytes.items ≡ bytes_of (take l.piece-index l.pieces)
