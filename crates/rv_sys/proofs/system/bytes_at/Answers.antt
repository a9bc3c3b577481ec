use Rattle.std.proofs.Common.{sym, ◌∙◌, arith}
use Rattle.rv_mem.specs.Cells.{memory_of}
use Rattle.rv_sys.proofs.BytesOf.{bytes_of-more, bytes_of-none}
use Rattle.rv_sys.proofs.system.bytes_at.Goals as goal

pub loop-k-init : goal.loop-k-init
loop-k-init c = c.in_ok-bytes.ensures.items ∙ sym (bytes_of-none (memory_of c.args.memory.now) c.args.addr)

pub loop-k-preserved : goal.loop-k-preserved
loop-k-preserved c =
    let more = bytes_of-more (memory_of c.args.memory.now) c.args.addr c.loop-k.k (omega arith) in
    rw (c.in_ok-push.ensures.items, c.loop-k.invariant, c.byte.ensures) (sym more)
