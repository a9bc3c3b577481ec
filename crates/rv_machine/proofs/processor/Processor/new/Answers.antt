use Rattle.std.proofs.Common.{◌*◌, ◌/◌, ◌≡◌, ap, arith, length}
use Rattle.rv_machine.proofs.Decoding.{code_loaded}
use Rattle.rv_machine.proofs.processor.Processor.new.Goals as goal

pub with_memory-requires : goal.with_memory-requires
with_memory-requires c =
    let size = c.code.ensures.size in
    let same = ap length c.code.ensures.value in
    let whole : 4 * (length c.code.result.now / 4) ≡ length c.args.image.now.code = omega (arith, size.words, same) in
    code_loaded c.args.image.now _ c.in_ok-code.code _ c.in_ok-memory.ensures.memory whole (omega (arith, size.most, same)) (omega (arith, size.data_most)) c.in_ok-code.ensures.len c.in_ok-code.ensures.each
