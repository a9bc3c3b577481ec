use Rattle.rv_machine.proofs.Decoding.{code_none}
use Rattle.rv_machine.proofs.processor.Processor.with_data.Goals as goal

pub with_memory-requires : goal.with_memory-requires
with_memory-requires c = rw c.none.ensures (code_none c.args.init.now _ c.requires c.in_ok-memory.ensures.memory)
