use Rattle.std.proofs.Common.{◌∙◌, ap}
use Rattle.rv_image.specs.MemoryMap.{DATA_START}
use Rattle.rv_word.specs.Memory.{Memory, placed}
use Rattle.rv_mem.proofs.InMemory.{placed-swap}
use Rattle.rv_mem.proofs.memory.Memory.with_contents.Goals as goal

pub returns-clause-memory : goal.returns-clause-memory
returns-clause-memory c = c.in_ok-write_bytes.ensures.written ∙ ap (λ (m : Memory). placed m DATA_START c.args.init.now) c.in_ok-memory.ensures.memory
    ∙ placed-swap c.args.code.now c.args.init.now c.requires.init
