use Rattle.std.proofs.Common.{[]}
use Rattle.rv_image.specs.MemoryMap.{CODE_START, DATA_START}
use Rattle.rv_word.specs.Memory.{placed, zeros}
use Rattle.rv_mem.proofs.Placed.{placed-none}
use Rattle.rv_mem.proofs.memory.Memory.new.Goals as goal

pub returns-clause-memory : goal.returns-clause-memory
returns-clause-memory c = let a = c.with_contents.ensures.memory in rw (← placed-none (placed zeros DATA_START []) CODE_START, ← placed-none zeros DATA_START) at a
