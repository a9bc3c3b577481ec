use Rattle.rv_mem.specs.Cells.{memory_of}
use Rattle.rv_mem.proofs.InMemory.{placed-byte}
use Rattle.rv_mem.proofs.memory.Memory.change.Goals as goal

pub returns-clause-changed : goal.returns-clause-changed
returns-clause-changed c = rw (c.addr.ensures.value, c.byte.ensures.value, placed-byte (memory_of c.args.self.now) c.args.change.0 c.args.change.1) at c.write_bytes.ensures.written
