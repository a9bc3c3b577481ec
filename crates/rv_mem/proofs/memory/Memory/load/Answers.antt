use Rattle.rv_image.specs.Image.{loaded}
use Rattle.rv_mem.proofs.memory.Memory.load.Goals as goal

pub returns-clause-memory : goal.returns-clause-memory
unfolding loaded
returns-clause-memory c = let a = c.with_contents.ensures.memory in rw (c.code.ensures.value, c.init.ensures) at a
