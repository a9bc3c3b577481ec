use Rattle.std.proofs.Common.{rules}
use Rattle.rv_image.specs.MemoryMap.{profile_of}
use Rattle.rv_mem.specs.Cells.{memory_of}
use Rattle.rv_machine.proofs.Decoding.{code_same, code_stored}
use Rattle.rv_machine.proofs.processor.Processor.store.Goals.{in-Err-Fault, in-Err-NoMemory, in-Ok}
use Rattle.rv_machine.proofs.processor.Processor.store.Goals as goal

pub invariant_of-self : goal.invariant_of-self
invariant_of-self c = record {
  code = elim c.match-stored.branch [
    | in-Ok w ↦ code_stored (profile_of c.self.inside.memory.version) c.self.inside.code _ _ _ _ _ (λ out. search rules) w.in-Ok.ensures.written c.self.invariant.code
    | in-Err-Fault w ↦ code_same c.self.inside.code (memory_of c.self.inside.memory) (memory_of c.stored.new.memory) w.in-Err-Fault.ensures.refused c.self.invariant.code
    | in-Err-NoMemory w ↦ code_same c.self.inside.code (memory_of c.self.inside.memory) (memory_of c.stored.new.memory) w.in-Err-NoMemory.ensures.refused c.self.invariant.code
  ];
  exit = c.self.invariant.exit;
}
