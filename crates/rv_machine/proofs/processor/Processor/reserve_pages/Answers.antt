use Rattle.std.proofs.Common.{ap, refl}
use Rattle.rv_word.specs.Memory.{Memory}
use Rattle.rv_mem.specs.Cells.{memory_of}
use Rattle.rv_sys.specs.Calls.{shared_of}
use Rattle.rv_machine.proofs.Decoding.{code_same}
use Rattle.rv_machine.proofs.processor.Processor.reserve_pages.Goals as goal

pub invariant_of-self : goal.invariant_of-self
invariant_of-self c = record {
  code = code_same c.self.inside.code (memory_of c.self.inside.memory) (memory_of c.reserve_pages.new.self) c.reserve_pages.ensures.memory c.self.invariant.code;
  exit = c.self.invariant.exit;
}

pub returns : goal.returns
returns c = rw (← c.self.view_is) (record {
  hart = refl;
  shared = ap (λ (m : Memory). record (shared_of c.self.inside.memory c.self.inside.system) { memory = m }) c.reserve_pages.ensures.memory;
  room = c.reserve_pages.ensures.room;
  wants = c.reserve_pages.ensures.wants;
  kept = record { version = c.reserve_pages.ensures.version; room = c.reserve_pages.ensures.kept };
})
