use Rattle.rv_machine.proofs.Exits.{none_yet}
use Rattle.rv_machine.proofs.processor.Processor.with_memory.Goals as goal

pub invariant_of-result : goal.invariant_of-result
invariant_of-result c = record {
  code = c.requires;
  exit = rw c.in_ok-system.ensures none_yet;
}
