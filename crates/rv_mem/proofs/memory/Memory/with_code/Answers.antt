use Rattle.std.proofs.Common.{arith}
use Rattle.rv_mem.proofs.InMemory.{memory_of-code, whole_with_code}
use Rattle.rv_mem.proofs.memory.Memory.with_code.Goals as goal

pub invariant_of-result : goal.invariant_of-result
invariant_of-result c = rw c.in_ok-from_slice.ensures.items (whole_with_code c.args.version c.args.code.now _ c.requires c.in_ok-new.ensures (λ k. omega (arith, c.type_inv.code k)))

pub returns-clause-memory : goal.returns-clause-memory
returns-clause-memory c = rw c.in_ok-from_slice.ensures.items (memory_of-code c.args.version c.args.code.now c.in_ok-new.field-0 c.requires c.in_ok-new.ensures)
