use Rattle.std.proofs.Common.{◌≡◌, ◌+◌, ◌*◌, ◌-◌, ◌++◌}
use Rattle.rv_mem.specs.Cells.{memory_of}
use Rattle.cfi_step.specs.Hostile.{sites_from}
use Rattle.cfi_step.proofs.hostile.sites.Given as goal

abbrev pub invariant-loop-k : goal.invariant-loop-k
invariant-loop-k l = l.sites.items ++ sites_from (memory_of l.memory) (l.first + 8 * l.k) (l.count - l.k) ≡ sites_from (memory_of l.memory) l.first l.count
