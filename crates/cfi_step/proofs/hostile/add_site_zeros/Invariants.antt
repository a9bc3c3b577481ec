use Rattle.std.proofs.Common.{◌≡◌, ◌++◌}
use Rattle.rv_mem.specs.Cells.{memory_of}
use Rattle.cfi_step.specs.Hostile.{site_zeros}
use Rattle.cfi_step.proofs.hostile.add_site_zeros.Given as goal

abbrev pub invariant-loop-left : goal.invariant-loop-left
invariant-loop-left l =
    l.zeros.items ++ site_zeros (memory_of l.memory) l.sites l.address l.left ≡ l.initial.zeros.items ++ site_zeros (memory_of l.memory) l.sites l.from 512

abbrev pub decreases-loop-left : goal.decreases-loop-left
decreases-loop-left l = l.left
