use Rattle.std.proofs.Common.{◌≡◌, ◌-◌, ◌++◌, length}
use Rattle.rv_machine.specs.Harts.{harts_in, harts_share}
use Rattle.cfi_step.specs.Hostile.{zeros_of_harts}
use Rattle.cfi_step.proofs.hostile.add_zeros_of_harts.Given as goal

abbrev pub invariant-loop-hart : goal.invariant-loop-hart
invariant-loop-hart l =
    l.zeros.items ++ zeros_of_harts (harts_share l.seen).memory (harts_in l.seen) l.hart (length l.seen.resting - l.hart)
    ≡ l.initial.zeros.items ++ zeros_of_harts (harts_share l.seen).memory (harts_in l.seen) 0 (length l.seen.resting)
