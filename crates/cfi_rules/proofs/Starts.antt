-- The machine starts where runs may start.
use Rattle.std.proofs.Common.{refl}
use Rattle.rv_code.specs.State.{last_exit}
use Rattle.cfi_rules.specs.Laws.{MachineMayStart}

pub machine_may_start : MachineMayStart
unfolding last_exit
machine_may_start image input count = record { pc = λ k below. refl; number = λ k below. refl; code = λ k low high. refl; going = refl }
