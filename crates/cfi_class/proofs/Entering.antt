-- What comes after a number stands for it.
use Rattle.std.proofs.Common.{◌≡◌, ℕ, ◌+◌, Some, ap, arith}
use Rattle.std.proofs.lemmas.Bool.{ne_eqb}
use Rattle.cfi_class.specs.Entries.{number_in}

pub entered : (n : ℕ) → number_in (n + 1) ≡ Some n
entered n = rw (ne_eqb (n + 1) 0 (λ same. omega arith)) (ap Some (omega arith))
