-- What placing a prepared program comes to, where only want of memory is free. Only private contracts cite this.
use Rattle.std.specs.Prelude.{Result, Ok, Err}
use Rattle.rv_word.specs.declared.end.End.{End}
use Rattle.rv_word.specs.declared.end.End.TheVariants.{Fault, NoMemory}
use Rattle.refusals.specs.declared.refusal.Refusal.{Refusal}
use Rattle.cfi_map.specs.Placing.{Spaced}
use Rattle.cfi_harden.specs.Fitting.{IsFitting, RefusesPlaced}
use Rattle.cfi_harden.specs.Prepared.{PreparedParts}

abbrev pub FitsOr : PreparedParts → Result Spaced (End Refusal) → Type 0
FitsOr p (Ok s) = IsFitting p s
FitsOr p (Err (Fault refusal)) = RefusesPlaced p refusal
FitsOr p (Err NoMemory) = Unit {0}
