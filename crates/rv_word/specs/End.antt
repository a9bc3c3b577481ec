-- What an end of a call is said to be.
use Rattle.std.specs.Prelude.{◌≡◌, Option, Some}
use Rattle.rv_word.specs.declared.end.End.{End}
use Rattle.rv_word.specs.declared.end.End.TheVariants.{Fault, NoMemory}

-- where it is a fault, this is so of it; of want of memory nothing is said
abbrev pub OnFault : {E : Type 0} → (E → Type 0) → End E → Type 0
OnFault P (Fault fault) = P fault
OnFault P NoMemory = Unit {0}

-- it is a fault, and no want of memory
abbrev pub IsFault : {E : Type 0} → End E → Type 0
IsFault (Fault fault) = Unit {0}
IsFault NoMemory = ⊥

-- it is this fault
abbrev pub IsFaultOf : {E : Type 0} → Option E → End E → Type 0
IsFaultOf found (Fault fault) = found ≡ Some fault
IsFaultOf found NoMemory = ⊥
