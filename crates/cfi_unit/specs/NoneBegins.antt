-- No unit of a kind begins a list of words. Only private contracts cite it.
use Rattle.std.specs.Prelude.{◌≢◌, ℕ, List}
use Rattle.cfi_unit.specs.declared.pattern.End.{End}
use Rattle.cfi_unit.specs.declared.unit.Unit as U
use Rattle.cfi_unit.specs.UnitWords.{Begins}
use Rattle.cfi_unit.specs.ShapeOf.{shape_of}

abbrev pub NoneBegins : End → List ℕ → ℕ → Type 0
NoneBegins end words at = (unit : U.Unit) → Begins words at unit → (shape_of unit at).end ≢ end
