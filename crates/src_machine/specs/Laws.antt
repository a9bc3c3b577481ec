-- What holds of maps with a wrong line.
use Rattle.std.specs.Prelude.{◌≡◌, ◌↔◌, ℕ, take}
use Rattle.cfi_map_text.specs.Map.{MapParts}
use Rattle.obj_program.specs.Program.{Program}
use Rattle.cfi_closed.specs.Closed.{ClosedGraph}
use Rattle.cfi_map.specs.LegalMap.{IsLegalMap}
use Rattle.cfi_map.specs.MapFault.{BeginsLegal, IsWrongLine}

-- a map with a wrong line is not legal
abbrev pub WrongIsNotLegal : Type 0
WrongIsNotLegal =
    (program : Program) (closed : ClosedGraph) (entry : ℕ) (map : MapParts) (number : ℕ) → IsWrongLine program closed entry map number →
    IsLegalMap program closed entry map → ⊥

-- it has one first wrong line
abbrev pub OneIsFirst : Type 0
OneIsFirst =
    (program : Program) (closed : ClosedGraph) (entry : ℕ) (map : MapParts) (a b : ℕ) → IsWrongLine program closed entry map a →
    IsWrongLine program closed entry map b → a ≡ b

-- the first lines are legal for as many first places exactly where some legal map of the same form begins with them
abbrev pub BeginsAsLegal : Type 0
BeginsAsLegal =
    (program : Program) (closed : ClosedGraph) (entry : ℕ) (map : MapParts) (n : ℕ) →
    BeginsLegal program closed entry map n
    ↔ ((legal : MapParts) × IsLegalMap program closed entry legal × (legal.form ≡ map.form) × (take n map.lines ≡ take n legal.lines))
