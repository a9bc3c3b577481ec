-- What holds of programs at maps.
use Rattle.std.specs.Prelude.{◌≡◌, ◌↔◌, ℕ, ◌<◌, true, false, None, is_some, List}
use Rattle.obj_program.specs.Program.{Program, count}
use Rattle.obj_program.specs.DataAtMap.{data_at}
use Rattle.obj_program.specs.Range.{is_astray, out_of_range}

-- no place is out of range where each instruction and the data have a value, and nowhere else
abbrev pub NoneOutOfRange : Type 0
NoneOutOfRange =
    (program : Program) (gates words : List ℕ) →
    (out_of_range program gates words ≡ None)
    ↔ (((k : ℕ) → k < count program → is_astray program gates words k ≡ false) × (is_some (data_at program gates) ≡ true))
