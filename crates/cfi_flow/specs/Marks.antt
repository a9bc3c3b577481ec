-- Words of private contracts: marks of the places at which functions begin.
use Rattle.std.specs.Prelude.{◌≡◌, ℕ, ◌<◌, Bool, false, List, length, slice_index_or}
use Rattle.std.specs.List.{list_any}
use Rattle.obj_input.specs.declared.parts.Func.{Func}
use Rattle.obj_program.specs.Program.{Program, count, item_of}
use Rattle.cfi_flow.specs.Sites.{begins}

-- the places at which some of these functions begin
pub record AreBegun (program : Program) (funcs : List Func) (marks : List Bool) : Type 0 where
  pub size : length marks ≡ count program
  pub each : (k : ℕ) → k < count program → slice_index_or marks k false ≡ list_any (begins (item_of program k)) funcs
