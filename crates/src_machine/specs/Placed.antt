-- A program that is placed, as a source machine keeps it. Only private contracts cite this.
use Rattle.std.specs.Prelude.{◌≡◌, ℕ, ◌<◌, false, Some, None, List, length, slice_index}
use Rattle.rv_code.specs.Decode.{decoded}
use Rattle.cfi_map_text.specs.Map.{MapParts}
use Rattle.obj_program.specs.Program.{Program, count, is_end, item_of}
use Rattle.cfi_closed.specs.Closed.{ClosedGraph}
use Rattle.cfi_map.specs.GraphAtMap.{ProgramAtMap, program_at}
use Rattle.cfi_map.specs.LegalMap.{gates_of}
use Rattle.cfi_map.specs.Source.{first_astray, instr_here}

-- the words of the first instructions with the values of their relocations
pub record AreRead (layout : ProgramAtMap) (n : ℕ) (code : List ℕ) : Type 0 where
  pub counted : length code ≡ n
  pub read : (k : ℕ) → k < n → is_end (item_of layout.program k).kind ≡ false → decoded (slice_index code k) ≡ Some (instr_here layout k)

-- those of all
abbrev pub HoldsItsWords : ProgramAtMap → List ℕ → Type 0
HoldsItsWords layout code = AreRead layout (count layout.program) code

-- a layout is that of a program at a map where each value is in range
pub record AreAt (program : Program) (closed : ClosedGraph) (map : MapParts) (entry : ℕ) (layout : ProgramAtMap) : Type 0 where
  pub layout_is : layout ≡ program_at map.form program closed (gates_of map.lines) entry
  pub in_range : first_astray layout ≡ None
