-- A program at a map, as it is kept with the words of its places. Only a model cites this.
use Rattle.std.specs.Prelude.{◌≡◌, ℕ, ◌<◌, ◌^◌, List, length, slice_index}
use Rattle.std.specs.List.Sorted.{IsStrictlyIncreasing}
use Rattle.rv_image.specs.Form.{graph_version}
use Rattle.rv_image.specs.declared.form.Form.{Form}
use Rattle.obj_program.specs.Program.{count}
use Rattle.cfi_map.specs.GraphAtMap.{ProgramAtMap, words_at}

pub record IsMapped (form : Form) (layout : ProgramAtMap) (words : List ℕ) : Type 0 where
  -- its closed graph is for graphs of its form
  pub version : layout.closed.version ≡ graph_version form
  -- each place has a gate, in 32 bits; gates rise
  pub counted : length layout.gates ≡ count layout.program
  pub near : (k : ℕ) → slice_index layout.gates k < 2 ^ 32
  pub rising : IsStrictlyIncreasing layout.gates
  pub words_are : words ≡ words_at layout
  pub entry : layout.entry < count layout.program
