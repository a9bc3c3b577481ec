-- What a prepared program has before it is placed. Only private contracts cite this.
use Rattle.std.specs.Prelude.{◌≡◌, ℕ, ◌<◌, ◌^◌, true}
use Rattle.rv_image.specs.Form.{graph_version}
use Rattle.obj_program.specs.MapFit.{FitsMaps}
use Rattle.obj_program.specs.Program.{count, item_of}
use Rattle.obj_program.specs.Sound.{IsSound}
use Rattle.cfi_graph.specs.Calls.{may_be_calls}
use Rattle.cfi_writer.specs.GraphOf.{IsGraphOf}
use Rattle.cfi_harden.specs.Prepared.{PreparedParts}

-- a program with its closed graph and an entry that is there
pub record IsReady (p : PreparedParts) : Type 0 where
  pub sound : IsSound p.program
  pub words : (k : ℕ) → k < count p.program → (item_of p.program k).word < 2 ^ 32
  pub fits_maps : FitsMaps p.program
  pub graph : IsGraphOf p.program p.closed
  pub calls : may_be_calls p.closed.calls ≡ true
  pub version : p.closed.version ≡ graph_version p.form
  pub entered : p.entry < count p.program
