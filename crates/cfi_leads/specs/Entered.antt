-- A program with its closed graph that is entered at a place.
use Rattle.std.specs.Prelude.{ℕ}
use Rattle.obj_program.specs.Program.{Program}
use Rattle.cfi_closed.specs.Closed.{ClosedGraph}

pub record Entered : Type 0 where
  pub program : Program
  pub closed : ClosedGraph
  pub entry : ℕ

abbrev pub entered_at : Program → ClosedGraph → ℕ → Entered
entered_at program closed entry = record { program = program; closed = closed; entry = entry }
