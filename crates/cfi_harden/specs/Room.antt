-- The room that data have.
use Rattle.std.specs.Prelude.{ℕ, ◌≤◌}
use Rattle.obj_program.specs.DataAtMap.{init_size}
use Rattle.obj_program.specs.Program.{Program}
use Rattle.cfi_writer.specs.Hardened.{INIT_ROOM}

-- where the stack's room begins, before which data end
abbrev pub DATA_ROOM : ℕ
DATA_ROOM = 0x0ff00000

-- data have room
pub record HasDataRoom (program : Program) : Type 0 where
  pub init : init_size program ≤ INIT_ROOM
  pub end : program.data_end ≤ DATA_ROOM
