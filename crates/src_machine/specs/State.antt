-- What a source machine is made of, as the state of its program.
use Rattle.std.specs.Prelude.{◌≡◌, ℕ, ◌<◌, Option, Some, None, List}
use Rattle.std.specs.List.{All}
use Rattle.rv_machine.specs.Parts.{Parts, hart_in, shared_in}
use Rattle.obj_program.specs.Program.{Program}
use Rattle.cfi_map.specs.Source.{Source}
use Rattle.cfi_map.specs.SourceStep.{SourceAfter}
use Rattle.src_machine.specs.Told.{told}
use Rattle.src_machine.specs.declared.turn.SourceTurn.{SourceTurn}

pub record StateParts : Type 0 where
  pub place : Option ℕ
  pub processor : Parts
  -- the newest first
  pub pending : List ℕ

-- the pc of its processor says nothing
abbrev pub source_in : StateParts → Source
source_in parts = record { place = parts.place; regs = (hart_in parts.processor).regs; shared = shared_in parts.processor; pending = parts.pending }

-- what is told, and the state, are what a step leaves
pub record Leaves (program : Program) (after : SourceAfter) (told_turn : SourceTurn) (parts : StateParts) : Type 0 where
  pub turn : told_turn ≡ told program after.turn
  pub state : source_in parts ≡ after.state

-- a place is there
abbrev pub IsThere : ℕ → Option ℕ → Type 0
IsThere places None = Unit {0}
IsThere places (Some k) = k < places

-- where a state stands and what it returns to are places
pub record IsInside (places : ℕ) (st : Source) : Type 0 where
  pub place : IsThere places st.place
  pub pending : All (λ k. k < places) st.pending
