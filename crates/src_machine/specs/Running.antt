-- A run of a source machine, and one step of it.
use Rattle.std.specs.Prelude.{◌≡◌, ℕ, ◌+◌}
use Rattle.cfi_map.specs.GraphAtMap.{ProgramAtMap}
use Rattle.cfi_map.specs.Source.{Source}
use Rattle.cfi_map.specs.SourceStep.{source_step}
use Rattle.src_machine.specs.State.{StateParts, source_in}
use Rattle.src_machine.specs.Told.{told}
use Rattle.src_machine.specs.declared.turn.SourceTurn.{SourceTurn}
use Rattle.src_machine.specs.declared.turn.SourceTurn.TheVariants.{Untame}

-- a run: the program at its map, the state, and how many steps were taken
pub record SourceParts : Type 0 where
  pub layout : ProgramAtMap
  pub state : StateParts
  pub steps : ℕ

abbrev pub source_of : SourceParts → Source
source_of run = source_in run.state

-- an untame step is not taken
abbrev pub counted : SourceTurn → ℕ → ℕ
counted (Untame because section offset) steps = steps
counted other steps = steps + 1

-- one step of a run, and how it is told
pub record IsStep (before : SourceParts) (told_turn : SourceTurn) (after : SourceParts) : Type 0 where
  pub turn : told_turn ≡ told before.layout.program (source_step before.layout (source_of before)).turn
  pub state : source_of after ≡ (source_step before.layout (source_of before)).state
  pub steps : after.steps ≡ counted told_turn before.steps
  pub layout : after.layout ≡ before.layout

-- a run is as it was
pub record IsUnchanged (before after : SourceParts) : Type 0 where
  pub state : source_of after ≡ source_of before
  pub steps : after.steps ≡ before.steps
  pub layout : after.layout ≡ before.layout
