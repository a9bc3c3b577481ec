-- Meaning kept: after n tame steps of the source machine, none of which ends the run, the undisturbed run of the image is at a
-- matching state within 21 n + 13 steps, unless the program is at a later store of a group; and where the next step ends the run, the
-- image's has ended alike within 21 (n + 1) + 13 in all. An image for several harts runs with one alone, and for 13 reads 17; with a graph of version 2 for 21 reads 22.
use Rattle.std.specs.Prelude.{◌≡◌, ℕ, ◌+◌, ◌≤◌, false, Some, List}
use Rattle.rv_image.specs.Image.{Contents}
use Rattle.rv_code.specs.State.{After}
use Rattle.rv_code.specs.declared.turn.Turn.TheVariants.{Exit, Break}
use Rattle.cfi_map.specs.GraphAtMap.{ProgramAtMap, word}
use Rattle.cfi_runs.specs.Matching.{SameData}
use Rattle.cfi_runs.specs.WholeRun.{RunsTo}
use Rattle.cfi_writer.specs.Units.{Choice}
use Rattle.cfi_meaning.specs.ImageOf.{IsImageOf}
use Rattle.cfi_meaning.specs.Bounds.{most_steps}
use Rattle.cfi_map.specs.Source.{Source, init_here, source_start}
use Rattle.cfi_map.specs.SourceStep.{StepTurn, after_steps, breaks, exits, source_step}
use Rattle.cfi_meaning.specs.Matches.{Matches}
use Rattle.cfi_meaning.specs.LaterStores.{is_at_later}

-- the image has ended as the source machine's step did: with its status, or at a break in no handler. Of a step that goes on or is
-- untame this says nothing
abbrev pub EndsAs : ProgramAtMap → StepTurn → Source → After → Type 0
EndsAs layout (exits status) st after = (after.turn ≡ Exit status) × SameData st.shared after.shared
EndsAs layout (breaks k) st after =
    (after.turn ≡ Break (word layout k)) × (layout.profile.units_from ≤ word layout k) × SameData st.shared after.shared
EndsAs layout other st after = Unit {0}

pub record KeepsMeaning (layout : ProgramAtMap) (image : Contents) (input : List ℕ) : Type 0 where
  pub goes : (n : ℕ) (st : Source) → after_steps layout n (source_start layout input) ≡ Some st → is_at_later layout st.place ≡ false →
      RunsTo layout.profile image input (most_steps layout n) (Matches layout image st)
  pub ends : (n : ℕ) (st : Source) → after_steps layout n (source_start layout input) ≡ Some st →
      RunsTo layout.profile image input (most_steps layout (n + 1)) (EndsAs layout (source_step layout st).turn (source_step layout st).state)

abbrev pub MeaningKept : Type 0
MeaningKept =
    (m : Choice) (image : Contents) (input : List ℕ) → IsImageOf m image → image.init ≡ init_here m.layout → KeepsMeaning m.layout image input
