-- What matching is for, step by step, and where a program at a later store of a group stands. Laws alone cite this.
use Rattle.std.specs.Prelude.{◌≡◌, ℕ, zero, suc, ◌+◌, ◌-◌, ◌<◌, Bool, true, false, Option, Some, None, List}
use Rattle.rv_image.specs.Image.{Contents}
use Rattle.rv_code.specs.State.{After}
use Rattle.rv_code.specs.Step.{step}
use Rattle.obj_program.specs.Program.{item_of}
use Rattle.cfi_map.specs.GraphAtMap.{ProgramAtMap}
use Rattle.cfi_map.specs.Groups.{MOST_STORES, is_store}
use Rattle.cfi_map.specs.Source.{Source, source_start}
use Rattle.cfi_map.specs.SourceStep.{StepTurn, after_steps, ran, source_step}
use Rattle.cfi_map.specs.World.{SameWorld}
use Rattle.cfi_runs.specs.Within.{Within}
use Rattle.cfi_writer.specs.Units.{Choice}
use Rattle.cfi_meaning.specs.Bounds.{most_words}
use Rattle.cfi_meaning.specs.Hardened.{HoldsOf, HoldsOfWritten}
use Rattle.cfi_meaning.specs.ImageOf.{IsImageOf}
use Rattle.cfi_meaning.specs.LaterStores.{is_at_later}
use Rattle.cfi_meaning.specs.Matches.{Matches}
use Rattle.cfi_meaning.specs.Meaning.{EndsAs}

-- the image goes on at a matching state, or has ended
abbrev pub Answers : ProgramAtMap → Contents → StepTurn → Source → After → Type 0
Answers layout image ran st after = Matches layout image st after
Answers layout image other st after = EndsAs layout other st after

abbrev pub is_at_store : ProgramAtMap → Option ℕ → Bool
is_at_store layout None = false
is_at_store layout (Some k) = is_store (item_of layout.program k).kind

-- from a state at a store so many steps lead on to later stores alone, and to the state at the last of them
abbrev pub LeadsOver : ProgramAtMap → ℕ → Source → Source → Type 0
LeadsOver layout zero st last = last ≡ st
LeadsOver layout (suc n) st last =
    (is_at_store layout st.place ≡ true) × ((source_step layout st).turn ≡ ran) × (is_at_later layout (source_step layout st).state.place ≡ true)
    × LeadsOver layout n (source_step layout st).state last

-- from any state that matches, whatever led to it, one step and at most 20 more, or 21, come to a state that matches after the source
-- machine's next step, or end as that does; where that is a store with others behind its mask, after the last of these
abbrev pub KeepsStep : ProgramAtMap → Contents → Type 0
KeepsStep layout image =
    (st : Source) (after : After) (n : ℕ) (last : Source) → Matches layout image st after → is_at_later layout st.place ≡ false →
    LeadsOver layout n st last → is_at_later layout (source_step layout last).state.place ≡ false →
    Within layout.profile (most_words layout - 1) (Answers layout image (source_step layout last).turn (source_step layout last).state)
    (step layout.profile after.hart after.shared)

abbrev pub StepKept : Type 0
StepKept = (m : Choice) (image : Contents) → IsImageOf m image → KeepsStep m.layout image

-- of each hardened program
abbrev pub HardenedKeepsSteps : Type 0
HardenedKeepsSteps = HoldsOfWritten (HoldsOf KeepsStep)

-- the state of a run with an input after n steps is fewer than sixteen steps past one at no later store, and the stores between told the
-- world nothing: the input that is left, the output and the system calls are the same
pub record IsPastFirst (layout : ProgramAtMap) (input : List ℕ) (n : ℕ) (st : Source) : Type 0 where
  pub steps : ℕ
  pub fewer : steps < n
  pub near : n < steps + MOST_STORES
  pub first : Source
  pub runs : after_steps layout steps (source_start layout input) ≡ Some first
  pub no_later : is_at_later layout first.place ≡ false
  pub same : SameWorld st.shared first.shared

-- so it is at each later store of a run
abbrev pub StandsPastFirst : ProgramAtMap → List ℕ → Type 0
StandsPastFirst layout input =
    (n : ℕ) (st : Source) → after_steps layout n (source_start layout input) ≡ Some st → is_at_later layout st.place ≡ true →
    IsPastFirst layout input n st

-- with each input
abbrev pub HardenedPastFirst : Type 0
HardenedPastFirst = HoldsOfWritten (HoldsOf (λ layout image. (input : List ℕ) → StandsPastFirst layout input))
