-- A disturbed run: at each step one of the harts takes a step, before which any list of changes to data
-- bytes may happen.
use Rattle.std.specs.Prelude.{ℕ, ◌<◌, ◌^◌, ◌==◌, List, [], ◌∷◌, map, if◌then◌else◌}
use Rattle.std.specs.List.{AllByRecursion}
use Rattle.rv_image.specs.MemoryMap.{Profile, DATA_END}
use Rattle.rv_word.specs.Memory.{Memory}
use Rattle.rv_code.specs.State.{Hart, Harts, Shared, After, with_hart}
use Rattle.rv_code.specs.Step.{step}
use Rattle.rv_code.specs.declared.turn.Turn.{Turn}
use Rattle.rv_code.specs.declared.turn.Turn.TheVariants.{Ran, Exit, Break, LoadFault, StoreFault, FetchFault, Illegal}

-- one byte that is changed from outside
pub record ByteChange : Type 0 where
  pub address : ℕ
  pub byte : ℕ

-- changes are of data bytes alone
pub record IsDataChange (c : ByteChange) : Type 0 where
  pub address : c.address < DATA_END
  pub byte : c.byte < 2 ^ 8

-- the memory after changes, in order
abbrev pub changed : Memory → List ByteChange → Memory
changed m [] = m
changed m (c ∷ cs) = changed (λ k. if k == c.address then c.byte else m k) cs

abbrev pub disturbed : Shared → List ByteChange → Shared
disturbed s cs = record s { memory = changed s.memory cs }

-- the step that comes after changes
abbrev pub disturbed_step : Profile → Hart → Shared → List ByteChange → After
disturbed_step p h s cs = step p h (disturbed s cs)

-- what follows an instruction that ran, and nothing after a stop
abbrev pub if_ran : {A : Type 0} → Turn → List A → List A
if_ran Ran rest = rest
if_ran other rest = []

-- where a run is after a step: further on, unless the step stopped it
abbrev pub next_or_stop : {A : Type 0} → Turn → A → A → A
next_or_stop Ran after rest = rest
next_or_stop (Exit status) after rest = after
next_or_stop (Break pc) after rest = after
next_or_stop (LoadFault pc a) after rest = after
next_or_stop (StoreFault pc a) after rest = after
next_or_stop (FetchFault pc) after rest = after
next_or_stop (Illegal pc) after rest = after

-- the hart that takes a step, and the changes that come before it
pub record HartStep : Type 0 where
  pub hart : ℕ
  pub changes : List ByteChange

-- a step of one of so many harts, before which data alone changes
pub record IsStepOf (harts : ℕ) (t : HartStep) : Type 0 where
  pub hart : t.hart < harts
  pub changes : AllByRecursion IsDataChange t.changes

-- where a run is, and how its last step ended
pub record RunAfter : Type 0 where
  pub harts : Harts
  pub shared : Shared
  pub turn : Turn

abbrev pub stepped : Profile → Harts → Shared → HartStep → RunAfter
stepped p harts s t =
    let after = disturbed_step p (harts t.hart) s t.changes in
    record { harts = with_hart harts t.hart after.hart; shared = after.shared; turn = after.turn }

-- a run, a step at a time; a stop of one hart ends it
unfoldable pub run : Profile → Harts → Shared → List HartStep → RunAfter
run p harts s [] = record { harts = harts; shared = s; turn = Ran }
run p harts s (t ∷ rest) =
    let after = stepped p harts s t in
    next_or_stop after.turn after (run p after.harts after.shared rest)

-- where a run is for one of its harts
abbrev pub seen_by : ℕ → RunAfter → After
seen_by k after = record { hart = after.harts k; shared = after.shared; turn = after.turn }

-- the run of one hart alone, by the changes before each of its steps
abbrev pub alone : List (List ByteChange) → List HartStep
alone changes = map (λ cs. record { hart = 0; changes = cs }) changes

abbrev pub run_alone : Profile → Hart → Shared → List (List ByteChange) → After
run_alone p h s changes = seen_by 0 (run p (λ k. h) s (alone changes))
