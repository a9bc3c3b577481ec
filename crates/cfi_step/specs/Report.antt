-- The report of a run of one or several harts under changes: how it ended and by which hart, the number of its steps (the
-- one that stopped it is counted), whose turns they were, its output, its system calls, and each hart's walk, of which the
-- last sixteen addresses are kept.
use Rattle.std.specs.Prelude.{◌≡◌, ℕ, ◌-◌, ◌<◌, ◌==◌, List, [], ◌∷◌, drop, length, slice_get, Option, Some, None, if◌then◌else◌}
use Rattle.rv_image.specs.Image.{Contents}
use Rattle.rv_image.specs.MemoryMap.{Profile}
use Rattle.rv_code.specs.Run.{run}
use Rattle.rv_code.specs.State.{start_hart, start_shared}
use Rattle.rv_code.specs.declared.turn.Turn.{Turn}
use Rattle.rv_code.specs.declared.turn.Turn.TheVariants as turns
use Rattle.cfi_unit.specs.Prologue.{OPENING}
use Rattle.cfi_unit.specs.UnitWords.{BAD_TARGET, BAD_RETURN, DEEP}
use Rattle.cfi_rules.specs.Split.{code_words}
use Rattle.cfi_rules.specs.Taken.{TakenStep, steps_taken}
use Rattle.cfi_rules.specs.Walks.{IsWalked, walk_of}
use Rattle.cfi_script.specs.Plan.{Planned, harts_of, numbered, steps_of}
use Rattle.cfi_script.specs.Turns.{turns_of}
use Rattle.cfi_step.specs.declared.report.Handler.TheVariants as handlers
use Rattle.cfi_step.specs.declared.report.RunEnd.{RunEnd}
use Rattle.cfi_step.specs.declared.report.RunEnd.TheVariants.{Exit, Handler, Break, LoadFault, Limit}
use Rattle.cfi_step.specs.declared.report.HartWalk.{HartWalk}
use Rattle.cfi_step.specs.declared.report.RunReport.{RunReport}

-- a break at a handler is the handler's end
abbrev pub break_at : ℕ → RunEnd
break_at pc =
    if pc == BAD_TARGET then Handler handlers.BadTarget else
    if pc == BAD_RETURN then Handler handlers.BadReturn else
    if pc == DEEP then Handler handlers.Deep else Break pc

-- the end of a run whose last step ended so; no run of an accepted image has another one
abbrev pub end_of : Turn → Option RunEnd
end_of turns.Ran = Some Limit
end_of (turns.Exit status) = Some (Exit status)
end_of (turns.Break pc) = Some (break_at pc)
end_of (turns.LoadFault pc address) = Some (LoadFault pc address)
end_of (turns.StoreFault pc address) = None
end_of (turns.FetchFault pc) = None
end_of (turns.Illegal pc) = None

-- the last addresses of a walk, sixteen at most
abbrev pub trail : List ℕ → List ℕ
trail walk = drop (length walk - 16) walk

-- how many addresses a walk has, and the last of them
pub record IsWalkOf (addresses : List ℕ) (told : HartWalk) : Type 0 where
  pub walk : told.walk ≡ length addresses
  pub trail : told.trail ≡ trail addresses

-- the hart that took the last step
abbrev pub last_hart : List ℕ → ℕ
last_hart [] = 0
last_hart (h ∷ []) = h
last_hart (h ∷ k ∷ harts) = last_hart (k ∷ harts)

-- the hart that stopped the run; 0 where none did
abbrev pub stopping_hart : RunEnd → List ℕ → ℕ
stopping_hart Limit harts = 0
stopping_hart other harts = last_hart harts

-- a report of the run of an image with an input, by so many harts in these steps, each with the changes before it
pub record IsReport (p : Profile) (image : Contents) (input : List ℕ) (count : ℕ) (taken : List Planned) (report : RunReport) : Type 0 where
  pub end : end_of (run p start_hart (start_shared image input) (steps_of taken)).turn ≡ Some report.end
  pub hart : report.hart ≡ stopping_hart report.end (harts_of taken)
  pub steps : report.steps ≡ length taken
  pub turns : report.turns ≡ turns_of (harts_of taken)
  pub output : report.output ≡ (run p start_hart (start_shared image input) (steps_of taken)).shared.output
  pub events : report.events ≡ (run p start_hart (start_shared image input) (steps_of taken)).shared.events
  pub made : report.made ≡ numbered 0 taken
  pub harts : length report.walks ≡ count
  pub walks : (k : ℕ) (told : HartWalk) → slice_get report.walks k ≡ Some told
      → IsWalkOf (walk_of p (code_words image.code) k (steps_taken p start_hart (start_shared image input) (steps_of taken))) told

-- each walk of a report that has an address is the walk of its hart in these steps, from the opening on, and such a walk is one of a run
-- of the image
abbrev pub AreWalked : Profile → Contents → List TakenStep → RunReport → Type 0
AreWalked p image taken report =
    (k : ℕ) (told : HartWalk) → slice_get report.walks k ≡ Some told → 0 < told.walk
    → (addresses : List ℕ) × (walk_of p (code_words image.code) k taken ≡ OPENING ∷ addresses)
    × IsWalkOf (OPENING ∷ addresses) told × IsWalked p image addresses
