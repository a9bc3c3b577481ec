-- The whole undisturbed run of an image, of one hart, keeps the program's own run: wherever tame steps lead the
-- program, the machine comes to a matching state, in no more steps than the opening and the units of
-- the path have words; and where the program's next step ends its run, the machine's ends alike.
use Rattle.std.specs.Prelude.{ℕ, ◌+◌, ◌-◌, ◌/◌, ◌^◌, ◌<◌, ◌≤◌, ◌≡◌, List, [], replicate}
use Rattle.rv_image.specs.Image.{Contents, loaded}
use Rattle.rv_image.specs.MemoryMap.{DATA_START, IsProfile, Profile, SHADOW_START}
use Rattle.rv_word.specs.Memory.{placed, zeros}
use Rattle.rv_instr.specs.Registers.{cleared}
use Rattle.rv_code.specs.Run.{ByteChange, run_alone}
use Rattle.rv_code.specs.State.{Shared, After, start_hart, start_shared}
use Rattle.cfi_unit.specs.declared.unit.Unit as U
use Rattle.cfi_unit.specs.UnitWords.{word_count}
use Rattle.cfi_unit.specs.Prologue.{OPENING, opening_instrs, closing_instrs}
use Rattle.cfi_unit.specs.Stand.{Stand}
use Rattle.cfi_runs.specs.Matching.{MatchesAfter}
use Rattle.cfi_runs.specs.MatchLaws.{ComesTo}
use Rattle.cfi_runs.specs.Openings.{EntryFits}
use Rattle.cfi_runs.specs.Own.{Own, OwnAfter, own_step, own_closing, own_start}
use Rattle.cfi_runs.specs.OwnRuns.{OwnRuns, words_along}
use Rattle.cfi_runs.specs.Tame.{TameStep}

-- an image's run of one hart after so many steps
abbrev pub undisturbed : Profile → Contents → List ℕ → ℕ → After
undisturbed p image input m = run_alone p (start_hart 0) (start_shared image input) (replicate {A = List ByteChange} m [])

-- what the program's own run shares at its start: its memory has the initialised data alone
abbrev pub own_shared : Contents → List ℕ → Shared
own_shared image input = record { memory = placed zeros DATA_START image.init; left = input; output = []; events = [] }

-- the opening and the closing stand in an image of bytes
pub record HasPrologue (p : Profile) (image : Contents) (entry : ℕ) : Type 0 where
  pub is : IsProfile p
  pub bytes : (k : ℕ) → loaded image k < 2 ^ 8
  pub fits : EntryFits p.callee_saves p entry
  pub opening : Stand (loaded image) OPENING (opening_instrs p entry)
  pub closing : Stand (loaded image) p.closing closing_instrs

-- the opening's words
abbrev pub opening_words : Profile → ℕ
opening_words p = (p.closing - OPENING) / 4

abbrev pub CLOSING_WORDS : ℕ
CLOSING_WORDS = 2

module _ (p : Profile) (image : Contents) (input : List ℕ) where
  -- within so many steps the run is where this holds
  abbrev pub RunsTo : ℕ → (After → Type 0) → Type 0
  RunsTo most Q = (m : ℕ) × (m ≤ most) × Q (undisturbed p image input m)

  abbrev pub Ends : ℕ → OwnAfter → Type 0
  Ends most own = RunsTo most (MatchesAfter p.callee_saves SHADOW_START (loaded image) (loaded image) own)

  -- `o` is where the program's own run comes along a path
  pub record Keeps (entry : ℕ) (path : List U.Unit) (o : Own) : Type 0 where
    pub goes : RunsTo (opening_words p + words_along path) (ComesTo p.callee_saves SHADOW_START (loaded image) (loaded image) o)
    pub next : (unit : U.Unit) → TameStep p.callee_saves (loaded image) unit o →
        Ends (opening_words p + (words_along path + word_count unit)) (own_step p o unit)
    pub closes : o.pc ≡ p.closing → Ends (opening_words p + (words_along path + CLOSING_WORDS)) (own_closing p o)

abbrev pub RunKeepsMatch : Type 0
RunKeepsMatch =
    (p : Profile) (image : Contents) (input : List ℕ) (entry : ℕ) (path : List U.Unit) (o : Own) →
    HasPrologue p image entry → OwnRuns p (loaded image) path (own_start p 0 entry cleared (own_shared image input)) o →
    Keeps p image input entry path o
