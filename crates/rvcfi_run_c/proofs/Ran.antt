-- Outcome 0 is that of a run alone, and nothing but a run changes the output.
use Rattle.std.proofs.Common.{◌≡◌, ◌∙◌, ◌⊎◌, ℕ, inl, inr, List, Option, Result, Ok, Err, IfOk, IfErr, sym, ap, subst}
use Rattle.elf_image.specs.declared.refusal.ImageRefusal.TheVariants as faults
use Rattle.cfi_rules.specs.declared.reject.Reject.TheVariants as rejects
use Rattle.cfi_pair.specs.declared.opening.PairFault.TheVariants.{Image, Graph}
use Rattle.rv_word.specs.declared.end.End.{End}
use Rattle.cfi_launch.specs.declared.launching.LaunchFault.{LaunchFault}
use Rattle.rv_word.specs.declared.end.End.TheVariants.{Fault, NoMemory}
use Rattle.cfi_launch.specs.declared.launching.LaunchFault.TheVariants.{Pair, Script, Harts}
use Rattle.cfi_launch.specs.declared.launching.Launched.{Launched}
use Rattle.cfi_launch.specs.declared.launching.Launched.TheVariants.{Rejected, Ran}
use Rattle.cfi_launch.specs.Launch.{IsLaunchEnd, IsLaunchOf}
use Rattle.rvcfi_run_c.specs.Told.{IsRan, IsSaid, output_of, run_of}
use Rattle.rvcfi_run_c.specs.declared.told.RvcfiRun.{RvcfiRun}

module _ (image graph : List ℕ) (script : Option (List ℕ)) (input : List ℕ) (limit : ℕ) (before after : List ℕ) (run : RvcfiRun) where
  of_said : (said : Result Launched (End LaunchFault)) → IsSaid image graph script input limit said → run ≡ run_of said → after ≡ output_of said before
      → (run_of said).outcome ≡ 0 → IsRan image graph script input limit before after run
  of_said (Ok (Ran version report)) has is out zero = (version, report, has, is, out)
  of_said (Ok (Rejected (rejects.Length code given))) has is out zero = absurd (cc)
  of_said (Ok (Rejected (rejects.At rule address))) has is out zero = absurd (cc)
  of_said (Err (Fault (Pair (Image (faults.Short len))))) has is out zero = absurd (cc)
  of_said (Err (Fault (Pair (Image (faults.Byte offset))))) has is out zero = absurd (cc)
  of_said (Err (Fault (Pair (Image (faults.Long len))))) has is out zero = absurd (cc)
  of_said (Err (Fault (Pair (Graph line why)))) has is out zero = absurd (cc)
  of_said (Err (Fault (Script line why))) has is out zero = absurd (cc)
  of_said (Err (Fault (Harts count))) has is out zero = absurd (cc)
  of_said (Err NoMemory) has is out zero = absurd (cc)

  pub ran : (said : Result Launched (End LaunchFault)) → IsSaid image graph script input limit said → run ≡ run_of said → after ≡ output_of said before
      → run.outcome ≡ 0 → IsRan image graph script input limit before after run
  ran said has is out zero = of_said said has is out (sym (ap (λ (r : RvcfiRun). r.outcome) is) ∙ zero)

-- the output is as it was, or the outcome is 0
pub kept : (said : Result Launched (End LaunchFault)) (before after : List ℕ) (run : RvcfiRun) → run ≡ run_of said → after ≡ output_of said before
    → (run.outcome ≡ 0) ⊎ (after ≡ before)
kept (Ok (Ran version report)) before after run is out = inl (ap (λ (r : RvcfiRun). r.outcome) is)
kept (Ok (Rejected reject)) before after run is out = inr out
kept (Err end) before after run is out = inr out

-- what the call comes to, of the script that the text is
pub said : (image graph : List ℕ) (script text : Option (List ℕ)) (input : List ℕ) (limit : ℕ) (r : Result Launched (End LaunchFault)) → script ≡ text
    → IfOk r (IsLaunchOf image graph text input limit) → IfErr r (IsLaunchEnd image graph text) → IsSaid image graph script input limit r
said image graph script text input limit (Ok launched) is has _ =
    subst (λ (s : Option (List ℕ)). IsLaunchOf image graph s input limit launched) (sym is) has
said image graph script text input limit (Err end) is _ has =
    subst (λ (s : Option (List ℕ)). IsLaunchEnd image graph s end) (sym is) has
