-- The run of a hart alone: its begun instructions, and what safety says of it.
use Rattle.std.proofs.Common.{◌≡◌, ◌<◌, ℕ, Bool, List, [], ◌∷◌, refl, subst, Option, Some, None, arith}
use Rattle.std.specs.Prelude.{◌==◌, if◌then◌else◌}
use Rattle.std.specs.List.{AllByRecursion}
use Rattle.std.proofs.lemmas.Bool.{eq-eqb}
use Rattle.rv_image.specs.Image.{Contents}
use Rattle.rv_image.specs.MemoryMap.{MayRun, Profile}
use Rattle.rv_image.proofs.Profiles.{LaidOut}
use Rattle.rv_code.specs.Run.{ByteChange, disturbed}
use Rattle.rv_code.specs.State.{Hart, Shared, start_hart, start_shared}
use Rattle.rv_code.specs.Step.{step}
use Rattle.rv_code.specs.declared.turn.Turn.TheVariants.{Ran}
use Rattle.cfi_graph.specs.Graph.{GraphParts}
use Rattle.cfi_graph.specs.declared.line.GraphLine.{GraphLine}
use Rattle.cfi_rules.specs.Along.{Walk, Walks, Begun, GoesOn, IsSafe, RunsAlong, with_walk}
use Rattle.cfi_rules.specs.Split.{code_words, place_at}
use Rattle.cfi_rules.specs.Taken.{TakenStep, steps_taken}
use Rattle.cfi_rules.specs.Trails.{IsInPlace, trail_of}
use Rattle.cfi_rules.proofs.Reading.{safe_as_recognised}
use Rattle.cfi_rules.proofs.Starts.{machine_may_start}
use Rattle.cfi_rules.proofs.Taken.{AreDataChanges, alone_taken, may_come, steps_of, taken_alone}
use Rattle.cfi_rules.proofs.Trails.{safe_stays}

pub one_may_run : (p : Profile) → LaidOut p → MayRun p 1
one_may_run p laid = record { some = omega arith; most = laid.some }

-- the run of a hart alone, `k`, goes along the graph, with its own part of the shadow stack
abbrev pub AloneAlong : Profile → ℕ → Contents → List ℕ → List GraphLine → Option Walk → Hart → Shared → List (List ByteChange) → Type 0
AloneAlong p k image words lines before h s [] = Unit {0}
AloneAlong p k image words lines before h s (cs ∷ rest) =
    let now = disturbed s cs in
    let after = step p h now in
    let taken : TakenStep = record { hart = k; before = h; shared = now; after = after } in
    (w : Walk)
    × GoesOn p (place_at p words) lines before (place_at p words h.pc) taken w
    × Begun p image (place_at p words) w taken
    × (after.turn ≡ Ran → AloneAlong p k image words lines (Some w) after.hart after.shared rest)

module _ (p : Profile) (image : Contents) (words : List ℕ) (lines : List GraphLine) (k : ℕ) where
  pub alone_along : (changes : List (List ByteChange)) (walks : Walks) (h : Hart) (s : Shared) → RunsAlong p image (place_at p words) lines walks (taken_alone p k h s changes) →
      AloneAlong p k image words lines (walks k) h s changes
  alone_along [] walks h s r = tt
  alone_along (cs ∷ rest) walks h s r =
      let after = step p h (disturbed s cs) in (
        r.0,
        r.1,
        r.2,
        λ ran.
            let on : RunsAlong p image (place_at p words) lines (with_walk walks k r.0) (taken_alone p k after.hart after.shared rest) = rw ran at r.3 in
            let later : AloneAlong p k image words lines (if k == k then Some r.0 else walks k) after.hart after.shared rest =
            alone_along rest (with_walk walks k r.0) after.hart after.shared on in
            subst (λ (b : Bool). AloneAlong p k image words lines (if b then Some r.0 else walks k) after.hart after.shared rest) (eq-eqb k k refl) later,
      )

-- what safety says of one hart alone
pub safe_along_alone : (p : Profile) (image : Contents) (graph : GraphParts) (input : List ℕ) (harts k : ℕ) (changes : List (List ByteChange)) →
    IsSafe p image graph → MayRun p harts → k < harts → AreDataChanges changes →
    AloneAlong p k image (code_words image.code) graph.lines None (start_hart k) (start_shared image input) changes
safe_along_alone p image graph input harts k changes safe may below low =
    alone_along p image (code_words image.code) graph.lines k changes (λ j. None) (start_hart k) (start_shared image input)
    (subst (λ (taken : List TakenStep). RunsAlong p image (place_at p (code_words image.code)) graph.lines (λ j. None) taken)
    (alone_taken p k changes start_hart (start_shared image input))
    (safe_as_recognised p image graph safe harts may start_hart (start_shared image input) (machine_may_start image input harts) (steps_of k changes) (may_come harts k below changes low)))

-- and of the begun instructions of hart 0 alone
pub safe_stays_alone : (p : Profile) (image : Contents) (graph : GraphParts) (input : List ℕ) (changes : List (List ByteChange)) → LaidOut p → IsSafe p image graph → AreDataChanges changes →
    AllByRecursion (IsInPlace p (code_words image.code)) (trail_of p (code_words image.code) 0 0 (steps_taken p start_hart (start_shared image input) (steps_of 0 changes)))
safe_stays_alone p image graph input changes laid safe low =
    safe_stays p image graph 1 start_hart (start_shared image input) (steps_of 0 changes) 0 safe (one_may_run p laid) (machine_may_start image input 1) (may_come 1 0 (omega arith) changes low)
