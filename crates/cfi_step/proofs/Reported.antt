-- How a run begins, and what its report says when it is over.
use Rattle.std.proofs.Common.{◌≡◌, ◌<◌, ℕ, List, [], ◌∷◌, length, map, None, Some, refl, sym, ◌∙◌, ap, subst, arith}
use Rattle.std.specs.Prelude.{slice_get}
use Rattle.std.specs.List.{All}
use Rattle.std.proofs.lemmas.List.{length-map}
use Rattle.std.proofs.lemmas.Option.{slice_get-map}
use Rattle.rv_image.specs.Image.{Contents}
use Rattle.rv_image.specs.MemoryMap.{MayRun, Profile, profile_of}
use Rattle.rv_word.proofs.Cases.{mapped}
use Rattle.rv_code.specs.State.{Harts, Shared, last_exit, start_hart, start_shared}
use Rattle.rv_machine.specs.Harts.{harts_in, harts_share}
use Rattle.cfi_graph.specs.Graph.{GraphParts}
use Rattle.cfi_unit.specs.Prologue.{OPENING}
use Rattle.cfi_rules.specs.Along.{AreStepsOf, IsSafe}
use Rattle.cfi_rules.specs.Split.{code_words}
use Rattle.cfi_rules.specs.Taken.{steps_taken}
use Rattle.cfi_rules.specs.Walks.{IsGraphWalk, IsWalked, walk_of}
use Rattle.cfi_rules.proofs.Starts.{machine_may_start}
use Rattle.cfi_rules.proofs.Trails.{safe_stays}
use Rattle.cfi_rules.proofs.Walks.{safe_walks}
use Rattle.cfi_script.specs.Plan.{Plan, Planned, harts_of, numbered, planned, steps_of}
use Rattle.cfi_script.specs.Turns.{turns_of}
use Rattle.cfi_step.specs.Report.{AreWalked, IsReport, IsWalkOf, stopping_hart}
use Rattle.rv_code.specs.SameMachine.{IsSameMachine}
use Rattle.cfi_step.specs.Running.{IsBegun, IsOver, StaysFrom}
use Rattle.cfi_step.specs.Taken.{AreTurnsOf}
use Rattle.cfi_step.specs.Trail.{IsTrailOf, told_of}
use Rattle.cfi_step.specs.declared.report.HartWalk.{HartWalk}
use Rattle.cfi_step.specs.declared.report.RunEnd.{RunEnd}
use Rattle.cfi_step.specs.declared.report.RunReport.{RunReport}
use Rattle.cfi_step.specs.declared.running.Running.{Running}

-- a run of a safe pair that is to begin
pub begins : (p : Profile) (image : Contents) (graph : GraphParts) (input : List ℕ) (count : ℕ) (running : Running) → IsSafe p image graph → MayRun p count
    → length running.machine.resting ≡ count → harts_in running.machine ≡ start_hart → harts_share running.machine ≡ start_shared image input
    → IsSameMachine (profile_of running.machine.processor.memory.version) p → running.made ≡ [] → AreTurnsOf [] running.taken → running.taken.hart ≡ 0 → running.taken.since ≡ 0
    → running.machine.current ≡ 0 → length running.trails.items ≡ count → All (IsTrailOf []) running.trails.items → running.quiet ≡ 0
    → last_exit (harts_share running.machine).events ≡ None → IsBegun p image running
begins p image graph input count running safe may counted harts shared profile made taken last since current each empty quiet going = record {
  profile = profile;
  made = made;
  taken = taken;
  last = last;
  since = since;
  current = current;
  some = omega (arith, may.some, counted);
  each = each ∙ sym counted;
  empty = empty;
  quiet = quiet;
  going = going;
  stays = (
    λ k. 0,
    subst (λ (n : ℕ). StaysFrom p image n (λ k. 0) (harts_in running.machine) (harts_share running.machine)) (sym counted)
        (subst (λ (hs : Harts). StaysFrom p image count (λ k. 0) hs (harts_share running.machine)) (sym harts)
        (subst (λ (s : Shared). StaysFrom p image count (λ k. 0) start_hart s) (sym shared)
        (λ steps all k. safe_stays p image graph count start_hart (start_shared image input) steps k safe may (machine_may_start image input count) all))),
  );
}

-- a run that is over, where its count of harts and the state at its start have other names
pub over_so : (p : Profile) (image : Contents) (plan : Plan) (n count : ℕ) (before harts : Harts) (first s : Shared) (limit : ℕ) (end : RunEnd) (k : ℕ) (after : Running) → n ≡ count → before ≡ harts → first ≡ s
    → IsOver p image n before first (planned p plan n 0 before first limit) end k after → IsOver p image count harts s (planned p plan count 0 harts s limit) end k after
over_so p image plan n count before harts first s limit end k after counted same shared over =
    subst (λ (x : ℕ). IsOver p image x harts s (planned p plan x 0 harts s limit) end k after) counted
    (subst (λ (x : Harts). IsOver p image n x s (planned p plan n 0 x s limit) end k after) same
    (subst (λ (x : Shared). IsOver p image n before x (planned p plan n 0 before x limit) end k after) shared over))

-- a report, by what it has of a run that is over
pub record Tells (end : RunEnd) (k : ℕ) (after : Running) (report : RunReport) : Type 0 where
  pub ended : report.end ≡ end
  pub hart : (harts : List ℕ) → AreTurnsOf harts after.taken → report.hart ≡ stopping_hart end harts
  pub steps : report.steps ≡ k
  pub turns : (harts : List ℕ) → length harts ≡ k → AreTurnsOf harts after.taken → report.turns ≡ turns_of harts
  pub output : report.output ≡ after.machine.processor.calls.output
  pub events : report.events ≡ after.machine.processor.calls.events
  pub made : report.made ≡ after.made
  pub walks : report.walks ≡ map told_of after.trails.items

module _ (p : Profile) (image : Contents) (input : List ℕ) (count : ℕ) (whole : List Planned) (end : RunEnd) (k : ℕ) (after : Running) (report : RunReport)
    (over : IsOver p image count start_hart (start_shared image input) whole end k after) (tells : Tells end k after report) where
  pub all_turns : report.turns ≡ turns_of (harts_of whole)
  all_turns = tells.turns (harts_of whole) (length-map whole (λ t. t.0) ∙ sym over.number) over.taken

  pub all_made : report.made ≡ numbered 0 whole
  all_made = tells.made ∙ over.made

  walk_told : (j : ℕ) (told : HartWalk) → slice_get report.walks j ≡ Some told
      → IsWalkOf (walk_of p (code_words image.code) j (steps_taken p start_hart (start_shared image input) (steps_of whole))) told
  walk_told j told at =
      let there : slice_get (map told_of after.trails.items) j ≡ Some told = rw tells.walks at at in
      let (t, first, is) = mapped told_of (slice_get after.trails.items j) told (sym (slice_get-map told_of after.trails.items j) ∙ there) in
      let trail = over.walks j t first in
      subst (λ (w : HartWalk). IsWalkOf (walk_of p (code_words image.code) j (steps_taken p start_hart (start_shared image input) (steps_of whole))) w) is
      (record { walk = trail.0; trail = trail.1 })

  pub reports : IsReport p image input count whole report
  reports = record {
    end = over.ending ∙ ap Some (sym tells.ended);
    hart = tells.hart (harts_of whole) over.taken ∙ ap (λ (e : RunEnd). stopping_hart e (harts_of whole)) (sym tells.ended);
    steps = tells.steps ∙ over.number;
    turns = all_turns;
    output = tells.output ∙ over.output;
    events = tells.events ∙ over.events;
    made = all_made;
    harts = ap length tells.walks ∙ length-map after.trails.items told_of ∙ over.each;
    walks = walk_told;
  }

-- the walks of such a report
module _ (p : Profile) (image : Contents) (graph : GraphParts) (input : List ℕ) (count : ℕ) (whole : List Planned) (report : RunReport)
    (safe : IsSafe p image graph) (may : MayRun p count) (allowed : AreStepsOf count (steps_of whole)) (reported : IsReport p image input count whole report) where
  from_opening : (k : ℕ) (told : HartWalk) → 0 < told.walk → (walk : List ℕ) → walk_of p (code_words image.code) k (steps_taken p start_hart (start_shared image input) (steps_of whole)) ≡ walk
      → IsWalkOf walk told → IsGraphWalk p (code_words image.code) graph.lines walk → (addresses : List ℕ) × (walk_of p (code_words image.code) k (steps_taken p start_hart (start_shared image input) (steps_of whole)) ≡ OPENING ∷ addresses) × IsWalkOf (OPENING ∷ addresses) told × IsWalked p image addresses
  from_opening k told some [] same is steps = let none = is.walk in absurd (omega arith)
  from_opening k told some (v ∷ addresses) same is steps =
      let first : (v ∷ addresses) ≡ OPENING ∷ addresses = ap (λ (a : ℕ). a ∷ addresses) steps.0 in (
        addresses,
        same ∙ first,
        subst (λ (walk : List ℕ). IsWalkOf walk told) first is,
        record {
          count = count;
          harts = start_hart;
          shared = start_shared image input;
          steps = steps_of whole;
          hart = k;
          may = may;
          start = machine_may_start image input count;
          allowed = allowed;
          walk = same ∙ first;
        },
      )

  pub are_walked : AreWalked p image (steps_taken p start_hart (start_shared image input) (steps_of whole)) report
  are_walked k told at some =
      from_opening k told some (walk_of p (code_words image.code) k (steps_taken p start_hart (start_shared image input) (steps_of whole))) refl (reported.walks k told at)
      (safe_walks p image graph count start_hart (start_shared image input) (steps_of whole) k safe may (machine_may_start image input count) allowed)
