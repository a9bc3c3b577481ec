use Rattle.std.proofs.Common.{◌≡◌, ◌∙◌, ap, length, subst, sym}
use Rattle.cfi_rules.specs.Rules.{pair_profile}
use Rattle.rv_image.specs.MemoryMap.{profile_of}
use Rattle.rv_image.specs.declared.version.ImageVersion.{ImageVersion}
use Rattle.rv_code.specs.State.{Shared, last_exit, start_hart, start_shared}
use Rattle.rv_machine.specs.Harts.{harts_in, harts_share}
use Rattle.cfi_rules.proofs.Starts.{machine_may_start}
use Rattle.cfi_rules.proofs.Walks.{safe_walks}
use Rattle.cfi_script.specs.Plan.{harts_of, planned, steps_of}
use Rattle.cfi_script.specs.Script.{Changes, script_plan}
use Rattle.cfi_script.specs.Turns.{Turns, turns_of}
use Rattle.rv_code.proofs.FormMachine.{same_machine}
use Rattle.cfi_step.proofs.PairProfile.{may_run}
use Rattle.cfi_step.proofs.Reported.{Tells, all_made, all_turns, are_walked, begins, over_so, reports}
use Rattle.cfi_step.proofs.Replay.{in_order, replays}
use Rattle.cfi_step.proofs.runs.run.Goals as goal

pub finish-requires-clause-begun : goal.finish-requires-clause-begun
unfolding last_exit
finish-requires-clause-begun g c =
    let image = c.args.checked.now.image in
    let started = c.in_ok-running.ensures in
    let shared = rw c.image.ensures.value at started.shared in
    let version = rw c.image.ensures.value at started.version in
    begins (pair_profile image c.args.checked.now.graph) image c.args.checked.now.graph c.args.input.now c.args.harts c.in_ok-running.running c.is_safe.ensures
    (may_run c.args.checked.now.graph.version image.version c.args.harts c.requires)
    started.count started.harts shared (ap (λ (v : ImageVersion). (profile_of v).shadow_size) version ∙ same_machine c.args.checked.now.graph.version image.version) started.made started.taken started.last started.since started.current started.each started.empty started.quiet (ap (λ (s : Shared). last_exit s.events) shared)

pub returns-clause-report : goal.returns-clause-report
returns-clause-report g c =
    let image = c.args.checked.now.image in
    let plan = g.M.Meddler.plan c.args.meddler.now in
    let shared = rw c.image.ensures.value at c.in_ok-running.ensures.shared in
    let over = over_so (pair_profile image c.args.checked.now.graph) image plan (length c.in_ok-running.running.machine.resting) c.args.harts (harts_in c.in_ok-running.running.machine) start_hart
    (harts_share c.in_ok-running.running.machine) (start_shared image c.args.input.now) c.args.limit c.in_ok-end.end c.in_ok-end.steps c.finish.new.running
    c.in_ok-running.ensures.count c.in_ok-running.ensures.harts shared c.in_ok-end.ensures.over in
    let whole = planned (pair_profile image c.args.checked.now.graph) plan c.args.harts 0 start_hart (start_shared image c.args.input.now) c.args.limit in
    let told = c.in_ok-report.ensures in
    let tells : Tells c.in_ok-end.end c.in_ok-end.steps c.finish.new.running c.in_ok-report.report = record {
      ended = told.end;
      hart = told.hart;
      steps = told.steps;
      turns = told.turns;
      output = told.output;
      events = told.events;
      made = told.made;
      walks = told.walks;
    } in
    reports (pair_profile image c.args.checked.now.graph) image c.args.input.now c.args.harts whole c.in_ok-end.end c.in_ok-end.steps c.finish.new.running c.in_ok-report.report over tells

pub returns-clause-script : goal.returns-clause-script
returns-clause-script g c =
    let made = c.in_ok-report.ensures.made ∙ c.in_ok-end.ensures.over.made in
    rw made (in_order 0 _).0

pub returns-clause-replayed : goal.returns-clause-replayed
returns-clause-replayed g c =
    let image = c.args.checked.now.image in
    let plan = g.M.Meddler.plan c.args.meddler.now in
    let shared = rw c.image.ensures.value at c.in_ok-running.ensures.shared in
    let over = over_so (pair_profile image c.args.checked.now.graph) image plan (length c.in_ok-running.running.machine.resting) c.args.harts (harts_in c.in_ok-running.running.machine) start_hart
    (harts_share c.in_ok-running.running.machine) (start_shared image c.args.input.now) c.args.limit c.in_ok-end.end c.in_ok-end.steps c.finish.new.running
    c.in_ok-running.ensures.count c.in_ok-running.ensures.harts shared c.in_ok-end.ensures.over in
    let whole = planned (pair_profile image c.args.checked.now.graph) plan c.args.harts 0 start_hart (start_shared image c.args.input.now) c.args.limit in
    let told = c.in_ok-report.ensures in
    let tells : Tells c.in_ok-end.end c.in_ok-end.steps c.finish.new.running c.in_ok-report.report = record {
      ended = told.end;
      hart = told.hart;
      steps = told.steps;
      turns = told.turns;
      output = told.output;
      events = told.events;
      made = told.made;
      walks = told.walks;
    } in
    let again : Turns → Changes → Type 0 = λ turns changes.
    planned (pair_profile image c.args.checked.now.graph) (script_plan (record { harts = c.args.harts; turns = turns; changes = changes })) c.args.harts 0 start_hart (start_shared image c.args.input.now) c.args.limit ≡ whole in
    subst (λ (turns : Turns). again turns c.in_ok-report.report.made) (sym (all_turns (pair_profile image c.args.checked.now.graph) image c.args.input.now c.args.harts whole c.in_ok-end.end c.in_ok-end.steps c.finish.new.running c.in_ok-report.report over tells))
    (subst (λ (changes : Changes). again (turns_of (harts_of whole)) changes) (sym (all_made (pair_profile image c.args.checked.now.graph) image c.args.input.now c.args.harts whole c.in_ok-end.end c.in_ok-end.steps c.finish.new.running c.in_ok-report.report over tells))
    (replays (pair_profile image c.args.checked.now.graph) plan c.args.harts c.args.limit start_hart (start_shared image c.args.input.now) over.allowed))

pub returns-clause-walk : goal.returns-clause-walk
returns-clause-walk g c =
    let image = c.args.checked.now.image in
    let plan = g.M.Meddler.plan c.args.meddler.now in
    let shared = rw c.image.ensures.value at c.in_ok-running.ensures.shared in
    let over = over_so (pair_profile image c.args.checked.now.graph) image plan (length c.in_ok-running.running.machine.resting) c.args.harts (harts_in c.in_ok-running.running.machine) start_hart
    (harts_share c.in_ok-running.running.machine) (start_shared image c.args.input.now) c.args.limit c.in_ok-end.end c.in_ok-end.steps c.finish.new.running
    c.in_ok-running.ensures.count c.in_ok-running.ensures.harts shared c.in_ok-end.ensures.over in
    λ k. safe_walks (pair_profile image c.args.checked.now.graph) image c.args.checked.now.graph c.args.harts start_hart (start_shared image c.args.input.now)
    (steps_of (planned (pair_profile image c.args.checked.now.graph) plan c.args.harts 0 start_hart (start_shared image c.args.input.now) c.args.limit)) k c.is_safe.ensures
    (may_run c.args.checked.now.graph.version image.version c.args.harts c.requires) (machine_may_start image c.args.input.now c.args.harts) over.allowed

pub returns-clause-walked : goal.returns-clause-walked
returns-clause-walked g c =
    let image = c.args.checked.now.image in
    let plan = g.M.Meddler.plan c.args.meddler.now in
    let shared = rw c.image.ensures.value at c.in_ok-running.ensures.shared in
    let over = over_so (pair_profile image c.args.checked.now.graph) image plan (length c.in_ok-running.running.machine.resting) c.args.harts (harts_in c.in_ok-running.running.machine) start_hart
    (harts_share c.in_ok-running.running.machine) (start_shared image c.args.input.now) c.args.limit c.in_ok-end.end c.in_ok-end.steps c.finish.new.running
    c.in_ok-running.ensures.count c.in_ok-running.ensures.harts shared c.in_ok-end.ensures.over in
    let whole = planned (pair_profile image c.args.checked.now.graph) plan c.args.harts 0 start_hart (start_shared image c.args.input.now) c.args.limit in
    are_walked (pair_profile image c.args.checked.now.graph) image c.args.checked.now.graph c.args.input.now c.args.harts whole c.in_ok-report.report c.is_safe.ensures
    (may_run c.args.checked.now.graph.version image.version c.args.harts c.requires) over.allowed (returns-clause-report g c)
