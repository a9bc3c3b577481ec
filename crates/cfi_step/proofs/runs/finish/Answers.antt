use Rattle.std.proofs.Common.{◌+◌, ◌-◌, ◌<◌, ◌∙◌, ◌≡◌, ℕ, length, refl, ap, sym, subst, arith}
use Rattle.cfi_rules.specs.Rules.{pair_profile}
use Rattle.rv_machine.specs.Harts.{harts_in, harts_share}
use Rattle.cfi_rules.specs.Split.{code_words}
use Rattle.cfi_script.specs.Plan.{Plan, planned}
use Rattle.cfi_step.specs.Running.{IsPrepared, IsReady, IsStill}
use Rattle.cfi_step.specs.Stretch.{OnStop, RunHalts, with_own}
use Rattle.cfi_step.specs.declared.stretch.Halt.{Halt}
use Rattle.cfi_step.proofs.Preparing.{begun_ready, empty_so, own_prepared, own_walked, trail_there}
use Rattle.cfi_step.proofs.Continues.{Continues, all_taken, at_start}
use Rattle.cfi_step.proofs.Stretched.{prepared_going, prepared_stays, stretch_end, stretch_stopped, stretch_way}
use Rattle.cfi_step.proofs.runs.finish.Goals as goal

pub loop-steps-init : goal.loop-steps-init
loop-steps-init g c =
    let image = c.args.checked.now.image in
    let now = c.args.running.now in
    let plan = g.M.Meddler.plan c.args.meddler.now in
    let count = length now.machine.resting in
    let begun = c.requires.begun in
    let whole = planned (pair_profile image c.args.checked.now.graph) plan count 0 (harts_in now.machine) (harts_share now.machine) c.args.limit in
    let all : c.args.limit ≡ c.args.limit - 0 = omega arith in
    let begins = at_start (pair_profile image c.args.checked.now.graph) image count (harts_in now.machine) (harts_share now.machine) whole now.made now.taken now.trails.items begun.made begun.taken
    (λ j t at. empty_so now.trails.items begun.empty j t at) in
    let ready = begun_ready plan (pair_profile image c.args.checked.now.graph) image now begun in
    record {
      ready = ready;
      meddler = refl;
      most = omega (arith, begun.quiet);
      way = record {
        bound = omega arith;
        ready = ready;
        counted = refl;
        profile = begun.profile;
        stays = begun.stays;
        going = begun.going;
        continues = subst (λ (n : ℕ). Continues (pair_profile image c.args.checked.now.graph) image count (harts_in now.machine) (harts_share now.machine) whole 0 (harts_in now.machine) (harts_share now.machine)
            (planned (pair_profile image c.args.checked.now.graph) plan count 0 (harts_in now.machine) (harts_share now.machine) n) now.made now.taken now.trails.items) all begins;
      };
    }

pub go_on-requires-clause-going : goal.go_on-requires-clause-going
go_on-requires-clause-going g c =
    let image = c.args.checked.now.image in
    let p = pair_profile image c.args.checked.now.graph in
    let first = c.args.running.now.machine in
    let plan = g.M.Meddler.plan c.args.meddler.now in
    let old = c.loop-steps.invariant in
    let prepared = subst (λ (x : Plan). IsPrepared x c.loop-steps.steps c.loop-steps.running c.choose.new.self) (ap g.M.Meddler.plan old.meddler) c.in_ok-until.ensures.prepared in
    prepared_going p image (length first.resting) (harts_in first) (harts_share first) c.args.limit plan c.loop-steps.steps c.loop-steps.running c.choose.new.self old.way prepared

pub go_on-requires-clause-current : goal.go_on-requires-clause-current
go_on-requires-clause-current g c = c.in_ok-until.ensures.prepared.current

pub go_on-requires-clause-below : goal.go_on-requires-clause-below
go_on-requires-clause-below g c =
    let prepared = c.in_ok-until.ensures.prepared in
    omega (arith, prepared.below, prepared.count)

pub go_on-requires-clause-each : goal.go_on-requires-clause-each
go_on-requires-clause-each g c =
    let prepared = c.in_ok-until.ensures.prepared in
    ap (λ items. length items) prepared.trails ∙ c.loop-steps.invariant.ready.each ∙ sym prepared.count

pub go_on-requires-clause-room : goal.go_on-requires-clause-room
go_on-requires-clause-room g c =
    own_walked (g.M.Meddler.plan c.loop-steps.meddler) c.loop-steps.steps c.loop-steps.running c.choose.new.self c.loop-steps.invariant.ready c.in_ok-until.ensures.prepared

pub go_on-requires-clause-stays : goal.go_on-requires-clause-stays
go_on-requires-clause-stays g c =
    let image = c.args.checked.now.image in
    let p = pair_profile image c.args.checked.now.graph in
    let first = c.args.running.now.machine in
    let plan = g.M.Meddler.plan c.args.meddler.now in
    let old = c.loop-steps.invariant in
    let prepared = subst (λ (x : Plan). IsPrepared x c.loop-steps.steps c.loop-steps.running c.choose.new.self) (ap g.M.Meddler.plan old.meddler) c.in_ok-until.ensures.prepared in
    prepared_stays p image (length first.resting) (harts_in first) (harts_share first) c.args.limit plan c.loop-steps.steps c.loop-steps.running c.choose.new.self old.way prepared (length c.args.starts.now) (sym c.requires.starts.all) c.requires.inside

pub go_on-requires-clause-known : goal.go_on-requires-clause-known
go_on-requires-clause-known g c = (pair_profile c.args.checked.now.image c.args.checked.now.graph, code_words c.args.checked.now.image.code, c.requires.starts)

pub end_of-requires : goal.end_of-requires
end_of-requires g c =
    let image = c.args.checked.now.image in
    let p = pair_profile image c.args.checked.now.graph in
    let first = c.args.running.now.machine in
    let plan = g.M.Meddler.plan c.args.meddler.now in
    let old = c.loop-steps.invariant in
    let prepared = subst (λ (x : Plan). IsPrepared x c.loop-steps.steps c.loop-steps.running c.choose.new.self) (ap g.M.Meddler.plan old.meddler) c.in_ok-until.ensures.prepared in
    let (trail, own) = trail_there c.loop-steps.running c.choose.new.self prepared.below old.ready.each prepared.trails in
    let mid = with_own c.choose.new.self c.choose.new.self.machine trail in
    let still = subst (λ (x : Plan). IsStill (c.loop-steps.steps + 1) c.in_ok-until.until x (length c.loop-steps.running.machine.resting) c.choose.new.self.taken.hart) (ap g.M.Meddler.plan old.meddler) c.in_ok-until.ensures.still in
    let ours = own_prepared plan c.loop-steps.steps c.loop-steps.running c.choose.new.self trail prepared own in
    let halts : RunHalts c.args.starts.now c.loop-steps.steps c.in_ok-until.until c.choose.new.self c.go_on.new.self c.in-Err-Stopped.turn c.in-Err-Stopped.taken =
    subst (λ (h : Halt). OnStop (RunHalts c.args.starts.now c.loop-steps.steps c.in_ok-until.until c.choose.new.self c.go_on.new.self) h) c.in-Err-Stopped.field-0-is
    c.in-Err-Stopped.ensures.stops in
    let stops = halts p (code_words image.code) c.requires.starts trail own in
    rw c.in-Err-Stopped.field-0-is (stretch_end p image (length first.resting) (harts_in first) (harts_share first) c.args.limit plan c.loop-steps.steps c.loop-steps.running mid old.way ours c.go_on.new.self c.in_ok-until.until still c.in_ok-until.ensures.until.1 c.in-Err-Stopped.turn c.in-Err-Stopped.taken stops)

pub returns-in-Err-Stopped-clause-over : goal.returns-in-Err-Stopped-clause-over
returns-in-Err-Stopped-clause-over g c =
    let image = c.args.checked.now.image in
    let p = pair_profile image c.args.checked.now.graph in
    let first = c.args.running.now.machine in
    let plan = g.M.Meddler.plan c.args.meddler.now in
    let old = c.loop-steps.invariant in
    let prepared = subst (λ (x : Plan). IsPrepared x c.loop-steps.steps c.loop-steps.running c.choose.new.self) (ap g.M.Meddler.plan old.meddler) c.in_ok-until.ensures.prepared in
    let (trail, own) = trail_there c.loop-steps.running c.choose.new.self prepared.below old.ready.each prepared.trails in
    let mid = with_own c.choose.new.self c.choose.new.self.machine trail in
    let still = subst (λ (x : Plan). IsStill (c.loop-steps.steps + 1) c.in_ok-until.until x (length c.loop-steps.running.machine.resting) c.choose.new.self.taken.hart) (ap g.M.Meddler.plan old.meddler) c.in_ok-until.ensures.still in
    let ours = own_prepared plan c.loop-steps.steps c.loop-steps.running c.choose.new.self trail prepared own in
    let halts : RunHalts c.args.starts.now c.loop-steps.steps c.in_ok-until.until c.choose.new.self c.go_on.new.self c.in-Err-Stopped.turn c.in-Err-Stopped.taken =
    subst (λ (h : Halt). OnStop (RunHalts c.args.starts.now c.loop-steps.steps c.in_ok-until.until c.choose.new.self c.go_on.new.self) h) c.in-Err-Stopped.field-0-is
    c.in-Err-Stopped.ensures.stops in
    let stops = halts p (code_words image.code) c.requires.starts trail own in
    let is_end = rw c.in-Err-Stopped.field-0-is at c.end_of.ensures in
    rw c.in-Err-Stopped.field-0-is (stretch_stopped p image (length first.resting) (harts_in first) (harts_share first) c.args.limit plan c.loop-steps.steps c.loop-steps.running mid old.way ours c.go_on.new.self c.in_ok-until.until still c.in_ok-until.ensures.until.1 c.in-Err-Stopped.turn c.in-Err-Stopped.taken c.end_of.result stops is_end)

pub loop-steps-preserved : goal.loop-steps-preserved
loop-steps-preserved g c =
    let image = c.args.checked.now.image in
    let p = pair_profile image c.args.checked.now.graph in
    let first = c.args.running.now.machine in
    let plan = g.M.Meddler.plan c.args.meddler.now in
    let old = c.loop-steps.invariant in
    let prepared = subst (λ (x : Plan). IsPrepared x c.loop-steps.steps c.loop-steps.running c.choose.new.self) (ap g.M.Meddler.plan old.meddler) c.in_ok-until.ensures.prepared in
    let (trail, own) = trail_there c.loop-steps.running c.choose.new.self prepared.below old.ready.each prepared.trails in
    let mid = with_own c.choose.new.self c.choose.new.self.machine trail in
    let still = subst (λ (x : Plan). IsStill (c.loop-steps.steps + 1) c.in_ok-until.until x (length c.loop-steps.running.machine.resting) c.choose.new.self.taken.hart) (ap g.M.Meddler.plan old.meddler) c.in_ok-until.ensures.still in
    let ours = own_prepared plan c.loop-steps.steps c.loop-steps.running c.choose.new.self trail prepared own in
    let goes = c.in-Ok.ensures.goes_on p (code_words image.code) c.requires.starts trail own in
    let on = stretch_way p image (length first.resting) (harts_in first) (harts_share first) c.args.limit plan c.loop-steps.steps c.loop-steps.running mid old.way ours c.go_on.new.self c.in_ok-until.until still c.in_ok-until.ensures.until.1 goes in
    let same = c.choose.ensures.kept ∙ old.meddler in
    record {
      ready = subst (λ (x : Plan). IsReady x c.in_ok-until.until c.go_on.new.self) (sym (ap g.M.Meddler.plan same)) on.ready;
      meddler = same;
      way = on;
      most = omega (arith, c.go_on.ensures.quiet, c.in_ok-until.ensures.most);
    }

pub loop-steps-smaller : goal.loop-steps-smaller
loop-steps-smaller g c =
    let image = c.args.checked.now.image in
    let p = pair_profile image c.args.checked.now.graph in
    let prepared = c.in_ok-until.ensures.prepared in
    let (trail, own) = trail_there c.loop-steps.running c.choose.new.self prepared.below c.loop-steps.invariant.ready.each prepared.trails in
    let goes = c.in-Ok.ensures.goes_on p (code_words image.code) c.requires.starts trail own in
    omega (arith, goes.taken, c.loop-steps-test.true)

pub returns-clause-over : goal.returns-clause-over
returns-clause-over g c =
    let image = c.args.checked.now.image in
    let way = c.loop-steps.invariant.way in
    all_taken (pair_profile image c.args.checked.now.graph) image (length c.args.running.now.machine.resting) _ _ _ (g.M.Meddler.plan c.args.meddler.now) c.loop-steps.steps c.args.limit c.loop-steps.running
    (omega (arith, c.loop-steps-test.false)) way.continues (way.ready.each ∙ way.counted) (subst (λ (n : ℕ). c.loop-steps.running.taken.hart < n) way.counted way.ready.last) way.ready.since
