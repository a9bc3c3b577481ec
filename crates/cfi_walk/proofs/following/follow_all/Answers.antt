use Rattle.std.proofs.Common.{subst}
use Rattle.cfi_walk.proofs.Prelude.{pair_profile, code_words, WalkState, StopAt}
use Rattle.rv_image.proofs.Profiles.{is_pair_profile}
use Rattle.cfi_walk.proofs.Led.{begins, ends, led_steps, never_stops, passes, refused, run_never_stops}
use Rattle.cfi_walk.proofs.following.follow_all.Goals as goal

pub loop-pc-init : goal.loop-pc-init
loop-pc-init c = begins (pair_profile c.args.checked.now.image c.args.checked.now.graph) (code_words c.args.checked.now.image.code) c.args.checked.now.graph.lines c.args.walk.now c.args.addresses.now

pub loop-pc-preserved : goal.loop-pc-preserved
loop-pc-preserved c =
    passes (pair_profile c.args.checked.now.image c.args.checked.now.graph) (code_words c.args.checked.now.image.code) c.args.checked.now.graph.lines c.args.walk.now c.args.addresses.now c.loop-pc.pc-index
    c.loop-pc.walk c.follow.new.walk c.loop-pc-test.true (c.follow.ensures.yes c.in-Yes.is) c.loop-pc.invariant

pub returns-in-No-clause-no : goal.returns-in-No-clause-no
returns-in-No-clause-no c =
    let p = pair_profile c.args.checked.now.image c.args.checked.now.graph in
    let words = code_words c.args.checked.now.image.code in
    let lines = c.args.checked.now.graph.lines in
    let stops : StopAt p words lines c.args.walk.now c.args.addresses.now c.follow.new.walk =
    refused p words lines c.args.walk.now c.args.addresses.now c.loop-pc.pc-index c.loop-pc.walk c.follow.new.walk c.loop-pc-test.true
    (c.follow.ensures.unchanged c.in-No.is) (c.follow.ensures.no c.in-No.is) c.loop-pc.invariant in
    λ _. stops

pub returns-in-No-clause-only : goal.returns-in-No-clause-only
returns-in-No-clause-only c =
    let p = pair_profile c.args.checked.now.image c.args.checked.now.graph in
    let words = code_words c.args.checked.now.image.code in
    let lines = c.args.checked.now.graph.lines in
    let stops : StopAt p words lines c.args.walk.now c.args.addresses.now c.follow.new.walk =
    refused p words lines c.args.walk.now c.args.addresses.now c.loop-pc.pc-index c.loop-pc.walk c.follow.new.walk c.loop-pc-test.true
    (c.follow.ensures.unchanged c.in-No.is) (c.follow.ensures.no c.in-No.is) c.loop-pc.invariant in
    λ _ sites steps.
    never_stops p c.args.checked.now.image c.args.checked.now.graph (is_pair_profile c.args.checked.now.graph.version c.args.checked.now.image.version) c.image.ensures.well_formed c.args.walk.now c.args.addresses.now c.follow.new.walk sites stops steps

pub returns-in-No-clause-runs : goal.returns-in-No-clause-runs
returns-in-No-clause-runs c =
    let p = pair_profile c.args.checked.now.image c.args.checked.now.graph in
    let words = code_words c.args.checked.now.image.code in
    let lines = c.args.checked.now.graph.lines in
    let stops : StopAt p words lines c.args.walk.now c.args.addresses.now c.follow.new.walk =
    refused p words lines c.args.walk.now c.args.addresses.now c.loop-pc.pc-index c.loop-pc.walk c.follow.new.walk c.loop-pc-test.true
    (c.follow.ensures.unchanged c.in-No.is) (c.follow.ensures.no c.in-No.is) c.loop-pc.invariant in
    λ begins walked.
    absurd (run_never_stops p c.args.checked.now.image c.args.checked.now.graph (is_pair_profile c.args.checked.now.graph.version c.args.checked.now.image.version) c.image.ensures.well_formed c.is_safe.ensures c.args.addresses.now c.follow.new.walk walked
    (subst (λ (w : WalkState). StopAt p words lines w c.args.addresses.now c.follow.new.walk) begins stops))

pub returns-clause-yes : goal.returns-clause-yes
returns-clause-yes c = λ _.
    ends (pair_profile c.args.checked.now.image c.args.checked.now.graph) (code_words c.args.checked.now.image.code) c.args.checked.now.graph.lines c.args.walk.now c.args.addresses.now c.loop-pc.pc-index c.loop-pc.walk
    c.loop-pc-test.false c.loop-pc.invariant

pub returns-clause-steps : goal.returns-clause-steps
returns-clause-steps c = λ _.
    let p = pair_profile c.args.checked.now.image c.args.checked.now.graph in
    let words = code_words c.args.checked.now.image.code in
    led_steps p words c.args.checked.now.graph.lines c.args.walk.now c.args.addresses.now c.loop-pc.walk
    (ends p words c.args.checked.now.graph.lines c.args.walk.now c.args.addresses.now c.loop-pc.pc-index c.loop-pc.walk c.loop-pc-test.false c.loop-pc.invariant)
