use Rattle.std.proofs.Common.{◌≡◌, ◌+◌, ◌-◌, ◌∙◌, ap, sym, arith, List, [], append-nil, inl, inr, length}
use Rattle.cfi_compare.proofs.Prelude.{profile_of, After, Event, hart_in, shared_in, Calls, Agree}
use Rattle.cfi_compare.proofs.ImageRuns.{agree_more, agree_within, as_begun, next_left, none_left, none_past, run_adds, run_goes, run_stops, step_adds}
use Rattle.cfi_compare.proofs.follow.follow.Goals as goal
use Rattle.cfi_compare.proofs.follow.follow.Goals.{then-index-len-via-then-index-len, then-index-len-via-else-index-len+then-is_stop}

pub alike-index-requires : goal.alike-index-requires
alike-index-requires c =
    let p = profile_of c.args.processor.now.memory.version in
    let stepped = as_begun (hart_in c.loop-steps.processor) (shared_in c.loop-steps.processor) c.step.new.self c.in_ok-turn.turn _ _ c.loop-steps.invariant.version c.in_ok-turn.ensures.stepped in
    let more = step_adds p (hart_in c.loop-steps.processor) (shared_in c.loop-steps.processor) c.step.new.self c.in_ok-turn.turn stepped in
    let seen : c.events-calls.result.now ≡ (shared_in c.step.new.self).events = c.events-calls.ensures ∙ ap (λ (x : Calls). x.events) c.system.ensures in
    rw (seen, more.1) (agree_more c.loop-steps.index c.args.events.now (shared_in c.loop-steps.processor).events more.0 c.loop-steps.invariant.agree)

pub returns-then-index-len : goal.returns-then-index-len
returns-then-index-len c =
    let p = profile_of c.args.processor.now.memory.version in
    let stepped = as_begun (hart_in c.loop-steps.processor) (shared_in c.loop-steps.processor) c.step.new.self c.in_ok-turn.turn _ _ c.loop-steps.invariant.version c.in_ok-turn.ensures.stepped in
    let h = hart_in c.loop-steps.processor in
    let s = shared_in c.loop-steps.processor in
    let seen : c.events-calls.result.now ≡ (shared_in c.step.new.self).events = c.events-calls.ensures ∙ ap (λ (x : Calls). x.events) c.system.ensures in
    let counted : c.len.result ≡ length (shared_in c.step.new.self).events = c.len.ensures ∙ ap (λ (es : List Event). length es) seen in
    let whole = next_left p h s _ c.args.most c.loop-steps.steps c.loop-steps.invariant.left (omega (arith, c.loop-steps-test.true)) in
    let left = c.args.most - (c.loop-steps.steps + 1) in
    let more = run_adds p h s c.step.new.self c.in_ok-turn.turn stepped left in
    record {
      agree = rw seen at c.alike-index.ensures.agree;
      most = rw seen at c.alike-index.ensures.most;
      later = (more.0, ap (λ (a : After). a.shared.events) whole ∙ more.1);
      decided = elim c.then-index-len.branch [
        | then-index-len-via-then-index-len w ↦ inl (omega (arith, counted, w.if-index-len))
        | then-index-len-via-else-index-len+then-is_stop w ↦
            let stops = run_stops p h s c.step.new.self c.in_ok-turn.turn stepped left (sym w.is_stop.ensures ∙ w.if-is_stop.true) in
            inr (ap (λ (a : After). a.shared.events) (whole ∙ stops), ap (λ (a : After). a.turn) (whole ∙ stops))
      ];
    }

pub loop-steps-preserved : goal.loop-steps-preserved
loop-steps-preserved c =
    let p = profile_of c.args.processor.now.memory.version in
    let stepped = as_begun (hart_in c.loop-steps.processor) (shared_in c.loop-steps.processor) c.step.new.self c.in_ok-turn.turn _ _ c.loop-steps.invariant.version c.in_ok-turn.ensures.stepped in
    let h = hart_in c.loop-steps.processor in
    let s = shared_in c.loop-steps.processor in
    let seen : c.events-calls.result.now ≡ (shared_in c.step.new.self).events = c.events-calls.ensures ∙ ap (λ (x : Calls). x.events) c.system.ensures in
    let counted : c.len.result ≡ length (shared_in c.step.new.self).events = c.len.ensures ∙ ap (λ (es : List Event). length es) seen in
    let whole = next_left p h s _ c.args.most c.loop-steps.steps c.loop-steps.invariant.left (omega (arith, c.loop-steps-test.true)) in
    let left = c.args.most - (c.loop-steps.steps + 1) in
    let agree : Agree c.alike-index.result c.args.events.now (shared_in c.step.new.self).events = rw seen at c.alike-index.ensures.agree in
    let within = (agree_within c.alike-index.result c.args.events.now (shared_in c.step.new.self).events agree).1 in
    record {
      count = omega (arith, c.loop-steps-test.true);
      version = c.in_ok-turn.ensures.kept.version ∙ c.loop-steps.invariant.version;
      agree = agree;
      all = omega (arith, counted, within, c.if-index-len.false);
      left = whole ∙ run_goes p h s c.step.new.self c.in_ok-turn.turn stepped left (sym c.is_stop.ensures ∙ c.if-is_stop.false);
    }

pub returns : goal.returns
returns c =
    let p = profile_of c.args.processor.now.memory.version in
    let events = (shared_in c.loop-steps.processor).events in
    let whole = none_left p (hart_in c.loop-steps.processor) (shared_in c.loop-steps.processor) _ c.args.most c.loop-steps.steps c.loop-steps.invariant.left (omega (arith, c.loop-steps-test.false)) in
    record {
      agree = c.loop-steps.invariant.agree;
      most = none_past c.loop-steps.index c.args.events.now events (omega (arith, c.loop-steps.invariant.all));
      later = ([], ap (λ (a : After). a.shared.events) whole ∙ sym (append-nil events));
      decided = inr (ap (λ (a : After). a.shared.events) whole, ap (λ (a : After). a.turn) whole);
    }
