use Rattle.std.proofs.Common.{ℕ, ◌<◌, ◌≤◌, ◌^◌, arith}
use Rattle.std.proofs.lemmas.List.Elements.{All-weaker}
use Rattle.std.proofs.lemmas.Result.{IfOk-from_err}
use Rattle.cfi_class.proofs.LabelsGiven.{pass_lower, pass_equal, give, IsAbove, above_first, above_none}
use Rattle.cfi_class.proofs.label.given.Goals as goal
use Rattle.cfi_class.proofs.label.given.Goals.{then-used-at-2, else-used-at-2, else-at-used-via-then-at-used+else-used-at, else-at-used-via-else-at-used}

pub loop-next-preserved-then-used-at : goal.loop-next-preserved-then-used-at
loop-next-preserved-then-used-at c =
    elim c.if-used-at-2.branch [
      | then-used-at-2 w ↦ record {
        given = rw w.next-is (pass_equal _ _ _ _ c.loop-next.invariant.given c.if-at-used.true w.if-used-at-2.true);
        asked = c.loop-next.invariant.asked;
      }
      | else-used-at-2 w ↦ record {
        given = rw w.next-is (pass_lower _ _ _ _ c.loop-next.invariant.given c.if-at-used.true (omega (arith, c.if-used-at.true, w.if-used-at-2.false)));
        asked = c.loop-next.invariant.asked;
      }
    ]

pub loop-next-preserved : goal.loop-next-preserved
loop-next-preserved c =
    let above : IsAbove c.args.used.now c.loop-next.at c.loop-next.next = elim c.else-at-used.branch [
      | else-at-used-via-then-at-used+else-used-at w ↦ above_first _ _ _ c.requires.in_order w.if-used-at.false
      | else-at-used-via-else-at-used w ↦ above_none _ _ _ w.if-at-used.false
    ] in record {
      given = rw c.in_ok-push.ensures.items (give _ _ _ _ c.loop-next.invariant.given above);
      asked = omega (arith, c.in_ok-push.ensures.len, c.loop-next-test.true, c.len.ensures);
    }

pub returns-in_err-push-clause-count : goal.returns-in_err-push-clause-count
returns-in_err-push-clause-count c = IfOk-from_err c.from_residual.result _ c.from_residual.ensures.0

pub returns-in_err-push-clause-least : goal.returns-in_err-push-clause-least
returns-in_err-push-clause-least c = IfOk-from_err c.from_residual.result _ c.from_residual.ensures.0

pub returns-in_err-push-clause-rising : goal.returns-in_err-push-clause-rising
returns-in_err-push-clause-rising c = IfOk-from_err c.from_residual.result _ c.from_residual.ensures.0

pub returns-in_err-push-clause-below : goal.returns-in_err-push-clause-below
returns-in_err-push-clause-below c = IfOk-from_err c.from_residual.result _ c.from_residual.ensures.0

pub returns-clause-count : goal.returns-clause-count
returns-clause-count c = omega (arith, c.loop-next-test.false, c.len.ensures, c.loop-next.labels.ok.0, c.loop-next.invariant.asked)

pub returns-clause-least : goal.returns-clause-least
returns-clause-least c = c.loop-next.invariant.given.least

pub returns-clause-rising : goal.returns-clause-rising
returns-clause-rising c = c.loop-next.invariant.given.rising

pub returns-clause-below : goal.returns-clause-below
returns-clause-below c =
    let known = c.loop-next.invariant.given in
    let most : c.loop-next.next ≤ 2 ^ 20 = omega (arith, known.room, known.within, c.loop-next.invariant.asked, c.requires.few) in
    All-weaker (λ (label : ℕ). label < c.loop-next.next) (λ (label : ℕ). label < 2 ^ 20) (λ x lt. omega (arith, lt, most)) c.loop-next.labels.items known.below
