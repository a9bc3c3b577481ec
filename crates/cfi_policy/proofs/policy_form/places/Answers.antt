use Rattle.std.proofs.Common.{sym, ◌∙◌}
use Rattle.cfi_policy.proofs.PolicyWords.{bad_place, next_place, no_place}
use Rattle.cfi_policy.proofs.policy_form.places.Goals as goal

pub returns-in_default-2 : goal.returns-in_default-2
returns-in_default-2 c =
    bad_place c.loop-left.items.items c.cut.ensures.parts (sym c.in_default-2.is ∙ c.in_ok-place.ensures) (rw c.in-Some.is at c.loop-left.invariant)

pub loop-left-preserved : goal.loop-left-preserved
loop-left-preserved c =
    rw c.in_ok-push.ensures.items (next_place c.loop-left.items.items c.cut.ensures.parts (sym c.in-Some-2.is ∙ c.in_ok-place.ensures) (rw c.in-Some.is at c.loop-left.invariant))

pub returns : goal.returns
returns c = rw c.of.ensures (no_place c.loop-left.items.items (rw c.in_default.is at c.loop-left.invariant))
