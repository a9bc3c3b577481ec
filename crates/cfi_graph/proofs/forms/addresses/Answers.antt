use Rattle.cfi_graph.proofs.LineForms.{bad_address, next_address, no_address}
use Rattle.cfi_graph.proofs.forms.addresses.Goals as goal

pub returns-in_default-first_address : goal.returns-in_default-first_address
returns-in_default-first_address c =
    bad_address c.loop-left.items.items (rw c.in_default-first_address.is at c.first_address.ensures.spelled) (rw c.in-Some.is at c.loop-left.invariant)

pub loop-left-preserved : goal.loop-left-preserved
loop-left-preserved c =
    rw (c.in_ok-push.ensures.items, c.from.ensures) (next_address c.loop-left.items.items c.in-Some-first_address.address _ c.in-Some-first_address.ensures.spelled (rw c.in-Some.is at c.loop-left.invariant))

pub returns : goal.returns
returns c = rw c.of.ensures (no_address c.loop-left.items.items (rw c.in_default.is at c.loop-left.invariant))
