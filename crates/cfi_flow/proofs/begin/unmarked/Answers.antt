use Rattle.std.proofs.Common.{◌∷◌, [], Bool, false, arith}
use Rattle.std.proofs.lemmas.List.{length-append}
use Rattle.cfi_flow.proofs.Reaching.{unmarked_more}
use Rattle.cfi_flow.proofs.begin.unmarked.Goals as goal

pub loop-k-preserved : goal.loop-k-preserved
loop-k-preserved c =
    let many = c.loop-k.invariant.0 in
    rw c.in_ok-push.ensures.items
    (omega (arith, length-append {A = Bool} c.loop-k.marks.items (false ∷ [])), unmarked_more c.loop-k.marks.items c.loop-k.invariant.1)

pub returns : goal.returns
returns c = let many = c.loop-k.invariant.0 in record { size = omega arith; each = c.loop-k.invariant.1 }
