use Rattle.std.proofs.Common.{◌∷◌, get_or, refl}
use Rattle.std.specs.Fmt.{decimal}
use Rattle.cfi_graph.proofs.Printed.{next_piece}
use Rattle.cfi_graph.proofs.write.push_calls.Goals as goal

pub loop-number-preserved : goal.loop-number-preserved
loop-number-preserved c =
    next_piece (λ n. 32 ∷ decimal n) c.args.numbers.now c.loop-number.number-index (get_or c.args.numbers.now c.loop-number.number-index 0) 0 c.args.out.now.items c.loop-number-test.true refl c.loop-number.invariant c.in_ok-push_decimal.ensures
