use Rattle.std.proofs.Common.{◌∷◌, get_or, refl}
use Rattle.text_lines.specs.Hex.{hex_text}
use Rattle.cfi_graph.proofs.Printed.{next_piece}
use Rattle.cfi_graph.proofs.write.push_numbers.Goals as goal

pub loop-number-preserved : goal.loop-number-preserved
loop-number-preserved c =
    next_piece (λ n. 32 ∷ hex_text 8 n) c.args.numbers.now c.loop-number.number-index (get_or c.args.numbers.now c.loop-number.number-index 0) 0 c.args.out.now.items c.loop-number-test.true refl c.loop-number.invariant c.in_ok-push_number.ensures.pushed
