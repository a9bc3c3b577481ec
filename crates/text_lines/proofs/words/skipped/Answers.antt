use Rattle.std.proofs.Common.{◌==◌, sym, ◌∙◌, arith}
use Rattle.text_lines.proofs.Blocks.{block_passed}
use Rattle.text_lines.proofs.words.skipped.Goals as goal

pub loop-start-preserved : goal.loop-start-preserved
loop-start-preserved c = record {
  within = omega (arith, c.loop-start.invariant.within, c.loop-start-test.true);
  none = block_passed (λ b. b == c.args.separator) c.args.bytes.now c.loop-start.start 16 c.loop-start.invariant.none (sym c.has.ensures ∙ c.if-has.false);
}
