use Rattle.std.proofs.Common.{sym, ◌∙◌}
use Rattle.cfi_gen.proofs.Writing.{drawn_end, drawn_next}
use Rattle.cfi_gen.proofs.drawing.draw_functions.Goals as goal

pub loop-i-preserved : goal.loop-i-preserved
loop-i-preserved c =
    rw c.in_ok-push.ensures.items
    (drawn_next c.loop-i.functions.items c.args.count c.loop-i.i c.loop-i.generator.state _ c.draw_function.result c.loop-i-test.true c.draw_function.ensures.value c.draw_function.ensures.state)
    ∙ c.loop-i.invariant

pub returns : goal.returns
returns c = sym (drawn_end c.loop-i.functions.items c.args.count c.loop-i.i c.loop-i.generator.state c.loop-i-test.false) ∙ c.loop-i.invariant
