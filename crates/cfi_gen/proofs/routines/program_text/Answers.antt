use Rattle.std.proofs.Common.{sym, ◌∙◌}
use Rattle.cfi_gen.specs.Writing.{written_in}
use Rattle.cfi_gen.proofs.Writing.{function_next, functions_end, main_written}
use Rattle.cfi_gen.proofs.routines.program_text.Goals as goal

pub loop-function-init : goal.loop-function-init
loop-function-init c = main_written _ _ c.args.functions.now c.new-text.ensures c.in_ok-put_main.ensures

pub loop-function-preserved : goal.loop-function-preserved
loop-function-preserved c =
    function_next c.args.functions.now c.loop-function.function-index c.function-item.result (written_in c.loop-function.text) (written_in c.put_function.new.text) c.loop-function-test.true c.function-item.is c.in_ok-put_function.ensures
    ∙ c.loop-function.invariant

pub returns : goal.returns
returns c =
    sym (functions_end c.args.functions.now c.loop-function.function-index (written_in c.loop-function.text) c.loop-function-test.false) ∙ c.loop-function.invariant
