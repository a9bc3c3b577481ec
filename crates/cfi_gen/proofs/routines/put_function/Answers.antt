use Rattle.cfi_gen.specs.Writing.{written_in}
use Rattle.cfi_gen.proofs.Writing.{function_written}
use Rattle.cfi_gen.proofs.routines.put_function.Goals as goal

pub returns : goal.returns
returns c =
    function_written (written_in c.args.text.now) (written_in c.put_all.new.self) (written_in c.put_shape.new.text) _ c.args.function.now c.opening.result c.closing.result
    c.opening.ensures c.closing.ensures c.in_ok-put_all.ensures c.in_ok-put_shape.ensures c.in_ok-put_all-2.ensures
