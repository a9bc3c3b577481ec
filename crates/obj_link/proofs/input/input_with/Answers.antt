use Rattle.std.proofs.Common.{◌∙◌}
use Rattle.obj_link.proofs.Prelude.{by, said_by}
use Rattle.obj_link.proofs.Composed.{composed}
use Rattle.obj_link.proofs.input.input_with.Goals as goal

pub returns : goal.returns
returns c = λ found same.
    c.of.ensures
    ∙ composed (by c.args.numbers.now) found (said_by c.args.objects.now) c.args.symbols.now _ _ _ _ c.requires.symbols c.in_ok-sections.ensures.value
    c.in_ok-blocks.ensures same c.in_ok-funcs.ensures
