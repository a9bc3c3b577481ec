use Rattle.std.proofs.Common.{◌∙◌, ap, Option}
use Rattle.obj_input.specs.declared.parts.Definition.{Definition}
use Rattle.obj_input.specs.Indexed.{noted}
use Rattle.obj_input.proofs.Called.{next_name}
use Rattle.obj_input.proofs.names.index_of.Goals as goal

pub loop-name-preserved : goal.loop-name-preserved
loop-name-preserved c = λ called few.
    c.in_ok-note.ensures called few
    ∙ ap (λ (found : Option Definition). noted c.name-item.result found called) (c.loop-name.invariant called few)
    ∙ next_name c.args.names.now c.loop-name.name-index c.name-item.result called c.loop-name-test.true c.name-item.is
