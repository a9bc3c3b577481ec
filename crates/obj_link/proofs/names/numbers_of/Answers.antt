use Rattle.std.proofs.Common.{subst}
use Rattle.elf_names.specs.Numbers.{AreNumbers}
use Rattle.obj_link.proofs.Named.{next_names, no_numbers}
use Rattle.obj_link.proofs.names.numbers_of.Goals as goal

pub loop-object-init : goal.loop-object-init
loop-object-init c = no_numbers c.args.texts.now _ c.new-numbers.ensures.items

pub loop-object-preserved : goal.loop-object-preserved
loop-object-preserved c =
    subst (λ ns. AreNumbers c.push_names.new.texts c.push_names.new.numbers.items ns)
    (next_names c.args.objects.now c.loop-object.object-index c.object-item.result c.loop-object-test.true c.object-item.is) (c.in_ok-push_names.ensures _ c.loop-object.invariant)
