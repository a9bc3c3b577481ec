use Rattle.std.proofs.Common.{subst, List, ℕ}
use Rattle.std.specs.List.{All}
use Rattle.std.proofs.lemmas.List.{take_all}
use Rattle.std.proofs.lemmas.List.Elements.{All-more}
use Rattle.obj_items.proofs.AllFit.{IsSoundObject, objects_fit}
use Rattle.obj_items.proofs.finish.codes_fit.Goals as goal

pub loop-object-preserved : goal.loop-object-preserved
loop-object-preserved c =
    All-more IsSoundObject c.args.objects.now c.loop-object.object-index c.object-item.result c.loop-object-test.true c.loop-object.invariant
    (subst IsSoundObject c.object-item.is c.sections-sections.ensures.sound)

pub returns : goal.returns
returns c =
    objects_fit c.args.objects.now (subst (λ (os : List (List ℕ)). All IsSoundObject os) (take_all c.loop-object.object-index c.args.objects.now c.loop-object-test.false) c.loop-object.invariant) c.requires
