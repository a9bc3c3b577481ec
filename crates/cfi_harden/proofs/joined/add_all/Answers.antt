use Rattle.std.proofs.lemmas.Result.{err_from_is_err_and}
use Rattle.cfi_harden.proofs.Joining.{all_added, one_more, unread_here}
use Rattle.cfi_harden.proofs.joined.add_all.Goals as goal

pub returns-in_err-add : goal.returns-in_err-add
returns-in_err-add c =
    let p = err_from_is_err_and c.from_residual.result c.from_residual.ensures.1 in
    rw (p.1, p.2) (unread_here (λ object. object.items) c.args.objects.now c.loop-object.join c.loop-object.object-index c.loop-object.invariant
    c.object-item.result c.as_slice.result.now c.loop-object-test.true c.object-item.is c.as_slice.ensures.value c.in_err-add.field-0.0 c.add.new.self
    c.in_err-add.ensures)

pub loop-object-preserved : goal.loop-object-preserved
loop-object-preserved c =
    one_more (λ object. object.items) c.args.objects.now c.loop-object.join c.loop-object.object-index c.loop-object.invariant
    c.object-item.result c.as_slice.result.now c.loop-object-test.true c.object-item.is c.as_slice.ensures.value c.add.new.self c.in_ok-add.ensures

pub returns : goal.returns
returns c = all_added (λ object. object.items) c.args.objects.now c.loop-object.join c.loop-object.object-index c.loop-object.invariant c.loop-object-test.false
