use Rattle.std.proofs.Common.{sym, ◌∙◌, arith}
use Rattle.std.proofs.lemmas.List.{get_or_default}
use Rattle.obj_input.proofs.Once.{first_all, first_more, first_none}
use Rattle.obj_input.proofs.search.are_in_order.Goals as goal

pub loop-u-init : goal.loop-u-init
loop-u-init c = first_none c.args.uses.now

pub loop-u-preserved : goal.loop-u-preserved
loop-u-preserved c =
    first_more c.args.uses.now c.loop-u.u-index c.loop-u.last _ c.loop-u-test.true (get_or_default c.args.uses.now c.loop-u.u-index _ _ c.loop-u-test.true)
    (sym c.is_acting.ensures ∙ c.if-is_acting.true) (omega arith) c.loop-u.invariant

pub returns : goal.returns
returns c = λ holds. first_all c.args.uses.now c.loop-u.u-index c.loop-u.last c.loop-u-test.false c.loop-u.invariant
