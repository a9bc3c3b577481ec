use Rattle.std.proofs.Common.{arith}
use Rattle.std.proofs.lemmas.List.Elements.{Contains-get_or}
use Rattle.std.proofs.lemmas.Result.{IfOk-from_err}
use Rattle.cfi_class.proofs.Agreeing.{none_marked, mark_more, marked_all}
use Rattle.cfi_class.proofs.passes.marks.Goals as goal

pub loop-target-preserved : goal.loop-target-preserved
loop-target-preserved c =
    mark_more _ _ _ _ _ _ c.loop-target.invariant c.loop-target-test.true c.number_of-number.ensures.range (c.requires.among _ (Contains-get_or _ _ 0 c.loop-target-test.true)) c.number_of-number.ensures.value

pub returns-clause-marked : goal.returns-clause-marked
returns-clause-marked c =
    marked_all _ _ _ _ _ c.loop-target-test.false c.loop-target.invariant

pub returns-in_err-marked-clause-len : goal.returns-in_err-marked-clause-len
returns-in_err-marked-clause-len c = IfOk-from_err c.from_residual.result _ c.from_residual.ensures.0

pub returns-in_err-marked-clause-marked : goal.returns-in_err-marked-clause-marked
returns-in_err-marked-clause-marked c = IfOk-from_err c.from_residual.result _ c.from_residual.ensures.0

pub loop-target-init : goal.loop-target-init
loop-target-init c =
    none_marked c.args.targets.now c.args.numbers.now c.args.set.now c.in_ok-marked.marked.items (c.in_ok-marked.ensures.items_if_clones_equal (λ y same. same))

pub number_of-number-requires-clause-rising : goal.number_of-number-requires-clause-rising
number_of-number-requires-clause-rising c = c.requires.rising

pub number_of-number-requires-clause-each : goal.number_of-number-requires-clause-each
number_of-number-requires-clause-each c = c.requires.each

pub number_of-number-requires-clause-in_range : goal.number_of-number-requires-clause-in_range
number_of-number-requires-clause-in_range c = c.requires.in_range

pub number_of-number-requires-clause-among : goal.number_of-number-requires-clause-among
number_of-number-requires-clause-among c = c.requires.among _ (Contains-get_or c.args.set.now c.loop-target.target-index 0 c.loop-target-test.true)

pub index_mut-requires : goal.index_mut-requires
index_mut-requires c = omega (arith, c.number_of-number.ensures.range, c.loop-target.invariant.all_numbers, c.loop-target.marked.ok.0)

pub returns-clause-len : goal.returns-clause-len
returns-clause-len c = c.loop-target.invariant.all_numbers
