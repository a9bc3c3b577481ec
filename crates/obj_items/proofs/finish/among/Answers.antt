use Rattle.std.proofs.Common.{◌∙◌, ap, arith, sym, ℕ}
use Rattle.obj_items.proofs.Among.{found_later, found_nowhere, found_there}
use Rattle.obj_items.proofs.finish.among.Goals as goal

pub returns-then-behind-symbols-clause-exact : goal.returns-then-behind-symbols-clause-exact
returns-then-behind-symbols-clause-exact c =
    let is = c.index-objects-index.is in
    sym (c.loop-index.invariant ∙ found_there c.args.objects.now c.loop-index.index c.loop-index.behind c.index-objects-index.result c.loop-index-test.true is
    (rw c.symbols.ensures at c.if-behind-symbols.true))

pub loop-index-preserved : goal.loop-index-preserved
loop-index-preserved c =
    rw (c.symbols-behind.ensures) (c.loop-index.invariant ∙ found_later c.args.objects.now c.loop-index.index c.loop-index.behind c.index-objects-index.result c.loop-index-test.true
    c.index-objects-index.is (rw c.symbols.ensures at c.if-behind-symbols.false))

pub returns-clause-exact : goal.returns-clause-exact
returns-clause-exact c =
    let most = c.loop-index.auto.index-end in
    let past = c.loop-index-test.false in
    ap (λ (k : ℕ). (k, c.loop-index.behind)) (omega arith)
    ∙ sym (c.loop-index.invariant ∙ found_nowhere c.args.objects.now c.loop-index.index c.loop-index.behind past)
