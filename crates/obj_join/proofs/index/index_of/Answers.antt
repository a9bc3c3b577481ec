use Rattle.std.proofs.Common.{◌∙◌, ap, get_or, refl, Option, ℕ}
use Rattle.obj_join.specs.Ranked.{noted}
use Rattle.obj_join.proofs.Noted.{next_symbol}
use Rattle.obj_join.proofs.index.index_of.Goals as goal

pub loop-number-preserved : goal.loop-number-preserved
loop-number-preserved c = λ name.
    let its = get_or c.args.names.now c.loop-number.number 0 in
    c.in_ok-note.ensures name
    ∙ ap (λ (found : Option ℕ). noted c.args.rank c.index-symbols-number.result its c.loop-number.number found name) (c.loop-number.invariant name)
    ∙ next_symbol c.args.rank c.args.symbols.now c.args.names.now c.loop-number.number its c.index-symbols-number.result name c.loop-number-test.true c.index-symbols-number.is refl
