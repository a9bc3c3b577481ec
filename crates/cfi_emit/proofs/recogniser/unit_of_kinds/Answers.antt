use Rattle.std.proofs.Common.{List, ap, arith, subst}
use Rattle.std.specs.Prelude.{is_some}
use Rattle.std.specs.List.{All}
use Rattle.std.proofs.lemmas.List.{take_all}
use Rattle.std.proofs.lemmas.List.Elements.{All-more}
use Rattle.cfi_unit.specs.declared.pattern.End.{End}
use Rattle.cfi_unit.specs.NoneBegins.{NoneBegins}
use Rattle.cfi_emit.proofs.recogniser.unit_of_kinds.Goals as goal

pub loop-end-preserved : goal.loop-end-preserved
loop-end-preserved c =
    All-more (λ end. NoneBegins end c.args.words.now c.args.at) c.args.kinds.now c.loop-end.end-index _ c.loop-end-test.true c.loop-end.invariant
    (c.unit_of_kind.ensures.none (ap is_some c.in_default.is))

pub returns-clause-none : goal.returns-clause-none
returns-clause-none c = λ none.
    subst (λ (ends : List End). All (λ end. NoneBegins end c.args.words.now c.args.at) ends)
    (take_all c.loop-end.end-index c.args.kinds.now (omega (arith, c.loop-end-test.false))) c.loop-end.invariant
