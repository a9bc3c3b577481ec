use Rattle.cfi_flow.proofs.Spanning.{spanned}
use Rattle.cfi_flow.proofs.span.span_of.Goals as goal

pub returns : goal.returns
returns c = λ program is t below.
    spanned program c.args.reach.now c.args.place c.count_up_to-from.result c.requires.place c.count_up_to-from.ensures.before c.count_up_to-from.ensures.from is t below
