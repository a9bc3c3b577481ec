use Rattle.std.proofs.Common.{◌∙◌, ap, arith, not, sym}
use Rattle.least.proofs.Firsts.{first_none}
use Rattle.cfi_verify.proofs.OnePass.{is_nothing}
use Rattle.cfi_verify.proofs.all_hold.holds_early.Goals as goal

pub returns-in_default : goal.returns-in_default
returns-in_default c = λ none n k below.
    first_none _ c.from.result k (sym c.first_index.ensures.first ∙ is_nothing _ (c.is_none.ensures ∙ ap not none)) (omega (arith, below, c.from.ensures, c.front.ensures.count))
