use Rattle.std.proofs.Common.{ap, get_or, ℕ, ◌∙◌, sym}
use Rattle.std.proofs.lemmas.Result.{MatchResult-at_err, MatchResult-at_ok}
use Rattle.cfi_class.proofs.Indexes.{one_index, found}
use Rattle.cfi_class.proofs.passes.number_of.Goals as goal

pub returns-in-Ok-clause-value : goal.returns-in-Ok-clause-value
returns-in-Ok-clause-value c = λ i lt e.
    let there = found _ _ c.requires.rising _ c.binary_search.ensures.position c.requires.among in
    let p = MatchResult-at_ok _ _ _ c.in-Ok.is there in
    ap (λ (k : ℕ). get_or c.args.numbers.now k 0) (one_index _ c.requires.rising _ _ p.0 lt (p.1 ∙ sym e))

pub returns-in-Err-clause-value : goal.returns-in-Err-clause-value
returns-in-Err-clause-value c = λ i lt e.
    absurd (MatchResult-at_err _ _ _ c.in-Err.is (found _ _ c.requires.rising _ c.binary_search.ensures.position c.requires.among))
