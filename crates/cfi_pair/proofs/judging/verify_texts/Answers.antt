use Rattle.std.proofs.Common.{refl}
use Rattle.cfi_pair.proofs.Determined.{accepted, wants_memory}
use Rattle.cfi_pair.proofs.judging.verify_texts.Goals as goal

pub returns-in-Err-clause-complete : goal.returns-in-Err-clause-complete
returns-in-Err-clause-complete c = λ image graph spell well. wants_memory _ _ image graph spell well c.in-Err.end _ c.in-Err.ensures.refused refl

pub returns-in-Ok-judge-clause-complete : goal.returns-in-Ok-judge-clause-complete
returns-in-Ok-judge-clause-complete c = λ image graph spell well.
    accepted _ _ image graph spell well c.in-Ok-judge.verdict _ (c.in-Ok.pair.image, c.in-Ok.pair.graph, c.in-Ok.ensures.spelled, c.in-Ok-judge.ensures) refl
