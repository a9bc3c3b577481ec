use Rattle.std.proofs.Common.{refl}
use Rattle.cfi_launch.proofs.Determined.{no_run, run_there}
use Rattle.cfi_launch.proofs.launching.launch.Goals as goal

pub returns-in-Err-clause-complete : goal.returns-in-Err-clause-complete
returns-in-Err-clause-complete c = λ image graph read spell given may well.
    no_run _ _ image graph spell _ read given may c.in-Err.end _ c.in-Err.ensures.refused refl

pub returns-in-Ok-run_pair-clause-complete : goal.returns-in-Ok-run_pair-clause-complete
returns-in-Ok-run_pair-clause-complete c = λ image graph read spell given may well.
    run_there _ _ image graph spell _ read given may well _ _ c.in-Ok-run_pair.launched
    (c.in-Ok.opened.0.image, c.in-Ok.opened.0.graph, c.in-Ok.opened.1, c.in-Ok.ensures.spelled, c.in-Ok.ensures.given, c.in-Ok.ensures.may_run, c.in-Ok-run_pair.ensures)
