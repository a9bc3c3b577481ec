use Rattle.std.proofs.Common.{◌∙◌, subst, List, ℕ}
use Rattle.obj_items.specs.Finished.{IsFinished}
use Rattle.obj_items.proofs.Alone.{alone}
use Rattle.obj_items.proofs.join.Join.finish.Goals as goal

pub returns-clause-alone : goal.returns-clause-alone
returns-clause-alone c = λ object is own_names.
    alone c.args.self c.finished.result object (subst (λ (os : List (List ℕ)). IsFinished os c.finished.result) (c.deref.ensures.value ∙ c.self.view_is) c.finished.ensures) is own_names
