use Rattle.std.proofs.Common.{ap, ◌∙◌, List, ℕ}
use Rattle.obj_input.specs.InOrder.{has}
use Rattle.std.proofs.lemmas.List.Sorted.{searched}
use Rattle.obj_input.proofs.Found.{is_among, rises}
use Rattle.obj_input.proofs.offsets.Offsets.has.Goals as goal

pub returns : goal.returns
returns c =
    c.is_ok.ensures.value
    ∙ is_among c.deref.result.now c.args.at c.binary_search.result
    (searched c.deref.result.now c.args.at c.binary_search.result c.binary_search.ensures.position
    (rises c.deref.result.now _ c.deref.ensures.value c.self.invariant))
    ∙ ap (λ (xs : List ℕ). has xs c.args.at) (c.deref.ensures.value ∙ c.self.view_is)
