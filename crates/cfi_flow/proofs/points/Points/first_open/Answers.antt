use Rattle.std.proofs.Common.{ap, ◌∙◌, length, Option, ℕ}
use Rattle.std.specs.List.{slice_get}
use Rattle.least.specs.Least.{lesser}
use Rattle.cfi_flow.specs.Kept.{mark_at}
use Rattle.cfi_flow.proofs.Pointing.{first_opened}
use Rattle.cfi_flow.proofs.points.Points.first_open.Goals as goal

pub returns : goal.returns
returns c = λ taken begun are.
    c.lesser.ensures
    ∙ ap (λ (o : Option ℕ). lesser o c.first-2.result) c.first.ensures
    ∙ ap (λ (o : Option ℕ). lesser (slice_get c.starts.result.now 0) o) c.first-2.ensures
    ∙ first_opened taken begun c.args.span c.starts.result.now c.within.result.now (c.starts.ensures ∙ are.starts) (c.within.ensures (mark_at taken) (length taken) are.all)
