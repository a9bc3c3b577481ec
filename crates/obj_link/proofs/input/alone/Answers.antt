use Rattle.std.proofs.Common.{◌≤◌, ◌^◌, ◌∙◌, List, ℕ, ap, subst, sym}
use Rattle.std.specs.List.{sum_by}
use Rattle.obj_link.proofs.Prelude.{e_shnum, said_by}
use Rattle.obj_link.proofs.Together.{said_alone}
use Rattle.obj_link.proofs.Whole.{few_alone}
use Rattle.obj_link.proofs.input.alone.Goals as goal

pub returns-clause-few : goal.returns-clause-few
returns-clause-few c = subst (λ (os : List (List ℕ)). sum_by e_shnum os ≤ 2 ^ 16) (sym c.from_ref.ensures.value) (few_alone c.args.object.now c.sections-sections.ensures.sound)

pub returns-clause-said : goal.returns-clause-said
returns-clause-said c = ap said_by c.from_ref.ensures.value ∙ said_alone c.args.object.now
