use Rattle.std.proofs.Common.{◌≤◌, ◌^◌, ◌∙◌, subst, sym, ℕ}
use Rattle.obj_link.proofs.Prelude.{by, said_by}
use Rattle.obj_link.proofs.Composed.{few_sections}
use Rattle.obj_link.proofs.Together.{counted}
use Rattle.obj_link.proofs.input.all_sections.Goals as goal

pub returns-clause-few : goal.returns-clause-few
returns-clause-few c =
    few_sections (by c.args.numbers.now) (said_by c.args.objects.now) _ c.in_ok-sections.sections.items _ c.in_ok-sections.ensures
    (c.in_ok-push_table.ensures (by c.args.numbers.now) (said_by c.args.objects.now) c.requires.symbols c.requires.places (c.as_slice.ensures.keys ∙ c.requires.slots))
    (subst (λ (n : ℕ). n ≤ 2 ^ 16) (sym (counted c.args.objects.now)) c.requires.few)
