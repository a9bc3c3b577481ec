use Rattle.std.proofs.Common.{rules, ap, ◌∙◌}
use Rattle.std.proofs.lemmas.List.Sorted.{IsNonDecreasingBy-from_sort_by_key, answers_always}
use Rattle.obj_join.specs.declared.table.TableUse.{TableUse}
use Rattle.obj_join.specs.Uses.{standing}
use Rattle.obj_join.proofs.Sorting.{kept_at}
use Rattle.obj_join.proofs.table.in_order.Goals as goal

pub returns-clause-order : goal.returns-clause-order
returns-clause-order c = IsNonDecreasingBy-from_sort_by_key (λ (u : TableUse). u.offset) _ c.in_ok-sort_by_key.ensures.sorted (λ a r q k. search rules)

pub returns-clause-found : goal.returns-clause-found
returns-clause-found c = λ at.
    kept_at _ _ (c.sort_by_key.ensures.stable (λ (u : TableUse). u.offset) (answers_always _ _ _ (λ f a r g h. search rules))) at
    ∙ ap (standing at) c.in_ok-uses.ensures.items
