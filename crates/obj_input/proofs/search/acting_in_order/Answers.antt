use Rattle.std.proofs.Common.{rules}
use Rattle.std.proofs.lemmas.List.Sorted.{IsNonDecreasingBy-from_sort_by_key, answers_always}
use Rattle.obj_input.specs.declared.parts.Relocation.{Relocation}
use Rattle.obj_input.proofs.Standing.{kept_at}
use Rattle.obj_input.proofs.search.acting_in_order.Goals as goal

pub returns-clause-in_order : goal.returns-clause-in_order
returns-clause-in_order c = IsNonDecreasingBy-from_sort_by_key (λ (u : Relocation). u.offset) _ c.in_ok-sort_by_key.ensures.sorted (λ a r q k. search rules)

pub returns-clause-found : goal.returns-clause-found
returns-clause-found c =
    kept_at c.args.uses.now _ _ c.in_ok-acting.ensures
    (c.sort_by_key.ensures.stable (λ (u : Relocation). u.offset) (answers_always _ _ _ (λ f a r g h. search rules)))
