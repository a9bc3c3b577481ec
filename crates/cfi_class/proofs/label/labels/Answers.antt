use Rattle.std.proofs.Common.{List, ℕ, subst}
use Rattle.std.specs.List.Sorted.{IsPermutation}
use Rattle.std.proofs.lemmas.List.Sorted.{IsNonDecreasingBy-from_sort}
use Rattle.std.proofs.lemmas.Result.{IfOk-weaker}
use Rattle.cfi_class.proofs.LabelsGiven.{in_any_order}
use Rattle.cfi_class.proofs.label.labels.Goals as goal

pub given-requires-clause-in_order : goal.given-requires-clause-in_order
given-requires-clause-in_order c =
    rw c.as_slice.ensures.value (IsNonDecreasingBy-from_sort (λ x. x) _ c.in_ok-sort.ensures.sorted)

pub returns-clause-least : goal.returns-clause-least
returns-clause-least c =
    let moved : IsPermutation c.args.used.now c.sort.new.self.items = subst (λ (xs : List ℕ). IsPermutation xs c.sort.new.self.items) c.in_ok-taken.ensures.items c.in_ok-sort.ensures.permutation in
    let same : IsPermutation c.args.used.now c.as_slice.result.now = rw c.as_slice.ensures.value moved in
    IfOk-weaker c.given.result _ _ (λ v are. in_any_order c.args.used.now c.as_slice.result.now v.items same are) c.given.ensures.least
