use Rattle.std.proofs.Common.{ℕ, rules, arith}
use Rattle.std.proofs.Math.Dec.{leb}
use Rattle.std.proofs.lemmas.Bool.{leb-false, leb-true}
use Rattle.std.proofs.lemmas.List.Sorted.{IsPartitionPoint-from_clause}
use Rattle.cfi_flow.proofs.Spanning.{parted_up_to}
use Rattle.cfi_flow.proofs.span.count_up_to.Goals as goal

pub returns-clause-before : goal.returns-clause-before
returns-clause-before c =
    let bound = c.partition_point.ensures.bound in
    let point = IsPartitionPoint-from_clause (λ (end : ℕ). leb end c.args.place) _ _ c.partition_point.ensures.partitioned
    (parted_up_to c.args.reach.now c.args.place c.requires) (λ a r q k. search rules) in
    λ k below. leb-true _ _ (point.0 k 0 (omega arith) below)

pub returns-clause-from : goal.returns-clause-from
returns-clause-from c =
    let point = IsPartitionPoint-from_clause (λ (end : ℕ). leb end c.args.place) _ _ c.partition_point.ensures.partitioned
    (parted_up_to c.args.reach.now c.args.place c.requires) (λ a r q k. search rules) in
    λ k from below. leb-false _ _ (point.1 k 0 from below)
