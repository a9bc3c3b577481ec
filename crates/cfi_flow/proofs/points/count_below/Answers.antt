use Rattle.std.proofs.Common.{ℕ, rules, arith}
use Rattle.std.proofs.Math.Dec.{ltb}
use Rattle.std.proofs.lemmas.Bool.{ltb-false, ltb-true}
use Rattle.std.proofs.lemmas.List.Sorted.{IsPartitionPoint-from_clause}
use Rattle.cfi_flow.proofs.Pointing.{parted_below}
use Rattle.cfi_flow.proofs.points.count_below.Goals as goal

pub returns-clause-before : goal.returns-clause-before
returns-clause-before c =
    let bound = c.partition_point.ensures.bound in
    let point = IsPartitionPoint-from_clause (λ (x : ℕ). ltb x c.args.place) _ _ c.partition_point.ensures.partitioned
    (parted_below c.args.places.now c.args.place c.requires) (λ a r q k. search rules) in
    λ k below. ltb-true _ _ (point.0 k 0 (omega arith) below)

pub returns-clause-from : goal.returns-clause-from
returns-clause-from c =
    let point = IsPartitionPoint-from_clause (λ (x : ℕ). ltb x c.args.place) _ _ c.partition_point.ensures.partitioned
    (parted_below c.args.places.now c.args.place c.requires) (λ a r q k. search rules) in
    λ k from below. ltb-false _ _ (point.1 k 0 from below)
