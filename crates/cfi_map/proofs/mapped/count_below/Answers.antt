use Rattle.std.proofs.Common.{ℕ, nat_lt, arith, rules}
use Rattle.std.proofs.lemmas.Bool.{ltb-true, ltb-false}
use Rattle.std.proofs.lemmas.List.Sorted.{IsPartitionPoint-from_clause}
use Rattle.cfi_map.proofs.ByGate.{parted}
use Rattle.cfi_map.proofs.mapped.count_below.Goals as goal

pub returns-clause-before : goal.returns-clause-before
returns-clause-before c =
    let point = IsPartitionPoint-from_clause (λ (g : ℕ). nat_lt g c.args.address) c.args.gates.now _ c.partition_point.ensures.partitioned
    (parted c.args.gates.now c.requires c.args.address) (λ a r q k. search rules) in
    λ k below. ltb-true _ _ (point.0 k 0 (omega arith) below)

pub returns-clause-from : goal.returns-clause-from
returns-clause-from c =
    let point = IsPartitionPoint-from_clause (λ (g : ℕ). nat_lt g c.args.address) c.args.gates.now _ c.partition_point.ensures.partitioned
    (parted c.args.gates.now c.requires c.args.address) (λ a r q k. search rules) in
    λ k from below. ltb-false _ _ (point.1 k 0 from below)
