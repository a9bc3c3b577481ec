use Rattle.std.proofs.Common.{ltb, rules}
use Rattle.std.proofs.lemmas.Bool.{ltb-true, ltb-false}
use Rattle.std.proofs.lemmas.List.Sorted.{IsPartitionPoint-from_clause, IsPartitionedBy-ltb}
use Rattle.obj_input.specs.declared.parts.Relocation.{Relocation}
use Rattle.obj_input.proofs.search.count_below.Goals as goal

pub returns-clause-below : goal.returns-clause-below
returns-clause-below c =
    let parted = IsPartitionedBy-ltb (λ (u : Relocation). u.offset) _ c.args.offset c.requires in
    let point = IsPartitionPoint-from_clause (λ (u : Relocation). ltb u.offset c.args.offset) _ _ c.partition_point.ensures.partitioned parted (λ a r q k. search rules) in
    λ k d l h. ltb-true _ _ (point.0 k d l h)

pub returns-clause-from : goal.returns-clause-from
returns-clause-from c =
    let parted = IsPartitionedBy-ltb (λ (u : Relocation). u.offset) _ c.args.offset c.requires in
    let point = IsPartitionPoint-from_clause (λ (u : Relocation). ltb u.offset c.args.offset) _ _ c.partition_point.ensures.partitioned parted (λ a r q k. search rules) in
    λ k d l h. ltb-false _ _ (point.1 k d l h)
