use Rattle.std.proofs.Common.{leb, rules}
use Rattle.std.proofs.lemmas.Bool.{leb-true, leb-false}
use Rattle.std.proofs.lemmas.List.Sorted.{IsPartitionPoint-from_clause, IsPartitionedBy-leb}
use Rattle.obj_input.specs.declared.parts.Relocation.{Relocation}
use Rattle.obj_input.proofs.search.count_to.Goals as goal

pub returns-clause-to : goal.returns-clause-to
returns-clause-to c =
    let parted = IsPartitionedBy-leb (λ (u : Relocation). u.offset) _ c.args.offset c.requires in
    let point = IsPartitionPoint-from_clause (λ (u : Relocation). leb u.offset c.args.offset) _ _ c.partition_point.ensures.partitioned parted (λ a r q k. search rules) in
    λ k d l h. leb-true _ _ (point.0 k d l h)

pub returns-clause-after : goal.returns-clause-after
returns-clause-after c =
    let parted = IsPartitionedBy-leb (λ (u : Relocation). u.offset) _ c.args.offset c.requires in
    let point = IsPartitionPoint-from_clause (λ (u : Relocation). leb u.offset c.args.offset) _ _ c.partition_point.ensures.partitioned parted (λ a r q k. search rules) in
    λ k d l h. leb-false _ _ (point.1 k d l h)
