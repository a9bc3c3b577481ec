use Rattle.std.proofs.Common.{arith, rules}
use Rattle.std.proofs.lemmas.List.Sorted.{IsPartitionPoint-from_clause}
use Rattle.obj_program.specs.declared.item.Item.{Item}
use Rattle.obj_program.specs.Program.{is_before, no_item}
use Rattle.obj_program.proofs.Ordered.{parted}
use Rattle.cfi_flow.proofs.named.count_before.Goals as goal

pub returns-clause-before : goal.returns-clause-before
returns-clause-before c =
    let point = IsPartitionPoint-from_clause (λ (i : Item). is_before i c.args.section c.args.offset) c.args.places.now _ c.partition_point.ensures.partitioned
    (parted c.args.places.now c.requires c.args.section c.args.offset) (λ a r q k. search rules) in
    λ k below. point.0 k no_item (omega arith) below

pub returns-clause-from : goal.returns-clause-from
returns-clause-from c =
    let point = IsPartitionPoint-from_clause (λ (i : Item). is_before i c.args.section c.args.offset) c.args.places.now _ c.partition_point.ensures.partitioned
    (parted c.args.places.now c.requires c.args.section c.args.offset) (λ a r q k. search rules) in
    λ k from below. point.1 k no_item from below
