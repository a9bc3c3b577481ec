use Rattle.std.proofs.Common.{arith, ltb, ltb-true, rules, sym}
use Rattle.std.proofs.lemmas.List.{take_rest}
use Rattle.std.proofs.lemmas.List.Sorted.{IsPartitionPoint-from_clause, IsPartitionedBy-ltb}
use Rattle.cfi_script.proofs.ScriptPlans.{from_start, rest_from}
use Rattle.cfi_script.proofs.script.from_step.Goals as goal

pub returns-clause-from : goal.returns-clause-from
returns-clause-from c =
    let parted = IsPartitionedBy-ltb (λ p. p.0) _ c.args.step c.requires in
    let point = IsPartitionPoint-from_clause (λ p. ltb p.0 c.args.step) _ _ c.partition_point-start.ensures.partitioned parted (λ a r q k. search rules) in
    rw (take_rest c.args.changes.now c.partition_point-start.result) (rest_from c.args.step c.partition_point-start.result c.args.changes.now point.1)

pub returns-clause-same : goal.returns-clause-same
returns-clause-same c =
    let parted = IsPartitionedBy-ltb (λ p. p.0) _ c.args.step c.requires in
    let point = IsPartitionPoint-from_clause (λ p. ltb p.0 c.args.step) _ _ c.partition_point-start.ensures.partitioned parted (λ a r q k. search rules) in
    rw (take_rest c.args.changes.now c.partition_point-start.result) (sym (from_start c.args.step c.partition_point-start.result c.args.changes.now (λ k d h. ltb-true _ _ (point.0 k d (omega arith) h))))
