use Rattle.std.proofs.Common.{arith, ltb, ltb-true, rules}
use Rattle.std.proofs.lemmas.List.Sorted.{IsPartitionPoint-from_clause, IsPartitionedBy-ltb}
use Rattle.cfi_script.proofs.ScriptPlans.{quiet_to}
use Rattle.cfi_script.proofs.script.next_from.Goals as goal

pub returns-then-place-changes : goal.returns-then-place-changes
returns-then-place-changes c =
    let parted = IsPartitionedBy-ltb (λ p. p.0) _ c.args.from c.requires in
    let point = IsPartitionPoint-from_clause (λ p. ltb p.0 c.args.from) _ _ c.partition_point-place.ensures.partitioned parted (λ a r q k. search rules) in
    quiet_to c.args.from c.partition_point-place.result _ c.args.changes.now c.requires (λ k d h. ltb-true _ _ (point.0 k d (omega arith) h)) (λ within. c.step_at.ensures)

pub returns-else-place-changes : goal.returns-else-place-changes
returns-else-place-changes c =
    let parted = IsPartitionedBy-ltb (λ p. p.0) _ c.args.from c.requires in
    let point = IsPartitionPoint-from_clause (λ p. ltb p.0 c.args.from) _ _ c.partition_point-place.ensures.partitioned parted (λ a r q k. search rules) in
    quiet_to c.args.from c.partition_point-place.result _ c.args.changes.now c.requires (λ k d h. ltb-true _ _ (point.0 k d (omega arith) h)) (λ within. absurd (omega (arith, within, c.if-place-changes.false)))
