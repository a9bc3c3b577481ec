use Rattle.std.proofs.Common.{ℕ, List, length, subst, ◌∙◌}
use Rattle.std.specs.List.{Contains}
use Rattle.std.proofs.lemmas.Bool.{OnTrue_from}
use Rattle.cfi_flow.specs.Kept.{mark_at}
use Rattle.cfi_flow.proofs.Merging.{common_open, not_empty, some_member, start_open}
use Rattle.cfi_flow.proofs.join.is_linked.Goals as goal

pub returns-then-not-is_empty : goal.returns-then-not-is_empty
returns-then-not-is_empty c = λ taken begun are. OnTrue_from _ _ (λ e.
    let m = some_member c.starts.result.now (not_empty c.starts.result.now c.is_empty.result c.is_empty.ensures e) in
    let h = subst (λ (xs : List ℕ). Contains xs m.0) (c.starts.ensures ∙ are.starts) m.1 in
    (m.0, start_open taken begun c.args.last m.0 h, start_open taken begun c.args.span m.0 h))

pub returns-else-not-is_empty : goal.returns-else-not-is_empty
returns-else-not-is_empty c = λ taken begun are. OnTrue_from _ _ (λ e.
    let m = some_member c.within.result.now (not_empty c.within.result.now c.is_empty-else-not-is_empty.result c.is_empty-else-not-is_empty.ensures e) in
    let h = subst (λ (xs : List ℕ). Contains xs m.0) (c.within.ensures (mark_at taken) (length taken) are.all) m.1 in
    let both = common_open taken begun c.args.last c.args.span c.common.result c.requires.order c.common.ensures.from c.common.ensures.to m.0 h in
    (m.0, both.0, both.1))
