use Rattle.std.proofs.Common.{◌≡◌, ◌+◌, ◌-◌, ◌∙◌, arith, subst, sym}
use Rattle.cfi_starts.specs.Leaves.{ArePast}
use Rattle.cfi_starts.proofs.LeafLines.{past_behind}
use Rattle.cfi_starts.proofs.leaves.are_past.Goals as goal

pub returns-else-count-eq0 : goal.returns-else-count-eq0
returns-else-count-eq0 c = λ held.
    let whole : c.args.count - 1 + 1 ≡ c.args.count = omega (arith, c.if-count-eq0.false) in
    subst (λ n. ArePast c.args.graph.now.lines n c.args.address) whole (past_behind _ c.requires c.args.address (c.args.count - 1) (sym c.is_past_at.ensures ∙ held))
