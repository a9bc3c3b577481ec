use Rattle.std.proofs.Common.{ℕ, List, Option, IfSome, subst}
use Rattle.std.specs.List.{Contains}
use Rattle.cfi_flow.specs.declared.span.Span.{Span}
use Rattle.cfi_flow.specs.Kept.{open_targets}
use Rattle.cfi_flow.proofs.Merging.{empty_open, same_more}
use Rattle.cfi_flow.proofs.join.Joining.with_open.Goals as goal

pub returns-in-Some : goal.returns-in-Some
returns-in-Some c = λ sets taken begun k are is at.
    let group = c.args.self.group.items in
    let latest = subst (λ (o : Option Span). IfSome o (λ l. (t : ℕ) → Contains (open_targets taken begun l) t → Contains group t)) c.in-Some.is is.latest in
    same_more sets taken begun k c.args.self.lists.items group c.args.self.last is
    (λ u h. latest u (empty_open taken begun c.in-Some.field-0 c.args.span c.if-span.true u (subst (λ (xs : List ℕ). Contains xs u) at h)))
