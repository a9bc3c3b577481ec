use Rattle.std.proofs.Common.{List, ℕ, subst}
use Rattle.cfi_flow.specs.declared.span.Span.{Span}
use Rattle.cfi_flow.specs.Spans.{AreEnds}
use Rattle.cfi_flow.proofs.Spanning.{reach_is}
use Rattle.cfi_flow.proofs.span.reach.Goals as goal

pub returns : goal.returns
returns c =
    let spans = c.in_ok-spans.spans.items in
    let ends = c.in_ok-ends.ends.items in
    let of = subst (λ (n : ℕ). AreEnds n spans ends) c.count.ensures.value
    (subst (λ (ss : List Span). AreEnds c.count.result ss ends) c.as_slice.ensures.value c.in_ok-ends.ensures) in
    reach_is c.args.items.now spans ends c.farthest.result.items c.in_ok-spans.ensures of c.farthest.ensures
