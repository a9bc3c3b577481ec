use Rattle.std.proofs.Common.{List, ap, arith, subst}
use Rattle.std.proofs.lemmas.List.{take_all}
use Rattle.obj_input.specs.declared.parts.Func.{Func}
use Rattle.cfi_flow.specs.declared.span.Span.{Span}
use Rattle.cfi_flow.specs.Spans.{AreSpans, are_in_span}
use Rattle.cfi_flow.proofs.Spanning.{spans_more}
use Rattle.cfi_flow.proofs.span.covered_by_each.Goals as goal

pub loop-j-init : goal.loop-j-init
loop-j-init c = λ a b below_a below_b. ap (λ (ss : List Span). are_in_span ss a b) c.new-spans.ensures.items

pub loop-j-preserved : goal.loop-j-preserved
loop-j-preserved c =
    rw c.in_ok-push.ensures.items
    (spans_more c.args.items.now c.loop-j.j c.func.result c.covered.result c.loop-j.spans.items c.func.ensures c.covered.ensures c.loop-j.invariant)

pub returns : goal.returns
returns c =
    subst (λ (fs : List Func). AreSpans c.args.items.now fs c.loop-j.spans.items) (take_all c.loop-j.j c.args.items.now.funcs (omega arith)) c.loop-j.invariant
