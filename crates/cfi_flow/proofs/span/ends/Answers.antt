use Rattle.std.proofs.Common.{List, refl, subst}
use Rattle.std.proofs.lemmas.List.{take_all}
use Rattle.cfi_flow.specs.declared.span.Span.{Span}
use Rattle.cfi_flow.specs.Spans.{AreEnds}
use Rattle.cfi_flow.proofs.Spanning.{ends_more, ends_none}
use Rattle.cfi_flow.proofs.span.ends.Goals as goal

pub loop-span-init : goal.loop-span-init
loop-span-init c = ends_none c.args.places c.in_ok-table.table.items (c.in_ok-table.ensures.items_if_clones_equal (λ y same. same))

pub loop-span-preserved : goal.loop-span-preserved
loop-span-preserved c =
    ends_more c.args.places c.loop-span.span-index c.args.spans.now _ _ c.loop-span.table.items c.raise.new.table.items c.loop-span-test.true refl
    c.raise.ensures.size c.raise.ensures.each c.loop-span.invariant

pub returns : goal.returns
returns c =
    subst (λ (ss : List Span). AreEnds c.args.places ss c.loop-span.table.items) (take_all c.loop-span.span-index c.args.spans.now c.loop-span-test.false)
    c.loop-span.invariant
