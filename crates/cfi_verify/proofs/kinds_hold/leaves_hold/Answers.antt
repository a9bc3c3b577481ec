use Rattle.std.proofs.Common.{◌≡◌, arith, false, subst}
use Rattle.std.specs.List.{list_any}
use Rattle.std.proofs.lemmas.Option.{slice_get_within}
use Rattle.cfi_verify.proofs.Prelude.{GraphParts, lacks_end_at, profile_in, AreShut}
use Rattle.cfi_starts.proofs.LeafLines.{none_of}
use Rattle.cfi_verify.proofs.kinds_hold.leaves_hold.Goals as goal

pub returns-clause-whole : goal.returns-clause-whole
returns-clause-whole c = λ held a.
    subst (λ (g : GraphParts). list_any (lacks_end_at (profile_in c.args.starts.now) c.args.starts.now.listing a) g.lines ≡ false) c.graph-graph.ensures.value
    (none_of _ c.graph-graph.result.now.lines (λ i line e. c.loop-k.invariant.whole i line (omega (arith, slice_get_within _ i line e, c.loop-k-test.false, c.lines-k-end.ensures)) e a))

pub returns-clause-shut : goal.returns-clause-shut
returns-clause-shut c = λ held.
    subst (λ (g : GraphParts). AreShut (profile_in c.args.starts.now) c.args.starts.now.listing g.lines) c.graph-graph.ensures.value
    (λ i line e. c.loop-k.invariant.shut i line (omega (arith, slice_get_within _ i line e, c.loop-k-test.false, c.lines-k-end.ensures)) e)
