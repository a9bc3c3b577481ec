use Rattle.std.proofs.Common.{inl, inr, ◌≡◌, ◌≤◌, length, ap, arith}
use Rattle.std.proofs.lemmas.Bool.{cases_lt}
use Rattle.cfi_graph.specs.Graph.{GraphParts}
use Rattle.cfi_starts.proofs.Laid.{laid_with}
use Rattle.cfi_verify.proofs.OnePass.{gates_passed, none_after}
use Rattle.cfi_verify.proofs.all_hold.lines_hold.Goals as goal

pub unlisted_hold-requires-clause-unlisted : goal.unlisted_hold-requires-clause-unlisted
unlisted_hold-requires-clause-unlisted c =
    let end = c.lines-k-end.ensures in
    let done = c.loop-k-test.false in
    let same : length c.graph.result.now.lines ≡ length c.args.starts.now.graph.lines = ap (λ (g : GraphParts). length g.lines) c.graph.ensures.value in
    let all : length c.args.starts.now.graph.lines ≤ c.loop-k.k = omega arith in
    none_after _ (laid_with c.args.starts.now.listing.versions) c.args.starts.now.listing c.args.starts.now.graph c.loop-k.k c.loop-k.next c.count_after.result all c.loop-k.invariant

pub returns-clause-words : goal.returns-clause-words
returns-clause-words c = λ held k below.
    elim (cases_lt k c.loop-k.next) [
      | inl before ↦ c.loop-k.invariant.words k before
      | inr from ↦ c.unlisted_hold.ensures held k from (omega (arith, below, c.count_after.ensures.value))
    ]

pub returns-clause-gates : goal.returns-clause-gates
returns-clause-gates c = λ held.
    let end = c.lines-k-end.ensures in
    let done = c.loop-k-test.false in
    let same : length c.graph.result.now.lines ≡ length c.args.starts.now.graph.lines = ap (λ (g : GraphParts). length g.lines) c.graph.ensures.value in
    let all : length c.args.starts.now.graph.lines ≤ c.loop-k.k = omega arith in
    gates_passed _ (laid_with c.args.starts.now.listing.versions) c.args.starts.now.listing c.args.starts.now.graph c.loop-k.k c.loop-k.next all c.loop-k.invariant
