use Rattle.cfi_graph.proofs.LineForms.{pair_long}
use Rattle.cfi_graph.proofs.forms.pair.Goals as goal

pub returns-in-Some : goal.returns-in-Some
returns-in-Some c =
    let first = rw c.in_ok-rest.was at c.cut.ensures.parts in
    let second = rw c.in-Some.is at c.cut-2.ensures.parts in
    rw c.in_ok-words.was (pair_long c.in-Some._more.now first second)
