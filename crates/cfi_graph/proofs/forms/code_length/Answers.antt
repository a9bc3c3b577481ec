use Rattle.cfi_graph.proofs.LineForms.{length_long}
use Rattle.cfi_graph.proofs.forms.code_length.Goals as goal

pub returns-in-Some : goal.returns-in-Some
returns-in-Some c =
    let first = rw c.in_ok-rest.was at c.cut.ensures.parts in
    let second = rw c.in_ok-rest-2.was at c.cut-2.ensures.parts in
    let third = rw c.in-Some.is at c.cut-3.ensures.parts in
    length_long c.in-Some._more.now first second third
