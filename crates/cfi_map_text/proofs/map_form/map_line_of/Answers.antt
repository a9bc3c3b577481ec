use Rattle.cfi_map_text.proofs.MapWritten.{map_long}
use Rattle.cfi_map_text.proofs.map_form.map_line_of.Goals as goal

pub returns-in-Some : goal.returns-in-Some
returns-in-Some c =
    let first = rw c.in_ok-rest.was at c.cut.ensures.parts in
    let second = rw c.in_ok-rest-2.was at c.cut-2.ensures.parts in
    let third = rw c.in_ok-rest-3.was at c.cut-3.ensures.parts in
    let fourth = rw c.in-Some.is at c.cut-4.ensures.parts in
    map_long c.in-Some._more.now first second third fourth
