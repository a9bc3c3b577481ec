use Rattle.cfi_script.proofs.ScriptTurns.{harts_long}
use Rattle.cfi_script.proofs.script_line.harts_of.Goals as goal

pub returns-in-Some : goal.returns-in-Some
returns-in-Some c =
    let first = rw c.in_ok-rest.was at c.cut.ensures.parts in
    let second = rw c.in-Some.is at c.cut-2.ensures.parts in
    harts_long c.in-Some._more.now first second
