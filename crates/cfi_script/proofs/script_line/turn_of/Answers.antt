use Rattle.cfi_script.proofs.ScriptTurns.{turn_long}
use Rattle.cfi_script.proofs.script_line.turn_of.Goals as goal

pub returns-in-Some : goal.returns-in-Some
returns-in-Some c =
    let first = rw c.in_ok-rest.was at c.cut.ensures.parts in
    let second = rw c.in_ok-rest-2.was at c.cut-2.ensures.parts in
    let third = rw c.in-Some.is at c.cut-3.ensures.parts in
    turn_long c.in-Some._more.now first second third
