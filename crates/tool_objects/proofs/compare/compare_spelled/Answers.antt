use Rattle.std.proofs.Common.{Err, subst}
use Rattle.tool_objects.proofs.Prelude.{End, Answers, LineFault, map_of}
use Rattle.tool_objects.proofs.compare.compare_spelled.Goals as goal

pub returns-in-Ok : goal.returns-in-Ok
returns-in-Ok c = λ given gives. c.compare_program.ensures given c.args.map.now gives c.in-Ok.ensures.exact

pub returns-in-Err-Fault : goal.returns-in-Err-Fault
returns-in-Err-Fault c = λ given gives.
    let text = c.args.map.now in
    c.after_the_program.ensures given text c.args.input.now gives (subst (λ (e : End LineFault). Answers (Err e) (map_of text)) c.in-Err-Fault.field-0-is c.in-Err-Fault.ensures.exact)
