use Rattle.src_machine.proofs.Prelude.{count, step_at, source_in}
use Rattle.src_machine.proofs.Inside.{either_inside, place_there}
use Rattle.src_machine.proofs.step.step.Goals as goal

pub returns-in-None-clause-inside : goal.returns-in-None-clause-inside
returns-in-None-clause-inside c =
    let layout = c.args.placed.now in
    let st = source_in c.args.state.now in
    either_inside layout.program (count layout.program) st (step_at layout st.place st) c.step_at.result c.step_at.new.state c.step_at.ensures.stepped
    c.step_at.ensures.refused c.requires.inside
    (place_there layout c.count-count.ensures.sound c.count-count.ensures.last c.count-count.ensures.gates st.place st c.requires.inside.place c.requires.inside)
