use Rattle.std.proofs.Common.{◌∙◌, ap, sym}
use Rattle.rv_image.specs.MemoryMap.{profile_of}
use Rattle.rv_code.specs.State.{After, last_exit}
use Rattle.rv_machine.specs.Parts.{hart_at, shared_in}
use Rattle.rv_machine.specs.Ready.{instr_of}
use Rattle.rv_machine.proofs.Going.{exec_goes}
use Rattle.rv_machine.proofs.Harts.{if_ok_then}
use Rattle.rv_machine.proofs.processor.Processor.step_at.Goals as goal

pub returns-clause-going : goal.returns-clause-going
returns-clause-going c =
    let old = c.args.self.now in
    if_ok_then c.perform.result
    (λ turn is ran. ap (λ (a : After). last_exit a.shared.events) is
    ∙ exec_goes (profile_of old.memory.version) (instr_of c.args.ready.now) (hart_at old c.args.pc.now) (shared_in old) c.requires.going (sym (ap (λ (a : After). a.turn) is) ∙ ran))
    c.perform.ensures.executed
