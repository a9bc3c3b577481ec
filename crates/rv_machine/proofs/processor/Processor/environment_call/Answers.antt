use Rattle.std.proofs.Common.{refl}
use Rattle.rv_sys.specs.Calls.{shared_of}
use Rattle.rv_machine.specs.Harts.{rest_of}
use Rattle.rv_machine.proofs.Decoding.{code_called}
use Rattle.rv_machine.proofs.Exits.{exit_kept, none_kept}
use Rattle.rv_machine.proofs.processor.Processor.environment_call.Goals as goal

pub invariant_of-self-in-Goes : goal.invariant_of-self-in-Goes
invariant_of-self-in-Goes c =
    let called = rw c.in-Goes.is at c.in_ok-call.ensures.called in
    let h = rest_of c.self.inside.hart in
    let s = shared_of c.self.inside.memory c.self.inside.system in
    record { code = code_called c.self.inside.code h s _ called c.self.invariant.code; exit = none_kept h s _ called refl }

pub invariant_of-self-in-Exit : goal.invariant_of-self-in-Exit
invariant_of-self-in-Exit c =
    let called = rw c.in-Exit.is at c.in_ok-call.ensures.called in
    let h = rest_of c.self.inside.hart in
    let s = shared_of c.self.inside.memory c.self.inside.system in
    record { code = code_called c.self.inside.code h s _ called c.self.invariant.code; exit = exit_kept h s _ c.in-Exit.status called refl }
