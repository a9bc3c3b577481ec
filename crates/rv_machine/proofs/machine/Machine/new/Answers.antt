use Rattle.std.proofs.Common.{ap, ◌∙◌}
use Rattle.rv_code.specs.State.{Harts, start_hart, with_hart}
use Rattle.rv_machine.specs.Parts.{hart_in}
use Rattle.rv_machine.proofs.Harts.{as_it_is}
use Rattle.rv_machine.proofs.machine.Machine.new.Goals as goal

pub returns-clause-harts : goal.returns-clause-harts
returns-clause-harts c =
    let own = hart_in c.in_ok-new.field-0 in
    ap (λ (harts : Harts). with_hart harts 0 own) c.in_ok-resting.ensures.start ∙ as_it_is start_hart 0 own c.in_ok-new.ensures.hart
