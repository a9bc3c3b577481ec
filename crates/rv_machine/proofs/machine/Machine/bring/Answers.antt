use Rattle.std.proofs.Common.{ap, ◌∙◌, arith, length, set}
use Rattle.rv_code.specs.State.{with_hart}
use Rattle.rv_machine.specs.Harts.{MachineParts, harts_in, rest_of, resting_at}
use Rattle.rv_machine.specs.Parts.{Parts, hart_in}
use Rattle.rv_machine.proofs.Harts.{exchanged}
use Rattle.rv_machine.proofs.machine.Machine.bring.Goals as goal

pub returns-then-hart-self-clause-harts : goal.returns-then-hart-self-clause-harts
returns-then-hart-self-clause-harts c =
    let resting = c.self.inside.resting.items in
    let count = ap (λ (m : MachineParts). length m.resting) c.self.view_is in
    let left = set (set resting c.self.inside.current c.exchange.new.hart) c.args.hart c.exchange-then-hart-self.new.hart in
    ap (λ (p : Parts). with_hart (resting_at left) c.args.hart (hart_in p)) c.exchange-then-hart-self.ensures.taken
    ∙ exchanged resting c.self.inside.current c.args.hart c.exchange.new.hart c.index_mut-then-hart-self.result.now c.exchange-then-hart-self.new.hart (hart_in c.self.inside.processor)
    c.self.invariant.one (omega (arith, c.requires, count)) (ap rest_of c.exchange.ensures.rests) c.index_mut-then-hart-self.ensures.value
    ∙ ap harts_in c.self.view_is
