use Rattle.std.proofs.Common.{subst, sym, ◌∙◌}
use Rattle.std.proofs.lemmas.Result.{on_err_weaker}
use Rattle.rv_machine.specs.Harts.{MachineParts}
use Rattle.rv_machine.proofs.Harts.{IsSelected, if_ok_then, own_room, own_step, own_wants}
use Rattle.rv_machine.proofs.machine.Machine.step.Goals as goal

-- the machine whose processor makes the step
abbrev inside : goal.After-step → MachineParts
inside c = record { processor = c.self.inside.processor; current = c.self.inside.current; resting = c.self.inside.resting.items }

selected : (c : goal.After-step) → IsSelected c.args.self.now (inside c) c.args.hart
selected c =
    let made = c.bring.ensures in
    subst (λ (m : MachineParts). IsSelected c.args.self.now m c.args.hart) (sym c.self.view_is)
    (record { current = made.current ∙ c.from-hart.ensures; harts = made.harts; memory = made.memory; calls = made.calls })

pub returns-clause-stepped : goal.returns-clause-stepped
returns-clause-stepped c = if_ok_then c.step.result (own_step c.args.self.now (inside c) c.args.hart (selected c) c.step.new.self) c.step.ensures.stepped

pub returns-clause-wants : goal.returns-clause-wants
returns-clause-wants c = on_err_weaker c.step.result (own_wants c.args.self.now (inside c) c.args.hart (selected c)) c.step.ensures.wants

pub returns-clause-room : goal.returns-clause-room
returns-clause-room c = on_err_weaker c.step.result (own_room c.args.self.now (inside c) c.args.hart (selected c)) c.step.ensures.room
