use Rattle.std.proofs.Common.{refl, subst}
use Rattle.rv_machine.specs.Harts.{MachineParts}
use Rattle.rv_machine.proofs.Harts.{IsSelected, if_ok_then, own_step}
use Rattle.rv_machine.proofs.machine.Machine.step_selected.Goals as goal

-- the machine whose processor makes the step
abbrev inside : goal.After-step → MachineParts
inside c = record { processor = c.self.inside.processor; current = c.self.inside.current; resting = c.self.inside.resting.items }

selected : (c : goal.After-step) → IsSelected c.args.self.now (inside c) c.args.self.now.current
selected c =
    subst (λ (m : MachineParts). IsSelected m (inside c) m.current) c.self.view_is (record { current = refl; harts = refl; memory = refl; calls = refl })

pub returns-clause-stepped : goal.returns-clause-stepped
returns-clause-stepped c = if_ok_then c.step.result (own_step c.args.self.now (inside c) c.args.self.now.current (selected c) c.step.new.self) c.step.ensures.stepped
