use Rattle.std.proofs.Common.{refl, subst}
use Rattle.rv_machine.specs.Harts.{MachineParts, at_pc}
use Rattle.rv_machine.specs.Parts.{Parts}
use Rattle.rv_machine.proofs.Harts.{IsSelected, if_ok_then, own_step}
use Rattle.rv_machine.proofs.machine.Machine.step_at.Goals as goal

-- the machine whose processor makes the step
abbrev inside : goal.After-step_at → MachineParts
inside c = record { processor = c.self.inside.processor; current = c.self.inside.current; resting = c.self.inside.resting.items }

selected : (c : goal.After-step_at) → IsSelected (at_pc c.args.self.now c.args.pc.now) (at_pc (inside c) c.args.pc.now) c.args.self.now.current
selected c =
    subst (λ (m : MachineParts). IsSelected (at_pc m c.args.pc.now) (at_pc (inside c) c.args.pc.now) m.current) c.self.view_is
    (record { current = refl; harts = refl; memory = refl; calls = refl })

pub returns-clause-stepped : goal.returns-clause-stepped
returns-clause-stepped c =
    let after : Parts = record c.step_at.new.self { pc = c.step_at.new.pc } in
    if_ok_then c.step_at.result (own_step (at_pc c.args.self.now c.args.pc.now) (at_pc (inside c) c.args.pc.now) c.args.self.now.current (selected c) after) c.step_at.ensures.stepped
