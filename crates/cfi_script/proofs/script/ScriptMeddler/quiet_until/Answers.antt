use Rattle.std.proofs.Common.{◌∙◌, ap, arith, map, sym}
use Rattle.cfi_script.specs.Script.{ScriptParts, script_plan}
use Rattle.cfi_script.proofs.ScriptPlans.{quiet_between}
use Rattle.cfi_script.proofs.script.ScriptMeddler.quiet_until.Goals as goal

pub returns-then-self-step : goal.returns-then-self-step
returns-then-self-step c at from below count harts shared =
    ap (λ (s : ScriptParts). (script_plan s).changes at count harts shared) (sym c.self.view_is)
    ∙ ap (map (λ p. p.1)) (quiet_between c.self.inside.from c.self.inside.next at c.self.inside.changes.items c.self.invariant.1 (omega (arith, c.if-self-step.true, from)) below)
