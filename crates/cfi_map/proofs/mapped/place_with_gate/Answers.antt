use Rattle.std.proofs.Common.{arith, eq-eqb}
use Rattle.std.proofs.lemmas.Bool.{eqb-true, false_from_ne_true}
use Rattle.cfi_map.proofs.ByGate.{no_place, place_is}
use Rattle.cfi_map.proofs.mapped.place_with_gate.Goals as goal
use Rattle.cfi_map.proofs.mapped.place_with_gate.Goals.{else-k-gates-via-then-k-gates+else-gates-k, else-k-gates-via-else-k-gates}

pub returns-then-gates-k-clause-value : goal.returns-then-gates-k-clause-value
returns-then-gates-k-clause-value c =
    place_is c.args.gates.now c.requires c.args.address c.count_below-k.result c.count_below-k.ensures.bound c.count_below-k.ensures.before c.if-k-gates.true
    (eq-eqb _ _ c.if-gates-k.true)

pub returns-else-k-gates-clause-value : goal.returns-else-k-gates-clause-value
returns-else-k-gates-clause-value c =
    no_place c.args.gates.now c.requires c.args.address c.count_below-k.result c.count_below-k.ensures.bound c.count_below-k.ensures.before
    c.count_below-k.ensures.from
    (λ below. elim c.else-k-gates.branch [
      | else-k-gates-via-then-k-gates+else-gates-k w ↦ false_from_ne_true _ (λ e. w.if-gates-k.false (eqb-true _ _ e))
      | else-k-gates-via-else-k-gates w ↦ absurd (omega arith)
    ])
