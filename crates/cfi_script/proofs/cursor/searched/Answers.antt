use Rattle.std.proofs.Common.{◌≡◌, ℕ, get_or, length, subst, sym, arith}
use Rattle.std.proofs.lemmas.Bool.{le-ltb, lt-ltb}
use Rattle.cfi_script.specs.Turns.{hart_in_turn}
use Rattle.cfi_script.proofs.TurnPlaces.{here, next_turn, past}
use Rattle.cfi_script.proofs.cursor.searched.Goals as goal
use Rattle.cfi_script.proofs.cursor.searched.Goals.{then-loop-index-test+else-step-before, else-loop-index-test}

pub loop-index-preserved : goal.loop-index-preserved
loop-index-preserved c = record {
  after = next_turn c.args.turns.now c.loop-index.index c.loop-index.before c.loop-index.invariant.after (omega arith);
  reached = omega (arith, c.loop-index.invariant.reached, c.if-step-before.true);
  within = omega (arith, c.loop-index-test.true);
}

pub returns-clause-there : goal.returns-clause-there
returns-clause-there c =
    let invariant = c.loop-index.invariant in
    subst (λ (i : ℕ). hart_in_turn c.args.turns.now c.args.step ≡ (get_or c.args.turns.now i (0, 0)).0) (sym c.turn_at.ensures.index)
    (elim c.loop-index-test.branch [
      | then-loop-index-test+else-step-before w ↦
          here c.args.turns.now c.loop-index.index c.loop-index.before invariant.after c.args.step invariant.reached (omega (arith, w.loop-index-test.true)) (omega (arith, w.if-step-before.false))
      | else-loop-index-test w ↦
          past c.args.turns.now c.loop-index.index c.loop-index.before invariant.after c.args.step invariant.reached (omega (arith, w.loop-index-test.false))
    ])

pub returns-clause-more : goal.returns-clause-more
returns-clause-more c =
    let end = c.turn_at.ensures.end in
    elim c.loop-index-test.branch [
      | then-loop-index-test+else-step-before w ↦
          let there = rw (lt-ltb c.loop-index.index (length c.args.turns.now) (omega (arith, w.loop-index-test.true))) at end in
          λ fits. omega (arith, fits, there, c.loop-index.invariant.reached, w.if-step-before.false)
      | else-loop-index-test w ↦
          let past = rw (le-ltb c.loop-index.index (length c.args.turns.now) (omega (arith, w.loop-index-test.false))) at end in
          λ fits. omega (arith, fits, past)
    ]
