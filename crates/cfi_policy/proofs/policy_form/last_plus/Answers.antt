use Rattle.std.proofs.Common.{ℕ, ◌+◌, ◌<◌, Option, Some, None, IfSome, arith}
use Rattle.std.proofs.lemmas.Bool.{ne_eqb}
use Rattle.cfi_policy.proofs.PolicyWords.{no_more, other_here, plus_here}
use Rattle.cfi_policy.proofs.policy_form.last_plus.Goals.{then-word-i-eq43, else-word-i-eq43}
use Rattle.cfi_policy.proofs.policy_form.last_plus.Goals as goal

up : (i : ℕ) (o : Option ℕ) → IfSome o (λ k. k < i) → IfSome o (λ k. k < i + 1)
up i None h = h
up i (Some k) h = omega (arith, h)

pub loop-i-preserved : goal.loop-i-preserved
loop-i-preserved c =
    elim c.if-word-i-eq43.branch [
      | then-word-i-eq43 w ↦
          rw w.last-is (record {
            found = plus_here c.args.word.now c.loop-i.i c.loop-i.last _ c.loop-i-test.true w.if-word-i-eq43.true c.loop-i.invariant.found;
            below = omega arith;
          })
      | else-word-i-eq43 w ↦
          rw w.last-is (record {
            found = other_here c.args.word.now c.loop-i.i c.loop-i.last _ c.loop-i-test.true (ne_eqb _ 43 w.if-word-i-eq43.false) c.loop-i.invariant.found;
            below = up c.loop-i.i c.loop-i.last c.loop-i.invariant.below;
          })
    ]

pub returns-clause-at : goal.returns-clause-at
returns-clause-at c = no_more c.args.word.now c.loop-i.i c.loop-i.last _ c.loop-i-test.false c.loop-i.invariant.found
