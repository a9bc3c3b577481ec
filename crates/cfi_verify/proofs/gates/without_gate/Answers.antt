use Rattle.std.proofs.Common.{ℕ, Bool, ap, not, sym, ◌∙◌}
use Rattle.std.proofs.lemmas.List.{take_more}
use Rattle.cfi_verify.proofs.Prelude.{signs_at, leaves_in, is_borne, profile_in}
use Rattle.cfi_verify.proofs.LeastOf.{least_target, same_target}
use Rattle.cfi_verify.proofs.gates.without_gate.Goals as goal
use Rattle.cfi_verify.proofs.gates.without_gate.Goals.{then-not-is_borne, else-not-is_borne}

pub loop-target-preserved : goal.loop-target-preserved
loop-target-preserved c =
    let lacks : ℕ → Bool = λ a. not (is_borne (signs_at (profile_in c.args.starts.now) c.args.starts.now.listing (leaves_in c.args.starts.now.graph.lines)) c.args.which a c.args.label) in
    elim c.if-not-is_borne.branch [
      | then-not-is_borne w ↦
          rw (w.least-is, w.lesser-least.ensures)
          (least_target lacks c.args.targets.now c.loop-target.target-index _ c.loop-target.least
          (take_more _ _ 0 c.loop-target-test.true) (ap not (sym c.is_borne.ensures ∙ w.if-not-is_borne.true)) c.loop-target.invariant)
      | else-not-is_borne w ↦
          rw w.least-is
          (same_target lacks c.args.targets.now c.loop-target.target-index _ c.loop-target.least
          (take_more _ _ 0 c.loop-target-test.true) (ap not (sym c.is_borne.ensures ∙ w.if-not-is_borne.false)) c.loop-target.invariant)
    ]
