use Rattle.std.proofs.Common.{Some, None, if◌then◌else◌, ◌∙◌, ap, sym}
use Rattle.cfi_starts.proofs.Targets.{for_class}
use Rattle.cfi_starts.proofs.lines.targets_for.Goals as goal

pub returns-in_err-class-clause-value : goal.returns-in_err-class-clause-value
returns-in_err-class-clause-value c =
    rw c.from_residual.ensures (for_class c.args.graph.now.lines c.args.asked.kind c.args.asked.which c.args.asked.label None c.in_err-class.ensures.value)

pub returns-then-serves-clause-value : goal.returns-then-serves-clause-value
returns-then-serves-clause-value c =
    let chosen = sym c.serves.ensures ∙ c.if-serves.true in
    ap Some c.targets.ensures ∙ sym (ap (λ b. if b then Some c.in_ok-class.class.targets else None) (rw c.sort.ensures at chosen))
    ∙ for_class c.args.graph.now.lines c.args.asked.kind c.args.asked.which c.args.asked.label (Some c.in_ok-class.class) c.in_ok-class.ensures.value

pub returns-else-serves-clause-value : goal.returns-else-serves-clause-value
returns-else-serves-clause-value c =
    let chosen = sym c.serves.ensures ∙ c.if-serves.false in
    sym (ap (λ b. if b then Some c.in_ok-class.class.targets else None) (rw c.sort.ensures at chosen))
    ∙ for_class c.args.graph.now.lines c.args.asked.kind c.args.asked.which c.args.asked.label (Some c.in_ok-class.class) c.in_ok-class.ensures.value
