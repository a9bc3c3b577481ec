use Rattle.std.proofs.Common.{◌∙◌, arith}
use Rattle.std.proofs.lemmas.Result.{err_from_is_err_and}
use Rattle.text_lines.specs.Lines.{lines_of}
use Rattle.text_lines.specs.Reading.{read}
use Rattle.text_lines.proofs.Steps.{after_shorter, bad_known_end, bad_known_items, first_items, grown_more, known_line}
use Rattle.text_lines.proofs.read.known_lines.Goals as goal

pub returns-in_err-allowed-clause-exact : goal.returns-in_err-allowed-clause-exact
returns-in_err-allowed-clause-exact g c =
    let p = err_from_is_err_and c.from_residual.result c.from_residual.ensures.1 in
    let first = rw c.loop-line.invariant.rules at c.in-Some.ensures in
    let told = rw c.loop-line.invariant.rules at c.in_err-allowed.ensures.told in
    rw (p.1, p.2) (bad_known_end (g.F.LineForm.rules c.args.form.now) (g.F.LineForm.before c.loop-line.form) c.loop-line.number (g.F.LineForm.items c.args.form.now) (g.F.LineForm.items c.loop-line.form) (read (g.F.LineForm.rules c.args.form.now) (g.F.LineForm.before c.args.form.now) c.args.first (lines_of c.args.text.now)) c.in-Some.next.now c.in-Some.line first c.in_err-allowed.field-0.0 told c.loop-line.invariant.continues)

pub returns-in_err-allowed-clause-collected : goal.returns-in_err-allowed-clause-collected
returns-in_err-allowed-clause-collected g c =
    let p = err_from_is_err_and c.from_residual.result c.from_residual.ensures.1 in
    let first = rw c.loop-line.invariant.rules at c.in-Some.ensures in
    let told = rw c.loop-line.invariant.rules at c.in_err-allowed.ensures.told in
    rw (p.1, p.2) (bad_known_items (g.F.LineForm.rules c.args.form.now) (g.F.LineForm.before c.loop-line.form) c.loop-line.number (g.F.LineForm.items c.args.form.now) (g.F.LineForm.items c.loop-line.form) (read (g.F.LineForm.rules c.args.form.now) (g.F.LineForm.before c.args.form.now) c.args.first (lines_of c.args.text.now)) c.in-Some.next.now c.in-Some.line first c.in_err-allowed.field-0.0 told c.loop-line.invariant.continues)

pub returns-in_err-allowed-clause-begun : goal.returns-in_err-allowed-clause-begun
returns-in_err-allowed-clause-begun g c = (first_items (g.F.LineForm.items c.args.form.now) (g.F.LineForm.items c.loop-line.form) (read (g.F.LineForm.rules c.args.form.now) (g.F.LineForm.before c.loop-line.form) c.loop-line.number (lines_of c.loop-line.rest.now)) (read (g.F.LineForm.rules c.args.form.now) (g.F.LineForm.before c.args.form.now) c.args.first (lines_of c.args.text.now)) c.loop-line.invariant.grown c.loop-line.invariant.continues)

pub returns-in_err-add-clause-begun : goal.returns-in_err-add-clause-begun
returns-in_err-add-clause-begun g c = rw c.in_err-add.ensures.refused (first_items (g.F.LineForm.items c.args.form.now) (g.F.LineForm.items c.loop-line.form) (read (g.F.LineForm.rules c.args.form.now) (g.F.LineForm.before c.loop-line.form) c.loop-line.number (lines_of c.loop-line.rest.now)) (read (g.F.LineForm.rules c.args.form.now) (g.F.LineForm.before c.args.form.now) c.args.first (lines_of c.args.text.now)) c.loop-line.invariant.grown c.loop-line.invariant.continues)

pub overflow_add-number : goal.overflow_add-number
overflow_add-number g c =
    let first = rw c.loop-line.invariant.rules at c.in-Some.ensures in
    let shorter = after_shorter first in
    omega (arith, c.loop-line.invariant.bound)

pub loop-line-smaller : goal.loop-line-smaller
loop-line-smaller g c =
    let first = rw c.loop-line.invariant.rules at c.in-Some.ensures in
    after_shorter first

pub loop-line-preserved : goal.loop-line-preserved
loop-line-preserved g c =
    let first = rw c.loop-line.invariant.rules at c.in-Some.ensures in
    let shorter = after_shorter first in
    let told = rw c.loop-line.invariant.rules at c.in_ok-allowed.ensures.told in
    let added = rw c.loop-line.invariant.rules at c.in_ok-add.ensures.added in
    let after = rw c.loop-line.invariant.rules at c.in_ok-add.ensures.after in
    record {
      rules = c.add.ensures.kept ∙ c.loop-line.invariant.rules;
      continues = rw (added, after) (known_line (g.F.LineForm.rules c.args.form.now) (g.F.LineForm.before c.loop-line.form) c.loop-line.number (g.F.LineForm.items c.args.form.now) (g.F.LineForm.items c.loop-line.form) (read (g.F.LineForm.rules c.args.form.now) (g.F.LineForm.before c.args.form.now) c.args.first (lines_of c.args.text.now)) c.in-Some.next.now c.in-Some.line first told c.loop-line.invariant.continues);
      grown = rw added (grown_more (g.F.LineForm.items c.args.form.now) (g.F.LineForm.items c.loop-line.form) ((g.F.LineForm.rules c.args.form.now).items c.in-Some.line) c.loop-line.invariant.grown);
      bound = omega (arith, c.loop-line.invariant.bound);
      shorter = omega (arith, c.loop-line.invariant.shorter);
    }

pub returns-clause-begun : goal.returns-clause-begun
returns-clause-begun g c = (first_items (g.F.LineForm.items c.args.form.now) (g.F.LineForm.items c.loop-line.form) (read (g.F.LineForm.rules c.args.form.now) (g.F.LineForm.before c.loop-line.form) c.loop-line.number (lines_of c.loop-line.rest.now)) (read (g.F.LineForm.rules c.args.form.now) (g.F.LineForm.before c.args.form.now) c.args.first (lines_of c.args.text.now)) c.loop-line.invariant.grown c.loop-line.invariant.continues)
