use Rattle.std.proofs.Common.{sym, ◌∙◌, ap, length, arith}
use Rattle.std.proofs.lemmas.Bool.{eqb-true, eqb-false}
use Rattle.std.proofs.lemmas.List.{nil_from_length}
use Rattle.std.proofs.lemmas.Result.{err_from_is_err_and}
use Rattle.text_lines.specs.Lines.{lines_of}
use Rattle.text_lines.specs.Reading.{read}
use Rattle.text_lines.proofs.Steps.{after_any, bad_line_end, bad_line_items, first_items, good_line, grown_first, grown_more, later_first, no_newline, text_after, the_end}
use Rattle.text_lines.proofs.read.read_lines.Goals as goal

pub returns-in_default-clause-exact : goal.returns-in_default-clause-exact
returns-in_default-clause-exact g c =
    let goes = rw c.loop-at.invariant.rules at c.in_ok-at.ensures.goes_on ∙ c.loop-at.invariant.continues in
    (no_newline (g.F.LineForm.rules c.args.form.now) (g.F.LineForm.before c.known_lines.new.form) c.in_ok-at.at (g.F.LineForm.items c.args.form.now) (g.F.LineForm.items c.known_lines.new.form) (read (g.F.LineForm.rules c.args.form.now) (g.F.LineForm.before c.args.form.now) c.args.first (lines_of c.args.text.now)) (rw c.in_default.is at c.cut.ensures.parts) goes).end

pub returns-in_default-clause-collected : goal.returns-in_default-clause-collected
returns-in_default-clause-collected g c =
    let goes = rw c.loop-at.invariant.rules at c.in_ok-at.ensures.goes_on ∙ c.loop-at.invariant.continues in
    (no_newline (g.F.LineForm.rules c.args.form.now) (g.F.LineForm.before c.known_lines.new.form) c.in_ok-at.at (g.F.LineForm.items c.args.form.now) (g.F.LineForm.items c.known_lines.new.form) (read (g.F.LineForm.rules c.args.form.now) (g.F.LineForm.before c.args.form.now) c.args.first (lines_of c.args.text.now)) (rw c.in_default.is at c.cut.ensures.parts) goes).items

pub returns-then-is_empty-clause-exact : goal.returns-then-is_empty-clause-exact
returns-then-is_empty-clause-exact g c =
    let goes = rw c.loop-at.invariant.rules at c.in_ok-at.ensures.goes_on ∙ c.loop-at.invariant.continues in
    (the_end (g.F.LineForm.rules c.args.form.now) (g.F.LineForm.before c.known_lines.new.form) c.in_ok-at.at (g.F.LineForm.items c.args.form.now) (g.F.LineForm.items c.known_lines.new.form) (read (g.F.LineForm.rules c.args.form.now) (g.F.LineForm.before c.args.form.now) c.args.first (lines_of c.args.text.now)) c.in-Some.next.now (rw c.in-Some.is at c.cut.ensures.parts) (sym c.is_word.ensures ∙ c.if-is_word.true) (nil_from_length _ (eqb-true _ _ (sym c.is_empty.ensures ∙ c.if-is_empty.true))) goes).end

pub returns-then-is_empty-clause-collected : goal.returns-then-is_empty-clause-collected
returns-then-is_empty-clause-collected g c =
    let goes = rw c.loop-at.invariant.rules at c.in_ok-at.ensures.goes_on ∙ c.loop-at.invariant.continues in
    (the_end (g.F.LineForm.rules c.args.form.now) (g.F.LineForm.before c.known_lines.new.form) c.in_ok-at.at (g.F.LineForm.items c.args.form.now) (g.F.LineForm.items c.known_lines.new.form) (read (g.F.LineForm.rules c.args.form.now) (g.F.LineForm.before c.args.form.now) c.args.first (lines_of c.args.text.now)) c.in-Some.next.now (rw c.in-Some.is at c.cut.ensures.parts) (sym c.is_word.ensures ∙ c.if-is_word.true) (nil_from_length _ (eqb-true _ _ (sym c.is_empty.ensures ∙ c.if-is_empty.true))) goes).items

pub returns-then-is_word-clause-exact : goal.returns-then-is_word-clause-exact
returns-then-is_word-clause-exact g c =
    let goes = rw c.loop-at.invariant.rules at c.in_ok-at.ensures.goes_on ∙ c.loop-at.invariant.continues in
    (text_after (g.F.LineForm.rules c.args.form.now) (g.F.LineForm.before c.known_lines.new.form) c.in_ok-at.at (g.F.LineForm.items c.args.form.now) (g.F.LineForm.items c.known_lines.new.form) (read (g.F.LineForm.rules c.args.form.now) (g.F.LineForm.before c.args.form.now) c.args.first (lines_of c.args.text.now)) c.in-Some.next.now (rw c.in-Some.is at c.cut.ensures.parts) (sym c.is_word.ensures ∙ c.if-is_word.true) (λ e. eqb-false _ _ (sym c.is_empty.ensures ∙ c.if-is_empty.false) (ap length e)) goes).end

pub returns-then-is_word-clause-collected : goal.returns-then-is_word-clause-collected
returns-then-is_word-clause-collected g c =
    let goes = rw c.loop-at.invariant.rules at c.in_ok-at.ensures.goes_on ∙ c.loop-at.invariant.continues in
    (text_after (g.F.LineForm.rules c.args.form.now) (g.F.LineForm.before c.known_lines.new.form) c.in_ok-at.at (g.F.LineForm.items c.args.form.now) (g.F.LineForm.items c.known_lines.new.form) (read (g.F.LineForm.rules c.args.form.now) (g.F.LineForm.before c.args.form.now) c.args.first (lines_of c.args.text.now)) c.in-Some.next.now (rw c.in-Some.is at c.cut.ensures.parts) (sym c.is_word.ensures ∙ c.if-is_word.true) (λ e. eqb-false _ _ (sym c.is_empty.ensures ∙ c.if-is_empty.false) (ap length e)) goes).items

pub returns-in_err-line-clause-exact : goal.returns-in_err-line-clause-exact
returns-in_err-line-clause-exact g c =
    let goes = rw c.loop-at.invariant.rules at c.in_ok-at.ensures.goes_on ∙ c.loop-at.invariant.continues in
    let same = c.known_lines.ensures.kept ∙ c.loop-at.invariant.rules in
    let p = err_from_is_err_and c.from_residual-in_err-line.result c.from_residual-in_err-line.ensures.1 in
    let exact = rw same at c.in_err-line.ensures.exact in
    rw (p.1, p.2) (bad_line_end (g.F.LineForm.rules c.args.form.now) (g.F.LineForm.before c.known_lines.new.form) c.in_ok-at.at (g.F.LineForm.items c.args.form.now) (g.F.LineForm.items c.known_lines.new.form) (read (g.F.LineForm.rules c.args.form.now) (g.F.LineForm.before c.args.form.now) c.args.first (lines_of c.args.text.now)) c.in_err-line.field-0.0 c.in-Some.next.now (rw c.in-Some.is at c.cut.ensures.parts) (sym c.is_word.ensures ∙ c.if-is_word.false) exact goes)

pub returns-in_err-line-clause-collected : goal.returns-in_err-line-clause-collected
returns-in_err-line-clause-collected g c =
    let goes = rw c.loop-at.invariant.rules at c.in_ok-at.ensures.goes_on ∙ c.loop-at.invariant.continues in
    let same = c.known_lines.ensures.kept ∙ c.loop-at.invariant.rules in
    let p = err_from_is_err_and c.from_residual-in_err-line.result c.from_residual-in_err-line.ensures.1 in
    let exact = rw same at c.in_err-line.ensures.exact in
    rw (p.1, p.2) (bad_line_items (g.F.LineForm.rules c.args.form.now) (g.F.LineForm.before c.known_lines.new.form) c.in_ok-at.at (g.F.LineForm.items c.args.form.now) (g.F.LineForm.items c.known_lines.new.form) (read (g.F.LineForm.rules c.args.form.now) (g.F.LineForm.before c.args.form.now) c.args.first (lines_of c.args.text.now)) c.in_err-line.field-0.0 c.in-Some.next.now (rw c.in-Some.is at c.cut.ensures.parts) (sym c.is_word.ensures ∙ c.if-is_word.false) exact goes)

pub returns-in_err-line-clause-begun : goal.returns-in_err-line-clause-begun
returns-in_err-line-clause-begun g c =
    let goes = rw c.loop-at.invariant.rules at c.in_ok-at.ensures.goes_on ∙ c.loop-at.invariant.continues in
    let grown = grown_first (g.F.LineForm.items c.args.form.now) _ c.loop-at.invariant.grown (rw c.loop-at.invariant.rules at c.known_lines.ensures.begun) in
    after_any c.from_residual-in_err-line.result (first_items (g.F.LineForm.items c.args.form.now) (g.F.LineForm.items c.known_lines.new.form) (read (g.F.LineForm.rules c.args.form.now) (g.F.LineForm.before c.known_lines.new.form) c.in_ok-at.at (lines_of c.in_ok-at.left.now)) (read (g.F.LineForm.rules c.args.form.now) (g.F.LineForm.before c.args.form.now) c.args.first (lines_of c.args.text.now)) grown goes)

pub returns-in_err-add-clause-begun : goal.returns-in_err-add-clause-begun
returns-in_err-add-clause-begun g c =
    let goes = rw c.loop-at.invariant.rules at c.in_ok-at.ensures.goes_on ∙ c.loop-at.invariant.continues in
    let grown = grown_first (g.F.LineForm.items c.args.form.now) _ c.loop-at.invariant.grown (rw c.loop-at.invariant.rules at c.known_lines.ensures.begun) in
    rw c.in_err-add.ensures.refused (after_any c.from_residual-in_err-add.result (first_items (g.F.LineForm.items c.args.form.now) (g.F.LineForm.items c.known_lines.new.form) (read (g.F.LineForm.rules c.args.form.now) (g.F.LineForm.before c.known_lines.new.form) c.in_ok-at.at (lines_of c.in_ok-at.left.now)) (read (g.F.LineForm.rules c.args.form.now) (g.F.LineForm.before c.args.form.now) c.args.first (lines_of c.args.text.now)) grown goes))

pub loop-at-preserved : goal.loop-at-preserved
loop-at-preserved g c =
    let goes = rw c.loop-at.invariant.rules at c.in_ok-at.ensures.goes_on ∙ c.loop-at.invariant.continues in
    let same = c.known_lines.ensures.kept ∙ c.loop-at.invariant.rules in
    let grown = grown_first (g.F.LineForm.items c.args.form.now) _ c.loop-at.invariant.grown (rw c.loop-at.invariant.rules at c.known_lines.ensures.begun) in
    let below = rw c.in-Some.is at c.cut.ensures.shorter in
    let exact = rw same at c.in_ok-line.ensures.exact in
    let added = rw same at c.in_ok-add.ensures.added in
    let after = rw same at c.in_ok-add.ensures.after in
    record {
      rules = c.add.ensures.kept ∙ same;
      continues = rw (added, after) (good_line (g.F.LineForm.rules c.args.form.now) (g.F.LineForm.before c.known_lines.new.form) c.in_ok-at.at (g.F.LineForm.items c.args.form.now) (g.F.LineForm.items c.known_lines.new.form) (read (g.F.LineForm.rules c.args.form.now) (g.F.LineForm.before c.args.form.now) c.args.first (lines_of c.args.text.now)) c.in-Some.next.now c.in_ok-line.line (rw c.in-Some.is at c.cut.ensures.parts) (sym c.is_word.ensures ∙ c.if-is_word.false) exact goes);
      grown = rw added (grown_more (g.F.LineForm.items c.args.form.now) (g.F.LineForm.items c.known_lines.new.form) ((g.F.LineForm.rules c.args.form.now).items c.in_ok-line.line) grown);
      bound = omega (arith, c.in_ok-at.ensures.counted, c.loop-at.invariant.bound);
    }

-- where a line that the form tells without a search may not stand
pub returns-in_err-at-clause-begun : goal.returns-in_err-at-clause-begun
returns-in_err-at-clause-begun g c =
    after_any c.from_residual.result (later_first (g.F.LineForm.items c.args.form.now) (g.F.LineForm.items c.loop-at.form) (g.F.LineForm.items c.known_lines.new.form) (read (g.F.LineForm.rules c.args.form.now) (g.F.LineForm.before c.loop-at.form) c.loop-at.number (lines_of c.loop-at.rest.now)) (read (g.F.LineForm.rules c.args.form.now) (g.F.LineForm.before c.args.form.now) c.args.first (lines_of c.args.text.now)) c.loop-at.invariant.grown c.loop-at.invariant.continues (rw c.loop-at.invariant.rules at c.in_err-at.ensures.begun))
