use Rattle.std.proofs.lemmas.Result.{err_from_is_err_and}
use Rattle.text_lines.specs.Lines.{lines_of}
use Rattle.cfi_graph.proofs.Heading.{Lines, lines_end, lines_read, lines_right}
use Rattle.cfi_graph.proofs.Whole.{valid}
use Rattle.cfi_graph.proofs.read.with_lines.Goals.{After-of}
use Rattle.cfi_graph.proofs.read.with_lines.Goals as goal

pub returns-in_err-read_lines : goal.returns-in_err-read_lines
returns-in_err-read_lines c =
    let p = err_from_is_err_and c.from_residual-in_err-read_lines.result c.from_residual-in_err-read_lines.ensures.1 in
    rw (p.1, p.2) (lines_end c.args.version c.args.code c.args.calls (lines_of c.args.text.now) c.in_ok-form.ensures.version c.in_ok-form.ensures.code c.in_ok-form.ensures.before c.line_after-first.ensures.value c.in_err-read_lines.field-0.0 c.in_err-read_lines.ensures.exact)

-- the lines that were collected are those that are read
collected : (c : After-of) → Lines c.args.version c.args.code c.args.calls (lines_of c.args.text.now) c.read_lines.new.form.lines.items
collected c =
    lines_read c.args.version c.args.code c.args.calls (lines_of c.args.text.now) c.in_ok-form.ensures.version c.in_ok-form.ensures.code c.in_ok-form.ensures.before c.line_after-first.ensures.value c.read_lines.new.form.lines.items c.in_ok-form.ensures.lines c.in_ok-read_lines.ensures.exact c.in_ok-read_lines.ensures.collected

pub invariant_of-result : goal.invariant_of-result
invariant_of-result c =
    let read = collected c in
    rw (c.of.ensures, read.are) (valid c.args.version c.args.code c.args.calls (lines_of c.args.text.now) read.items c.requires.length c.requires.calls read.whole_is)

pub returns : goal.returns
returns c =
    rw c.of.ensures (lines_right c.args.version c.args.code c.args.calls (lines_of c.args.text.now) c.read_lines.new.form.lines.items (collected c))
