use Rattle.std.proofs.Common.{sym, ◌∙◌}
use Rattle.std.proofs.lemmas.List.{take_rest}
use Rattle.cfi_graph.proofs.FixedLines.{site_line}
use Rattle.cfi_graph.proofs.fixed.site_line.Goals as goal

pub returns-then-is_name : goal.returns-then-is_name
returns-then-is_name c =
    site_line c.args.line.now c.if-line-ne-SITE_LINE.false c.if-line-ne32.false c.if-line-ne32-2.false c.if-line-ne32-3.false c.site_from.result (sym c.is_name.ensures ∙ c.if-is_name.true) (rw (take_rest c.args.line.now 19) at c.site_from.ensures)
