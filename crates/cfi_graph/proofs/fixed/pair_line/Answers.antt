use Rattle.std.proofs.Common.{sym, ◌∙◌}
use Rattle.std.proofs.lemmas.List.{take_rest}
use Rattle.cfi_graph.proofs.FixedLines.{call_line, edge_line}
use Rattle.cfi_graph.proofs.fixed.pair_line.Goals as goal

pub returns-then-is_name : goal.returns-then-is_name
returns-then-is_name c version =
    rw (c.from.ensures, c.from-then-is_name.ensures) (edge_line c.args.line.now c.if-line-ne-PAIR_LINE.false c.if-line-ne32.false c.if-line-ne32-2.false version c.in_ok-from.from c.in_ok-to.to (sym c.is_name.ensures ∙ c.if-is_name.true) (sym c.hex_of.ensures ∙ c.in_ok-from.was) (rw (take_rest c.args.line.now 14) at (sym c.hex_of-2.ensures ∙ c.in_ok-to.was)))

pub returns-then-is_name-2 : goal.returns-then-is_name-2
returns-then-is_name-2 c version =
    rw (c.from-then-is_name-2.ensures, c.from-then-is_name-2-2.ensures) (call_line c.args.line.now c.if-line-ne-PAIR_LINE.false c.if-line-ne32.false c.if-line-ne32-2.false version c.in_ok-from.from c.in_ok-to.to (sym c.is_name-2.ensures ∙ c.if-is_name-2.true) (sym c.hex_of.ensures ∙ c.in_ok-from.was) (rw (take_rest c.args.line.now 14) at (sym c.hex_of-2.ensures ∙ c.in_ok-to.was)))
