use Rattle.std.proofs.Common.{sym, ◌∙◌}
use Rattle.cfi_graph.proofs.Heading.{second_alone, second_form, second_range, second_right}
use Rattle.cfi_graph.proofs.read.after_first.Goals as goal

pub returns-in_default : goal.returns-in_default
returns-in_default c = second_alone c.args.version (rw c.in_default.is at c.cut.ensures.parts)

pub returns-in_default-code_length : goal.returns-in_default-code_length
returns-in_default-code_length c =
    second_form c.args.version c.in-Some.rest.now (rw c.in-Some.is at c.cut.ensures.parts) (sym c.code_length.ensures ∙ c.in_default-code_length.is)

pub returns-then-not-is_code_length : goal.returns-then-not-is_code_length
returns-then-not-is_code_length c =
    second_range c.args.version c.in-Some.rest.now c.in-Some-code_length.code (rw c.in-Some.is at c.cut.ensures.parts) (sym c.code_length.ensures ∙ c.in-Some-code_length.is) (sym c.is_code_length.ensures ∙ c.if-not-is_code_length.true)

pub returns : goal.returns
returns c =
    rw (second_right c.args.version c.in-Some.rest.now c.in-Some-code_length.code (rw c.in-Some.is at c.cut.ensures.parts) (sym c.code_length.ensures ∙ c.in-Some-code_length.is) (sym c.is_code_length.ensures ∙ c.if-not-is_code_length.false)) c.with_code.ensures
