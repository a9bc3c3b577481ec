use Rattle.std.proofs.Common.{Some, None, sym, ◌∙◌}
use Rattle.text_lines.proofs.Steps.{first_alone, first_line}
use Rattle.text_lines.proofs.read.after_one_of.Goals as goal

pub returns-in_default : goal.returns-in_default
returns-in_default c = first_alone (λ name. name.now) c.args.names.now (rw c.in_default.is at c.cut.ensures.parts)

pub returns-in_default-which_of : goal.returns-in_default-which_of
returns-in_default-which_of c =
    first_line (λ name. name.now) c.args.names.now c.in-Some.rest.now None (rw c.in-Some.is at c.cut.ensures.parts) (sym c.in_default-which_of.is ∙ c.which_of.ensures)

pub returns : goal.returns
returns c =
    first_line (λ name. name.now) c.args.names.now c.in-Some.rest.now (Some c.in-Some-which_of.which) (rw c.in-Some.is at c.cut.ensures.parts) (sym c.in-Some-which_of.is ∙ c.which_of.ensures)
