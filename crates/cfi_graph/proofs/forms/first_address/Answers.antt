use Rattle.std.proofs.Common.{Some, None, sym, ◌∙◌}
use Rattle.std.proofs.lemmas.List.{take_rest}
use Rattle.cfi_graph.proofs.LineForms.{eight_digits, first_word}
use Rattle.cfi_graph.proofs.forms.first_address.Goals as goal

pub returns-in-Some-clause-spelled : goal.returns-in-Some-clause-spelled
returns-in-Some-clause-spelled c =
    rw (take_rest c.args.words.now 9) (eight_digits c.args.words.now c.in-Some.address c.if-words-gt8.true c.if-words-eq32.true (sym c.hex_of.ensures ∙ c.in-Some.is))

pub returns-in_err-address-clause-spelled : goal.returns-in_err-address-clause-spelled
returns-in_err-address-clause-spelled c =
    rw c.from_residual.ensures (first_word None c.cut.ensures.parts (sym c.in_err-address.was ∙ c.hex_of-2.ensures))

pub returns-clause-spelled : goal.returns-clause-spelled
returns-clause-spelled c =
    first_word (Some c.in_ok-address.address) c.cut.ensures.parts (sym c.in_ok-address.was ∙ c.hex_of-2.ensures)
