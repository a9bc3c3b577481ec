use Rattle.std.proofs.Common.{◌∙◌, sym}
use Rattle.text_lines.specs.Lines.{words_of}
use Rattle.cfi_script.proofs.ScriptDigits.{line_is, no_words}
use Rattle.cfi_script.proofs.script_line.line_of.Goals as goal

pub returns-in_default : goal.returns-in_default
returns-in_default c =
    let none = sym (rw c.in_default.is at c.words_after_at.ensures) in
    sym (no_words _ none)

pub returns-in_default-decimal_of : goal.returns-in_default-decimal_of
returns-in_default-decimal_of c =
    let whole = line_is (words_of c.args.line.now) (sym (rw c.in-Some.is at c.words_after_at.ensures)) in
    let step = sym c.decimal_of.ensures ∙ c.in_default-decimal_of.is in
    sym (rw step at whole)

pub returns-in_default-hex_of : goal.returns-in_default-hex_of
returns-in_default-hex_of c =
    let whole = line_is (words_of c.args.line.now) (sym (rw c.in-Some.is at c.words_after_at.ensures)) in
    let step = sym c.decimal_of.ensures ∙ c.in-Some-decimal_of.is in
    let address = sym c.hex_of.ensures ∙ c.in_default-hex_of.is in
    sym (rw (step, address) at whole)

pub returns-in_default-2 : goal.returns-in_default-2
returns-in_default-2 c =
    let whole = line_is (words_of c.args.line.now) (sym (rw c.in-Some.is at c.words_after_at.ensures)) in
    let step = sym c.decimal_of.ensures ∙ c.in-Some-decimal_of.is in
    let address = sym c.hex_of.ensures ∙ c.in-Some-hex_of.is in
    let bytes = sym c.in_ok-bytes.ensures ∙ c.in_default-2.is in
    sym (rw (step, address, bytes) at whole)

pub returns : goal.returns
returns c =
    let whole = line_is (words_of c.args.line.now) (sym (rw c.in-Some.is at c.words_after_at.ensures)) in
    let step = sym c.decimal_of.ensures ∙ c.in-Some-decimal_of.is in
    let address = sym c.hex_of.ensures ∙ c.in-Some-hex_of.is in
    let bytes = sym c.in_ok-bytes.ensures ∙ c.in-Some-2.is in
    sym (rw (step, address, bytes) at whole)
