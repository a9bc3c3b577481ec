use Rattle.std.proofs.Common.{◌∙◌, ap, arith, inl, inr, sym}
use Rattle.std.specs.Result.{result_ok}
use Rattle.cfi_script.proofs.ScriptDigits.{capitals, data_is, decoded}
use Rattle.cfi_script.proofs.script_line.data.Goals as goal

pub returns-then-has_capitals : goal.returns-then-has_capitals
returns-then-has_capitals c =
    sym (data_is c.args.word.now (omega arith) (omega arith) ∙ capitals c.args.word.now (sym c.has_capitals.ensures ∙ c.if-has_capitals.true))

pub returns-in-Ok : goal.returns-in-Ok
returns-in-Ok c =
    let right = data_is c.args.word.now (omega arith) (omega arith) ∙ decoded c.args.word.now (sym c.has_capitals.ensures ∙ c.if-has_capitals.false) in
    rw c.of.ensures (sym (right ∙ ap result_ok c.in-Ok.ensures.ok))

pub returns-in-Err-InvalidHexCharacter : goal.returns-in-Err-InvalidHexCharacter
returns-in-Err-InvalidHexCharacter c =
    let right = data_is c.args.word.now (omega arith) (omega arith) ∙ decoded c.args.word.now (sym c.has_capitals.ensures ∙ c.if-has_capitals.false) in
    elim c.in-Err-InvalidHexCharacter.ensures.err [
      | inl full ↦ cc (sym c.in-Err-InvalidHexCharacter.field-0-is ∙ full)
      | inr e ↦ sym (right ∙ ap result_ok e)
    ]

pub returns-in-Err-OddLength : goal.returns-in-Err-OddLength
returns-in-Err-OddLength c =
    let right = data_is c.args.word.now (omega arith) (omega arith) ∙ decoded c.args.word.now (sym c.has_capitals.ensures ∙ c.if-has_capitals.false) in
    elim c.in-Err-OddLength.ensures.err [
      | inl full ↦ cc (sym c.in-Err-OddLength.field-0-is ∙ full)
      | inr e ↦ sym (right ∙ ap result_ok e)
    ]

pub returns-in-Err-InvalidStringLength : goal.returns-in-Err-InvalidStringLength
returns-in-Err-InvalidStringLength c =
    let right = data_is c.args.word.now (omega arith) (omega arith) ∙ decoded c.args.word.now (sym c.has_capitals.ensures ∙ c.if-has_capitals.false) in
    elim c.in-Err-InvalidStringLength.ensures.err [
      | inl full ↦ cc (sym c.in-Err-InvalidStringLength.field-0-is ∙ full)
      | inr e ↦ sym (right ∙ ap result_ok e)
    ]
