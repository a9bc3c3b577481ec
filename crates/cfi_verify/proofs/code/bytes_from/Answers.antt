use Rattle.std.proofs.Common.{◌*◌, ◌∙◌, ap, arith, drop, length-drop}
use Rattle.std.proofs.lemmas.List.{take_all}
use Rattle.cfi_rules.specs.Split.{code_words}
use Rattle.cfi_verify.proofs.WordList.{words_dropped, words_past}
use Rattle.cfi_verify.proofs.code.bytes_from.Goals as goal

pub returns-then-first-code : goal.returns-then-first-code
returns-then-first-code c =
    ap code_words (take_all _ (drop (4 * c.args.first) c.args.code.now) (omega (arith, length-drop (4 * c.args.first) c.args.code.now)))
    ∙ words_dropped c.args.first c.args.code.now

pub returns-else-first-code : goal.returns-else-first-code
returns-else-first-code c = words_past c.args.first c.args.code.now (omega (arith, c.if-first-code.false))
