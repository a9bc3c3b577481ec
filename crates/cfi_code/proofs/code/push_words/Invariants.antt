use Rattle.std.proofs.Common.{◌≡◌, ◌+◌, ◌*◌, ◌++◌, length, take}
use Rattle.cfi_rules.specs.Split.{code_words}
use Rattle.cfi_code.proofs.code.push_words.Given as goal

abbrev pub invariant-loop-word : goal.invariant-loop-word
invariant-loop-word l =
    (code_words l.bytes.items ≡ code_words l.fn.bytes.items ++ take l.word-index l.words)
    × (length l.bytes.items ≡ length l.fn.bytes.items + 4 * l.word-index)
