use Rattle.std.proofs.Common.{◌≡◌, ◌+◌, ◌*◌, ◌++◌, length, take, map}
use Rattle.rv_code.specs.Encode.{code_of}
use Rattle.cfi_rules.specs.Split.{code_words}
use Rattle.cfi_code.proofs.code.push_instrs.Given as goal

abbrev pub invariant-loop-instr : goal.invariant-loop-instr
invariant-loop-instr l =
    (code_words l.bytes.items ≡ code_words l.fn.bytes.items ++ map code_of (take l.instr-index l.instrs))
    × (length l.bytes.items ≡ length l.fn.bytes.items + 4 * l.instr-index)
