use Rattle.std.proofs.Common.{◌≡◌, ◌++◌, take}
use Rattle.std.specs.Prelude.{map}
use Rattle.rv_code.specs.Encode.{code_of}
use Rattle.cfi_emit.proofs.words.WordList.put.Given as goal

abbrev pub invariant-loop-instr : goal.invariant-loop-instr
invariant-loop-instr g l = l.self ≡ l.initial.self ++ map code_of (take l.instr-index l.instrs)
