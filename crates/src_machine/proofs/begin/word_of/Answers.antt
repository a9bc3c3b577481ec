use Rattle.std.proofs.Common.{rules}
use Rattle.cfi_map.specs.GraphAtMap.{words_at}
use Rattle.cfi_map.proofs.Values.{values_there}
use Rattle.src_machine.proofs.begin.word_of.Goals as goal

pub instr-requires-clause-range : goal.instr-requires-clause-range
instr-requires-clause-range c =
    let l = c.args.mapped.now in
    values_there l.program l.gates (words_at l) c.requires.range c.args.k c.requires.place (search rules)
