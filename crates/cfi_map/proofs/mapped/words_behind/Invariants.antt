use Rattle.std.proofs.Common.{◌≡◌, ◌++◌, drop}
use Rattle.cfi_map.specs.Placement.{words_from}
use Rattle.cfi_map.proofs.mapped.words_behind.Given as goal

abbrev pub invariant-loop-k : goal.invariant-loop-k
invariant-loop-k l = l.words.items ++ words_from l.leads l.k (drop l.k l.gates) ≡ words_from l.leads 0 l.gates
