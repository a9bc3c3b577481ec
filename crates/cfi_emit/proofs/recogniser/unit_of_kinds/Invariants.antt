use Rattle.std.proofs.Common.{take}
use Rattle.std.specs.List.{All}
use Rattle.cfi_unit.specs.NoneBegins.{NoneBegins}
use Rattle.cfi_emit.proofs.recogniser.unit_of_kinds.Given as goal

abbrev pub invariant-loop-end : goal.invariant-loop-end
invariant-loop-end l = All (λ end. NoneBegins end l.words l.at) (take l.end-index l.kinds)
