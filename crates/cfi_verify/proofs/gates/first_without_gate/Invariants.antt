use Rattle.std.proofs.Common.{take}
use Rattle.std.specs.List.{list_any}
use Rattle.cfi_verify.proofs.Prelude.{signs_at, IsLeast, leaves_in, lacks_gate, profile_in}
use Rattle.cfi_verify.proofs.gates.first_without_gate.Given as goal

abbrev pub invariant-loop-k : goal.invariant-loop-k
invariant-loop-k l =
    IsLeast (λ a. list_any (lacks_gate l.starts.graph.version (signs_at (profile_in l.starts) l.starts.listing (leaves_in l.starts.graph.lines)) a) (take l.k l.graph.lines)) l.least
