use Rattle.std.proofs.Common.{◌&&◌, not, take}
use Rattle.cfi_verify.proofs.Prelude.{IsLeast, signs_at, is_among, leaves_in, is_borne, profile_in}
use Rattle.cfi_verify.proofs.gates.without_gate.Given as goal

abbrev pub invariant-loop-target : goal.invariant-loop-target
invariant-loop-target l =
    IsLeast (λ a. is_among a (take l.target-index l.targets) && not (is_borne (signs_at (profile_in l.starts) l.starts.listing (leaves_in l.starts.graph.lines)) l.which a l.label)) l.least
