use Rattle.std.proofs.Common.{◌<◌}
use Rattle.cfi_verify.proofs.Prelude.{HoldsEarly, order, profile_in, Rule}
use Rattle.cfi_verify.proofs.all_hold.prologue_holds.Given as goal

abbrev pub invariant-loop-rule : goal.invariant-loop-rule
invariant-loop-rule l =
    (earlier : Rule) → order earlier < l.rule-index → HoldsEarly (profile_in l.starts) l.starts.listing l.starts.graph earlier
