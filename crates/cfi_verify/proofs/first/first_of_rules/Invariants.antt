use Rattle.std.proofs.Common.{◌<◌, ℕ, List}
use Rattle.cfi_verify.proofs.Prelude.{Tells, numbers_in, Holds, order, profile_in, Rule}
use Rattle.cfi_verify.proofs.first.first_of_rules.Given as goal

abbrev pub invariant-loop-rule : goal.invariant-loop-rule
invariant-loop-rule l =
    (words : List ℕ) → Tells (profile_in l.starts) (numbers_in l.starts.graph) l.starts.listing words → (earlier : Rule) → order earlier < l.rule-index → Holds (profile_in l.starts) words l.starts.graph earlier
