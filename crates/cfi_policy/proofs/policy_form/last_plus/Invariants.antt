use Rattle.std.proofs.Common.{◌≡◌, ◌<◌, drop, IfSome}
use Rattle.cfi_policy.specs.Policy.{last_plus}
use Rattle.cfi_policy.proofs.PolicyWords.{later}
use Rattle.cfi_policy.proofs.policy_form.last_plus.Given as goal

abbrev pub invariant-loop-i : goal.invariant-loop-i
invariant-loop-i l = record {
  found : later l.i (last_plus (drop l.i l.word)) l.last ≡ last_plus l.word;
  below : IfSome l.last (λ k. k < l.i);
}
