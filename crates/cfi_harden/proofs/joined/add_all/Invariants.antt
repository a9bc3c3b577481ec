use Rattle.std.proofs.Common.{map}
use Rattle.cfi_harden.proofs.Joining.{IsLeft}
use Rattle.cfi_harden.proofs.joined.add_all.Given as goal

abbrev pub invariant-loop-object : goal.invariant-loop-object
invariant-loop-object l = IsLeft l.join (map (λ object. object.items) l.objects) l.object-index
