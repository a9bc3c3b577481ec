use Rattle.std.proofs.Common.{refl, sym}
use Rattle.least.proofs.Leasts.{least_same}
use Rattle.cfi_rules.specs.declared.reject.Rule.TheVariants as R
use Rattle.cfi_starts.proofs.Laid.{laid_with}
use Rattle.cfi_verify.proofs.Told.{fails_told}
use Rattle.cfi_verify.proofs.first.first.Goals as goal

pub returns-in-Gate : goal.returns-in-Gate
returns-in-Gate c =
    rw c.in-Gate.is (λ words told.
    least_same _ _ (λ a. sym (fails_told _ (laid_with c.args.starts.now.listing.versions) _ c.args.starts.now.listing words told R.Gate c.args.starts.now.graph refl a)) _ c.first_without_gate.ensures)
