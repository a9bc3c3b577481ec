use Rattle.rv_image.specs.Form.{profile_for}
use Rattle.cfi_layout.specs.Lengthening.{short_count, Going}
use Rattle.cfi_layout.proofs.shortening.shorten.Given as goal

abbrev pub invariant-lengthening : goal.invariant-lengthening
invariant-lengthening l = Going (profile_for l.form).units_from l.branches l.sizes l.long.items

abbrev pub decreases-lengthening : goal.decreases-lengthening
decreases-lengthening l = short_count l.long.items
