use Rattle.std.proofs.Common.{◌≡◌, subst, sym}
use Rattle.cfi_writer.proofs.Prelude.{profile_for, IsMap, map_lines, Choice, IsDescribed}
use Rattle.cfi_writer.proofs.hardened.described_of.Goals as goal

pub described-requires-clause-form : goal.described-requires-clause-form
described-requires-clause-form c = subst (λ (m : Choice). m.layout.profile ≡ profile_for c.args.form) (sym c.in_ok-chosen.ensures) c.requires.form_is

pub described-requires-clause-fits : goal.described-requires-clause-fits
described-requires-clause-fits c =
    subst (λ (m : Choice). IsMap (record { form = c.args.form; lines = map_lines m.layout })) (sym c.in_ok-chosen.ensures) c.requires.fits

pub returns : goal.returns
returns c =
    subst (λ (m : Choice). IsDescribed c.args.form m c.in_ok-described.described.0.items c.in_ok-described.described.1 c.in_ok-described.described.2)
    c.in_ok-chosen.ensures c.in_ok-described.ensures
