use Rattle.std.proofs.Common.{◌≡◌, sym, ◌∙◌, true, false, rules}
use Rattle.std.specs.Prelude.{nat_eq}
use Rattle.std.specs.List.{starts_with}
use Rattle.cfi_unit.proofs.UnitInList.{begins_by, begun_starts}
use Rattle.cfi_emit.proofs.recogniser.begins.Goals as goal

pub returns-then-starts_with : goal.returns-then-starts_with
returns-then-starts_with c =
    let starts : starts_with nat_eq c.args.words.now c.as_slice.result.now ≡ true = search rules in
    let code = c.as_slice.ensures ∙ c.unit_code-code.ensures in
    let fits = c.fits.ensures.0 c.if-fits.true in (
      λ kept. begins_by c.args.words.now c.as_slice.result.now c.args.at c.args.unit.now fits code starts (sym c.is_kept.ensures ∙ kept),
      λ b. c.is_kept.ensures ∙ b.ahead,
    )

pub returns-else-starts_with : goal.returns-else-starts_with
returns-else-starts_with c =
    let starts : starts_with nat_eq c.args.words.now c.as_slice.result.now ≡ false = search rules in
    let code = c.as_slice.ensures ∙ c.unit_code-code.ensures in (
      λ bad. absurd (let no = c.if-starts_with.false in cc),
      λ b. absurd (let yes = begun_starts c.args.words.now c.as_slice.result.now c.args.at c.args.unit.now b code in cc),
    )

pub returns-else-fits : goal.returns-else-fits
returns-else-fits c = (λ bad. absurd (cc), λ b. absurd (let yes = c.fits.ensures.1 b.fits in let no = c.if-fits.false in cc))
