use Rattle.std.proofs.Common.{◌==◌, ◌∙◌, None, sym, ap, arith, ◌≤◌, length}
use Rattle.std.proofs.lemmas.Bool.{ne_eqb}
use Rattle.cfi_closed.specs.declared.side.Site.{Site}
use Rattle.cfi_closed.specs.Closed.{Side}
use Rattle.cfi_closed.specs.Found.{site_with}
use Rattle.cfi_class.proofs.Finding.{position_none}
use Rattle.cfi_closed.proofs.side.Side.site_at.Goals as goal

abbrev no_site : Site
no_site = record { place = 0; class = None }

pub returns-else-place-len-clause-value : goal.returns-else-place-len-clause-value
returns-else-place-len-clause-value c =
    let past : length c.self.inside.site_at.items ≤ c.args.place = omega (arith, c.len.ensures, c.if-place-len.false, c.self.inside.site_at.ok) in
    let many = c.self.invariant.site_table.size in
    sym (position_none (λ (s : Site). s.place == c.args.place) c.self.inside.sites.items no_site
    (λ i inside. let less = c.self.invariant.sites_there i no_site inside in ne_eqb _ _ (λ same. omega arith)))
    ∙ ap (λ (s : Side). site_with s.sites c.args.place) c.self.view_is
