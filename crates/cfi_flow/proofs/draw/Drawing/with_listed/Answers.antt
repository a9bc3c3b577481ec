use Rattle.std.proofs.Common.{ℕ, ◌≡◌, ◌++◌, ◌∷◌, [], length, ap, refl, ◌∙◌}
use Rattle.cfi_flow.specs.declared.draw.Aim.TheVariants as aim
use Rattle.cfi_flow.specs.declared.draw.Drawing.{Drawing}
use Rattle.cfi_flow.proofs.Keeping.{kept, listed_sites}
use Rattle.cfi_flow.proofs.draw.Drawing.with_listed.Goals as goal

pub returns-clause-sites : goal.returns-clause-sites
returns-clause-sites c =
    let many : c.len.result ≡ length c.args.self.lists.items = cc in
    let new : Drawing = record { sites = c.push-2.new.self; lists = c.push.new.self; taken = c.args.self.taken; begun = c.args.self.begun } in
    listed_sites c.args.self new c.requires.kept c.args.place c.args.kind c.requires.place refl refl c.args.targets c.in_ok-push.ensures.items
    (c.in_ok-push-2.ensures.items ∙ ap (λ (n : ℕ). c.args.self.sites.items ++ kept c.args.place c.args.kind (aim.Listed n) ∷ []) many)
