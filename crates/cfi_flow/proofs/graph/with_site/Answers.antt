use Rattle.std.proofs.Common.{ℕ, ◌≡◌, ◌++◌, ◌∷◌, [], IfOk, List, sym, subst, ap, ◌∙◌}
use Rattle.std.proofs.lemmas.List.{get_or_default}
use Rattle.cfi_flow.specs.declared.draw.Drawing.{Drawing}
use Rattle.cfi_flow.specs.Kept.{site_with, sites_of}
use Rattle.cfi_flow.specs.Policy.{allowed, no_line}
use Rattle.cfi_flow.proofs.Stepping.{by_line, by_none, line_there, opened}
use Rattle.cfi_flow.proofs.graph.with_site.Goals as goal

pub returns-in_ok-targets-in-Some-clause-sites : goal.returns-in_ok-targets-in-Some-clause-sites
returns-in_ok-targets-in-Some-clause-sites c =
    let program = c.args.items.now in
    let lines = c.args.lines.now in
    let at = sym c.in-Some.is ∙ c.requires.line in
    let line = c.index-lines-j.is ∙ get_or_default lines c.in-Some.j c.index-lines-j.result no_line (line_there program lines c.args.k c.in-Some.j at) in
    let targets = c.in_ok-targets-in-Some.ensures.value ∙ ap (allowed program) line ∙ by_line program lines c.args.k c.args.kind c.in-Some.j at in
    subst (λ (ts : List ℕ). IfOk c.with_listed.result (λ (d : Drawing). sites_of d ≡ sites_of c.args.drawing ++ site_with c.args.k c.args.kind ts ∷ []))
    targets c.with_listed.ensures.sites

pub returns-in-None-clause-sites : goal.returns-in-None-clause-sites
returns-in-None-clause-sites c =
    let program = c.args.items.now in
    let targets = opened program c.args.drawing c.args.kind c.args.k c.span_into.result c.requires.of (c.span_into.ensures program c.requires.reach)
    ∙ by_none program c.args.lines.now c.args.k c.args.kind (sym c.in-None.is ∙ c.requires.line) in
    subst (λ (ts : List ℕ). IfOk c.with_open.result (λ (d : Drawing). sites_of d ≡ sites_of c.args.drawing ++ site_with c.args.k c.args.kind ts ∷ []))
    targets c.with_open.ensures.sites
