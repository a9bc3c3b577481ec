use Rattle.std.proofs.Common.{◌≡◌, ℕ, ◌<◌, Bool, List, length, get_or, ap, sym, subst, ◌∙◌, arith}
use Rattle.std.specs.List.Sorted.{IsStrictlyIncreasing}
use Rattle.std.proofs.lemmas.List.{get_or_default}
use Rattle.cfi_graph.specs.declared.line.SiteKind.TheVariants as site
use Rattle.cfi_flow.specs.declared.draw.Aim.TheVariants as aim
use Rattle.cfi_flow.specs.declared.draw.KeptSite.{KeptSite}
use Rattle.cfi_flow.specs.Closing.{sets_of}
use Rattle.cfi_flow.specs.Joins.{IsJoining}
use Rattle.cfi_flow.specs.Kept.{no_kept, sites_of, targets_of}
use Rattle.cfi_flow.specs.Pointed.{ArePoints}
use Rattle.cfi_flow.proofs.Keeping.{set_of_site, sets_many}
use Rattle.cfi_flow.proofs.Rising.{below_rising}
use Rattle.cfi_flow.proofs.join.joined.Goals as goal

pub loop-site-init : goal.loop-site-init
loop-site-init c = c.none-joining.ensures _ _ _

pub with_site-requires-clause-rising : goal.with_site-requires-clause-rising
with_site-requires-clause-rising c = subst IsStrictlyIncreasing (sym c.in_ok-points.ensures.all) (below_rising _ _)

pub loop-site-preserved : goal.loop-site-preserved
loop-site-preserved c =
    let d = c.args.drawing.now in
    let k : ℕ = c.loop-site.site-index in
    let points = c.in_ok-points.points in
    let are = subst (λ (b : List Bool). ArePoints d.taken.items b points) c.as_slice-2.ensures.value
    (subst (λ (t : List Bool). ArePoints t c.as_slice-2.result.now points) c.as_slice.ensures.value c.in_ok-points.ensures) in
    let below : k < length d.sites.items = rw c.deref-site-items.ensures.value at c.loop-site-test.true in
    let other : KeptSite = record { place = 0; kind = site.Call; aim = aim.Listed 0 } in
    c.in_ok-joining.ensures (sets_of (sites_of d)) d.taken.items d.begun.items k are c.loop-site.invariant
    (set_of_site d k below
    ∙ ap (λ (ls : List (List ℕ)). targets_of ls d.taken.items d.begun.items (get_or d.sites.items k no_kept).aim) (sym c.as_slice-in-loop-site.ensures.value)
    ∙ ap (λ (s : KeptSite). targets_of c.as_slice-in-loop-site.result.now d.taken.items d.begun.items s.aim)
    (get_or_default d.sites.items k no_kept other below ∙ ap (λ (xs : List KeptSite). get_or xs k other) (sym c.deref-site-items.ensures.value)))

pub returns : goal.returns
returns c =
    let d = c.args.drawing.now in
    let sets = sets_of (sites_of d) in
    let many = sets_many d in
    let past = rw c.deref-site-items.ensures.value at c.loop-site-test.false in
    let all : c.loop-site.site-index ≡ length sets = omega arith in
    c.in_ok-lists.ensures sets d.taken.items d.begun.items (subst (λ (n : ℕ). IsJoining sets d.taken.items d.begun.items n c.loop-site.joining) all c.loop-site.invariant)
