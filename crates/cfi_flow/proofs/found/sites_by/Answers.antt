use Rattle.std.proofs.Common.{◌≡◌, ℕ, ◌<◌, ◌≤◌, Bool, List, Option, length, get_or, map, option_and_then, sym, subst, ap, ◌∙◌}
use Rattle.std.specs.List.{slice_get}
use Rattle.std.specs.List.Sorted.{IsStrictlyIncreasing}
use Rattle.std.proofs.lemmas.List.{take_all}
use Rattle.std.proofs.lemmas.Simd.{map-map}
use Rattle.rv_word.proofs.Lists.{map_more}
use Rattle.cfi_graph.specs.declared.line.SiteKind.TheVariants as site
use Rattle.cfi_closed.specs.declared.side.Site.{Site}
use Rattle.cfi_flow.specs.declared.draw.Aim.{Aim}
use Rattle.cfi_flow.specs.declared.draw.Aim.TheVariants as aim
use Rattle.cfi_flow.specs.declared.draw.KeptSite.{KeptSite}
use Rattle.cfi_flow.specs.Found.{by_table}
use Rattle.cfi_flow.specs.Kept.{IsAimed, raw_site, targets_of}
use Rattle.cfi_flow.specs.Pointed.{ArePoints}
use Rattle.cfi_class.specs.Tables.{entry}
use Rattle.cfi_flow.proofs.Keeping.{first_there}
use Rattle.cfi_flow.proofs.Rising.{below_rising}
use Rattle.cfi_flow.proofs.found.sites_by.Goals as goal

pub first_target-first-requires-clause-rising : goal.first_target-first-requires-clause-rising
first_target-first-requires-clause-rising c = subst IsStrictlyIncreasing (sym c.in_ok-points.ensures.all) (below_rising _ _)

pub entry_of-class-requires : goal.entry_of-class-requires
entry_of-class-requires c =
    let d = c.args.drawing.now in
    let k : ℕ = c.loop-site.site-index in
    let points = c.in_ok-points.points in
    let are = subst (λ (b : List Bool). ArePoints d.taken.items b points) c.as_slice-2.ensures.value
    (subst (λ (t : List Bool). ArePoints t c.as_slice-2.result.now points) c.as_slice.ensures.value c.in_ok-points.ensures) in
    let other : KeptSite = record { place = 0; kind = site.Call; aim = aim.Listed 0 } in
    let a : Aim = (get_or c.deref-site-items.result.now k other).aim in
    let below : k < length d.sites.items = rw c.deref-site-items.ensures.value at c.loop-site-test.true in
    let aimed = subst (λ (xs : List KeptSite). IsAimed (length d.lists.items) (get_or xs k other).aim) (sym c.deref-site-items.ensures.value) (c.requires.kept.aims k other below) in
    let first = subst (λ (ls : List (List ℕ)). c.first_target-first.result ≡ slice_get (targets_of ls d.taken.items d.begun.items a) 0)
    c.as_slice-in-loop-site.ensures.value (c.first_target-first.ensures d.taken.items d.begun.items are) in
    first_there d c.requires.kept a aimed (length c.args.table.now) (sym c.requires.table) c.first_target-first.result first

pub loop-site-preserved : goal.loop-site-preserved
loop-site-preserved c =
    let d = c.args.drawing.now in
    let k : ℕ = c.loop-site.site-index in
    let points = c.in_ok-points.points in
    let are = subst (λ (b : List Bool). ArePoints d.taken.items b points) c.as_slice-2.ensures.value
    (subst (λ (t : List Bool). ArePoints t c.as_slice-2.result.now points) c.as_slice.ensures.value c.in_ok-points.ensures) in
    let other : KeptSite = record { place = 0; kind = site.Call; aim = aim.Listed 0 } in
    let s : KeptSite = get_or c.deref-site-items.result.now k other in
    let below : k < length d.sites.items = rw c.deref-site-items.ensures.value at c.loop-site-test.true in
    let told : KeptSite → Site = λ s. by_table c.args.table.now (raw_site d.lists.items d.taken.items d.begun.items s) in
    let first = subst (λ (ls : List (List ℕ)). c.first_target-first.result ≡ slice_get (targets_of ls d.taken.items d.begun.items s.aim) 0)
    c.as_slice-in-loop-site.ensures.value (c.first_target-first.ensures d.taken.items d.begun.items are) in
    let class = c.entry_of-class.ensures ∙ ap (option_and_then (entry c.args.table.now)) first in
    map_more told d.sites.items k other c.loop-site.sites.items c.push.new.self.items (record { place = s.place; class = c.entry_of-class.result }) below
    c.loop-site.invariant
    (ap (λ (o : Option ℕ). record { place = s.place; class = o }) class ∙ ap (λ (xs : List KeptSite). told (get_or xs k other)) c.deref-site-items.ensures.value)
    c.in_ok-push.ensures.items

pub returns : goal.returns
returns c =
    let d = c.args.drawing.now in
    let past : length d.sites.items ≤ c.loop-site.site-index = rw c.deref-site-items.ensures.value at c.loop-site-test.false in
    let raw = raw_site d.lists.items d.taken.items d.begun.items in
    c.loop-site.invariant
    ∙ ap (map (λ (s : KeptSite). by_table c.args.table.now (raw s))) (take_all c.loop-site.site-index d.sites.items past)
    ∙ sym (map-map (by_table c.args.table.now) raw d.sites.items)
