use Rattle.std.proofs.Common.{ℕ, ◌≡◌, ◌<◌, Option, IfSome, List, length, map, sym, subst, ap, ◌∙◌}
use Rattle.std.specs.List.{All}
use Rattle.cfi_class.specs.Classes.{class_with}
use Rattle.cfi_class.specs.Tables.{IsTable}
use Rattle.cfi_closed.specs.declared.side.Site.{Site}
use Rattle.cfi_closed.specs.Closed.{IsSideInside, Side}
use Rattle.cfi_closed.specs.Found.{site_with}
use Rattle.cfi_flow.specs.Closing.{with_class}
use Rattle.cfi_flow.specs.Found.{by_table}
use Rattle.cfi_flow.specs.Raw.{IsThere, RawGraph}
use Rattle.cfi_flow.specs.Sites.{RawSite}
use Rattle.cfi_flow.proofs.Classing.{by_table_there, closed_by_table, reached_there}
use Rattle.cfi_flow.proofs.closing.side_of.Goals as goal

pub site_table-requires : goal.site_table-requires
site_table-requires c =
    let n = c.places-places.result in
    let there = subst (λ (m : ℕ). All (λ (s : RawSite). s.place < m) c.args.raw.now.sites) (sym c.places-places.ensures.value) c.places-places.ensures.there.sites in
    let sites = c.as_slice-3.ensures.value ∙ c.in_ok-sites.ensures in
    subst (All (λ (s : Site). s.place < n)) (sym sites) (by_table_there c.as_slice-2.result.now c.args.raw.now.sites n there)

-- sites with what a table of the classes has for their targets
module _ (raw : RawGraph) (there : IsThere raw) (classes : List (List ℕ)) (table : List (Option ℕ)) (is : IsTable (class_with classes) (length raw.taken) table)
    (sites : List Site) (by : sites ≡ map (by_table table) raw.sites) where
  -- they are those of the raw graph with their classes
  sites_are : sites ≡ map (with_class classes) raw.sites
  sites_are = by ∙ closed_by_table classes (length raw.taken) table is raw.sites there.targets

  reached : All (λ (s : Site). IfSome s.class (λ k. k < length classes)) sites
  reached = subst (All (λ (s : Site). IfSome s.class (λ k. k < length classes))) (sym sites_are) (reached_there classes raw.sites)

  places_there : All (λ (s : Site). s.place < length raw.taken) sites
  places_there = subst (All (λ (s : Site). s.place < length raw.taken)) (sym by) (by_table_there table raw.sites (length raw.taken) there.sites)

-- a table with as many entries as there are places
table_is : (places all : ℕ) (seen classes : List (List ℕ)) (table : List (Option ℕ)) → places ≡ all → seen ≡ classes → IsTable (class_with seen) places table
    → IsTable (class_with classes) all table
table_is places all seen classes table many same is =
    subst (λ (m : ℕ). IsTable (class_with classes) m table) many (subst (λ (xs : List (List ℕ)). IsTable (class_with xs) places table) same is)

pub of-requires : goal.of-requires
of-requires c =
    let raw = c.args.raw.now in
    let classes = c.in_ok-classes.classes.items in
    let table = c.in_ok-class_at.class_at.items in
    let many = c.places-places.ensures.value in
    let is = table_is c.places-places.result (length raw.taken) c.as_slice.result.now classes table many c.as_slice.ensures.value c.in_ok-class_at.ensures in
    let by = c.in_ok-sites.ensures ∙ ap (λ (t : List (Option ℕ)). map (by_table t) raw.sites) c.as_slice-2.ensures.value in
    let site_table = subst (λ (sites : List Site). IsTable (site_with sites) c.places-places.result c.in_ok-site_at.site_at.items) c.as_slice-3.ensures.value c.in_ok-site_at.ensures in
    rw is.size record {
      members_there = c.in_ok-classes.ensures.there;
      sites_there = places_there raw c.places-places.ensures.there classes table is c.in_ok-sites.sites.items by;
      reached_there = reached raw c.places-places.ensures.there classes table is c.in_ok-sites.sites.items by;
      class_table = is;
      site_table = subst (λ (m : ℕ). IsTable (site_with c.in_ok-sites.sites.items) m c.in_ok-site_at.site_at.items) many site_table;
    }

pub returns-clause-sites : goal.returns-clause-sites
returns-clause-sites c =
    let raw = c.args.raw.now in
    let classes = c.in_ok-classes.classes.items in
    let table = c.in_ok-class_at.class_at.items in
    let is = table_is c.places-places.result (length raw.taken) c.as_slice.result.now classes table c.places-places.ensures.value c.as_slice.ensures.value c.in_ok-class_at.ensures in
    let by = c.in_ok-sites.ensures ∙ ap (λ (t : List (Option ℕ)). map (by_table t) raw.sites) c.as_slice-2.ensures.value in
    subst (λ (s : Side). s.sites ≡ map (with_class s.classes) raw.sites) (sym c.of.ensures) (sites_are raw c.places-places.ensures.there classes table is c.in_ok-sites.sites.items by)

pub returns-clause-inside : goal.returns-clause-inside
returns-clause-inside c =
    let raw = c.args.raw.now in
    let classes = c.in_ok-classes.classes.items in
    let table = c.in_ok-class_at.class_at.items in
    let is = table_is c.places-places.result (length raw.taken) c.as_slice.result.now classes table c.places-places.ensures.value c.as_slice.ensures.value c.in_ok-class_at.ensures in
    let by = c.in_ok-sites.ensures ∙ ap (λ (t : List (Option ℕ)). map (by_table t) raw.sites) c.as_slice-2.ensures.value in
    subst (IsSideInside (length raw.taken)) (sym c.of.ensures) record {
      members = c.in_ok-classes.ensures.there;
      sites = places_there raw c.places-places.ensures.there classes table is c.in_ok-sites.sites.items by;
      reached = reached raw c.places-places.ensures.there classes table is c.in_ok-sites.sites.items by;
    }
