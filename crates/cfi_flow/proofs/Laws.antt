-- What holds of the sites of each program under each policy.
use Rattle.std.proofs.Common.{◌≡◌, ℕ, zero, suc, ◌<◌, ◌++◌, ◌∷◌, [], List, Bool, false, inl, inr, if◌then◌else◌, length, map, get_or, Option, Some, None, refl, sym, ap, subst, ◌∙◌, arith}
use Rattle.std.specs.Prelude.{filter}
use Rattle.std.specs.List.{All, Contains, find}
use Rattle.std.proofs.lemmas.List.{append-nil, get_or-map, length-map, map-append}
use Rattle.std.proofs.lemmas.Bool.{cases_Bool}
use Rattle.std.proofs.lemmas.List.Elements.{All-contains, All-filter, filter-append}
use Rattle.cfi_class.specs.Classes.{IsInSome}
use Rattle.obj_program.specs.Program.{Program, count, item_of}
use Rattle.cfi_graph.specs.declared.line.SiteKind.{SiteKind}
use Rattle.cfi_graph.specs.declared.line.Sort.{Sort}
use Rattle.cfi_closed.specs.declared.side.Site.{Site}
use Rattle.cfi_closed.specs.Closed.{Side, is_of}
use Rattle.cfi_flow.specs.Below.{where_below}
use Rattle.cfi_flow.specs.Closing.{IsSide, sets_of, with_class}
use Rattle.cfi_flow.specs.Policy.{IsRaw, names_site, targets_by, targets_under}
use Rattle.cfi_flow.specs.Raw.{RawGraph, no_site}
use Rattle.cfi_flow.specs.Sites.{RawSite, site_at, site_kind, sites_below}
use Rattle.cfi_policy.specs.declared.policy.PolicyLine.{PolicyLine}
use Rattle.cfi_policy.specs.Policy.{PolicyParts}
use Rattle.cfi_class.proofs.Sets.{list_there}
use Rattle.cfi_flow.proofs.Listing.{all_none, all_with, below_all}

-- a computed transfer of a sort
abbrev pub is_kind_of : Sort → Option SiteKind → Bool
is_kind_of sort None = false
is_kind_of sort (Some kind) = is_of sort kind

abbrev pub is_site_of : Sort → Program → ℕ → Bool
is_site_of sort program k = is_kind_of sort (site_kind (item_of program k).kind)

abbrev own_sites : Sort → List RawSite → List RawSite
own_sites sort sites = filter (λ (s : RawSite). is_of sort s.kind) sites

abbrev pub place_of_raw : RawSite → ℕ
place_of_raw s = s.place

abbrev pub place_of_site : Site → ℕ
place_of_site s = s.place

one : (sort : Sort) (kind : Option SiteKind) (n : ℕ) (targets : SiteKind → ℕ → List ℕ)
    → map place_of_raw (own_sites sort (site_at targets n kind)) ≡ (if is_kind_of sort kind then n ∷ [] else [])
one sort None n targets = refl
one sort (Some kind) n targets = elim (cases_Bool (is_of sort kind)) [
  | inl own ↦ rw own refl
  | inr other ↦ rw other refl
]

-- the sites of a sort are the computed transfers of that sort in the order of places
sites_are : (sort : Sort) (program : Program) (targets : SiteKind → ℕ → List ℕ) (n : ℕ)
    → map place_of_raw (own_sites sort (sites_below program targets n)) ≡ where_below (is_site_of sort program) n
unfolding sites_below where_below
sites_are sort program targets zero = refl
sites_are sort program targets (suc n) =
    let last = site_at targets n (site_kind (item_of program n).kind) in
    ap (map place_of_raw) (filter-append (λ (s : RawSite). is_of sort s.kind) (sites_below program targets n) last)
    ∙ map-append place_of_raw (own_sites sort (sites_below program targets n)) (own_sites sort last)
    ∙ ap (λ (xs : List ℕ). xs ++ map place_of_raw (own_sites sort last)) (sites_are sort program targets n)
    ∙ ap (λ (xs : List ℕ). where_below (is_site_of sort program) n ++ xs) (one sort (site_kind (item_of program n).kind) n targets)

same_places : (classes : List (List ℕ)) (sites : List RawSite) → map place_of_site (map (with_class classes) sites) ≡ map place_of_raw sites
same_places classes [] = refl
same_places classes (s ∷ sites) = ap (λ (xs : List ℕ). s.place ∷ xs) (same_places classes sites)

-- and so are those of a side
pub side_places : (program : Program) (policy : PolicyParts) (raw : RawGraph) (side : Side) → IsRaw program policy raw → IsSide raw side
    → map place_of_site side.sites ≡ where_below (is_site_of side.sort program) (count program)
side_places program policy raw side is of =
    ap (map place_of_site) of.sites ∙ same_places side.classes (own_sites side.sort raw.sites)
    ∙ ap (λ (sites : List RawSite). map place_of_raw (own_sites side.sort sites)) is.sites
    ∙ sites_are side.sort program (targets_under program policy.lines) (count program)

-- each target is a place
by_there : (program : Program) (kind : SiteKind) (k : ℕ) (o : Option PolicyLine) → All (λ (t : ℕ). t < count program) (targets_by program kind k o)
by_there program kind k None = below_all (λ (t : ℕ). t < count program) _ (count program) (λ t less holds. less)
by_there program kind k (Some line) = below_all (λ (t : ℕ). t < count program) _ (count program) (λ t less holds. less)

abbrev pub Aims : Program → RawSite → Type 0
Aims program s = All (λ (t : ℕ). t < count program) s.targets

with_one : (program : Program) (lines : List PolicyLine) (sites : List RawSite) (k : ℕ) (kind : Option SiteKind) → All (Aims program) sites
    → All (Aims program) (sites ++ site_at (targets_under program lines) k kind)
with_one program lines sites k None there = rw append-nil there
with_one program lines sites k (Some kind) there =
    all_with (Aims program) sites (record { place = k; kind = kind; targets = targets_under program lines kind k }) there
    (by_there program kind k (find (names_site program k) lines))

pub targets_there : (program : Program) (lines : List PolicyLine) (n : ℕ) → All (Aims program) (sites_below program (targets_under program lines) n)
unfolding sites_below
targets_there program lines zero = all_none (Aims program)
targets_there program lines (suc n) =
    with_one program lines (sites_below program (targets_under program lines) n) n (site_kind (item_of program n).kind) (targets_there program lines n)

-- and so is each member of a class
pub members_there : (program : Program) (policy : PolicyParts) (raw : RawGraph) (side : Side) → IsRaw program policy raw → IsSide raw side
    → (a : ℕ) → IsInSome side.classes a → a < count program
members_there program policy raw side is of a h =
    let own = own_sites side.sort raw.sites in
    let every = subst (All (Aims program)) (sym is.sites) (targets_there program policy.lines (count program)) in
    let all = All-filter (λ (s : RawSite). is_of side.sort s.kind) (Aims program) raw.sites every in
    let at = (of.classes.members a).0 h in
    let inside : at.0 < length own = omega (arith, list_there (sets_of own) at.0 a at.1, length-map own (λ (s : RawSite). s.targets)) in
    let set = get_or-map (λ (s : RawSite). s.targets) own at.0 no_site [] inside in
    All-contains (λ (t : ℕ). t < count program) (get_or own at.0 no_site).targets a (all at.0 no_site inside)
    (subst (λ (xs : List ℕ). Contains xs a) set at.1)
