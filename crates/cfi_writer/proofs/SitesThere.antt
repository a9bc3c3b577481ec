-- The sites of a closed graph: each computed transfer is a site of the side of its sort, and of no other; its class is there.
use Rattle.std.proofs.Common.{◌≡◌, ℕ, zero, suc, ◌<◌, ◌==◌, true, List, [], ◌∷◌, length, map, Some, Contains, inl, inr, refl, sym, subst, ap, ◌∙◌, arith}
use Rattle.std.specs.Prelude.{option_map, slice_get}
use Rattle.std.specs.List.{All, list_any}
use Rattle.std.proofs.lemmas.Bool.{eq-eqb, eqb-true, or_cases, or_left, or_right}
use Rattle.std.proofs.lemmas.List.Elements.{All-contains}
use Rattle.std.proofs.lemmas.List.Quantifiers.{position-Some}
use Rattle.std.proofs.lemmas.Option.{get_or_from_slice_get, same_Some, slice_get-get_or, slice_get-map, slice_get_within}
use Rattle.cfi_writer.proofs.Prelude.{GraphVersion, OneLabel, TwoLabels, CalleeSaves, Program, count, item_of, SiteKind, Sort, Both, Calls, Jumps, PolicyParts, Site, Side, has_site, is_of, sorts_of, where_below, IsSide, class_reached, raw_for, with_class, has, IsRaw, RawGraph, site_kind, IsSiteOf}
use Rattle.rv_word.proofs.Cases.{mapped}
use Rattle.cfi_graph.specs.declared.line.SiteKind.TheVariants as kinds
use Rattle.cfi_flow.proofs.Laws.{is_kind_of, is_site_of, place_of_site, side_places}
use Rattle.cfi_flow.proofs.Listing.{below_all}
use Rattle.cfi_flow.proofs.Rising.{below_found}
use Rattle.cfi_writer.proofs.SideLabels.{each_sort, sort_get}

-- a number among the places of sites is a site's
site_with_place : (sites : List Site) (k : ℕ) → Contains (map place_of_site sites) k →
    (i : ℕ) × (site : Site) × (slice_get sites i ≡ Some site) × (site.place ≡ k)
site_with_place sites k (i, below, at) =
    let here : slice_get (map place_of_site sites) i ≡ Some k = slice_get-get_or (map place_of_site sites) i k below ∙ ap Some at in
    let (site, there, same) = mapped place_of_site (slice_get sites i) k (sym (slice_get-map place_of_site sites i) ∙ here) in
    (i, site, there, same)

site_any : (sites : List Site) (k i : ℕ) (site : Site) → slice_get sites i ≡ Some site → site.place ≡ k → list_any (λ (s : Site). s.place == k) sites ≡ true
site_any [] k i site get place = absurd (cc)
site_any (s ∷ sites) k zero site get place =
    or_left (s.place == k) (list_any (λ (x : Site). x.place == k) sites) (eq-eqb s.place k (ap (λ (x : Site). x.place) (same_Some s site get) ∙ place))
site_any (s ∷ sites) k (suc i) site get place =
    or_right (s.place == k) (list_any (λ (x : Site). x.place == k) sites) (site_any sites k i site get place)

-- and back
any_place : (sites : List Site) (k : ℕ) → list_any (λ (s : Site). s.place == k) sites ≡ true → Contains (map place_of_site sites) k
any_place [] k e = absurd (cc)
any_place (s ∷ sites) k e =
    elim (or_cases (s.place == k) (list_any (λ (x : Site). x.place == k) sites) e) [
      | inl here ↦ (0, omega arith, eqb-true s.place k here)
      | inr later ↦ let rest = any_place sites k later in let below = rest.1 in (suc rest.0, omega arith, rest.2)
    ]

-- a class that is reached is there
class_there : (classes : List (List ℕ)) (targets : List ℕ) (c : ℕ) → class_reached classes targets ≡ Some c → c < length classes
class_there classes [] c e = absurd (cc)
class_there classes (t ∷ targets) c e = (position-Some (has t) classes c [] e).0

module _ (program : Program) (policy : PolicyParts) (raw : RawGraph) (side : Side) (is : IsRaw program policy raw) (of : IsSide raw side) where
  -- each computed transfer of its sort is a site of a side, and no other is
  pub side_has : (k : ℕ) (kind : SiteKind) → k < count program → site_kind (item_of program k).kind ≡ Some kind → is_of side.sort kind ≡ true → has_site k side ≡ true
  side_has k kind below some own =
      let holds : is_site_of side.sort program k ≡ true = ap (is_kind_of side.sort) some ∙ own in
      let listed : Contains (where_below (is_site_of side.sort program) (count program)) k = below_found (is_site_of side.sort program) (count program) k below holds in
      let (i, site, get, place) = site_with_place side.sites k (subst (λ (xs : List ℕ). Contains xs k) (sym (side_places program policy raw side is of)) listed) in
      site_any side.sites k i site get place

  side_only : (k : ℕ) → has_site k side ≡ true → is_site_of side.sort program k ≡ true
  side_only k here =
      let listed = subst (λ (xs : List ℕ). Contains xs k) (side_places program policy raw side is of) (any_place side.sites k here) in
      All-contains (λ (n : ℕ). is_site_of side.sort program n ≡ true) (where_below (is_site_of side.sort program) (count program)) k
      (below_all (λ (n : ℕ). is_site_of side.sort program n ≡ true) (is_site_of side.sort program) (count program) (λ n below holds. holds)) listed

  pub side_kind : (k : ℕ) (kind : SiteKind) → has_site k side ≡ true → site_kind (item_of program k).kind ≡ Some kind → is_of side.sort kind ≡ true
  side_kind k kind here some = sym (ap (is_kind_of side.sort) some) ∙ side_only k here

  pub site_class_there : (i c : ℕ) (site : Site) → slice_get side.sites i ≡ Some site → site.class ≡ Some c → c < length side.classes
  site_class_there i c site get some =
      let own = raw_for side.sort raw in
      let here : option_map (with_class side.classes) (slice_get own.sites i) ≡ Some site =
      sym (slice_get-map (with_class side.classes) own.sites i) ∙ sym (ap (λ (xs : List Site). slice_get xs i) of.sites) ∙ get in
      let (s, there, same) = mapped (with_class side.classes) (slice_get own.sites i) site here in
      class_there side.classes s.targets c (ap (λ (x : Site). x.class) same ∙ some)

-- which side has the transfers of a kind
side_for : GraphVersion → SiteKind → ℕ
side_for OneLabel kind = 0
side_for TwoLabels kinds.Call = 0
side_for TwoLabels kinds.Jump = 1
side_for CalleeSaves kinds.Call = 0
side_for CalleeSaves kinds.Jump = 1

calls_are : (kind : SiteKind) → is_of Calls kind ≡ true → (0 ≡ side_for TwoLabels kind) × (0 ≡ side_for CalleeSaves kind)
unfolding side_for
calls_are kinds.Call e = (refl, refl)
calls_are kinds.Jump e = absurd (cc)

jumps_are : (kind : SiteKind) → is_of Jumps kind ≡ true → (1 ≡ side_for TwoLabels kind) × (1 ≡ side_for CalleeSaves kind)
unfolding side_for
jumps_are kinds.Jump e = (refl, refl)
jumps_are kinds.Call e = absurd (cc)

no_other : (version : GraphVersion) (kind : SiteKind) (i : ℕ) (sort : Sort) → slice_get (sorts_of version) i ≡ Some sort → is_of sort kind ≡ true → i ≡ side_for version kind
unfolding side_for
no_other version kind =
    each_sort (λ version i sort. is_of sort kind ≡ true → i ≡ side_for version kind) (λ e. refl)
    (λ e. (calls_are kind e).0) (λ e. (jumps_are kind e).0) (λ e. (calls_are kind e).1) (λ e. (jumps_are kind e).1) version

sort_for : (version : GraphVersion) (kind : SiteKind) → (sort : Sort) × (slice_get (sorts_of version) (side_for version kind) ≡ Some sort) × (is_of sort kind ≡ true)
unfolding side_for
sort_for OneLabel kind = (Both, refl, refl)
sort_for TwoLabels kinds.Call = (Calls, refl, refl)
sort_for TwoLabels kinds.Jump = (Jumps, refl, refl)
sort_for CalleeSaves kinds.Call = (Calls, refl, refl)
sort_for CalleeSaves kinds.Jump = (Jumps, refl, refl)

-- of sides that are all closed
module _ (program : Program) (policy : PolicyParts) (raw : RawGraph) (is : IsRaw program policy raw) (version : GraphVersion) (sides : List Side)
    (sorts : map (λ (s : Side). s.sort) sides ≡ sorts_of version) (all : All (IsSide raw) sides) where
  pub side_at : (j : ℕ) (side : Side) → slice_get sides j ≡ Some side → IsSide raw side
  side_at j side there = subst (IsSide raw) (get_or_from_slice_get sides j side side there) (all j side (slice_get_within sides j side there))

  pub site_of : (k : ℕ) (kind : SiteKind) → k < count program → site_kind (item_of program k).kind ≡ Some kind → IsSiteOf sides k kind
  site_of k kind below some =
      let (sort, at, own) = sort_for version kind in
      let index = side_for version kind in
      let here : option_map (λ (s : Side). s.sort) (slice_get sides index) ≡ Some sort =
      sym (slice_get-map (λ (s : Side). s.sort) sides index) ∙ ap (λ (ss : List Sort). slice_get ss index) sorts ∙ at in
      let (side, there, same) = mapped (λ (s : Side). s.sort) (slice_get sides index) sort here in
      let of : is_of side.sort kind ≡ true = ap (λ (s : Sort). is_of s kind) same ∙ own in
      record {
        index = index;
        side = side;
        there = there;
        sort = of;
        site = side_has program policy raw side is (side_at index side there) k kind below some of;
        alone = λ i other get has. no_other version kind i other.sort (sort_get version sides sorts i other get)
            (side_kind program policy raw other is (side_at i other get) k kind has some);
      }
