-- Labels over the sides of a closed graph: which class has which, which place bears which, and the laws of both.
use Rattle.std.proofs.Common.{◌≡◌, ◌⊎◌, ℕ, zero, suc, ◌+◌, ◌*◌, ◌<◌, ◌==◌, inl, inr, Bool, true, false, List, [], ◌∷◌, ◌++◌, length, length-append, map, drop, Option, Some, None, refl, sym, ap, subst, ◌∙◌, arith, Contains}
use Rattle.std.specs.Prelude.{if◌then◌else◌, option_map, slice_get, slice_index, slice_index_or}
use Rattle.std.specs.List.{list_any}
use Rattle.std.proofs.lemmas.Bool.{cases_Bool, eqb-true, or_cases, or_left, or_right}
use Rattle.std.proofs.lemmas.List.{length-map}
use Rattle.std.proofs.lemmas.Option.{get_or_from_slice_get, same_Some, slice_get-get_or, slice_get-map, slice_get_within}
use Rattle.cfi_writer.proofs.Prelude.{GraphVersion, OneLabel, TwoLabels, CalleeSaves, IsIn, has, Sort, Both, Calls, Jumps, SiteKind, ClassLine, is_sort_of, Site, Side, has_site, is_of, is_target_of, sorts_of, class_lines, Tagged, all_classes, class_count, empty_classes, label_at, labels_of, site_label, site_number, tag, tagged, with_empty, past, call_word, is_among, jump_word, read_of, serves, targets_for, labels_before, GatesListed, SitesServed, TargetsBear, word_asked, word_of_side}
use Rattle.rv_word.proofs.Cases.{mapped}
use Rattle.cfi_graph.specs.declared.line.SiteKind.TheVariants as kinds
use Rattle.cfi_unit.proofs.Context.{slice_get-front}
use Rattle.cfi_writer.proofs.ClassLines.{among_from, among_to, class_given, class_line, line_get, served_by, targets_of}
use Rattle.cfi_writer.proofs.Labelled.{has_in, label_found, label_once, labelled, site_below}

-- look-ups in two lists one after another, and in what is left of one
split_get : {A : Type 0} (xs ys : List A) (n : ℕ) (y : A) → slice_get (xs ++ ys) n ≡ Some y →
    (slice_get xs n ≡ Some y) ⊎ ((m : ℕ) × (n ≡ length xs + m) × (slice_get ys m ≡ Some y))
split_get [] ys n y e = inr (n, omega arith, e)
split_get (x ∷ xs) ys zero y e = inl e
split_get (x ∷ xs) ys (suc n) y e =
    elim (split_get xs ys n y e) [
      | inl first ↦ inl first
      | inr (m, at, get) ↦ inr (m, omega arith, get)
    ]

get_back : {A : Type 0} (xs ys : List A) (m n : ℕ) → n ≡ length xs + m → slice_get (xs ++ ys) n ≡ slice_get ys m
get_back [] ys m n e = let same : n ≡ m = omega arith in ap (slice_get ys) same
get_back (x ∷ xs) ys m zero e = absurd (omega arith)
get_back (x ∷ xs) ys m (suc n) e = get_back xs ys m n (omega arith)

drop_get : (xs : List ℕ) (n i : ℕ) → slice_get (drop n xs) i ≡ slice_get xs (n + i)
drop_get xs zero i = let same : i ≡ 0 + i = omega arith in ap (slice_get xs) same
drop_get [] (suc n) i = refl
drop_get (x ∷ xs) (suc n) i = let same : suc (n + i) ≡ suc n + i = omega arith in drop_get xs n i ∙ ap (slice_get (x ∷ xs)) same

pub drop_index : (xs : List ℕ) (n i : ℕ) → slice_index (drop n xs) i ≡ slice_index xs (n + i)
drop_index xs zero i = let same : i ≡ 0 + i = omega arith in ap (slice_index xs) same
drop_index [] (suc n) i = refl
drop_index (x ∷ xs) (suc n) i = let same : suc (n + i) ≡ suc n + i = omega arith in drop_index xs n i ∙ ap (slice_index (x ∷ xs)) same

drop_none : (n : ℕ) → drop {A = ℕ} n [] ≡ []
drop_none zero = refl
drop_none (suc n) = refl

pub drop_more : (xs : List ℕ) (m n : ℕ) → drop n (drop m xs) ≡ drop (m + n) xs
drop_more xs zero n = let same : n ≡ 0 + n = omega arith in ap (λ (i : ℕ). drop i xs) same
drop_more [] (suc m) n = drop_none n ∙ sym (drop_none (suc m + n))
drop_more (x ∷ xs) (suc m) n = let same : suc (m + n) ≡ suc m + n = omega arith in drop_more xs m n ∙ ap (λ (i : ℕ). drop i (x ∷ xs)) same

pub any_get : {A : Type 0} (p : A → Bool) (xs : List A) (i : ℕ) (x : A) → slice_get xs i ≡ Some x → p x ≡ true → list_any p xs ≡ true
any_get p [] i x e holds = absurd (cc)
any_get p (y ∷ xs) zero x e holds = or_left (p y) (list_any p xs) (ap p (same_Some y x e) ∙ holds)
any_get p (y ∷ xs) (suc i) x e holds = or_right (p y) (list_any p xs) (any_get p xs i x e holds)

-- an empty class has no members
empty_with : (o : Option ℕ) (rest : List (List ℕ)) (j k : ℕ) (class : List ℕ) → slice_get (with_empty o rest) j ≡ Some class → has k class ≡ true →
    ((i : ℕ) → slice_get rest i ≡ Some class → ⊥) → ⊥
empty_with None rest zero k class get there none =
    let same : [] ≡ class = same_Some [] class get in
    let wrong : false ≡ true = ap (has k) same ∙ there in
    absurd (cc)
empty_with None rest (suc j) k class get there none = none j get
empty_with (Some c) rest j k class get there none = none j get

in_no_empty : (sites : List Site) (j k : ℕ) (class : List ℕ) → slice_get (empty_classes sites) j ≡ Some class → has k class ≡ true → ⊥
unfolding empty_classes
in_no_empty [] j k class get there = absurd (cc)
in_no_empty (site ∷ sites) j k class get there = empty_with site.class (empty_classes sites) j k class get there (λ i e. in_no_empty sites i k class e there)

-- a member of any class is one of a class with targets
pub in_classes : (classes : List (List ℕ)) (sites : List Site) (j k : ℕ) (class : List ℕ) → slice_get (classes ++ empty_classes sites) j ≡ Some class → has k class ≡ true →
    slice_get classes j ≡ Some class
in_classes [] sites j k class get there = absurd (in_no_empty sites j k class get there)
in_classes (c ∷ classes) sites zero k class get there = get
in_classes (c ∷ classes) sites (suc j) k class get there = in_classes classes sites j k class get there

pub is_in : (classes : List (List ℕ)) (j k : ℕ) (class : List ℕ) → slice_get classes j ≡ Some class → has k class ≡ true → IsIn classes j k
is_in classes j k class get there =
    let same : slice_index_or classes j [] ≡ class = get_or_from_slice_get classes j class [] get in
    subst (λ (c : List ℕ). Contains c k) (sym same) (has_in class k there)

site_there : (sites : List Site) (k : ℕ) → list_any (λ (s : Site). s.place == k) sites ≡ true →
    (i : ℕ) × (site : Site) × (slice_get sites i ≡ Some site) × (site.place ≡ k)
site_there [] k e = absurd (cc)
site_there (site ∷ sites) k e =
    elim (or_cases (site.place == k) (list_any (λ (s : Site). s.place == k) sites) e) [
      | inl here ↦ (0, site, refl, eqb-true site.place k here)
      | inr later ↦ let rest = site_there sites k later in (suc rest.0, rest.1, rest.2, rest.3)
    ]

-- a class is one of a side
pub record InSide (sides : List Side) (n : ℕ) (t : Tagged) : Type 0 where
  pub index : ℕ
  pub side : Side
  pub there : slice_get sides index ≡ Some side
  pub number : ℕ
  pub class_is : slice_get (all_classes side) number ≡ Some t.class
  pub sort_is : side.sort ≡ t.sort
  pub at : n ≡ labels_before sides index + number

pub in_side : (sides : List Side) (n : ℕ) (t : Tagged) → slice_get (tagged sides) n ≡ Some t → InSide sides n t
unfolding tagged labels_before
in_side [] n t e = absurd (cc)
in_side (side ∷ sides) n t e =
    elim (split_get (map (tag side.sort) (all_classes side)) (tagged sides) n t e) [
      | inl first ↦
          let here : option_map (tag side.sort) (slice_get (all_classes side) n) ≡ Some t = sym (slice_get-map (tag side.sort) (all_classes side) n) ∙ first in
          let (class, get, same) = mapped (tag side.sort) (slice_get (all_classes side) n) t here in
          record {
            index = 0;
            side = side;
            there = refl;
            number = n;
            class_is = get ∙ ap (λ (x : Tagged). Some x.class) same;
            sort_is = ap (λ (x : Tagged). x.sort) same;
            at = omega arith;
          }
      | inr (m, at, get) ↦
          let rest = in_side sides m t get in
          let many = length-map (all_classes side) (tag side.sort) in
          let behind = rest.at in
          record {
            index = suc rest.index;
            side = rest.side;
            there = rest.there;
            number = rest.number;
            class_is = rest.class_is;
            sort_is = rest.sort_is;
            at = omega arith;
          }
    ]

to_tagged : (sides : List Side) (j i : ℕ) (side : Side) (class : List ℕ) → slice_get sides j ≡ Some side → slice_get (all_classes side) i ≡ Some class →
    slice_get (tagged sides) (labels_before sides j + i) ≡ Some (tag side.sort class)
unfolding tagged labels_before
to_tagged [] j i side class there get = absurd (cc)
to_tagged (s ∷ sides) zero i side class there get =
    let same : s ≡ side = same_Some s side there in
    let here : slice_get (all_classes s) i ≡ Some class = ap (λ (x : Side). slice_get (all_classes x) i) same ∙ get in
    let first : slice_get (map (tag s.sort) (all_classes s)) i ≡ Some (tag s.sort class) =
    slice_get-map (tag s.sort) (all_classes s) i ∙ ap (option_map (tag s.sort)) here in
    let at : 0 + i ≡ i = omega arith in
    ap (slice_get (map (tag s.sort) (all_classes s) ++ tagged sides)) at
    ∙ slice_get-front (map (tag s.sort) (all_classes s)) (tagged sides) i (tag s.sort class) first ∙ ap (λ (x : Side). Some (tag x.sort class)) same
to_tagged (s ∷ sides) (suc j) i side class there get =
    let many = length-map (all_classes s) (tag s.sort) in
    get_back (map (tag s.sort) (all_classes s)) (tagged sides) (labels_before sides j + i) (class_count s + labels_before sides j + i) (omega arith)
    ∙ to_tagged sides j i side class there get

pub to_side : (labels : List ℕ) (sides : List Side) (k j : ℕ) (side : Side) → slice_get sides j ≡ Some side →
    slice_get (labels_of labels sides k) j ≡ Some (label_at (drop (labels_before sides j) labels) side.classes k)
unfolding labels_of labels_before
to_side labels [] k j side there = absurd (cc)
to_side labels (s ∷ sides) k zero side there = ap (λ (x : Side). Some (label_at labels x.classes k)) (same_Some s side there)
to_side labels (s ∷ sides) k (suc j) side there =
    to_side (drop (class_count s) labels) sides k j side there
    ∙ ap (λ (ls : List ℕ). Some (label_at ls side.classes k)) (drop_more labels (class_count s) (labels_before sides j))

pub from_side : (labels : List ℕ) (sides : List Side) (k j : ℕ) (o : Option ℕ) → slice_get (labels_of labels sides k) j ≡ Some o →
    (side : Side) × (slice_get sides j ≡ Some side) × (label_at (drop (labels_before sides j) labels) side.classes k ≡ o)
unfolding labels_of labels_before
from_side labels [] k j o e = absurd (cc)
from_side labels (s ∷ sides) k zero o e = (s, refl, same_Some (label_at labels s.classes k) o e)
from_side labels (s ∷ sides) k (suc j) o e =
    let (side, there, is) = from_side (drop (class_count s) labels) sides k j o e in
    (side, there, sym (ap (λ (ls : List ℕ). label_at ls side.classes k) (drop_more labels (class_count s) (labels_before sides j))) ∙ is)

pub length-labels_of : (labels : List ℕ) (sides : List Side) (k : ℕ) → length (labels_of labels sides k) ≡ length sides
unfolding labels_of
length-labels_of labels [] k = refl
length-labels_of labels (side ∷ sides) k = ap suc (length-labels_of (drop (class_count side) labels) sides k)

-- a label that a place bears is one of the labels
pub label_in : (labels : List ℕ) (sides : List Side) (k j label : ℕ) → slice_get (labels_of labels sides k) j ≡ Some (Some label) →
    (n : ℕ) × (slice_get labels n ≡ Some label)
label_in labels sides k j label e =
    let (side, there, is) = from_side labels sides k j (Some label) e in
    let of = labelled (drop (labels_before sides j) labels) side.classes k label is in
    (labels_before sides j + of.index, sym (drop_get labels (labels_before sides j) of.index) ∙ of.label_is)

-- which word of a target a side has, and what its classes serve
one_sort : (P : ℕ → Sort → Type 0) → P 0 Both → (j : ℕ) (sort : Sort) → slice_get (Both ∷ []) j ≡ Some sort → P j sort
one_sort P both zero sort e = subst (P 0) (same_Some Both sort e) both
one_sort P both (suc j) sort e = absurd (cc)

two_sorts : (P : ℕ → Sort → Type 0) → P 0 Calls → P 1 Jumps → (j : ℕ) (sort : Sort) → slice_get (Calls ∷ Jumps ∷ []) j ≡ Some sort → P j sort
two_sorts P calls jumps zero sort e = subst (P 0) (same_Some Calls sort e) calls
two_sorts P calls jumps (suc zero) sort e = subst (P 1) (same_Some Jumps sort e) jumps
two_sorts P calls jumps (suc (suc j)) sort e = absurd (cc)

-- what holds of each sort of a version
pub each_sort : (P : GraphVersion → ℕ → Sort → Type 0) → P OneLabel 0 Both → P TwoLabels 0 Calls → P TwoLabels 1 Jumps → P CalleeSaves 0 Calls → P CalleeSaves 1 Jumps →
    (version : GraphVersion) (j : ℕ) (sort : Sort) → slice_get (sorts_of version) j ≡ Some sort → P version j sort
each_sort P both calls jumps saved_calls saved_jumps OneLabel j sort e = one_sort (P OneLabel) both j sort e
each_sort P both calls jumps saved_calls saved_jumps TwoLabels j sort e = two_sorts (P TwoLabels) calls jumps j sort e
each_sort P both calls jumps saved_calls saved_jumps CalleeSaves j sort e = two_sorts (P CalleeSaves) saved_calls saved_jumps j sort e

pub sort_word : (version : GraphVersion) (j : ℕ) (sort : Sort) → slice_get (sorts_of version) j ≡ Some sort → past (read_of version sort) ≡ 4 * word_of_side version j
sort_word = each_sort (λ version j sort. past (read_of version sort) ≡ 4 * word_of_side version j) refl refl refl refl refl

-- what the check of each computed transfer reads, in which its class is to serve it
both_serve : (kind : SiteKind) → serves Both kind (word_asked OneLabel kind) ≡ true
both_serve kinds.Call = refl
both_serve kinds.Jump = refl

calls_serve : (version : GraphVersion) (kind : SiteKind) → serves Calls kinds.Call (call_word version) ≡ true → is_of Calls kind ≡ true →
    serves Calls kind (word_asked version kind) ≡ true
calls_serve version kinds.Call serving of = serving
calls_serve version kinds.Jump serving of = absurd (cc)

jumps_serve : (version : GraphVersion) (kind : SiteKind) → serves Jumps kinds.Jump (jump_word version) ≡ true → is_of Jumps kind ≡ true →
    serves Jumps kind (word_asked version kind) ≡ true
jumps_serve version kinds.Call serving of = absurd (cc)
jumps_serve version kinds.Jump serving of = serving

sort_serves : (version : GraphVersion) (j : ℕ) (sort : Sort) (kind : SiteKind) → slice_get (sorts_of version) j ≡ Some sort → is_of sort kind ≡ true →
    serves sort kind (word_asked version kind) ≡ true
sort_serves version j sort kind =
    each_sort (λ version j sort. is_of sort kind ≡ true → serves sort kind (word_asked version kind) ≡ true)
    (λ of. both_serve kind) (calls_serve TwoLabels kind refl) (jumps_serve TwoLabels kind refl)
    (calls_serve CalleeSaves kind refl) (jumps_serve CalleeSaves kind refl) version j sort

pub sort_fits : (version : GraphVersion) (j : ℕ) (sort : Sort) → slice_get (sorts_of version) j ≡ Some sort → is_sort_of version sort ≡ true
sort_fits = each_sort (λ version j sort. is_sort_of version sort ≡ true) refl refl refl refl refl

-- the sort of a side is the version's
pub sort_get : (version : GraphVersion) (sides : List Side) → map (λ (s : Side). s.sort) sides ≡ sorts_of version → (j : ℕ) (side : Side) → slice_get sides j ≡ Some side →
    slice_get (sorts_of version) j ≡ Some side.sort
sort_get version sides sorts j side there =
    sym (ap (λ (all : List Sort). slice_get all j) sorts) ∙ slice_get-map (λ (s : Side). s.sort) sides j ∙ ap (option_map (λ (s : Side). s.sort)) there

sort_at : (version : GraphVersion) (sides : List Side) → map (λ (s : Side). s.sort) sides ≡ sorts_of version → (j : ℕ) (side : Side) → slice_get sides j ≡ Some side →
    past (read_of version side.sort) ≡ 4 * word_of_side version j
sort_at version sides sorts j side there = sort_word version j side.sort (sort_get version sides sorts j side there)

pub targets_bear : TargetsBear
targets_bear version gates labels sides are n a c e among =
    let line = line_get gates labels (tagged sides) n c e in
    let of = in_side sides n line.class line.class_is in
    let before = labels_before sides of.index in
    let (k, there, here) = among_from (slice_index gates) line.class.class a (ap (λ (x : ClassLine). is_among a x.targets) line.line_is ∙ among) in
    let member = in_classes of.side.classes of.side.sites of.number k line.class.class of.class_is there in
    let label_is : slice_get (drop before labels) of.number ≡ Some line.label =
    drop_get labels before of.number ∙ ap (slice_get labels) (sym of.at) ∙ line.label_is in
    let inside = is_in of.side.classes of.number k line.class.class member there in
    let found : label_at (drop before labels) of.side.classes k ≡ Some line.label =
    label_found (drop before labels) of.side.classes of.number k line.label line.class.class label_is member there
    (λ i other at also. are.apart of.index i of.number k of.side of.there (is_in of.side.classes i k other at also) inside) in
    record {
      place = k;
      index = of.index;
      side = of.side;
      there = of.there;
      class = of.number;
      inside = inside;
      gate_is = here;
      target = any_get (is_target_of k) sides of.index of.side of.there (any_get (has k) of.side.classes of.number line.class.class member there);
      word =
          sym (ap (λ (x : ClassLine). past (read_of version x.sort)) line.line_is) ∙ sym (ap (λ (s : Sort). past (read_of version s)) of.sort_is)
          ∙ sort_at version sides are.sorts of.index of.side of.there;
      label = to_side labels sides k of.index of.side of.there ∙ ap Some found ∙ ap (λ (x : ClassLine). Some (Some x.label)) line.line_is;
    }

pub gates_listed : GatesListed
gates_listed version gates labels sides are k j label c e asked =
    let (side, there, at) = from_side labels sides k j (Some label) e in
    let before = labels_before sides j in
    let of = labelled (drop before labels) side.classes k label at in
    let label_is : slice_get labels (before + of.index) ≡ Some label = sym (drop_get labels before of.index) ∙ of.label_is in
    let (n, t, given, class_is, line_is) = targets_of gates labels (tagged sides) label c asked in
    let same : before + of.index ≡ n = label_once labels are.rising (before + of.index) n label label_is given in
    let tag_is : slice_get (tagged sides) (before + of.index) ≡ Some (tag side.sort of.class) =
    to_tagged sides j of.index side of.class there (slice_get-front side.classes (empty_classes side.sites) of.index of.class of.class_is) in
    let one : tag side.sort of.class ≡ t = same_Some (tag side.sort of.class) t (sym tag_is ∙ ap (slice_get (tagged sides)) same ∙ class_is) in
    let line : class_line gates label (tag side.sort of.class) ≡ c = ap (class_line gates label) one ∙ line_is in (
      sym (ap (λ (x : ClassLine). past (read_of version x.sort)) line) ∙ sort_at version sides are.sorts j side there,
      sym (ap (λ (x : ClassLine). is_among (slice_index gates k) x.targets) line) ∙ among_to (slice_index gates) of.class k of.member,
    )

-- the label that a site asks for is that of its side
site_at : (labels : List ℕ) (sides : List Side) (k j : ℕ) (side : Side) → slice_get sides j ≡ Some side → has_site k side ≡ true →
    ((i : ℕ) (other : Side) → slice_get sides i ≡ Some other → has_site k other ≡ true → i ≡ j) →
    site_label labels sides k ≡ slice_index (drop (labels_before sides j) labels) (site_number side.sites (length side.classes) k)
unfolding site_label labels_before
site_at labels [] k j side there here alone = absurd (cc)
site_at labels (s ∷ sides) k zero side there here alone =
    let same : s ≡ side = same_Some s side there in
    ap (λ (b : Bool). if b then slice_index labels (site_number s.sites (length s.classes) k) else site_label (drop (class_count s) labels) sides k)
    (ap (has_site k) same ∙ here)
    ∙ ap (λ (x : Side). slice_index labels (site_number x.sites (length x.classes) k)) same
site_at labels (s ∷ sides) k (suc j) side there here alone =
    elim (cases_Bool (has_site k s)) [
      | inl first ↦ let wrong : 0 ≡ suc j = alone 0 s refl first in absurd (omega arith)
      | inr other ↦
          ap (λ (b : Bool). if b then slice_index labels (site_number s.sites (length s.classes) k) else site_label (drop (class_count s) labels) sides k) other
          ∙ site_at (drop (class_count s) labels) sides k j side there here (λ i o get also. let same : suc i ≡ suc j = alone (suc i) o get also in omega arith)
          ∙ ap (λ (ls : List ℕ). slice_index ls (site_number side.sites (length side.classes) k)) (drop_more labels (class_count s) (labels_before sides j))
    ]

-- it is one of the labels, or 0
pub site_small : (labels : List ℕ) (sides : List Side) (k most : ℕ) → 0 < most → ((n : ℕ) → slice_index labels n < most) → site_label labels sides k < most
unfolding site_label
site_small labels [] k most some small = some
site_small labels (s ∷ sides) k most some small =
    elim (cases_Bool (has_site k s)) [
      | inl here ↦
          subst (λ (n : ℕ). n < most)
          (sym (ap (λ (b : Bool). if b then slice_index labels (site_number s.sites (length s.classes) k) else site_label (drop (class_count s) labels) sides k) here))
          (small (site_number s.sites (length s.classes) k))
      | inr other ↦
          subst (λ (n : ℕ). n < most)
          (sym (ap (λ (b : Bool). if b then slice_index labels (site_number s.sites (length s.classes) k) else site_label (drop (class_count s) labels) sides k) other))
          (site_small (drop (class_count s) labels) sides k most some
          (λ n. subst (λ (x : ℕ). x < most) (sym (drop_index labels (class_count s) n)) (small (class_count s + n))))
    ]

pub sites_served : SitesServed
sites_served version gates labels sides are k kind at =
    let number = site_number at.side.sites (length at.side.classes) k in
    let before = labels_before sides at.index in
    let label = slice_index labels (before + number) in
    let class = slice_index_or (all_classes at.side) number [] in
    let lines = class_lines gates labels (tagged sides) in
    let (i, one, get, place) = site_there at.side.sites k at.site in
    let less = site_below at.side.sites (length at.side.classes) k (length at.side.classes) (omega arith)
    (λ i c one get. are.site_classes at.index i c at.side one at.there get) i one get place in
    let all = length-append at.side.classes (empty_classes at.side.sites) in
    let class_is : slice_get (all_classes at.side) number ≡ Some class = slice_get-get_or (all_classes at.side) number [] (omega arith) in
    let tag_is : slice_get (tagged sides) (before + number) ≡ Some (tag at.side.sort class) = to_tagged sides at.index number at.side class at.there class_is in
    let inside = slice_get_within (tagged sides) (before + number) (tag at.side.sort class) tag_is in
    let counted = are.counted in
    let label_is : slice_get labels (before + number) ≡ Some label = slice_get-get_or labels (before + number) 0 (omega arith) in
    let given = class_given gates labels (tagged sides) (before + number) label (tag at.side.sort class) label_is tag_is
    (λ i also. label_once labels are.rising i (before + number) label also label_is) in
    let same : site_label labels sides k ≡ label = site_at labels sides k at.index at.side at.there at.site at.alone ∙ drop_index labels before number in
    let which = word_asked version kind in
    ap (targets_for lines kind which) same
    ∙ served_by lines kind which label (class_line gates label (tag at.side.sort class)) given
    (sort_serves version at.index at.side.sort kind (sort_get version sides are.sorts at.index at.side at.there) at.sort)
