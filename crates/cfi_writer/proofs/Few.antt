-- The labels of a program are few where its code has room: each class has a target with a word before its unit, each site and each label of the
-- program's own has a unit.
use Rattle.std.proofs.Common.{◌≡◌, ◌==◌, ℕ, zero, suc, ◌+◌, ◌*◌, ◌<◌, ◌≤◌, ◌^◌, Bool, true, false, cond, List, [], ◌∷◌, ◌++◌, length, get_or, take, drop, map, drop-cons, Option, Some, None, refl, sym, ap, subst, ◌∙◌, arith, add-one, inl, inr}
use Rattle.std.specs.Prelude.{sum, filter, is_some, ◌/◌}
use Rattle.std.specs.List.{AllPairs, count_by, slice_get, sum_by}
use Rattle.std.proofs.Math.Seq.{take-length}
use Rattle.std.proofs.lemmas.Bool.{cases_Bool, cases_eq, eq-eqb}
use Rattle.std.proofs.lemmas.List.{append-nil, drop_all, length-append, length-map}
use Rattle.std.proofs.lemmas.List.Elements.{Contains-get_or}
use Rattle.std.proofs.lemmas.List.Folds.{list_any_at}
use Rattle.std.proofs.lemmas.List.Sums.{count_by_more_no, count_by_more_yes, length-filter, sum_by-cons}
use Rattle.std.proofs.lemmas.Option.{get_or_from_slice_get, slice_get_within}
use Rattle.rv_word.proofs.Cases.{cases_Option}
use Rattle.cfi_writer.proofs.Prelude.{CODE_SIZE, ItemKind, Item, Program, count, item_of, no_item, SiteKind, Sort, PolicyParts, Site, ClosedGraph, Side, is_target, is_target_of, where_below, IsClosed, has, Tagged, all_classes, empty_classes, tag, tagged, with_empty, is_gate, used_labels, GraphVersion, OneLabel, TwoLabels, CalleeSaves, Entered, entered_at, lead_size, in_leaf, is_short, is_ecall, kind_size, lean_size, size_by, size_of, site_kind, IsRaw, RawGraph, IsGraphOf, part_sizes, whole_sizes}
use Rattle.obj_input.specs.declared.item_kind.ItemKind.TheVariants as is
use Rattle.cfi_closed.proofs.Sides.{few_sides}
use Rattle.cfi_flow.proofs.Laws.{is_kind_of, is_site_of, members_there, place_of_site, side_places}
use Rattle.cfi_writer.proofs.Plain.{lead_some}
use Rattle.cfi_writer.proofs.SideLabels.{any_get}
use Rattle.cfi_writer.proofs.SitesThere.{side_at}

-- numbers that rise, from k on and below n, each a target
AreTargets : List Side → ℕ → ℕ → List ℕ → Type 0
AreTargets sides k n [] = Unit {0}
AreTargets sides k n (x ∷ xs) = (k ≤ x) × (x < n) × (is_target sides x ≡ true) × AreTargets sides (x + 1) n xs

-- of sites and labels of the program's own, each has a unit
abbrev is_site_item : Item → Bool
is_site_item i = is_some (site_kind i.kind)

abbrev is_gate_item : Item → Bool
is_gate_item i = is_gate i.kind

abbrev unit_bytes : Item → ℕ
unit_bytes i = 8 * cond (is_site_item i) 1 0 + 4 * cond (is_gate_item i) 1 0

one_kind : (calls : Option (List ℕ)) (kind : ItemKind) (ecall : Bool) → 8 * cond (is_some (site_kind kind)) 1 0 + 4 * cond (is_gate kind) 1 0 ≤ kind_size calls kind ecall true
one_kind calls is.Icall ecall = omega arith
one_kind calls is.Ijump ecall = omega arith
one_kind calls is.Gate ecall = omega arith
one_kind calls other ecall = omega arith

one_lean : (calls : Option (List ℕ)) (kind : ItemKind) (ecall short inside : Bool) →
    8 * cond (is_some (site_kind kind)) 1 0 + 4 * cond (is_gate kind) 1 0 ≤ lean_size calls kind ecall short inside true
one_lean calls is.Icall ecall short inside = omega arith
one_lean calls is.Ijump ecall short inside = omega arith
one_lean calls is.Gate ecall short inside = omega arith
one_lean calls other ecall short inside = omega arith

one_by : (version : GraphVersion) (calls : Option (List ℕ)) (inside : Bool) (item : Item) → unit_bytes item ≤ size_by version calls inside item true
one_by OneLabel calls inside item = one_kind calls item.kind (is_ecall item)
one_by TwoLabels calls inside item = one_kind calls item.kind (is_ecall item)
one_by CalleeSaves calls inside item = one_lean calls item.kind (is_ecall item) (is_short item) inside

one_unit : (of : Entered) (k : ℕ) (item : Item) → unit_bytes item ≤ size_of of k item true
one_unit of k item = one_by of.closed.version of.closed.calls (in_leaf of k) item

-- each of these numbers has a word before its unit
gates_few : (of : Entered) (k n : ℕ) (items : List Item) (xs : List ℕ) → n ≡ k + length items → AreTargets of.closed.sides k n xs →
    sum_by (λ x. 4) xs + sum_by unit_bytes items ≤ sum (part_sizes of [] k items)
unfolding AreTargets part_sizes
gates_few of k n [] [] all are = omega arith
gates_few of k n [] (x ∷ xs) all are = absurd (omega (arith, are.0, are.1))
gates_few of k n (item ∷ items) [] all are =
    let part = lead_size of k + size_of of k item true in
    omega (
      arith,
      gates_few of (k + 1) n items [] (omega arith) tt,
      one_unit of k item,
      sum_by-cons unit_bytes item items,
      sum_by-cons (λ (m : ℕ). m) part (part_sizes of [] (k + 1) items),
    )
gates_few of k n (item ∷ items) (x ∷ xs) all are =
    let part = lead_size of k + size_of of k item true in
    let units = sum_by-cons unit_bytes item items in
    let own = one_unit of k item in
    let parts = sum_by-cons (λ (m : ℕ). m) part (part_sizes of [] (k + 1) items) in
    elim (cases_eq x k) [
      | inl same ↦
          let target : is_target of.closed.sides k ≡ true = ap (is_target of.closed.sides) (sym same) ∙ are.2 in
          let gate = lead_some of k target in
          let rest = gates_few of (k + 1) n items xs (omega arith) (subst (λ (m : ℕ). AreTargets of.closed.sides (m + 1) n xs) same are.3) in
          omega (arith, gate, rest, own, units, parts, sum_by-cons (λ (y : ℕ). 4) x xs)
      | inr differ ↦
          let above : k + 1 ≤ x = omega (arith, are.0) in
          let rest = gates_few of (k + 1) n items (x ∷ xs) (omega arith) (above, are.1, are.2, are.3) in
          omega (arith, rest, own, units, parts)
    ]

no_gates : (of : Entered) → sum_by unit_bytes of.program.items ≤ sum (whole_sizes of)
unfolding AreTargets
no_gates of = let all = gates_few of 0 (count of.program) of.program.items [] (omega arith) tt in omega (arith, all)

abbrev first_of : List ℕ → ℕ
first_of class = get_or class 0 0

abbrev IsFirst : List Side → ℕ → List ℕ → Type 0
IsFirst sides n class = (first_of class < n) × (is_target sides (first_of class) ≡ true)

-- the first members of classes are such numbers
firsts_are : (sides : List Side) (k n : ℕ) (some : List (List ℕ)) →
    ((i : ℕ) → i < length some → k ≤ first_of (get_or some i [])) →
    ((i : ℕ) → i < length some → IsFirst sides n (get_or some i [])) →
    AllPairs (λ class next. first_of class < first_of next) some → AreTargets sides k n (map first_of some)
unfolding AreTargets
firsts_are sides k n [] from each rising = tt
firsts_are sides k n (class ∷ some) from each rising = (
  from 0 (omega arith),
  (each 0 (omega arith)).0,
  (each 0 (omega arith)).1,
  firsts_are sides (first_of class + 1) n some
      (λ i lt. let less : first_of class < first_of (get_or some i []) = rising 0 (suc i) [] (omega arith) (omega arith) in omega (arith, less))
      (λ i lt. each (suc i) (omega arith))
      (λ i j d less lt. rising (suc i) (suc j) d (omega arith) (omega arith)),
)

units_few : (items : List Item) → 8 * count_by is_site_item items + 4 * count_by is_gate_item items ≤ sum_by unit_bytes items
units_few [] = omega arith
units_few (item ∷ items) =
    omega (
      arith,
      units_few items,
      sum_by-cons unit_bytes item items,
      sum_by-cons (λ (i : Item). cond (is_site_item i) 1 0) item items,
      sum_by-cons (λ (i : Item). cond (is_gate_item i) 1 0) item items,
    )

kind_is : (sort : Sort) (o : Option SiteKind) → is_kind_of sort o ≡ true → is_some o ≡ true
kind_is sort None e = absurd (cc)
kind_is sort (Some kind) e = refl

site_more : (program : Program) (n : ℕ) → n < count program → count_by is_site_item (take n program.items) ≤ count_by is_site_item (take (suc n) program.items)
site_more program n below =
    elim (cases_Bool (is_site_item (get_or program.items n no_item))) [
      | inl here ↦
          let more = count_by_more_yes is_site_item program.items n no_item below here in
          let less : count_by is_site_item (take n program.items) ≤ count_by is_site_item (take (n + 1) program.items) = omega (arith, more) in
          rw add-one at less
      | inr other ↦
          let more = count_by_more_no is_site_item program.items n no_item below other in
          let less : count_by is_site_item (take n program.items) ≤ count_by is_site_item (take (n + 1) program.items) = omega (arith, more) in
          rw add-one at less
    ]

site_count : (sort : Sort) (program : Program) (n : ℕ) → n ≤ count program → length (where_below (is_site_of sort program) n) ≤ count_by is_site_item (take n program.items)
unfolding where_below
site_count sort program zero le = omega arith
site_count sort program (suc n) le =
    let before = site_count sort program n (omega arith) in
    elim (cases_Bool (is_site_of sort program n)) [
      | inl yes_site ↦
          let more = count_by_more_yes is_site_item program.items n no_item (omega arith) (kind_is sort (site_kind (item_of program n).kind) yes_site) in
          let longer : count_by is_site_item (take (suc n) program.items) ≡ count_by is_site_item (take n program.items) + 1 =
          ap (λ (m : ℕ). count_by is_site_item (take m program.items)) (sym (add-one n)) ∙ more in
          rw yes_site (omega (arith, length-append (where_below (is_site_of sort program) n) (n ∷ []), before, longer))
      | inr no_site ↦ rw (no_site, append-nil) (omega (arith, before, site_more program n (omega arith)))
    ]

empty_few : (sites : List Site) → length (empty_classes sites) ≤ length sites
unfolding empty_classes
empty_few [] = omega arith
empty_few (site ∷ sites) = elim (cases_Option site.class) [
  | inl none ↦ rw none (omega (arith, empty_few sites))
  | inr (c, some) ↦ rw some (omega (arith, empty_few sites))
]

fours : (xs : List ℕ) → sum_by (λ (x : ℕ). 4) xs ≡ 4 * length xs
fours [] = refl
fours (x ∷ xs) = omega (arith, fours xs, sum_by-cons (λ (y : ℕ). 4) x xs)

-- the labels of a side have room: each class has a target, each other label a site
record HasRoom (units parts sites : ℕ) (side : Side) : Type 0 where
  gates : sum_by (λ (x : ℕ). 4) (map first_of side.classes) + units ≤ parts
  empties : length (empty_classes side.sites) ≤ sites

module _ (entry : ℕ) (program : Program) (policy : PolicyParts) (raw : RawGraph) (closed : ClosedGraph) (is : IsRaw program policy raw) (closes : IsClosed closed.version raw closed) where
  has_room : (j : ℕ) (side : Side) → slice_get closed.sides j ≡ Some side →
      HasRoom (sum_by unit_bytes program.items) (sum (whole_sizes (entered_at program closed entry))) (count_by is_site_item program.items) side
  has_room j side there =
      let of = side_at program policy raw is closed.version closed.sides closes.sorts closes.sides j side there in
      let classes = side.classes in
      let sides = closed.sides in
      let first : (i : ℕ) → i < length classes → IsFirst sides (count program) (get_or classes i []) =
      λ i lt.
      let class = get_or classes i [] in
      let some : 0 < length class = of.classes.some i [] lt in (
        members_there program policy raw side is of (first_of class) (i, Contains-get_or class 0 0 some),
        any_get (is_target_of (first_of class)) sides j side there
            (list_any_at (has (first_of class)) classes i [] lt (list_any_at (λ t. t == first_of class) class 0 0 some (eq-eqb (first_of class) (first_of class) refl))),
      ) in
      let targets = firsts_are sides 0 (count program) classes (λ i lt. omega arith) first of.classes.in_order in
      let places = ap length (side_places program policy raw side is of) in
      let sites = site_count side.sort program (count program) (omega arith) in
      let every = ap (count_by is_site_item) (take-length program.items) in
      record {
        gates = gates_few (entered_at program closed entry) 0 (count program) program.items (map first_of classes) (omega arith) targets;
        empties = omega (arith, places, sites, every, empty_few side.sites, length-map side.sites place_of_site);
      }

-- how many labels a side has
side_many : (side : Side) (rest : List Tagged) → length (map (tag side.sort) (all_classes side) ++ rest) ≡ length side.classes + length (empty_classes side.sites) + length rest
side_many side rest =
    omega (
      arith,
      length-append (map (tag side.sort) (all_classes side)) rest,
      length-map (all_classes side) (tag side.sort),
      length-append side.classes (empty_classes side.sites),
    )

two_few : (sides : List Side) (units parts sites used : ℕ) → length sides ≤ 2 →
    ((j : ℕ) (side : Side) → slice_get sides j ≡ Some side → HasRoom units parts sites side) →
    8 * sites + 4 * used ≤ units → units ≤ parts → parts < CODE_SIZE → length (tagged sides) + used < 2 ^ 19
unfolding tagged
two_few [] units parts sites used few each some less room = omega arith
two_few (s ∷ []) units parts sites used few each some less room =
    let one = each 0 s refl in
    omega (arith, one.gates, one.empties, fours (map first_of s.classes), length-map s.classes first_of, side_many s [])
two_few (s ∷ t ∷ []) units parts sites used few each some less room =
    let one = each 0 s refl in
    let two = each 1 t refl in
    omega (
      arith,
      one.gates,
      two.gates,
      one.empties,
      two.empties,
      fours (map first_of s.classes),
      fours (map first_of t.classes),
      length-map s.classes first_of,
      length-map t.classes first_of,
      side_many s (map (tag t.sort) (all_classes t) ++ []),
      side_many t [],
    )
two_few (s ∷ t ∷ u ∷ sides) units parts sites used few each some less room = absurd (omega arith)

pub labels_few : (program : Program) (closed : ClosedGraph) (entry : ℕ) → IsGraphOf program closed →
    sum (whole_sizes (entered_at program closed entry)) < CODE_SIZE → length (tagged closed.sides) + length (used_labels program) < 2 ^ 19
labels_few program closed entry (policy, raw, is, closes) room =
    let of = entered_at program closed entry in
    let fit : 8 * count_by is_site_item program.items + 4 * length (used_labels program) ≤ sum_by unit_bytes program.items =
    omega (arith, units_few program.items, length-filter is_gate_item program.items, length-map (filter is_gate_item program.items) (λ (i : Item). i.word / 2 ^ 12)) in
    two_few closed.sides (sum_by unit_bytes program.items) (sum (whole_sizes of)) (count_by is_site_item program.items) (length (used_labels program))
    (few_sides closed.version closed.sides closes.sorts) (has_room entry program policy raw closed is closes) fit (no_gates of) room

-- while a loop counts the sites without targets
drop_step : (sites : List Site) (k : ℕ) (site : Site) → slice_get sites k ≡ Some site → drop k sites ≡ site ∷ drop (k + 1) sites
drop_step sites k site is =
    let lt = slice_get_within sites k site is in
    rw (add-one, drop-cons sites k site) (ap (λ (s : Site). s ∷ drop (suc k) sites) (get_or_from_slice_get sites k site site is))

with_one : (class : Option ℕ) (rest : List (List ℕ)) → is_some class ≡ false → length (with_empty class rest) ≡ 1 + length rest
with_one None rest none = omega arith
with_one (Some c) rest none = absurd (cc)

without_one : (class : Option ℕ) (rest : List (List ℕ)) → is_some class ≡ true → length (with_empty class rest) ≡ length rest
without_one None rest some = absurd (cc)
without_one (Some c) rest some = refl

pub empty_member : (sites : List Site) (k : ℕ) (site : Site) → slice_get sites k ≡ Some site → is_some site.class ≡ false →
    length (empty_classes (drop k sites)) ≡ 1 + length (empty_classes (drop (k + 1) sites))
unfolding empty_classes
empty_member sites k site is none = rw (drop_step sites k site is) (with_one site.class (empty_classes (drop (k + 1) sites)) none)

pub empty_passed : (sites : List Site) (k : ℕ) (site : Site) → slice_get sites k ≡ Some site → is_some site.class ≡ true →
    length (empty_classes (drop k sites)) ≡ length (empty_classes (drop (k + 1) sites))
unfolding empty_classes
empty_passed sites k site is some = rw (drop_step sites k site is) (without_one site.class (empty_classes (drop (k + 1) sites)) some)

pub empty_end : (sites : List Site) (k : ℕ) → length sites ≤ k → length (empty_classes (drop k sites)) ≡ 0
unfolding empty_classes
empty_end sites k past = rw (drop_all k sites past) refl
