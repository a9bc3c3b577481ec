-- The pass over words by kinds of starts: what it finds of each word, and what follows for each.
use Rattle.std.proofs.Common.{◌≡◌, ◌≤◌, ◌<◌, ◌⊎◌, map, inl, inr, ℕ, ◌+◌, ◌-◌, ◌*◌, ◌/◌, ◌&&◌, ◌||◌, not, Bool, true, false, List, [], ◌∷◌, zero, suc, Option, Some, None, refl, sym, ap, subst, ◌∙◌, arith}
use Rattle.std.specs.Prelude.{is_some, nat_eq, nat_le, slice_get}
use Rattle.std.proofs.lemmas.Bool.{and_from, and_left, and_parts, and_right, cases_Bool, cases_lt, cases_order, eqb-true, false≢true, eq-eqb, le-leb, leb-true, lt-ltb, ltb-true, ne_eqb, or_cases, or_from, or_left, or_parts, or_right}
use Rattle.std.proofs.lemmas.Option.{same_Some}
use Rattle.std.specs.List.{list_any}
use Rattle.rv_word.proofs.Cases.{cases_Option}
use Rattle.cfi_verify.proofs.Prelude.{Profile, START, GraphLine, Calls, Leaf, Class, Site, Edge, Call, GraphParts, calls_in, has_leaves, is_rising, key_below, key_of, in_leaf, leaf_of, Entry, is_started, is_unit, is_calm, Listed, holds_of, leaves_in, IsBefore, call_at, call_in, count_of, edge_in, end_of, enters_at, entry_at, fresh_at, gate_at, gate_in, goes_on, goes_wrong_at, is_enter, is_right_behind_at, is_whole, lacks_end_at, may_call_at, may_go_at, may_stand, next_at, next_in, or_inside, starts_at, is_barred, AreShut, AreWhole, IsEntered, IsShut, IsShutAt, KindHoldsAt, WordHolds, ends_in_stop}
use Rattle.rv_image.proofs.Profiles.{LaidOut}
use Rattle.cfi_pending.specs.Kinds as kinds
use Rattle.cfi_reader.specs.declared.entry.Entry.TheVariants as E
use Rattle.cfi_starts.proofs.Behind.{Ends, ends}
use Rattle.cfi_starts.proofs.LeafLines.{leaf_there}
use Rattle.cfi_starts.proofs.Started.{started}
use Rattle.cfi_verify.proofs.Told.{entry_is, started_place}

-- where units cover the code, they end where it does
pub all_done : (p : Profile) (t : Listed) → ends_in_stop p t ≡ true → end_of p t ≡ count_of p t
all_done p t stops = let all : t.done ≡ count_of p t = eqb-true _ _ (and_parts (nat_eq t.done (count_of p t)) _ stops).0 in omega (arith, all)

none_starts : (e : Entry) → is_unit e ≡ false → e ≡ E.Inside
none_starts E.Inside none = refl
none_starts _ none = absurd (false≢true (sym none))

-- the leaf in which an address lies has its line
leaf_found : (lines : List GraphLine) (a : ℕ) (l : kinds.Leaf) → leaf_of (leaves_in lines) a ≡ Some l → (i : ℕ) × (slice_get lines i ≡ Some (Leaf l.from l.to)) × (in_leaf a l ≡ true)
unfolding leaves_in
leaf_found [] a l e = absurd (cc)
leaf_found (Leaf from to ∷ lines) a l e =
    elim (cases_Bool (in_leaf a (record { from = from; to = to }))) [
      | inl inside ↦
          let one : Some (record { from = from; to = to }) ≡ Some l = rw inside at e in
          (zero, cc, subst (λ (x : kinds.Leaf). in_leaf a x ≡ true) (cc) inside)
      | inr out ↦ let later = leaf_found lines a l (rw out at e) in (suc later.0, later.1, later.2)
    ]
leaf_found (Calls numbers ∷ lines) a l e = let later = leaf_found lines a l e in (suc later.0, later.1, later.2)
leaf_found (Class sort label targets ∷ lines) a l e = let later = leaf_found lines a l e in (suc later.0, later.1, later.2)
leaf_found (Site address kind label ∷ lines) a l e = let later = leaf_found lines a l e in (suc later.0, later.1, later.2)
leaf_found (Edge from to ∷ lines) a l e = let later = leaf_found lines a l e in (suc later.0, later.1, later.2)
leaf_found (Call from to ∷ lines) a l e = let later = leaf_found lines a l e in (suc later.0, later.1, later.2)

-- what no member of a list has, none at an index has
each_fails : {A : Type 0} (f : A → Bool) (xs : List A) → list_any f xs ≡ false → (i : ℕ) (x : A) → slice_get xs i ≡ Some x → f x ≡ false
each_fails f [] none i x e = absurd (cc)
each_fails f (y ∷ xs) none zero x e = ap f (sym (same_Some y x e)) ∙ (or_parts (f y) (list_any f xs) none).0
each_fails f (y ∷ xs) none (suc i) x e = each_fails f xs (or_parts (f y) (list_any f xs) none).1 i x e

module _ (p : Profile) (laid : LaidOut p) (t : Listed) where
  -- the entry of a word
  entry_of_word : (k : ℕ) → entry_at p t.entries (p.units_from + 4 * k) ≡ or_inside (slice_get t.entries k)
  entry_of_word k =
      let index : (p.units_from + 4 * k - p.units_from) / 4 ≡ k = omega arith in
      entry_is p laid t.entries (p.units_from + 4 * k) (omega arith) (omega (arith, laid.round)) ∙ ap (λ i. or_inside (slice_get t.entries i)) index

  not_started : (k : ℕ) → is_started (slice_get t.entries k) ≡ false → entry_at p t.entries (p.units_from + 4 * k) ≡ E.Inside
  not_started k none = entry_of_word k ∙ none_starts (or_inside (slice_get t.entries k)) (sym (started (slice_get t.entries k)) ∙ none)

  quiet_inside : (k : ℕ) → is_started (slice_get t.entries k) ≡ false → goes_on (entry_at p t.entries (p.units_from + 4 * k)) ≡ false
  quiet_inside k none = ap goes_on (not_started k none)

  -- what goes on to a word is the last unit before it
  is_last : (j k b : ℕ) → k < end_of p t → next_in t.entries (end_of p t) k ≡ j → is_started (slice_get t.entries k) ≡ true → IsBefore t.entries j b → k ≡ b
  is_last j k b below next here before =
      let to = ends t.entries (end_of p t) k below in
      let later = to.later in
      elim (cases_order k b) [
        | inl same ↦ same
        | inr (inl less) ↦ absurd (false≢true (sym (to.inside b less (omega (arith, before.below, next))) ∙ before.starts))
        | inr (inr more) ↦ absurd (false≢true (sym (before.none k more (omega (arith, later, next))) ∙ here))
      ]

  pub entered_behind : (j b : ℕ) → IsBefore t.entries j b →
      (goes_on (entry_at p t.entries (p.units_from + 4 * b)) ≡ false) ⊎ ((is_some (gate_in (entry_at p t.entries (p.units_from + 4 * b))) ≡ true) × (b + 1 ≡ j)) → IsEntered p t j
  entered_behind j b before good k below next =
      elim (cases_Bool (is_started (slice_get t.entries k))) [
        | inl here ↦
            let same : b ≡ k = sym (is_last j k b below next here before) in
            subst (λ (i : ℕ). (goes_on (entry_at p t.entries (p.units_from + 4 * i)) ≡ false) ⊎ ((is_some (gate_at p t (p.units_from + 4 * i)) ≡ true) × (i + 1 ≡ j))) same good
        | inr none ↦ inl (quiet_inside k none)
      ]

  pub shut_behind : (j b : ℕ) → IsBefore t.entries j b → goes_on (entry_at p t.entries (p.units_from + 4 * b)) ≡ false → IsShut p t j
  shut_behind j b before good k below next =
      elim (cases_Bool (is_started (slice_get t.entries k))) [
        | inl here ↦ subst (λ (i : ℕ). goes_on (entry_at p t.entries (p.units_from + 4 * i)) ≡ false) (sym (is_last j k b below next here before)) good
        | inr none ↦ quiet_inside k none
      ]

  pub shut_alone : (j : ℕ) → ((k : ℕ) → k < j → is_started (slice_get t.entries k) ≡ false) → IsShut p t j
  shut_alone j none k below next =
      let to = ends t.entries (end_of p t) k below in
      let later = to.later in
      quiet_inside k (none k (omega (arith, later, next)))

  pub entered_alone : (j : ℕ) → ((k : ℕ) → k < j → is_started (slice_get t.entries k) ≡ false) → IsEntered p t j
  entered_alone j none k below next = inl (shut_alone j none k below next)

  -- words whose entries, where there are such, are calm
  pub calm_word : (k : ℕ) → ((entry : Entry) → slice_get t.entries k ≡ Some entry → is_calm entry ≡ true) → is_calm (entry_at p t.entries (p.units_from + 4 * k)) ≡ true
  calm_word k calm =
      ap is_calm (entry_of_word k)
      ∙ elim (cases_Option (slice_get t.entries k)) [
        | inl none ↦ ap (λ o. is_calm (or_inside o)) none
        | inr (entry, some) ↦ ap (λ o. is_calm (or_inside o)) some ∙ calm entry some
      ]

  -- a word of which nothing is asked
  calm_stands : (leaf : Option kinds.Leaf) (e : Entry) → is_calm e ≡ true → not (may_stand leaf e) ≡ false
  calm_stands None E.Inside calm = refl
  calm_stands None E.Stop calm = refl
  calm_stands None E.Other calm = refl
  calm_stands None E.Break calm = refl
  calm_stands None E.LeanStores calm = refl
  calm_stands (Some l) E.Inside calm = refl
  calm_stands (Some l) E.Stop calm = refl
  calm_stands (Some l) E.Other calm = refl
  calm_stands (Some l) E.Break calm = refl
  calm_stands (Some l) E.LeanStores calm = refl
  calm_stands _ _ calm = absurd (false≢true calm)

  record IsCalm (graph : GraphParts) (e : Entry) (a : ℕ) : Type 0 where
    barred : is_barred graph.version (is_some (calls_in graph.lines)) e ≡ false
    edge : edge_in e a ≡ None
    call : call_in e a ≡ None
    enter : is_enter e ≡ false
    gate : is_some (gate_in e) ≡ false

  calm_is : (graph : GraphParts) (e : Entry) (a : ℕ) → has_leaves graph.version ≡ true → is_calm e ≡ true → IsCalm graph e a
  calm_is graph E.Inside a leaves calm = record { barred = refl; edge = refl; call = refl; enter = refl; gate = refl }
  calm_is graph E.Stop a leaves calm = record { barred = refl; edge = refl; call = refl; enter = refl; gate = refl }
  calm_is graph E.Other a leaves calm = record { barred = refl; edge = refl; call = refl; enter = refl; gate = refl }
  calm_is graph E.Break a leaves calm = record { barred = refl; edge = refl; call = refl; enter = refl; gate = refl }
  calm_is graph E.LeanStores a leaves calm = record { barred = rw leaves refl; edge = refl; call = refl; enter = refl; gate = refl }
  calm_is graph _ a leaves calm = absurd (false≢true calm)

  pub calm_holds : (graph : GraphParts) (k : ℕ) → has_leaves graph.version ≡ true → is_calm (entry_at p t.entries (p.units_from + 4 * k)) ≡ true → WordHolds p t graph k
  calm_holds graph k leaves calm =
      let a : ℕ = p.units_from + 4 * k in
      let is = calm_is graph (entry_at p t.entries a) a leaves calm in
      let call : call_at p t a ≡ None = rw (ne_eqb a START (λ e. omega (arith, e, laid.low))) is.call in
      record {
        unit = is.barred;
        stands = calm_stands (leaf_of (leaves_in graph.lines) a) (entry_at p t.entries a) calm;
        target =
            or_from _ _ (ap (λ o. holds_of o (λ x. not (may_go_at p t (leaves_in graph.lines) a x))) is.edge)
            (ap (λ o. holds_of o (λ x. not (may_call_at p p.callee_saves t (leaves_in graph.lines) a x))) call);
        enter = λ enters. absurd (false≢true (sym is.enter ∙ enters));
        gate = λ gate enters. absurd (false≢true (sym is.gate ∙ gate));
      }

  -- an address at which a unit starts is a word's
  record IsWord (a : ℕ) : Type 0 where
    index : ℕ
    at : a ≡ p.units_from + 4 * index
    starts : is_started (slice_get t.entries index) ≡ true

  word_of : (a : ℕ) → starts_at p t a ≡ true → IsWord a
  word_of a e =
      let place = started_place p laid t.entries a e in
      let index : ℕ = (a - p.units_from) / 4 in
      let at : a ≡ p.units_from + 4 * ((a - p.units_from) / 4) = omega (arith, place.0, place.1, laid.round) in
      record {
        index = index;
        at = at;
        starts = started (slice_get t.entries index) ∙ sym (ap is_unit (entry_of_word index)) ∙ ap (λ x. is_unit (entry_at p t.entries x)) (sym at) ∙ e;
      }

  -- a leaf's line of which a test fails on all lines
  line_whole : (lines : List GraphLine) → AreWhole p t lines → (i from to : ℕ) → slice_get lines i ≡ Some (Leaf from to) → is_whole p t from to ≡ true
  line_whole lines whole i from to e =
      let none = each_fails (lacks_end_at p t from) lines (whole from) i (Leaf from to) e in
      elim (cases_Bool (is_whole p t from to)) [
        | inl yes_whole ↦ yes_whole
        | inr no_whole ↦ absurd (false≢true (sym none ∙ and_from (nat_eq from from) (not (is_whole p t from to)) (eq-eqb from from refl) (ap not no_whole)))
      ]

  module _ (graph : GraphParts) (rising : is_rising key_below (map key_of graph.lines) ≡ true) (stops : ends_in_stop p t ≡ true) (whole : AreWhole p t graph.lines) (shut : AreShut p t graph.lines)
      (last : IsShut p t (count_of p t)) (holds : (k : ℕ) → k < count_of p t → WordHolds p t graph k) (k : ℕ) (below : k < count_of p t) where
    done : end_of p t ≡ count_of p t
    done = all_done p t stops

    inside_end : k < end_of p t
    inside_end = omega (arith, done, below)

    abbrev next : ℕ
    next = next_in t.entries (end_of p t) k

    to : Ends t.entries (end_of p t) k next
    to = ends t.entries (end_of p t) k inside_end

    next_here : next_at p t (p.units_from + 4 * k) ≡ p.units_from + 4 * next
    next_here = ap (λ i. p.units_from + 4 * next_in t.entries (end_of p t) i) (omega arith)

    -- it goes on to no word that is shut
    never : (j : ℕ) → goes_on (entry_at p t.entries (p.units_from + 4 * k)) ≡ true → IsShut p t j → j ≡ next → ⊥
    never j on closed here = false≢true (sym (closed k inside_end (sym here)) ∙ on)

    -- a start further on, but not past where the unit ends, is where it ends
    meets : (j : ℕ) → k < j → j ≤ next → is_started (slice_get t.entries j) ≡ true → j ≡ next
    meets j later within here =
        elim (cases_lt j next) [
          | inl before ↦ absurd (false≢true (sym (to.inside j later before) ∙ here))
          | inr there ↦ omega (arith, there, within)
        ]

    -- so it goes on to no start that is shut
    never_at : (a : ℕ) → goes_on (entry_at p t.entries (p.units_from + 4 * k)) ≡ true → IsShutAt p t a → starts_at p t a ≡ true → p.units_from + 4 * k < a → a ≤ p.units_from + 4 * next → ⊥
    never_at a on closed begins later within =
        let word = word_of a begins in
        let at = word.at in
        never word.index on (closed word.index at) (meets word.index (omega (arith, at, later)) (omega (arith, at, within)) word.starts)

    in_leaf_still : (l : kinds.Leaf) → leaf_of (leaves_in graph.lines) (p.units_from + 4 * k) ≡ Some l → goes_on (entry_at p t.entries (p.units_from + 4 * k)) ≡ true → p.units_from + 4 * next < l.to
    in_leaf_still l e on =
        let found = leaf_found graph.lines (p.units_from + 4 * k) l e in
        let ends_whole = line_whole graph.lines whole found.0 l.from l.to found.1 in
        let high = ltb-true (p.units_from + 4 * k) l.to (and_parts (nat_le l.from (p.units_from + 4 * k)) _ found.2).1 in
        let closed : IsShutAt p t l.to = (shut found.0 (Leaf l.from l.to) found.1).1 in
        elim (cases_lt (p.units_from + 4 * next) l.to) [
          | inl still ↦ still
          | inr past ↦ elim (or_cases _ _ (and_parts (starts_at p t l.from) _ ends_whole).1) [
            | inl begins ↦ absurd (never_at l.to on closed begins high (omega (arith, past)))
            | inr at_end ↦
                let same = eqb-true l.to _ at_end in
                let within = to.within in
                let at : l.to ≡ p.units_from + 4 * count_of p t = omega (arith, same, below, laid.low, laid.round) in
                absurd (never (count_of p t) on (closed (count_of p t) at) (omega (arith, at, past, within, done)))
          ]
        ]

    outside_still : leaf_of (leaves_in graph.lines) (p.units_from + 4 * k) ≡ None → goes_on (entry_at p t.entries (p.units_from + 4 * k)) ≡ true →
        (l : kinds.Leaf) → leaf_of (leaves_in graph.lines) (p.units_from + 4 * next) ≡ Some l → ⊥
    outside_still none on l e =
        let found = leaf_found graph.lines (p.units_from + 4 * next) l e in
        let ends_whole = line_whole graph.lines whole found.0 l.from l.to found.1 in
        let low = leb-true l.from (p.units_from + 4 * next) (and_parts (nat_le l.from (p.units_from + 4 * next)) _ found.2).0 in
        let high = ltb-true (p.units_from + 4 * next) l.to (and_parts (nat_le l.from (p.units_from + 4 * next)) _ found.2).1 in
        let closed : IsShutAt p t l.from = (shut found.0 (Leaf l.from l.to) found.1).0 in
        let later = to.later in
        elim (cases_lt (p.units_from + 4 * k) l.from) [
          | inl before ↦ never_at l.from on closed (and_parts (starts_at p t l.from) _ ends_whole).0 before low
          | inr from ↦
              let inside : in_leaf (p.units_from + 4 * k) l ≡ true = and_from _ _ (le-leb l.from (p.units_from + 4 * k) (omega (arith, from))) (lt-ltb (p.units_from + 4 * k) l.to (omega (arith, high, later))) in
              let is : Some (record { from = l.from; to = l.to }) ≡ None = sym (leaf_there graph.lines (p.units_from + 4 * k) l.from l.to rising found.0 found.1 inside) ∙ none in
              false≢true (sym (ap is_some is))
        ]

    enters_right : goes_on (entry_at p t.entries (p.units_from + 4 * k)) ≡ true → enters_at p t (p.units_from + 4 * next) ≡ true →
        (is_some (gate_at p t (p.units_from + 4 * k)) && enters_at p t (p.units_from + 4 * k + 4)) ≡ true
    enters_right on enters =
        elim (cases_lt next (count_of p t)) [
          | inl less ↦ elim ((holds next less).enter enters k inside_end refl) [
            | inl off ↦ absurd (false≢true (sym off ∙ on))
            | inr (gate, behind) ↦
                let there : p.units_from + 4 * k + 4 ≡ p.units_from + 4 * next = omega (arith, behind) in
                and_from _ _ gate (ap (enters_at p t) there ∙ enters)
          ]
          | inr end ↦
              let within = to.within in
              absurd (never (count_of p t) on last (omega (arith, end, within, done)))
        ]

    gate_never : goes_on (entry_at p t.entries (p.units_from + 4 * k)) ≡ true → (is_some (gate_at p t (p.units_from + 4 * next)) && enters_at p t (p.units_from + 4 * next + 4)) ≡ true → ⊥
    gate_never on fresh =
        let parts = and_parts (is_some (gate_at p t (p.units_from + 4 * next))) _ fresh in
        elim (cases_lt next (count_of p t)) [
          | inl less ↦ never next on ((holds next less).gate parts.0 parts.1) refl
          | inr end ↦
              let within = to.within in
              never (count_of p t) on last (omega (arith, end, within, done))
        ]

    outside_right : leaf_of (leaves_in graph.lines) (p.units_from + 4 * k) ≡ None → goes_on (entry_at p t.entries (p.units_from + 4 * k)) ≡ true →
        ((is_some (gate_at p t (p.units_from + 4 * k)) && enters_at p t (p.units_from + 4 * k + 4)) || not (fresh_at p t (leaves_in graph.lines) (p.units_from + 4 * next))) ≡ true
    outside_right none on =
        elim (cases_Bool (fresh_at p t (leaves_in graph.lines) (p.units_from + 4 * next))) [
          | inr saved ↦ or_right _ _ (ap not saved)
          | inl fresh ↦ elim (or_cases _ _ fresh) [
            | inl leaf ↦ elim (cases_Option (leaf_of (leaves_in graph.lines) (p.units_from + 4 * next))) [
              | inl nothing ↦ absurd (false≢true (sym (ap is_some nothing) ∙ leaf))
              | inr (l, e) ↦ absurd (outside_still none on l e)
            ]
            | inr other ↦ elim (or_cases _ _ other) [
              | inl enters ↦ or_left _ _ (enters_right on enters)
              | inr gate ↦ absurd (gate_never on gate)
            ]
          ]
        ]

    is_right : (leaf : Option kinds.Leaf) → leaf_of (leaves_in graph.lines) (p.units_from + 4 * k) ≡ leaf → goes_on (entry_at p t.entries (p.units_from + 4 * k)) ≡ true →
        is_right_behind_at p t (leaves_in graph.lines) leaf (p.units_from + 4 * k) ≡ true
    is_right (Some l) e on =
        let found = leaf_found graph.lines (p.units_from + 4 * k) l e in
        let low = leb-true l.from (p.units_from + 4 * k) (and_parts (nat_le l.from (p.units_from + 4 * k)) _ found.2).0 in
        let later = to.later in
        ap (λ a. in_leaf a l) next_here
        ∙ and_from _ _ (le-leb l.from (p.units_from + 4 * next) (omega (arith, low, later))) (lt-ltb (p.units_from + 4 * next) l.to (in_leaf_still l e on))
    is_right None e on =
        ap (λ a. (is_some (gate_at p t (p.units_from + 4 * k)) && enters_at p t (p.units_from + 4 * k + 4)) || not (fresh_at p t (leaves_in graph.lines) a)) next_here ∙ outside_right e on

    goes_right : goes_wrong_at p t (leaves_in graph.lines) (p.units_from + 4 * k) ≡ false
    goes_right =
        elim (cases_Bool (goes_on (entry_at p t.entries (p.units_from + 4 * k)))) [
          | inl on ↦ and_right _ _ (ap not (is_right (leaf_of (leaves_in graph.lines) (p.units_from + 4 * k)) refl on))
          | inr off ↦ and_left _ _ off
        ]

    pub kind_holds : KindHoldsAt p t graph (p.units_from + 4 * k)
    kind_holds =
        let here = holds k below in
        record { unit = here.unit; stands = here.stands; leaf = or_from _ _ (whole (p.units_from + 4 * k)) goes_right; target = here.target }
