-- One pass over the words and the lines: what it has passed, line by line, and what it finds out at its end.
use Rattle.std.proofs.Common.{◌≡◌, ◌≢◌, ◌<◌, ◌≤◌, inl, inr, ℕ, ◌+◌, ◌-◌, ◌*◌, ◌/◌, ◌%◌, ◌^◌, ◌==◌, ◌&&◌, ◌||◌, not, Bool, true, false, List, [], ◌∷◌, length, map, Option, Some, None, refl, sym, ap, subst, ◌∙◌, arith}
use Rattle.std.specs.Prelude.{slice_get, nat_lt, nat_le, is_some}
use Rattle.std.specs.List.{list_all, list_any}
use Rattle.std.proofs.lemmas.Bool.{and_left, and_parts, cases_Bool, cases_eq, cases_lt, cases_order, eqb-true, false≢true, le-ltb, leb-true, lt-leb, lt-ltb, ltb-true, ne_eqb, or_from}
use Rattle.std.proofs.lemmas.Option.{same_Some, slice_get_within}
use Rattle.std.proofs.Math.Bool.{and-true, and-false}
use Rattle.cfi_verify.proofs.Prelude.{GraphVersion, CODE_START, Profile, START, GraphLine, Calls, Leaf, Class, Site, Edge, Call, Address, GraphParts, IsGraph, calls_in, fits_version, has_leaves, is_rising, key_below, key_of, Entry, is_quiet, Listed, prologue_count, leaf_of, call_at, call_in, count_of, edge_at, edge_in, enters_at, entry_at, fails_target_at, fresh_at, gate_at, gate_in, goes_on, goes_wrong_at, is_enter, is_right_behind_at, lacks_end_at, may_call_at, may_go_at, may_stand, next_at, or_inside, signs_at, site_in, stands_outside, stands_wrong_at, starts_at, fails_at, fails_end_at, fails_gate_at, fails_unit_at, is_barred, is_barred_at, is_lone_at, is_stop_entry, is_unused_at, misses_start, misses_start_at, Tells, numbers_in, holds_of, is_outside, leaves_in, line_at, targets_for, HasPassed, HoldsAt, HoldsEarly, KindHoldsAt, NoneStands, ends_in_stop, Holds, fails_prologue, is_call_to, is_edge_to, is_site_with, lacks_gate, Asks, Rule}
use Rattle.rv_word.proofs.Cases.{cases_Option}
use Rattle.rv_image.proofs.Profiles.{LaidOut}
use Rattle.cfi_graph.proofs.Rising.{key_transitive}
use Rattle.cfi_reader.specs.declared.entry.Entry.TheVariants as E
use Rattle.cfi_pending.specs.Kinds as kinds
use Rattle.cfi_rules.specs.declared.reject.Rule.TheVariants as R
use Rattle.cfi_rules.proofs.LineOrder.{line_at-with, pair_below, with_key, without_key}
use Rattle.cfi_unit.proofs.Counts.{some_word}
use Rattle.cfi_verify.proofs.Spots.{line_in, none_anywhere}
use Rattle.cfi_starts.proofs.LeafLines.{none_of}
use Rattle.cfi_verify.proofs.Told.{entry_is, fails_told, same_test, start_round, there}

same_address : (a b : ℕ) → Address a ≡ Address b → a ≡ b
same_address a b e = cc

pub is_nothing : {A : Type 0} (o : Option A) → is_some o ≡ false → o ≡ None
is_nothing None e = refl
is_nothing (Some x) e = absurd (cc)

pub line_there : {given graph : GraphParts} {line : GraphLine} (k : ℕ) → given ≡ graph → slice_get given.lines k ≡ Some line → slice_get graph.lines k ≡ Some line
line_there k same at = ap (λ (g : GraphParts). slice_get g.lines k) (sym same) ∙ at

-- where a line stands
pub record Standing (graph : GraphParts) (a : ℕ) (line : GraphLine) : Type 0 where
  pub here : line_at graph.lines a ≡ Some line
  pub even : a % 4 ≡ 0
  pub high : a < 2 ^ 32

pub standing : (graph : GraphParts) (k a : ℕ) (line : GraphLine) → IsGraph graph → slice_get graph.lines k ≡ Some line → key_of line ≡ Address a → Standing graph a line
standing graph k a line g at key =
    let here = line_at-with graph.lines a ∙ with_key graph.lines (Address a) g.order k line at key in
    let within = and_parts _ _ (line_in graph.code graph.lines a line g.range here) in
    let front = and_parts _ _ within.0 in
    let even : a % 4 ≡ 0 = eqb-true _ _ front.0 in
    let high : a < 0x40000000 + graph.code = ltb-true _ _ within.1 in
    let most : graph.code ≤ 0x100000 = leb-true graph.code 0x100000 (and_parts (graph.code % 4 == 0 && nat_le 4 graph.code) _ g.length).1 in
    record { here = here; even = even; high = omega arith }

pub entry_there : {given listing : Listed} {entry : Entry} (k : ℕ) → given ≡ listing → slice_get listing.entries k ≡ Some entry → slice_get given.entries k ≡ Some entry
entry_there k same at = ap (λ (t : Listed). slice_get t.entries k) same ∙ at

-- an entry asks nothing of the graph but that it is admitted
record AsksNothing (e : Entry) (a : ℕ) : Type 0 where
  edge : edge_in e a ≡ None
  call : call_in e a ≡ None
  site : site_in e ≡ None
  gate : gate_in e ≡ None

asks_nothing : (e : Entry) (a : ℕ) → is_quiet e ≡ true → AsksNothing e a
asks_nothing E.Inside a quiet = record { edge = refl; call = refl; site = refl; gate = refl }
asks_nothing E.Stop a quiet = record { edge = refl; call = refl; site = refl; gate = refl }
asks_nothing E.Other a quiet = record { edge = refl; call = refl; site = refl; gate = refl }
asks_nothing E.WritesLink a quiet = record { edge = refl; call = refl; site = refl; gate = refl }
asks_nothing E.Return a quiet = record { edge = refl; call = refl; site = refl; gate = refl }
asks_nothing E.Break a quiet = record { edge = refl; call = refl; site = refl; gate = refl }
asks_nothing E.Stores a quiet = record { edge = refl; call = refl; site = refl; gate = refl }
asks_nothing _ a quiet = absurd (false≢true quiet)

-- what a graph without leaves admits: a quiet unit, and no unit that is of the other kind of images
quiet_free : (version : GraphVersion) (has_list : Bool) (e : Entry) → has_leaves version ≡ false → is_quiet e ≡ true → is_barred version has_list e ≡ false
quiet_free version has_list E.Stores full quiet = rw full refl
quiet_free version has_list E.Inside full quiet = refl
quiet_free version has_list E.Stop full quiet = refl
quiet_free version has_list E.Other full quiet = refl
quiet_free version has_list E.WritesLink full quiet = refl
quiet_free version has_list E.Return full quiet = refl
quiet_free version has_list E.Break full quiet = refl
quiet_free version has_list _ full quiet = absurd (false≢true quiet)

busy_free : (version : GraphVersion) (has_list : Bool) (e : Entry) → has_leaves version ≡ false → (is_barred version has_list e && not (is_quiet e)) ≡ false → is_barred version has_list e ≡ false
busy_free version has_list e full free =
    elim (cases_Bool (is_quiet e)) [
      | inl quiet ↦ quiet_free version has_list e full quiet
      | inr busy ↦ sym (and-true (is_barred version has_list e)) ∙ ap (λ q. is_barred version has_list e && not q) (sym busy) ∙ free
    ]

no_enter_free : (version : GraphVersion) (has_list : Bool) (e : Entry) → has_leaves version ≡ false → is_barred version has_list e ≡ false → is_enter e ≡ false
no_enter_free version has_list E.Enter full free = absurd (false≢true (sym free ∙ ap (λ b. not b || false) full))
no_enter_free version has_list _ full free = refl

outside_free : (version : GraphVersion) (has_list : Bool) (e : Entry) → has_leaves version ≡ false → is_barred version has_list e ≡ false → stands_outside e ≡ true
outside_free version has_list E.LeafReturn full free = absurd (false≢true (sym free ∙ ap (λ b. not b || false) full))
outside_free version has_list _ full free = refl

-- nor has it leaves
no_leaves : (version : GraphVersion) (lines : List GraphLine) → has_leaves version ≡ false → list_all (fits_version version) lines ≡ true → leaves_in lines ≡ []
unfolding leaves_in
no_leaves version [] full fits = refl
no_leaves version (Leaf from to ∷ lines) full fits = absurd (false≢true (sym full ∙ (and_parts (has_leaves version) _ fits).0))
no_leaves version (Calls numbers ∷ lines) full fits = no_leaves version lines full (and_parts (fits_version version (Calls numbers)) _ fits).1
no_leaves version (Class sort label targets ∷ lines) full fits = no_leaves version lines full (and_parts (fits_version version (Class sort label targets)) _ fits).1
no_leaves version (Site address kind label ∷ lines) full fits = no_leaves version lines full (and_parts (fits_version version (Site address kind label)) _ fits).1
no_leaves version (Edge from to ∷ lines) full fits = no_leaves version lines full (and_parts (fits_version version (Edge from to)) _ fits).1
no_leaves version (Call from to ∷ lines) full fits = no_leaves version lines full (and_parts (fits_version version (Call from to)) _ fits).1

no_ends : (p : Profile) (t : Listed) (a : ℕ) (version : GraphVersion) (lines : List GraphLine) → has_leaves version ≡ false → list_all (fits_version version) lines ≡ true → list_any (lacks_end_at p t a) lines ≡ false
no_ends p t a version [] full fits = refl
no_ends p t a version (Leaf from to ∷ lines) full fits = absurd (false≢true (sym full ∙ (and_parts (has_leaves version) _ fits).0))
no_ends p t a version (Calls numbers ∷ lines) full fits = no_ends p t a version lines full (and_parts (fits_version version (Calls numbers)) _ fits).1
no_ends p t a version (Class sort label targets ∷ lines) full fits = no_ends p t a version lines full (and_parts (fits_version version (Class sort label targets)) _ fits).1
no_ends p t a version (Site address kind label ∷ lines) full fits = no_ends p t a version lines full (and_parts (fits_version version (Site address kind label)) _ fits).1
no_ends p t a version (Edge from to ∷ lines) full fits = no_ends p t a version lines full (and_parts (fits_version version (Edge from to)) _ fits).1
no_ends p t a version (Call from to ∷ lines) full fits = no_ends p t a version lines full (and_parts (fits_version version (Call from to)) _ fits).1

module _ (p : Profile) (laid : LaidOut p) where
  -- each target of a class has the class's gate
  abbrev pub HasGates : GraphParts → Listed → GraphLine → Type 0
  HasGates graph t line = (a : ℕ) → lacks_gate graph.version (signs_at p t (leaves_in graph.lines)) a line ≡ false

  -- only classes have targets
  pub no_class : (graph : GraphParts) (t : Listed) (line : GraphLine) (a : ℕ) → key_of line ≡ Address a → HasGates graph t line
  no_class graph t (Calls numbers) a key = absurd (cc)
  no_class graph t (Leaf from to) a key = absurd (cc)
  no_class graph t (Class sort label targets) a key = absurd (cc)
  no_class graph t (Site address kind label) a key = λ b. refl
  no_class graph t (Edge from to) a key = λ b. refl
  no_class graph t (Call from to) a key = λ b. refl

  module _ (t : Listed) (graph : GraphParts) where
    gates_more : (count next : ℕ) (line : GraphLine) → slice_get graph.lines count ≡ Some line → HasGates graph t line → HasPassed p t graph count next →
        (i : ℕ) (other : GraphLine) → i < count + 1 → slice_get graph.lines i ≡ Some other → HasGates graph t other
    gates_more count next line at gates passed i other less e =
        elim (cases_lt i count) [
          | inl before ↦ passed.gates i other before e
          | inr last ↦
              let same : i ≡ count = omega arith in
              let one : line ≡ other = same_Some line other (sym at ∙ ap (slice_get graph.lines) (sym same) ∙ e) in
              subst (HasGates graph t) one gates
        ]

    -- from the next word to that of the next line no line stands
    pub none_between : is_rising key_below (map key_of graph.lines) ≡ true → (count next a : ℕ) (line : GraphLine) → slice_get graph.lines count ≡ Some line → key_of line ≡ Address a →
        HasPassed p t graph count next → NoneStands p graph.lines next ((a - p.units_from) / 4)
    none_between rising count next a line at key passed = λ k from to.
        line_at-with graph.lines (p.units_from + 4 * k) ∙ without_key graph.lines (Address (p.units_from + 4 * k)) (λ i other e same.
        elim (cases_order i count) [
          | inl here ↦
              let one : line ≡ other = same_Some line other (sym at ∙ ap (slice_get graph.lines) (sym here) ∙ e) in
              let address : a ≡ p.units_from + 4 * k = same_address _ _ (sym key ∙ ap key_of one ∙ same) in
              omega arith
          | inr (inl before) ↦
              let below : p.units_from + 4 * k < p.units_from + 4 * next = ltb-true _ _ (ap (λ j. key_below j (Address (p.units_from + 4 * next))) (sym same) ∙ passed.lines_before i other before e) in
              omega arith
          | inr (inr after) ↦
              let below : a < p.units_from + 4 * k = ltb-true _ _ (ap (λ j. key_below (Address a) j) (sym same) ∙ ap (λ j. key_below j (key_of other)) (sym key) ∙ pair_below graph.lines rising count i line other after at e) in
              omega arith
        ])

    -- a line at a word, where the rules hold at this word and at those before it
    pub word_passed : is_rising key_below (map key_of graph.lines) ≡ true → (count next a : ℕ) (line : GraphLine) → slice_get graph.lines count ≡ Some line → key_of line ≡ Address a →
        p.units_from ≤ a → a % 4 ≡ 0 →
        ((k : ℕ) → next ≤ k → k < (a - p.units_from) / 4 → HoldsAt p t graph (p.units_from + 4 * k)) → HoldsAt p t graph a →
        HasPassed p t graph count next → HasPassed p t graph (count + 1) ((a - p.units_from) / 4 + 1)
    word_passed rising count next a line at key low even between here passed =
        let past : a < p.units_from + 4 * ((a - p.units_from) / 4 + 1) = omega arith in
        let last : key_below (key_of line) (Address (p.units_from + 4 * ((a - p.units_from) / 4 + 1))) ≡ true =
        ap (λ j. key_below j (Address (p.units_from + 4 * ((a - p.units_from) / 4 + 1)))) key ∙ lt-ltb _ _ past in
        record {
          gates = gates_more count next line at (no_class graph t line a key) passed;
          words = λ k less.
              elim (cases_lt k next) [
                | inl before ↦ passed.words k before
                | inr from ↦ elim (cases_lt k ((a - p.units_from) / 4)) [
                  | inl inner ↦ between k from inner
                  | inr at_line ↦
                      let address : a ≡ p.units_from + 4 * k = omega arith in
                      subst (HoldsAt p t graph) address here
                ]
              ];
          lines_before = λ i other less e.
              elim (cases_lt i count) [
                | inl before ↦ key_transitive (key_of other) (key_of line) (Address (p.units_from + 4 * ((a - p.units_from) / 4 + 1))) (pair_below graph.lines rising i count other line before e at) last
                | inr same ↦
                    let index : i ≡ count = omega arith in
                    let one : line ≡ other = same_Some line other (sym at ∙ ap (slice_get graph.lines) (sym index) ∙ e) in
                    ap (λ l. key_below (key_of l) (Address (p.units_from + 4 * ((a - p.units_from) / 4 + 1)))) (sym one) ∙ last
              ];
        }

    -- past all lines no line stands
    pub none_after : (count next to : ℕ) → length graph.lines ≤ count → HasPassed p t graph count next → NoneStands p graph.lines next to
    none_after count next to all passed = λ k from less.
        line_at-with graph.lines (p.units_from + 4 * k) ∙ without_key graph.lines (Address (p.units_from + 4 * k)) (λ i other e same.
        let within : i < length graph.lines = slice_get_within graph.lines i other e in
        let below : p.units_from + 4 * k < p.units_from + 4 * next = ltb-true _ _ (ap (λ j. key_below j (Address (p.units_from + 4 * next))) (sym same) ∙ passed.lines_before i other (omega arith) e) in
        omega arith)

    pub gates_passed : (count next : ℕ) → length graph.lines ≤ count → HasPassed p t graph count next → (a : ℕ) → fails_gate_at p t graph a ≡ false
    gates_passed count next all passed a =
        none_of _ graph.lines (λ i line e. let within : i < length graph.lines = slice_get_within graph.lines i line e in passed.gates i line (omega arith) e a)

  -- words whose entries, where there are such, are of no transfer and of no gate
  pub quiet_word : (entries : List Entry) (k : ℕ) → ((entry : Entry) → slice_get entries k ≡ Some entry → is_quiet entry ≡ true) → is_quiet (entry_at p entries (p.units_from + 4 * k)) ≡ true
  quiet_word entries k quiet =
      let index : (p.units_from + 4 * k - p.units_from) / 4 ≡ k = omega arith in
      ap is_quiet (entry_is p laid entries (p.units_from + 4 * k) (omega arith) (omega arith) ∙ ap (λ i. or_inside (slice_get entries i)) index)
      ∙ elim (cases_Option (slice_get entries k)) [
        | inl none ↦ ap (λ o. is_quiet (or_inside o)) none
        | inr (entry, some) ↦ ap (λ o. is_quiet (or_inside o)) some ∙ quiet entry some
      ]

  -- at a word of no transfer, no gate and no system call, at which no line stands, the rules hold
  pub quiet_holds : (t : Listed) (graph : GraphParts) (a : ℕ) → p.units_from ≤ a → is_quiet (entry_at p t.entries a) ≡ true → line_at graph.lines a ≡ None → HoldsAt p t graph a
  quiet_holds t graph a low quiet none =
      let asks = asks_nothing (entry_at p t.entries a) a quiet in
      let call : call_at p t a ≡ None = rw (ne_eqb a START (λ e. omega arith)) asks.call in
      record {
        unit = ap (λ q. is_barred_at p t graph a && not q) quiet ∙ and-false (is_barred_at p t graph a);
        target = or_from _ _ (ap (misses_start p t) asks.edge) (ap (misses_start p t) call);
        unlisted =
            or_from _ _ (ap (λ o. holds_of o (λ target. not (is_edge_to (line_at graph.lines a) target))) asks.edge)
            (ap (λ o. holds_of o (λ target. not (is_call_to (line_at graph.lines a) target))) call);
        unused = ap (λ o. holds_of o (is_unused_at p t a)) none;
        site =
            or_from _ _ (ap (λ o. holds_of o (λ (asked : Asks). not (is_site_with (line_at graph.lines a) asked && is_some (targets_for graph.lines asked.kind asked.which asked.label)))) asks.site)
            (ap (λ o. holds_of o (is_lone_at p t a)) none);
        astray = ap (λ o. holds_of o (λ label. is_outside graph.version graph.lines label a)) asks.gate;
      }

  -- at a word at which no unit starts nothing is asked by kinds but that no leaf begins there
  pub inside_holds : (t : Listed) (graph : GraphParts) (a : ℕ) → p.units_from ≤ a → entry_at p t.entries a ≡ E.Inside → list_any (lacks_end_at p t a) graph.lines ≡ false → KindHoldsAt p t graph a
  inside_holds t graph a low inside whole =
      let edge : edge_at p t a ≡ None = ap (λ e. edge_in e a) inside in
      let call : call_at p t a ≡ None = rw (ne_eqb a START (λ e. omega arith)) (ap (λ e. call_in e a) inside) in
      record {
        unit = ap (is_barred graph.version (is_some (calls_in graph.lines))) inside;
        stands = ap (λ e. not (may_stand (leaf_of (leaves_in graph.lines) a) e)) inside ∙ stands (leaf_of (leaves_in graph.lines) a);
        leaf = or_from _ _ whole (ap (λ e. goes_on e && not (is_right_behind_at p t (leaves_in graph.lines) (leaf_of (leaves_in graph.lines) a) a)) inside);
        target =
            or_from _ _ (ap (λ o. holds_of o (λ x. not (may_go_at p t (leaves_in graph.lines) a x))) edge)
            (ap (λ o. holds_of o (λ x. not (may_call_at p p.callee_saves t (leaves_in graph.lines) a x))) call);
      }
    where
      stands : (l : Option kinds.Leaf) → not (may_stand l E.Inside) ≡ false
      stands None = refl
      stands (Some l) = refl

  -- past the prologue the rule of the prologue holds
  no_prologue : (words : List ℕ) (a : ℕ) → p.units_from ≤ a → fails_prologue p words a ≡ false
  no_prologue words a low = off (nat_le CODE_START a) (nat_le (a + 4) (CODE_START + (p.units_from - CODE_START))) _ _ (lt-leb (a + 4) (CODE_START + (p.units_from - CODE_START)) (omega arith))
    where
      off : (l h x y : Bool) → h ≡ false → (((l && h) && x) && y) ≡ false
      off true h x y e = rw e refl
      off false h x y e = refl

  module _ (t : Listed) (ends : ends_in_stop p t ≡ true) where
    covered : t.done ≡ count_of p t
    covered = eqb-true _ _ (and_parts (t.done == count_of p t) _ ends).0

    rest : (nat_lt t.last t.done && is_stop_entry (entry_at p t.entries (p.units_from + 4 * t.last))) ≡ true
    rest = (and_parts (t.done == count_of p t) _ ends).1

    pub no_unit_fails : (graph : GraphParts) (a : ℕ) → is_barred_at p t graph a ≡ false → stands_wrong_at p t (leaves_in graph.lines) a ≡ false → fails_unit_at p t graph a ≡ false
    no_unit_fails graph a admitted stands =
        let all = covered in or_from _ _ (and_left _ _ (le-ltb t.done (count_of p t) (omega arith))) (or_from _ _ admitted stands)

    pub no_end_fails : (a : ℕ) → fails_end_at p t a ≡ false
    no_end_fails a =
        let all = covered in
        let parts = and_parts (nat_lt t.last t.done) _ rest in
        let some : t.last < t.done = ltb-true _ _ parts.0 in
        let long : nat_le (t.fed / 4) (prologue_count p) ≡ false = lt-leb (t.fed / 4) (prologue_count p) (omega arith) in
        elim (cases_eq a (p.units_from + 4 * t.last)) [
          | inl here ↦
              let stops : not (is_stop_entry (entry_at p t.entries a)) ≡ false = ap not (ap (λ b. is_stop_entry (entry_at p t.entries b)) here ∙ parts.1) in
              rw (long, stops) (none (t.done == count_of p t) (nat_lt t.last t.done) (a == p.units_from + 4 * t.last) (a == p.units_from))
          | inr other ↦
              rw (long, ne_eqb a (p.units_from + 4 * t.last) other) (few (t.done == count_of p t) (nat_lt t.last t.done) (a == p.units_from))
        ]
      where
        nowhere : (u : Bool) → (u && false) ≡ false
        nowhere true = refl
        nowhere false = refl

        none : (p q r u : Bool) → ((p && (q && (r && false))) || (u && false)) ≡ false
        none true true true u = nowhere u
        none true true false u = nowhere u
        none true false r u = nowhere u
        none false q r u = nowhere u

        few : (p q u : Bool) → ((p && (q && false)) || (u && false)) ≡ false
        few true true u = nowhere u
        few true false u = nowhere u
        few false q u = nowhere u

  by_word : (t : Listed) (graph : GraphParts) (a : ℕ) (rule : Rule) → p.units_from ≤ a → ends_in_stop p t ≡ true → HoldsAt p t graph a → KindHoldsAt p t graph a → rule ≢ R.Gate → fails_at p rule t graph a ≡ false
  by_word t graph a R.Prologue low ends holds kind n = no_prologue t.prologue a low
  by_word t graph a R.Unit low ends holds kind n = no_unit_fails t ends graph a kind.unit kind.stands
  by_word t graph a R.Leaf low ends holds kind n = kind.leaf
  by_word t graph a R.Target low ends holds kind n = kind.target
  by_word t graph a R.Unlisted low ends holds kind n = holds.unlisted
  by_word t graph a R.Unused low ends holds kind n = holds.unused
  by_word t graph a R.Site low ends holds kind n = holds.site
  by_word t graph a R.Gate low ends holds kind n = absurd (n refl)
  by_word t graph a R.Astray low ends holds kind n = holds.astray
  by_word t graph a R.End low ends holds kind n = no_end_fails t ends a

  -- in a graph without leaves all starts are saved
  module _ (t : Listed) (graph : GraphParts) (g : IsGraph graph) (full : has_leaves graph.version ≡ false) (saves : p.callee_saves ≡ has_leaves graph.version) (ends : ends_in_stop p t ≡ true) (words : List ℕ) (told : Tells p (numbers_in graph) t words)
      (holds : (k : ℕ) → k < count_of p t → HoldsAt p t graph (p.units_from + 4 * k)) where
    free : (k : ℕ) → k < count_of p t → is_barred_at p t graph (p.units_from + 4 * k) ≡ false
    free k below = busy_free graph.version (is_some (calls_in graph.lines)) (entry_at p t.entries (p.units_from + 4 * k)) full (holds k below).unit

    no_enter : (a : ℕ) → enters_at p t a ≡ false
    no_enter a =
        elim (there p laid words (numbers_in graph) t.entries t.done t.last told.split a) [
          | inl n ↦ ap is_enter n.entry
          | inr (u, h) ↦
              let all = covered t ends in
              let low = h.low in
              let round = start_round p laid words a h.start in
              let within = h.within in
              let some = some_word u in
              let at : p.units_from + 4 * ((a - p.units_from) / 4) ≡ a = omega arith in
              no_enter_free graph.version (is_some (calls_in graph.lines)) (entry_at p t.entries a) full
              (ap (is_barred_at p t graph) (sym at) ∙ free ((a - p.units_from) / 4) (omega arith))
        ]

    none : leaves_in graph.lines ≡ []
    none = no_leaves graph.version graph.lines full g.sorts

    no_fresh : (a : ℕ) → fresh_at p t (leaves_in graph.lines) a ≡ false
    no_fresh a = ap (λ ls. fresh_at p t ls a) none ∙ or_from _ _ (no_enter a) (ap (λ b. is_some (gate_at p t a) && b) (no_enter (a + 4)) ∙ and-false (is_some (gate_at p t a)))

    goes_right : (a : ℕ) → goes_wrong_at p t (leaves_in graph.lines) a ≡ false
    goes_right a =
        ap (λ ls. goes_wrong_at p t ls a) none
        ∙ ap (λ f. goes_on (entry_at p t.entries a) && not ((is_some (gate_at p t a) && enters_at p t (a + 4)) || not f)) (ap (λ ls. fresh_at p t ls (next_at p t a)) (sym none) ∙ no_fresh (next_at p t a))
        ∙ right (goes_on (entry_at p t.entries a)) (is_some (gate_at p t a) && enters_at p t (a + 4))
      where
        right : (b x : Bool) → (b && not (x || true)) ≡ false
        right true true = refl
        right true false = refl
        right false x = refl

    go_is : (a x : ℕ) → may_go_at p t (leaves_in graph.lines) a x ≡ starts_at p t x
    go_is a x =
        ap (λ ls. may_go_at p t ls a x) none
        ∙ ap (λ f. starts_at p t x && not f) (ap (λ ls. fresh_at p t ls x) (sym none) ∙ no_fresh x)
        ∙ and-true (starts_at p t x)

    call_is : (a x : ℕ) → may_call_at p p.callee_saves t (leaves_in graph.lines) a x ≡ starts_at p t x
    call_is a x = ap (λ b. may_call_at p b t (leaves_in graph.lines) a x) (saves ∙ full) ∙ go_is a x

    leads_right : (a : ℕ) → misses_start_at p t a ≡ false → fails_target_at p t graph.lines a ≡ false
    leads_right a right =
        ap (λ b. b || holds_of (call_at p t a) (λ x. not (may_call_at p p.callee_saves t (leaves_in graph.lines) a x))) (same_test (edge_at p t a) _ _ (λ x. ap not (go_is a x)))
        ∙ ap (λ b. misses_start p t (edge_at p t a) || b) (same_test (call_at p t a) _ _ (λ x. ap not (call_is a x)))
        ∙ right

    pub full_kinds : (k : ℕ) → k < count_of p t → KindHoldsAt p t graph (p.units_from + 4 * k)
    full_kinds k below = record {
      unit = free k below;
      stands = ap (λ ls. stands_wrong_at p t ls (p.units_from + 4 * k)) none ∙ ap not (outside_free graph.version (is_some (calls_in graph.lines)) (entry_at p t.entries (p.units_from + 4 * k)) full (free k below));
      leaf = or_from _ _ (no_ends p t (p.units_from + 4 * k) graph.version graph.lines full g.sorts) (goes_right (p.units_from + 4 * k));
      target = leads_right (p.units_from + 4 * k) (holds k below).target;
    }

  -- what the pass has asked is all that the rules ask
  pub pass_holds : (t : Listed) (graph : GraphParts) → IsGraph graph → graph.code ≡ 4 * (t.fed / 4) →
      ((rule : Rule) → HoldsEarly p t graph rule) → ends_in_stop p t ≡ true →
      ((k : ℕ) → k < count_of p t → HoldsAt p t graph (p.units_from + 4 * k)) → ((k : ℕ) → k < count_of p t → KindHoldsAt p t graph (p.units_from + 4 * k)) → ((a : ℕ) → fails_gate_at p t graph a ≡ false) →
      (words : List ℕ) → Tells p (numbers_in graph) t words → (rule : Rule) → Holds p words graph rule
  pass_holds t graph g given early ends words_hold kinds_hold gates words told rule = by rule
    where
      code : graph.code ≡ 4 * length words
      code = given ∙ ap (λ n. 4 * n) told.count

      others : (r : Rule) → r ≢ R.Gate → Holds p words graph r
      others r n =
          let count : t.fed / 4 ≡ length words = told.count in
          let some : t.last < t.done = ltb-true _ _ (and_parts (nat_lt t.last t.done) _ (rest t ends)).0 in
          let all = covered t ends in
          none_anywhere p laid r words graph (length words) (omega arith) n g code (λ k below.
          fails_told p laid (numbers_in graph) t words told r graph refl _ ∙ elim (cases_lt k (prologue_count p)) [
            | inl first ↦ early r n k first
            | inr later ↦
                let address : p.units_from + 4 * (k - prologue_count p) ≡ 0x40000000 + 4 * k = omega arith in
                ap (fails_at p r t graph) (sym address) ∙ by_word t graph (p.units_from + 4 * (k - prologue_count p)) r (omega arith) ends (words_hold (k - prologue_count p) (omega arith)) (kinds_hold (k - prologue_count p) (omega arith)) n
          ])

      by : (r : Rule) → Holds p words graph r
      by R.Gate = λ a. fails_told p laid (numbers_in graph) t words told R.Gate graph refl a ∙ gates a
      by R.Prologue = others R.Prologue (λ e. cc)
      by R.Unit = others R.Unit (λ e. cc)
      by R.Leaf = others R.Leaf (λ e. cc)
      by R.Target = others R.Target (λ e. cc)
      by R.Unlisted = others R.Unlisted (λ e. cc)
      by R.Unused = others R.Unused (λ e. cc)
      by R.Site = others R.Site (λ e. cc)
      by R.Astray = others R.Astray (λ e. cc)
      by R.End = others R.End (λ e. cc)
