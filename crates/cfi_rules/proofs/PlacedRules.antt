-- A code of placed units that are sound, with their lines, meets each rule.
use Rattle.std.proofs.Common.{◌≡◌, ◌≢◌, ℕ, ◌+◌, ◌*◌, ◌%◌, ◌≤◌, ◌<◌, ◌==◌, inl, inr, Bool, true, false, List, [], ◌∷◌, length, refl, sym, ap, subst, ◌∙◌, Some, None, arith}
use Rattle.std.specs.Prelude.{Option, slice_get, nat_le, nat_lt, not, ◌&&◌, ◌||◌, is_some, option_and_then, option_map}
use Rattle.std.specs.List.{last_or, list_any}
use Rattle.std.proofs.lemmas.Bool.{and_from, and_parts, and_right, and_left, cases_Bool, cases_eq, eq-eqb, le-ltb, lt-leb, ne_eqb, or_from, or_left, or_right}
use Rattle.std.proofs.lemmas.Option.{same_Some}
use Rattle.rv_image.specs.declared.version.GraphVersion.{GraphVersion}
use Rattle.rv_image.specs.MemoryMap.{CODE_START, Profile}
use Rattle.rv_word.proofs.Cases.{cases_Option, guarded}
use Rattle.cfi_graph.specs.declared.line.GraphLine.{GraphLine}
use Rattle.cfi_graph.specs.declared.line.GraphLine.TheVariants.{Call}
use Rattle.cfi_graph.specs.declared.line.SiteKind.{SiteKind}
use Rattle.cfi_graph.specs.declared.line.SiteKind.TheVariants as K
use Rattle.cfi_unit.specs.declared.unit.Unit as U
use Rattle.cfi_unit.specs.declared.unit.Unit.TheVariants as V
use Rattle.cfi_unit.specs.declared.place.Place.{Place}
use Rattle.cfi_unit.specs.declared.place.Place.TheVariants.{Handler as handler, Opening as opening, Closing as closing, Body as body}
use Rattle.cfi_graph.specs.Graph.{ClassLine, GraphParts, calls_in, has_leaves}
use Rattle.cfi_unit.specs.declared.target_word.TargetWord.{TargetWord}
use Rattle.cfi_unit.specs.declared.target_word.TargetWord.TheVariants.{First, Second, Third}
use Rattle.cfi_unit.specs.Flow as F
use Rattle.cfi_unit.specs.Flow.{Flow, flow_of}
use Rattle.cfi_unit.specs.Prologue.{OPENING}
use Rattle.cfi_unit.specs.Split.{IsSplit}
use Rattle.cfi_unit.specs.UnitWords.{word_count}
use Rattle.cfi_pending.specs.Kinds as kinds
use Rattle.cfi_pending.specs.Kinds.{IsOfItsKind, goes_on, is_enter, is_fresh, is_right_behind, is_right_target, leaf_of, may_be_called, may_be_reached, stands_by}
use Rattle.cfi_pending.specs.StartLaw.{stands_in}
use Rattle.cfi_rules.specs.Lines.{class_with, holds_of, if_serves, is_beside, is_word_of, leaves_in, line_at, read_of, targets_for}
use Rattle.cfi_rules.specs.Placed.{code_from, line_by, line_of, lines_from, placed_lines}
use Rattle.cfi_rules.specs.Rules.{Holds, Signs, admits, admitted_in, asked_by, asks, call_by, call_of, edge_by, edge_of, fails_prologue, gate_of, goes_wrong, is_astray, is_bad_end, is_borne, is_call_to, is_edge_to, is_label, is_lone_site, is_of_version, is_site_with, is_stop, is_unused, lacks_end, may_call, may_call_to, may_go, may_stand_at, signs_in, site_of, test_is_of_version}
use Rattle.cfi_rules.specs.Sound.{Bears, IsSound, StartsIn, may_be_entered, target_of}
use Rattle.cfi_rules.specs.Split.{entry_of, is_handler, is_start, place_at, unit_at, unit_in, unit_starts, unit_words}
use Rattle.cfi_rules.specs.declared.asks.Asks.{Asks}
use Rattle.cfi_rules.specs.declared.reject.Rule.{Rule}
use Rattle.cfi_rules.specs.declared.reject.Rule.TheVariants as R
use Rattle.cfi_unit.proofs.Counts.{some_word}
use Rattle.cfi_unit.proofs.Flows.{Suits, suits, untested, direct_call, computed_jump, computed_call, linking_call, linking_computed_call}
use Rattle.cfi_rules.proofs.PlacedLines.{EndsRight, calls_before, class_before, ends_right, ends_stand, gates_stand, leaves_before, line_in, line_past, no_class, no_leaf_before, no_leaves, none_lacks}
use Rattle.cfi_rules.proofs.Places.{not_handler}
use Rattle.cfi_rules.proofs.PlacedSplit.{reaches_end, start_is, unit_is}
use Rattle.cfi_rules.proofs.UnitIn.{in_here, in_later, length-code_from, lies}

-- the rules at a unit, by its flow
abbrev line_with : Flow → ℕ → Option GraphLine
line_with f a = line_by a (edge_by f.sites f.exit) (call_by f.sites f.exit) (asked_by f.test f.sites)

unlisted_flow : (f : Flow) → Suits f → (a : ℕ) →
    holds_of (edge_by f.sites f.exit) (λ t. not (is_edge_to (line_with f a) t)) || holds_of (call_by f.sites f.exit) (λ t. not (is_call_to (line_with f a) t)) ≡ false
unlisted_flow f (untested (F.either op rs1 rs2 met target) act is) a = rw (eq-eqb target target refl) refl
unlisted_flow f (untested (F.to target) act is) a = rw (eq-eqb target target refl) refl
unlisted_flow f (direct_call target) a = rw (eq-eqb target target refl) refl
unlisted_flow f (linking_call target) a = rw (eq-eqb target target refl) refl
unlisted_flow f other a = refl

unused_flow : (f : Flow) → Suits f → (place : Place) (a : ℕ) → edge_of place ≡ edge_by f.sites f.exit → call_of place ≡ call_by f.sites f.exit →
    holds_of (line_with f a) (is_unused (Some place)) ≡ false
unused_flow f (untested (F.either op rs1 rs2 met target) act is) place a edge call = ap (λ o. not (is_some o)) edge
unused_flow f (untested (F.to target) act is) place a edge call = ap (λ o. not (is_some o)) edge
unused_flow f (direct_call target) place a edge call = ap (λ o. not (is_some o)) call
unused_flow f (linking_call target) place a edge call = ap (λ o. not (is_some o)) call
unused_flow f other place a edge call = refl

site_flow : (f : Flow) → Suits f → (place : Place) (a : ℕ) (lines : List GraphLine) → site_of place ≡ asked_by f.test f.sites →
    ((asked : Asks) → asked_by f.test f.sites ≡ Some asked → is_some (targets_for lines asked.kind asked.which asked.label) ≡ true) →
    holds_of (asked_by f.test f.sites) (λ (s : Asks). not (is_site_with (line_with f a) s && is_some (targets_for lines s.kind s.which s.label))) || holds_of (line_with f a) (is_lone_site (Some place)) ≡ false
site_flow f (computed_jump which rs1 imm label) place a lines site known = rw (eq-eqb label label refl, known (asks K.Jump which label) refl, site) refl
site_flow f (computed_call rs1 imm label) place a lines site known = rw (eq-eqb label label refl, known (asks K.Call First label) refl, site) refl
site_flow f (linking_computed_call rs1 imm label) place a lines site known = rw (eq-eqb label label refl, known (asks K.Call Third label) refl, site) refl
site_flow f (untested (F.either op rs1 rs2 met target) act is) place a lines site known = refl
site_flow f (untested (F.to target) act is) place a lines site known = refl
site_flow f other place a lines site known = refl

astray_unit : (u : U.Unit) (a : ℕ) (graph : GraphParts) →
    ((l : ℕ) (class : ClassLine) → u ≡ V.Gate l → class_with graph.lines l ≡ Some class → is_word_of (read_of graph.version class.sort) a class.targets ≡ true) →
    is_astray graph a u ≡ false
astray_unit (V.Gate label) a graph listed =
    elim (cases_Option (class_with graph.lines label)) [
      | inl none ↦ ap (λ o. holds_of o (λ (class : ClassLine). is_beside graph.version class a)) none
      | inr (class, some) ↦ ap (λ o. holds_of o (λ (class : ClassLine). is_beside graph.version class a)) some ∙ ap not (listed label class refl some)
    ]
astray_unit other a graph listed = refl

-- a transfer to a start of its kind goes where it may
module _ (p : Profile) (words : List ℕ) (leaves : List kinds.Leaf) (a : ℕ) where
  reached : (t : ℕ) → is_start p words t ≡ true → may_be_reached (unit_at p words) leaves (leaf_of leaves a) t ≡ true → not (may_go p words leaves a t) ≡ false
  reached t starts right = ap not (and_from (is_start p words t) (may_be_reached (unit_at p words) leaves (leaf_of leaves a) t) starts right)

  called : (t : ℕ) → is_start p words t ≡ true → may_be_called (unit_at p words) leaves t ≡ true → not (may_call_to true p words leaves a t) ≡ false
  called t starts right = ap not (and_from (is_start p words t) (may_be_called (unit_at p words) leaves t) starts right)

  target_unit : (callee : Bool) (u : U.Unit) → stands_in callee u ≡ true → is_right_target (unit_at p words) leaves a (flow_of u).sites (flow_of u).exit ≡ true →
      ((t : ℕ) → target_of u ≡ Some t → is_start p words t ≡ true) →
      holds_of (edge_of (body u)) (λ t. not (may_go p words leaves a t)) || holds_of (call_of (body u)) (λ t. not (may_call_to callee p words leaves a t)) ≡ false
  target_unit callee (V.Branch op rs1 rs2 t) stands right starts = or_from _ false (reached t (starts t refl) right) refl
  target_unit callee (V.Near op rs1 rs2 t) stands right starts = or_from _ false (reached t (starts t refl) right) refl
  target_unit callee (V.Jump t) stands right starts = or_from _ false (reached t (starts t refl) right) refl
  target_unit false (V.Call t) stands right starts = reached t (starts t refl) right
  target_unit true (V.Call t) stands right starts = absurd (cc)
  target_unit false (V.LinkCall t) stands right starts = absurd (cc)
  target_unit true (V.LinkCall t) stands right starts = called t (starts t refl) right
  target_unit callee other stands right starts = refl

  -- and so does the opening
  opening_goes : (callee : Bool) (entry : ℕ) → leaf_of leaves a ≡ None → is_start p words entry ≡ true → may_be_entered callee (unit_at p words) leaves entry ≡ true →
      may_call_to callee p words leaves a entry ≡ true
  opening_goes true entry outside starts right = and_from (is_start p words entry) (may_be_called (unit_at p words) leaves entry) starts right
  opening_goes false entry outside starts right =
      and_from (is_start p words entry) (may_be_reached (unit_at p words) leaves (leaf_of leaves a) entry) starts
      (ap (λ o. may_be_reached (unit_at p words) leaves o entry) outside ∙ right)

-- the unit that ends the words is the last
last_ends : (us : List U.Unit) (at a : ℕ) (u : U.Unit) → unit_in us at a ≡ Some u → a + 4 * word_count u ≡ at + 4 * length (code_from at us) → last_or None us ≡ Some u
unfolding unit_in
last_ends [] at a u e end = absurd (cc)
last_ends (v ∷ []) at a u e end = (guarded (a == at) (Some v) u e).1
last_ends (v ∷ w ∷ us) at a u e end =
    let size = length-code_from v (w ∷ us) at in
    let next = length-code_from w us (at + 4 * word_count v) in
    let some = some_word w in
    elim (cases_eq a at) [
      | inl here ↦
          let same : word_count v ≡ word_count u =
          ap word_count (same_Some v u (sym (in_here v (w ∷ us) at) ∙ ap (unit_in (v ∷ w ∷ us) at) (sym here) ∙ e)) in
          absurd (omega (arith, size, next, same))
      | inr other ↦
          last_ends (w ∷ us) (at + 4 * word_count v) a u (sym (in_later v (w ∷ us) at a other) ∙ e) (omega (arith, size))
    ]

-- what is known of a code of placed units, beside what the units are
pub record IsPlaced (p : Profile) (words : List ℕ) (entry : ℕ) (us : List U.Unit) : Type 0 where
  pub closing_after : OPENING < p.closing
  pub units_after : p.closing < p.units_from
  pub round : p.units_from % 4 ≡ 0
  pub prologue : (a : ℕ) → fails_prologue p words a ≡ false
  pub call : entry_of p words ≡ Some entry
  pub split : IsSplit (unit_words p words) p.units_from us
  pub size : CODE_START + 4 * length words ≡ p.units_from + 4 * length (code_from p.units_from us)

module _ (p : Profile) (words : List ℕ) (version : GraphVersion) (entry : ℕ) (us : List U.Unit) (heads : List GraphLine) (code : ℕ) (placed : IsPlaced p words entry us) (sound : IsSound p version entry us heads) where
  abbrev the_lines : List GraphLine
  the_lines = placed_lines p entry us heads

  abbrev the_graph : GraphParts
  the_graph = record { version = version; code = code; lines = the_lines }

  low : CODE_START ≤ p.units_from
  low = let closing = placed.closing_after in let units = placed.units_after in omega arith

  start : (a : ℕ) → is_start p words a ≡ is_some (unit_in us p.units_from a)
  start = start_is p low placed.round words us placed.split

  unit : (a : ℕ) → unit_at p words a ≡ unit_in us p.units_from a
  unit = unit_is p low placed.round words us placed.split

  -- handlers and the closing are no transfers
  calm : {A : Type 0} (f : Place → Option A) (a : ℕ) → f handler ≡ None → f closing ≡ None → a ≢ OPENING → unit_in us p.units_from a ≡ None → option_and_then f (place_at p words a) ≡ None
  unfolding place_at
  calm f a first last not_opening none =
      elim (cases_Bool (is_handler a)) [
        | inl h ↦ rw (h, place_at) first
        | inr h ↦ elim (cases_Bool (a == p.closing)) [
          | inl c ↦ rw (h, ne_eqb a OPENING not_opening, c, place_at) last
          | inr c ↦ rw (h, ne_eqb a OPENING not_opening, c, unit a ∙ none, place_at) refl
        ]
      ]

  body_at : (a : ℕ) (u : U.Unit) → unit_in us p.units_from a ≡ Some u → place_at p words a ≡ Some (body u)
  unfolding place_at
  body_at a u e =
      let from = (lies us p.units_from a u e).from in
      let closing = placed.closing_after in
      let units = placed.units_after in
      rw (not_handler a (omega arith), ne_eqb a OPENING (λ e. omega arith), ne_eqb a p.closing (λ e. omega arith), unit a ∙ e) refl

  opening_at : place_at p words OPENING ≡ Some (opening entry)
  unfolding place_at
  opening_at = ap (option_map opening) placed.call

  -- the line at an address: the opening's, or a unit's
  line_there : (a : ℕ) → a ≢ OPENING → line_at the_lines a ≡ option_and_then (line_of a) (unit_in us p.units_from a)
  unfolding line_at
  line_there a other =
      line_past heads (Call OPENING entry ∷ lines_from p.units_from us) a sound.heads_are
      ∙ rw (ne_eqb OPENING a (λ e. other (sym e))) (line_in us p.units_from a)

  line_opening : line_at the_lines OPENING ≡ Some (Call OPENING entry)
  unfolding line_at
  line_opening = line_past heads (Call OPENING entry ∷ lines_from p.units_from us) OPENING sound.heads_are

  class_is : (l : ℕ) → class_with the_lines l ≡ class_with heads l
  unfolding class_with
  class_is l = class_before heads (Call OPENING entry ∷ lines_from p.units_from us) l (no_class us p.units_from l)

  targets_are : (kind : SiteKind) (which : TargetWord) (l : ℕ) → targets_for the_lines kind which l ≡ targets_for heads kind which l
  unfolding targets_for
  targets_are kind which l = ap (option_and_then (if_serves kind which)) (class_is l)

  calls_are : calls_in the_lines ≡ calls_in heads
  calls_are = calls_before heads (Call OPENING entry ∷ lines_from p.units_from us) refl

  -- what stands at an address, and its line
  data Spot (a : ℕ) : Type 0 where
    opens : a ≡ OPENING → place_at p words a ≡ Some (opening entry) → line_at the_lines a ≡ Some (Call OPENING entry) → Spot a
    stands : (u : U.Unit) → unit_in us p.units_from a ≡ Some u → place_at p words a ≡ Some (body u) → line_at the_lines a ≡ line_of a u → Spot a
    quiet : option_and_then edge_of (place_at p words a) ≡ None → option_and_then call_of (place_at p words a) ≡ None →
        option_and_then site_of (place_at p words a) ≡ None → line_at the_lines a ≡ None → Spot a

  spot : (a : ℕ) → Spot a
  spot a =
      elim (cases_Option (unit_in us p.units_from a)) [
        | inl none ↦ elim (cases_eq a OPENING) [
          | inl here ↦ subst Spot (sym here) (opens refl opening_at line_opening)
          | inr other ↦ quiet (calm edge_of a refl refl other none) (calm call_of a refl refl other none) (calm site_of a refl refl other none)
              (line_there a other ∙ ap (option_and_then (line_of a)) none)
        ]
        | inr (u, e) ↦
            let from = (lies us p.units_from a u e).from in
            let closing = placed.closing_after in
            let units = placed.units_after in
            stands u e (body_at a u e) (line_there a (λ here. omega arith) ∙ ap (option_and_then (line_of a)) e)
      ]

  begun : (a : ℕ) → StartsIn p us a → is_start p words a ≡ true
  begun a some = start a ∙ some

  abbrev the_leaves : List kinds.Leaf
  the_leaves = leaves_in the_lines

  leaves_are : the_leaves ≡ leaves_in heads
  unfolding leaves_in
  leaves_are = leaves_before heads (Call OPENING entry ∷ lines_from p.units_from us) (no_leaves us p.units_from)

  -- each unit is of its kind in the code
  units_are : unit_in us p.units_from ≡ unit_at p words
  units_are = λ i a. sym (unit a) i

  in_code : (P : (ℕ → Option U.Unit) → List kinds.Leaf → Type 0) → P (unit_in us p.units_from) (leaves_in heads) → P (unit_at p words) the_leaves
  in_code P is =
      subst (λ (leaves : List kinds.Leaf). P (unit_at p words) leaves) (sym leaves_are)
      (subst (λ (units : ℕ → Option U.Unit). P units (leaves_in heads)) units_are is)

  of_its_kind : (a : ℕ) (u : U.Unit) → unit_in us p.units_from a ≡ Some u → IsOfItsKind (unit_at p words) the_leaves a u
  of_its_kind a u e = in_code (λ units leaves. IsOfItsKind units leaves a u) (sound.kinds a u e)

  -- leaves begin and end where units do
  ends_there : (k : ℕ) (leaf : kinds.Leaf) → slice_get (leaves_in heads) k ≡ Some leaf → EndsRight p words leaf
  ends_there k leaf get =
      let ends = sound.leaves k leaf get in
      and_from (is_start p words leaf.from) (is_start p words leaf.to || (leaf.to == CODE_START + 4 * length words)) (begun leaf.from ends.0)
      (elim ends.1 [
        | inl starts ↦ or_left (is_start p words leaf.to) _ (begun leaf.to starts)
        | inr last ↦ or_right (is_start p words leaf.to) (leaf.to == CODE_START + 4 * length words)
            (eq-eqb leaf.to (CODE_START + 4 * length words) (last ∙ sym placed.size))
      ])

  leaf_holds : Holds p words the_graph R.Leaf
  unfolding leaves_in
  leaf_holds a =
      or_from (list_any (lacks_end p words a) the_lines) (holds_of (unit_at p words a) (goes_wrong p words the_leaves a))
      (ends_right p words a heads (Call OPENING entry ∷ lines_from p.units_from us) ends_there
      (ends_stand p words a (Call OPENING entry ∷ lines_from p.units_from us) (no_leaves us p.units_from)))
      (elim (cases_Option (unit_in us p.units_from a)) [
        | inl none ↦ rw (unit a ∙ none) refl
        | inr (u, e) ↦ rw (unit a ∙ e) (goes_right a u e)
      ])
    where
      goes_right : (a : ℕ) (u : U.Unit) → unit_in us p.units_from a ≡ Some u → goes_wrong p words the_leaves a u ≡ false
      goes_right a u e =
          elim (cases_Bool (goes_on u)) [
            | inl on ↦ and_right (goes_on u) (not (is_right_behind (unit_at p words) the_leaves (leaf_of the_leaves a) a u)) (ap not ((of_its_kind a u e).behind on))
            | inr ends ↦ and_left (goes_on u) (not (is_right_behind (unit_at p words) the_leaves (leaf_of the_leaves a) a u)) ends
          ]

  -- the opening stands before all leaves
  opening_outside : leaf_of the_leaves OPENING ≡ None
  opening_outside =
      ap (λ (leaves : List kinds.Leaf). leaf_of leaves OPENING) leaves_are
      ∙ no_leaf_before (leaves_in heads) OPENING (λ k leaf get.
      let (u, e) = some_unit leaf.from (sound.leaves k leaf get).0 in
      let from = (lies us p.units_from leaf.from u e).from in
      let closing = placed.closing_after in
      let units = placed.units_after in
      omega arith)
    where
      some_unit : (a : ℕ) → StartsIn p us a → (u : U.Unit) × (unit_in us p.units_from a ≡ Some u)
      some_unit a starts =
          elim (cases_Option (unit_in us p.units_from a)) [
            | inl none ↦ let no : false ≡ true = ap is_some (sym none) ∙ starts in absurd (cc)
            | inr found ↦ found
          ]

  opening_right : may_call_to p.callee_saves p words the_leaves OPENING entry ≡ true
  opening_right =
      opening_goes p words the_leaves OPENING p.callee_saves entry opening_outside (begun entry sound.entry_starts)
      (in_code (λ units leaves. may_be_entered p.callee_saves units leaves entry ≡ true) sound.entry_called)

  -- each unit is one of code whose callees, or whose callers, save sites
  stands_here : (a : ℕ) (u : U.Unit) → unit_in us p.units_from a ≡ Some u → stands_in p.callee_saves u ≡ true
  stands_here a u e =
      let admits_it = and_parts (is_of_version version u) (may_call (calls_in heads) u) (sound.admitted a u e) in
      ap (λ callee. stands_in callee u) sound.saves
      ∙ (and_parts (stands_in (has_leaves version) u) (test_is_of_version version (flow_of u).test (flow_of u).sites) admits_it.0).0

  target_holds : Holds p words the_graph R.Target
  target_holds a =
      elim (spot a) [
        | opens here place line ↦ rw (place, ap (λ b. may_call_to p.callee_saves p words the_leaves b entry) here ∙ opening_right) refl
        | stands u here place line ↦ rw place
            (target_unit p words the_leaves a p.callee_saves u (stands_here a u here) (of_its_kind a u here).target (λ t leads. begun t (sound.targets a t u here leads)))
        | quiet edge call site line ↦ rw (edge, call) refl
      ]

  unlisted_holds : Holds p words the_graph R.Unlisted
  unlisted_holds a =
      elim (spot a) [
        | opens here place line ↦ rw (place, line, eq-eqb entry entry refl) refl
        | stands u here place line ↦ rw (place, line) (unlisted_flow (flow_of u) (suits u) a)
        | quiet edge call site line ↦ rw (edge, call) refl
      ]

  unused_holds : Holds p words the_graph R.Unused
  unused_holds a =
      elim (spot a) [
        | opens here place line ↦ rw (line, place) refl
        | stands u here place line ↦ rw (line, place) (unused_flow (flow_of u) (suits u) (body u) a refl refl)
        | quiet edge call site line ↦ rw line refl
      ]

  site_holds : Holds p words the_graph R.Site
  site_holds a =
      elim (spot a) [
        | opens here place line ↦ rw (place, line) refl
        | stands u here place line ↦ rw (place, line)
            (site_flow (flow_of u) (suits u) (body u) a the_lines refl (λ asked is. ap is_some (targets_are asked.kind asked.which asked.label) ∙ sound.labels a u asked here is))
        | quiet edge call site line ↦ rw (site, line) refl
      ]

  abbrev the_signs : Signs
  the_signs = signs_in p words the_leaves

  gate_there : (a label : ℕ) → unit_in us p.units_from a ≡ Some (V.Gate label) → is_label (the_signs.gate a) label ≡ true
  gate_there a label here = ap (λ o. is_label (option_and_then gate_of o) label) (unit a ∙ here) ∙ eq-eqb label label refl

  borne : (which : TargetWord) (a label : ℕ) → Bears p us (leaves_in heads) which a label → is_borne the_signs which a label ≡ true
  borne First a label bears =
      and_from (is_label (the_signs.gate a) label) (not (the_signs.fresh a)) (gate_there a label bears.0)
      (in_code (λ units leaves. not (is_fresh units leaves a) ≡ true) bears.1)
  borne Second a label bears =
      and_from (the_signs.starts a) (is_label (the_signs.gate (a + 4)) label) (ap is_some (unit a) ∙ bears.0) (gate_there (a + 4) label bears.1)
  borne Third a label bears =
      and_from (is_label (the_signs.gate (a + 8)) label) (the_signs.enters (a + 12)) (gate_there (a + 8) label bears.0) (ap is_enter (unit (a + 12)) ∙ bears.1)

  gate_holds : Holds p words the_graph R.Gate
  gate_holds a =
      gates_stand version the_signs heads (Call OPENING entry ∷ lines_from p.units_from us) a
      (λ k class is among. borne (read_of version class.sort) a class.label (sound.gates k a class is among))
      (none_lacks version the_signs us p.units_from a)

  astray_holds : Holds p words the_graph R.Astray
  astray_holds a =
      elim (cases_Option (unit_in us p.units_from a)) [
        | inl none ↦ rw (unit a ∙ none) refl
        | inr (u, e) ↦ rw (unit a ∙ e) (astray_unit u a the_graph
            (λ l class gate is. sound.astray l a class (e ∙ ap Some gate) (sym (class_is l) ∙ is)))
      ]

  stands_there : (a : ℕ) (u : U.Unit) → unit_in us p.units_from a ≡ Some u → may_stand_at the_graph a u ≡ true
  stands_there a u e =
      and_from (admitted_in the_graph u) (stands_by (leaf_of (leaves_in the_lines) a) u)
      (ap (λ calls. admits version calls u) calls_are ∙ sound.admitted a u e)
      (of_its_kind a u e).stands

  unit_holds : Holds p words the_graph R.Unit
  unit_holds a =
      let all = reaches_end p low placed.round words us placed.split in
      or_from ((a == p.units_from + 4 * length (unit_starts p words)) && nat_lt (length (unit_starts p words)) (length (unit_words p words)))
      (holds_of (unit_at p words a) (λ (u : U.Unit). not (may_stand_at the_graph a u)))
      (and_right (a == p.units_from + 4 * length (unit_starts p words)) (nat_lt (length (unit_starts p words)) (length (unit_words p words)))
      (le-ltb (length (unit_starts p words)) (length (unit_words p words)) (omega (arith, all))))
      (elim (cases_Option (unit_in us p.units_from a)) [
        | inl none ↦ rw (unit a ∙ none) refl
        | inr (u, e) ↦ rw (unit a ∙ e) (ap not (stands_there a u e))
      ])

  -- the code has a unit
  some_code : 1 ≤ length (code_from p.units_from us)
  some_code = some_of us sound.ends
    where
      some_of : (us : List U.Unit) → last_or None us ≡ Some V.Stop → 1 ≤ length (code_from p.units_from us)
      some_of [] e = absurd (cc)
      some_of (u ∷ us) e =
          let some = some_word u in
          let size = length-code_from u us p.units_from in
          omega (arith, size)

  end_unit : (a : ℕ) (u : U.Unit) → unit_in us p.units_from a ≡ Some u → is_bad_end words a u ≡ false
  end_unit a u e =
      elim (cases_eq (a + 4 * word_count u) (CODE_START + 4 * length words)) [
        | inl last ↦
            let stop : u ≡ V.Stop = same_Some u V.Stop (sym (last_ends us p.units_from a u e (last ∙ placed.size)) ∙ sound.ends) in
            and_right (a + 4 * word_count u == CODE_START + 4 * length words) (not (is_stop u)) (ap (λ v. not (is_stop v)) stop)
        | inr other ↦ and_left (a + 4 * word_count u == CODE_START + 4 * length words) (not (is_stop u)) (ne_eqb _ _ other)
      ]

  end_holds : Holds p words the_graph R.End
  end_holds a =
      let some = some_code in
      let size = placed.size in
      or_from (holds_of (unit_at p words a) (is_bad_end words a)) ((a == p.units_from) && nat_le (CODE_START + 4 * length words) p.units_from)
      (elim (cases_Option (unit_in us p.units_from a)) [
        | inl none ↦ rw (unit a ∙ none) refl
        | inr (u, e) ↦ rw (unit a ∙ e) (end_unit a u e)
      ])
      (and_right (a == p.units_from) (nat_le (CODE_START + 4 * length words) p.units_from)
      (lt-leb (CODE_START + 4 * length words) p.units_from (omega arith)))

  pub rules_hold : (rule : Rule) → Holds p words the_graph rule
  rules_hold R.Prologue = placed.prologue
  rules_hold R.Unit = unit_holds
  rules_hold R.Leaf = leaf_holds
  rules_hold R.Target = target_holds
  rules_hold R.Unlisted = unlisted_holds
  rules_hold R.Unused = unused_holds
  rules_hold R.Site = site_holds
  rules_hold R.Gate = gate_holds
  rules_hold R.Astray = astray_holds
  rules_hold R.End = end_holds
