-- Where a rule can fail: at a word of the code, or at a place of the prologue or the first unit.
use Rattle.std.proofs.Common.{◌≡◌, ◌≢◌, ◌<◌, ◌≤◌, ℕ, ◌+◌, ◌-◌, ◌*◌, ◌/◌, ◌%◌, ◌==◌, ◌||◌, ◌&&◌, max, Bool, true, false, not, List, [], ◌∷◌, length, length-drop, Option, Some, None, refl, sym, ap, ◌∙◌, arith, inl, inr}
use Rattle.std.specs.Prelude.{option_map, option_and_then, is_some}
use Rattle.std.specs.List.{list_all, list_any}
use Rattle.std.proofs.lemmas.Bool.{and_parts, or_cases, cases_Bool, false_from_ne_true, leb-true, ltb-true, eqb-true, false≢true}
use Rattle.cfi_verify.proofs.Prelude.{CODE_START, Profile, START, GraphLine, Calls, Leaf, Class, Site, Edge, Call, GraphParts, IsGraph, is_code_address, line_in_range, Place, prologue_count, unit_starts, unit_words, is_start, unit_at, place_at, is_handler, holds_of, leaves_in, line_at, targets_for, fails, edge_of, call_of, site_of, goes_wrong, is_edge_to, is_call_to, is_site_with, is_unused, is_lone_site, is_astray, is_bad_end, lacks_end, may_call_to, may_go, may_stand_at, Asks, Rule}
use Rattle.rv_image.proofs.Profiles.{LaidOut}
use Rattle.cfi_unit.specs.declared.unit.Unit as U
use Rattle.cfi_rules.specs.declared.reject.Rule.TheVariants as R
use Rattle.cfi_verify.proofs.InUnits.{start_within}

-- a word of the code, or a place of the prologue or the first unit
pub record IsSpot (p : Profile) (words : List ℕ) (a : ℕ) : Type 0 where
  pub low : 0x40000000 ≤ a
  pub even : a % 4 ≡ 0
  pub high : (a - 0x40000000) / 4 < max (length words) (prologue_count p + 1)

there : {A : Type 0} (o : Option A) (F : Option A → Bool) → F None ≡ false → F o ≡ true → (x : A) × (o ≡ Some x)
there None F n e = absurd (false≢true (sym n ∙ e))
there (Some x) F n e = (x, refl)

pub line_in : (len : ℕ) (lines : List GraphLine) (a : ℕ) (line : GraphLine) → list_all (line_in_range len) lines ≡ true → line_at lines a ≡ Some line → is_code_address len a ≡ true
unfolding line_at
line_in len [] a line r e = absurd (false≢true (ap is_some e))
line_in len (Calls numbers ∷ lines) a line r e = line_in len lines a line (and_parts _ _ r).1 e
line_in len (Leaf from to ∷ lines) a line r e = line_in len lines a line (and_parts _ _ r).1 e
line_in len (Class sort label targets ∷ lines) a line r e = line_in len lines a line (and_parts _ _ r).1 e
line_in len (Site address kind label ∷ lines) a line r e =
    elim (cases_Bool (address == a)) [
      | inl s ↦ ap (is_code_address len) (sym (eqb-true address a s)) ∙ (and_parts _ _ (and_parts _ _ r).0).0
      | inr s ↦ line_in len lines a line (and_parts _ _ r).1 (rw s at e)
    ]
line_in len (Edge from to ∷ lines) a line r e =
    elim (cases_Bool (from == a)) [
      | inl s ↦ ap (is_code_address len) (sym (eqb-true from a s)) ∙ (and_parts _ _ (and_parts _ _ r).0).0
      | inr s ↦ line_in len lines a line (and_parts _ _ r).1 (rw s at e)
    ]
line_in len (Call from to ∷ lines) a line r e =
    elim (cases_Bool (from == a)) [
      | inl s ↦ ap (is_code_address len) (sym (eqb-true from a s)) ∙ (and_parts _ _ (and_parts _ _ r).0).0
      | inr s ↦ line_in len lines a line (and_parts _ _ r).1 (rw s at e)
    ]

-- a leaf that lacks an end begins in the code
end_in : (p : Profile) (words : List ℕ) (len : ℕ) (lines : List GraphLine) (a : ℕ) → list_all (line_in_range len) lines ≡ true → list_any (lacks_end p words a) lines ≡ true → is_code_address len a ≡ true
end_in p words len [] a r e = absurd (false≢true e)
end_in p words len (Leaf from to ∷ lines) a r e =
    let parts = and_parts (line_in_range len (Leaf from to)) _ r in
    elim (or_cases (lacks_end p words a (Leaf from to)) _ e) [
      | inl here ↦ ap (is_code_address len) (sym (eqb-true from a (and_parts (from == a) _ here).0)) ∙ (and_parts (is_code_address len from) _ parts.0).0
      | inr later ↦ end_in p words len lines a parts.1 later
    ]
end_in p words len (Calls numbers ∷ lines) a r e = end_in p words len lines a (and_parts (line_in_range len (Calls numbers)) _ r).1 e
end_in p words len (Class sort label targets ∷ lines) a r e = end_in p words len lines a (and_parts (line_in_range len (Class sort label targets)) _ r).1 e
end_in p words len (Site address kind label ∷ lines) a r e = end_in p words len lines a (and_parts (line_in_range len (Site address kind label)) _ r).1 e
end_in p words len (Edge from to ∷ lines) a r e = end_in p words len lines a (and_parts (line_in_range len (Edge from to)) _ r).1 e
end_in p words len (Call from to ∷ lines) a r e = end_in p words len lines a (and_parts (line_in_range len (Call from to)) _ r).1 e

module _ (p : Profile) (laid : LaidOut p) where
  spot_at : (words : List ℕ) (a k : ℕ) → a ≡ 0x40000000 + 4 * k → k < max (length words) (prologue_count p + 1) → IsSpot p words a
  spot_at words a k e h = record { low = omega arith; even = omega arith; high = omega arith }

  unit_spot : (words : List ℕ) (a : ℕ) (unit : U.Unit) → unit_at p words a ≡ Some unit → IsSpot p words a
  unfolding unit_at
  unit_spot words a unit e =
      elim (cases_Bool (is_start p words a)) [
        | inl s ↦ let within = start_within p laid words a s in record { low = omega arith; even = within.even; high = omega arith }
        | inr s ↦ absurd (false≢true (ap is_some (rw s at e)))
      ]

  body_spot : (words : List ℕ) (a : ℕ) (place : Place) (make : U.Unit → Place) (unit : Option U.Unit) → unit_at p words a ≡ unit → option_map make unit ≡ Some place → IsSpot p words a
  body_spot words a place make None u e = absurd (false≢true (ap is_some e))
  body_spot words a place make (Some unit) u e = unit_spot words a unit u

  handler_spot : (words : List ℕ) (a : ℕ) → is_handler a ≡ true → IsSpot p words a
  handler_spot words a h =
      elim (or_cases _ _ h) [
        | inl first ↦ spot_at words a 0 (eqb-true a _ first) (omega arith)
        | inr others ↦ elim (or_cases _ _ others) [
          | inl second ↦ spot_at words a 1 (eqb-true a _ second) (omega arith)
          | inr third ↦ spot_at words a 2 (eqb-true a _ third) (omega arith)
        ]
      ]

  place_spot : (words : List ℕ) (a : ℕ) (place : Place) → place_at p words a ≡ Some place → IsSpot p words a
  unfolding place_at
  place_spot words a place e =
      elim (cases_Bool (is_handler a)) [
        | inl h ↦ handler_spot words a h
        | inr h ↦ elim (cases_Bool (a == START)) [
          | inl o ↦ spot_at words a 3 (eqb-true a _ o) (omega arith)
          | inr o ↦ elim (cases_Bool (a == p.closing)) [
            | inl c ↦ let at : a ≡ p.closing = eqb-true a _ c in spot_at words a ((p.closing - CODE_START) / 4) (omega arith) (omega arith)
            | inr c ↦ body_spot words a place _ (unit_at p words a) refl (rw (h, o, c) at e)
          ]
        ]
      ]

  code_spot : (words : List ℕ) (graph : GraphParts) (a : ℕ) → graph.code ≡ 4 * length words → is_code_address graph.code a ≡ true → IsSpot p words a
  code_spot words graph a len e =
      let within = and_parts _ _ e in
      let front = and_parts _ _ within.0 in
      let even : a % 4 ≡ 0 = eqb-true _ _ front.0 in
      let low : 0x40000000 ≤ a = leb-true _ _ front.1 in
      let high : a < 0x40000000 + graph.code = ltb-true _ _ within.1 in
      record { low = low; even = even; high = omega arith }

  line_spot : (words : List ℕ) (graph : GraphParts) (a : ℕ) (line : GraphLine) → IsGraph graph → graph.code ≡ 4 * length words → line_at graph.lines a ≡ Some line → IsSpot p words a
  line_spot words graph a line g len e = code_spot words graph a len (line_in graph.code graph.lines a line g.range e)

  pub fails_spot : (rule : Rule) (words : List ℕ) (graph : GraphParts) (a : ℕ) → rule ≢ R.Gate → IsGraph graph → graph.code ≡ 4 * length words → fails rule p words graph a ≡ true → IsSpot p words a
  fails_spot R.Prologue words graph a n g len e =
      let front = and_parts _ _ (and_parts _ _ e).0 in
      let bounds = and_parts _ _ front.0 in
      let low : 0x40000000 ≤ a = leb-true _ _ bounds.0 in
      let high : a + 4 ≤ CODE_START + (p.units_from - CODE_START) = leb-true _ _ bounds.1 in
      let even : a % 4 ≡ 0 = eqb-true _ _ front.1 in
      record { low = low; even = even; high = omega arith }
  fails_spot R.Unit words graph a n g len e =
      elim (or_cases _ _ e) [
        | inl ends ↦
            let parts = and_parts _ _ ends in
            let at : a ≡ p.units_from + 4 * length (unit_starts p words) = eqb-true _ _ parts.0 in
            let inside : length (unit_starts p words) < length (unit_words p words) = ltb-true _ _ parts.1 in
            let left : length (unit_words p words) ≡ length words - prologue_count p = length-drop (prologue_count p) words in
            spot_at words a (prologue_count p + length (unit_starts p words)) (omega arith) (omega arith)
        | inr other ↦
            let unit = there (unit_at p words a) (λ unit. holds_of unit (λ u. not (may_stand_at graph a u))) refl other in
            unit_spot words a unit.0 unit.1
      ]
  fails_spot R.Leaf words graph a n g len e =
      elim (or_cases _ _ e) [
        | inl ends ↦ code_spot words graph a len (end_in p words graph.code graph.lines a g.range ends)
        | inr wrong ↦
            let unit = there (unit_at p words a) (λ unit. holds_of unit (goes_wrong p words (leaves_in graph.lines) a)) refl wrong in
            unit_spot words a unit.0 unit.1
      ]
  fails_spot R.Target words graph a n g len e =
      let place = there (place_at p words a) (λ place. holds_of (option_and_then edge_of place) (λ target. not (may_go p words (leaves_in graph.lines) a target)) || holds_of (option_and_then call_of place) (λ target. not (may_call_to p.callee_saves p words (leaves_in graph.lines) a target))) refl e in
      place_spot words a place.0 place.1
  fails_spot R.Unlisted words graph a n g len e =
      let place = there (place_at p words a) (λ place. holds_of (option_and_then edge_of place) (λ target. not (is_edge_to (line_at graph.lines a) target)) || holds_of (option_and_then call_of place) (λ target. not (is_call_to (line_at graph.lines a) target))) refl e in
      place_spot words a place.0 place.1
  fails_spot R.Unused words graph a n g len e =
      let line = there (line_at graph.lines a) (λ line. holds_of line (is_unused (place_at p words a))) refl e in
      line_spot words graph a line.0 g len line.1
  fails_spot R.Site words graph a n g len e =
      elim (or_cases _ _ e) [
        | inl without ↦
            let place = there (place_at p words a) (λ place. holds_of (option_and_then site_of place) (λ (asked : Asks). not (is_site_with (line_at graph.lines a) asked && is_some (targets_for graph.lines asked.kind asked.which asked.label)))) refl without in
            place_spot words a place.0 place.1
        | inr lone ↦
            let line = there (line_at graph.lines a) (λ line. holds_of line (is_lone_site (place_at p words a))) refl lone in
            line_spot words graph a line.0 g len line.1
      ]
  fails_spot R.Gate words graph a n g len e = absurd (n refl)
  fails_spot R.Astray words graph a n g len e =
      let unit = there (unit_at p words a) (λ unit. holds_of unit (is_astray graph a)) refl e in
      unit_spot words a unit.0 unit.1
  fails_spot R.End words graph a n g len e =
      elim (or_cases _ _ e) [
        | inl bad ↦
            let unit = there (unit_at p words a) (λ unit. holds_of unit (is_bad_end words a)) refl bad in
            unit_spot words a unit.0 unit.1
        | inr none ↦ let at : a ≡ p.units_from = eqb-true a _ (and_parts _ _ none).0 in spot_at words a (prologue_count p) (omega arith) (omega arith)
      ]

  -- a rule that fails at no place before this one fails at no address before it
  pub none_before : (rule : Rule) (words : List ℕ) (graph : GraphParts) (k : ℕ) → rule ≢ R.Gate → IsGraph graph → graph.code ≡ 4 * length words → ((j : ℕ) → j < k → fails rule p words graph (0x40000000 + 4 * j) ≡ false) → (b : ℕ) → b < 0x40000000 + 4 * k → fails rule p words graph b ≡ false
  none_before rule words graph k n g len none b below =
      false_from_ne_true _ (λ e.
      let spot = fails_spot rule words graph b n g len e in
      let low = spot.low in
      let even = spot.even in
      let at : 0x40000000 + 4 * ((b - 0x40000000) / 4) ≡ b = omega arith in
      let clear = none ((b - 0x40000000) / 4) (omega arith) in
      false≢true (sym clear ∙ ap (fails rule p words graph) at ∙ e))

  -- one that fails at no place fails nowhere
  pub none_anywhere : (rule : Rule) (words : List ℕ) (graph : GraphParts) (k : ℕ) → max (length words) (prologue_count p + 1) ≤ k → rule ≢ R.Gate → IsGraph graph → graph.code ≡ 4 * length words → ((j : ℕ) → j < k → fails rule p words graph (0x40000000 + 4 * j) ≡ false) → (b : ℕ) → fails rule p words graph b ≡ false
  none_anywhere rule words graph k all n g len none b =
      false_from_ne_true _ (λ e.
      let spot = fails_spot rule words graph b n g len e in
      let low = spot.low in
      let even = spot.even in
      let high = spot.high in
      let at : 0x40000000 + 4 * ((b - 0x40000000) / 4) ≡ b = omega arith in
      let clear = none ((b - 0x40000000) / 4) (omega arith) in
      false≢true (sym clear ∙ ap (fails rule p words graph) at ∙ e))
