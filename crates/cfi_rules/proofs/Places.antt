-- What stands at each address of a well-formed image's code, and what each rule says there.
use Rattle.std.proofs.Common.{◌≡◌, ℕ, ◌+◌, ◌-◌, ◌*◌, ◌/◌, ◌^◌, ◌≤◌, ◌<◌, ◌⊎◌, inl, inr, true, false, List, length, drop, refl, sym, ap, subst, ◌∙◌, Some, None, arith}
use Rattle.std.specs.Prelude.{nat_lt, ◌==◌, ◌&&◌, not, option_map}
use Rattle.std.proofs.lemmas.Bool.{cases_eq, eqb-true, eq-eqb, ne_eqb, ltb-false, or_parts}
use Rattle.std.proofs.lemmas.List.Elements.{All-drop}
use Rattle.rv_image.specs.Image.{Contents}
use Rattle.rv_image.specs.MemoryMap.{CODE_START, IsProfile, Profile}
use Rattle.rv_image.proofs.Profiles.{LaidOut, laid_out}
use Rattle.rv_word.proofs.Cases.{cases_Option, chosen}
use Rattle.cfi_graph.specs.Graph.{GraphParts}
use Rattle.cfi_unit.specs.declared.unit.Unit as U
use Rattle.cfi_unit.specs.declared.place.Place.{Place}
use Rattle.cfi_unit.specs.declared.place.Place.TheVariants.{Handler as handler, Opening as opening, Closing as closing, Body as body}
use Rattle.cfi_unit.specs.Place.{place_size}
use Rattle.cfi_unit.specs.Prologue.{OPENING}
use Rattle.cfi_unit.specs.UnitWords.{BAD_TARGET, BAD_RETURN, DEEP}
use Rattle.cfi_unit.specs.Recognise.{recognised}
use Rattle.cfi_rules.specs.Split.{code_words, unit_words, unit_starts, is_start, unit_at, entry_of, is_handler, place_at}
use Rattle.cfi_rules.specs.Lines.{holds_of}
use Rattle.cfi_rules.specs.Rules.{IsWellFormed, may_stand_at}
use Rattle.cfi_rules.specs.declared.reject.Rule.TheVariants as R
use Rattle.cfi_rules.specs.Laws.{AreBytes}
use Rattle.cfi_rules.proofs.Bytes.{are_words}
use Rattle.cfi_rules.proofs.Find.{IsWhole, UnitHere, unit_here, no_start_below, no_unit}
use Rattle.cfi_rules.proofs.Marks.{marks_room}
use Rattle.cfi_rules.proofs.Opening.{HasPrologue, prologue_stands}

-- handlers stand below the opening
pub not_handler : (a : ℕ) → DEEP < a → is_handler a ≡ false
not_handler a above = rw (ne_eqb a BAD_TARGET (λ e. omega arith), ne_eqb a BAD_RETURN (λ e. omega arith), ne_eqb a DEEP (λ e. omega arith)) refl

module _ (p : Profile) (profile : IsProfile p) (image : Contents) (graph : GraphParts) (bytes : AreBytes image) (formed : IsWellFormed p image graph) where
  laid : LaidOut p
  laid = laid_out p profile

  abbrev the_words : List ℕ
  the_words = code_words image.code

  -- the split reaches the code's end
  pub is_whole : IsWhole p the_words
  is_whole =
      let words = are_words image.code bytes.code in
      let marks = length (unit_starts p the_words) in
      let rule : (p.units_from + 4 * marks == p.units_from + 4 * marks) && nat_lt marks (length (unit_words p the_words)) ≡ false =
      (or_parts ((p.units_from + 4 * marks == p.units_from + 4 * marks) && nat_lt marks (length (unit_words p the_words)))
      (holds_of (unit_at p the_words (p.units_from + 4 * marks)) (λ (u : U.Unit). not (may_stand_at graph (p.units_from + 4 * marks) u))) (formed.rules R.Unit (p.units_from + 4 * marks))).0 in
      let enough : length (unit_words p the_words) ≤ marks =
      ltb-false marks (length (unit_words p the_words)) (rw (eq-eqb (p.units_from + 4 * marks) (p.units_from + 4 * marks) refl) at rule) in
      let most : marks ≤ length (unit_words p the_words) = marks_room (length (unit_words p the_words)) (unit_words p the_words) p.units_from (omega arith) (All-drop (λ x. x < 2 ^ 32) ((p.units_from - CODE_START) / 4) the_words words) in
      record { words_are = words; reached = omega arith }

  pub prologue : (entry : ℕ) × HasPrologue p image entry
  prologue = prologue_stands p profile image bytes (λ a. formed.rules R.Prologue a)

  pub the_entry : ℕ
  the_entry = prologue.0

  -- what is known where something starts
  abbrev pub PlaceFacts : Place → ℕ → Type 0
  PlaceFacts handler a = is_handler a ≡ true
  PlaceFacts (opening entry) a = (a ≡ OPENING) × HasPrologue p image entry
  PlaceFacts closing a = a ≡ p.closing
  PlaceFacts (body unit) a = UnitHere p the_words a unit

  -- a unit that is at an address starts there
  pub unit_facts : (a : ℕ) (u : U.Unit) → unit_at p the_words a ≡ Some u → UnitHere p the_words a u
  unfolding unit_at
  unit_facts a u e =
      elim (chosen (is_start p the_words a) (recognised (drop ((a - CODE_START) / 4) the_words) a) None (Some u) e) [
        | inl found ↦
            let here = unit_here p laid the_words is_whole a found.0 in
            let same : here.0 ≡ u = let is = here.1.is in let e' : unit_at p the_words a ≡ Some u = e in cc in
            subst (λ (v : U.Unit). UnitHere p the_words a v) same here.1
        | inr none ↦ absurd (cc)
      ]

  body_facts : (a : ℕ) (place : Place) → option_map body (unit_at p the_words a) ≡ Some place → PlaceFacts place a
  body_facts a place e =
      elim (cases_Option (unit_at p the_words a)) [
        | inl none ↦ let e' : None ≡ Some place = ap (option_map body) (sym none) ∙ e in absurd (cc)
        | inr (u, some) ↦
            let e' : Some (body u) ≡ Some place = ap (option_map body) (sym some) ∙ e in
            let same : body u ≡ place = cc in
            subst (λ (q : Place). PlaceFacts q a) same (unit_facts a u some)
      ]

  opening_facts : (a : ℕ) (place : Place) → a ≡ OPENING → option_map opening (entry_of p the_words) ≡ Some place → PlaceFacts place a
  opening_facts a place here e =
      let e' : Some (opening prologue.0) ≡ Some place = ap (option_map opening) (sym prologue.1.is) ∙ e in
      let same : opening prologue.0 ≡ place = cc in
      subst (λ (q : Place). PlaceFacts q a) same (here, prologue.1)

  pub place_facts : (a : ℕ) (place : Place) → place_at p the_words a ≡ Some place → PlaceFacts place a
  unfolding place_at
  place_facts a place e =
      elim (chosen (is_handler a) (Some handler) _ (Some place) e) [
        | inl h ↦ let same : handler ≡ place = let k = h.1 in cc in subst (λ (q : Place). PlaceFacts q a) same h.0
        | inr o ↦ elim (chosen (a == OPENING) (option_map opening (entry_of p the_words)) _ (Some place) o.1) [
          | inl h ↦ opening_facts a place (eqb-true a OPENING h.0) h.1
          | inr c ↦ elim (chosen (a == p.closing) (Some closing) _ (Some place) c.1) [
            | inl h ↦ let same : closing ≡ place = let k = h.1 in cc in subst (λ (q : Place). PlaceFacts q a) same (eqb-true a p.closing h.0)
            | inr b ↦ body_facts a place b.1
          ]
        ]
      ]

  -- from the first unit on, what stands is a unit or nothing
  pub at_unit : (a : ℕ) → p.units_from ≤ a → place_at p the_words a ≡ option_map body (unit_at p the_words a)
  unfolding place_at
  at_unit a from = let layout = laid in rw (not_handler a (omega arith), ne_eqb a OPENING (λ e. omega arith), ne_eqb a p.closing (λ e. omega arith)) refl

  pub at_start : (a : ℕ) → is_start p the_words a ≡ true → (u : U.Unit) × UnitHere p the_words a u × (place_at p the_words a ≡ Some (body u))
  at_start a start =
      let here = unit_here p laid the_words is_whole a start in
      (here.0, here.1, at_unit a here.1.low ∙ ap (option_map body) here.1.is)

  pub at_opening : place_at p the_words OPENING ≡ Some (opening prologue.0)
  unfolding place_at
  at_opening = ap (option_map opening) prologue.1.is

  pub at_closing : place_at p the_words p.closing ≡ Some closing
  unfolding place_at
  at_closing =
      let layout = laid in
      rw (not_handler p.closing (omega arith), ne_eqb p.closing OPENING (λ e. omega arith), eq-eqb p.closing p.closing refl) refl

  pub at_bad_target : place_at p the_words BAD_TARGET ≡ Some handler
  unfolding place_at
  at_bad_target = refl

  pub at_bad_return : place_at p the_words BAD_RETURN ≡ Some handler
  unfolding place_at
  at_bad_return = refl

  pub at_deep : place_at p the_words DEEP ≡ Some handler
  unfolding place_at
  at_deep = refl

  -- nothing starts below the first unit but the handlers, the opening and the closing
  nothing_below : (a : ℕ) → a < p.units_from → is_handler a ≡ false → (a ≡ OPENING → ⊥) → (a ≡ p.closing → ⊥) → place_at p the_words a ≡ None
  unfolding place_at
  nothing_below a below h o c =
      rw (h, ne_eqb a OPENING o, ne_eqb a p.closing c, no_unit p laid the_words a (no_start_below p laid the_words a below)) refl

  pub handler_is : (a : ℕ) → is_handler a ≡ true → (a ≡ BAD_TARGET) ⊎ ((a ≡ BAD_RETURN) ⊎ (a ≡ DEEP))
  handler_is a e =
      elim (cases_eq a BAD_TARGET) [
        | inl t ↦ inl t
        | inr not_target ↦
            elim (cases_eq a BAD_RETURN) [
              | inl r ↦ inr (inl r)
              | inr not_return ↦
                  inr (inr (eqb-true a DEEP (rw (ne_eqb a BAD_TARGET not_target, ne_eqb a BAD_RETURN not_return) at e)))
            ]
      ]

  inside_handler : (a b : ℕ) → (a ≡ BAD_TARGET) ⊎ ((a ≡ BAD_RETURN) ⊎ (a ≡ DEEP)) → a < b → b < a + 4 → place_at p the_words b ≡ None
  inside_handler a b (inl t) low high =
      let layout = laid in
      nothing_below b (omega arith) (rw (ne_eqb b BAD_TARGET (λ e. omega arith), ne_eqb b BAD_RETURN (λ e. omega arith), ne_eqb b DEEP (λ e. omega arith)) refl) (λ e. omega arith) (λ e. omega arith)
  inside_handler a b (inr (inl t)) low high =
      let layout = laid in
      nothing_below b (omega arith) (rw (ne_eqb b BAD_TARGET (λ e. omega arith), ne_eqb b BAD_RETURN (λ e. omega arith), ne_eqb b DEEP (λ e. omega arith)) refl) (λ e. omega arith) (λ e. omega arith)
  inside_handler a b (inr (inr t)) low high =
      let layout = laid in
      nothing_below b (omega arith) (rw (ne_eqb b BAD_TARGET (λ e. omega arith), ne_eqb b BAD_RETURN (λ e. omega arith), ne_eqb b DEEP (λ e. omega arith)) refl) (λ e. omega arith) (λ e. omega arith)

  -- nothing starts inside of what stands at an address
  pub nothing_inside : (place : Place) (a b : ℕ) → PlaceFacts place a → a < b → b < a + place_size p place → place_at p the_words b ≡ None
  nothing_inside handler a b facts low high = inside_handler a b (handler_is a facts) low high
  nothing_inside (opening entry) a b facts low high =
      let layout = laid in let here = facts.0 in nothing_below b (omega arith) (not_handler b (omega arith)) (λ e. omega arith) (λ e. omega arith)
  nothing_inside closing a b facts low high =
      let layout = laid in nothing_below b (omega arith) (not_handler b (omega arith)) (λ e. omega arith) (λ e. omega arith)
  nothing_inside (body unit) a b facts low high =
      let from = facts.low in
      at_unit b (omega arith) ∙ ap (option_map body) (no_unit p laid the_words b (facts.inner b low high))
