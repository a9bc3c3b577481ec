-- What stands at each place does stand, and a word with a class's label stands only at the class's
-- targets.
use Rattle.std.proofs.Common.{◌≡◌, ℕ, true, ◌+◌, ◌-◌, ◌*◌, ◌/◌, ◌%◌, ◌^◌, ◌≤◌, ◌<◌, ◌⊎◌, inl, inr, List, [], length, refl, sym, ap, subst, ◌∙◌, Some, arith}
use Rattle.std.specs.Prelude.{nat_le}
use Rattle.std.proofs.lemmas.Bool.{and_parts, cases_lt}
use Rattle.std.proofs.lemmas.Option.{slice_get_cases}
use Rattle.rv_image.specs.Image.{Contents, loaded}
use Rattle.rv_image.specs.MemoryMap.{CODE_START, IsFullProfile, IsProfile, Profile}
use Rattle.rv_image.proofs.Profiles.{full_low, laid_out}
use Rattle.rv_word.specs.Memory.{read}
use Rattle.rv_code.specs.Decode.{decoded}
use Rattle.cfi_graph.specs.declared.line.SiteKind.{SiteKind}
use Rattle.cfi_graph.specs.Graph.{GraphParts}
use Rattle.cfi_unit.specs.declared.target_word.TargetWord.{TargetWord}
use Rattle.cfi_unit.specs.declared.target_word.TargetWord.TheVariants.{First, Second, Third}
use Rattle.cfi_unit.specs.declared.unit.Unit.TheVariants as V
use Rattle.cfi_unit.specs.Leads.{HasLabel}
use Rattle.cfi_unit.specs.declared.place.Place.{Place}
use Rattle.cfi_unit.specs.declared.place.Place.TheVariants.{Handler as handler, Opening as opening, Closing as closing, Body as body}
use Rattle.cfi_unit.specs.Place.{place_instrs, place_size}
use Rattle.cfi_unit.specs.Prologue.{OPENING, call_at, handler_instrs, opening_instrs}
use Rattle.cfi_unit.specs.Stand.{Stand}
use Rattle.cfi_unit.specs.UnitLaw.{MayStand}
use Rattle.cfi_unit.specs.UnitWords.{BAD_TARGET, BAD_RETURN, DEEP, Fits, Reaches, gate, past}
use Rattle.cfi_unit.proofs.Gates.{gate_word, label_is_gate}
use Rattle.cfi_unit.proofs.Parts.{opening_length}
use Rattle.cfi_unit.proofs.PrologueUnits.{PrologueStands, prologue_stands}
use Rattle.cfi_unit.proofs.Sought.{nowhere, opening_lacks}
use Rattle.cfi_rules.specs.Lines.{holds_of, is_among, is_word_of, targets_for}
use Rattle.cfi_rules.specs.Rules.{IsWellFormed}
use Rattle.cfi_rules.specs.Split.{code_words, unit_at}
use Rattle.cfi_rules.specs.Walk.{InClass}
use Rattle.cfi_rules.specs.Laws.{AreBytes}
use Rattle.cfi_rules.proofs.Bytes.{loaded_past, length-code_words}
use Rattle.cfi_rules.proofs.Find.{unit_around}
use Rattle.cfi_rules.proofs.Places.{PlaceFacts, prologue, is_whole, handler_is}
use Rattle.cfi_rules.proofs.RuleFacts.{gate_listed}
use Rattle.cfi_rules.proofs.Served.{read_by}
use Rattle.cfi_rules.proofs.Standing.{unit_stands}

-- where callers save sites, the opening's call reaches the handler of full shadow stacks, and what it reaches from its jump
deep_reached : (p : Profile) → IsFullProfile p → Reaches (call_at p + 8) DEEP
deep_reached p (inl e) = subst (λ (q : Profile). Reaches (call_at q + 8) DEEP) (sym e) refl
deep_reached p (inr e) = subst (λ (q : Profile). Reaches (call_at q + 8) DEEP) (sym e) refl

-- where the opening's jump reaches the entry, its call as a unit may stand
pub call_fits : (p : Profile) → IsFullProfile p → (entry : ℕ) → Reaches p.opening_call entry → Fits (V.Call entry) (call_at p)
call_fits p full entry reaches =
    let laid = laid_out p (inl full) in
    let low = full_low p full in
    let jump : call_at p + 28 ≡ p.opening_call = omega arith in
    (deep_reached p full, subst (λ (a : ℕ). Reaches a entry) (sym jump) reaches)

-- the word of an address that a check reads, and the address that it is the word of
word_round : (which : TargetWord) (v : ℕ) → v % 4 ≡ 0 → (v + past which) % 4 ≡ 0
word_round First v round = omega arith
word_round Second v round = omega arith
word_round Third v round = omega arith

word_among : (which : TargetWord) (v : ℕ) (ts : List ℕ) → is_word_of which (v + past which) ts ≡ true → is_among v ts ≡ true
word_among First v ts word = subst (λ (a : ℕ). is_among a ts ≡ true) (let same : v + 0 ≡ v = omega arith in same) word
word_among Second v ts word =
    subst (λ (a : ℕ). is_among a ts ≡ true) (let same : v + 4 - 4 ≡ v = omega arith in same)
    (and_parts (nat_le 4 (v + 4)) (is_among (v + 4 - 4) ts) word).1
word_among Third v ts word =
    subst (λ (a : ℕ). is_among a ts ≡ true) (let same : v + 8 - 8 ≡ v = omega arith in same)
    (and_parts (nat_le 8 (v + 8)) (is_among (v + 8 - 8) ts) word).1

module _ (p : Profile) (profile : IsProfile p) (image : Contents) (graph : GraphParts) (bytes : AreBytes image) (formed : IsWellFormed p image graph) where
  the_prologue : PrologueStands p (loaded image) (prologue p profile image graph bytes formed).0
  the_prologue = prologue_stands p profile (loaded image) (prologue p profile image graph bytes formed).0 (prologue p profile image graph bytes formed).1.stands

  handler_stands : (a : ℕ) → (a ≡ BAD_TARGET) ⊎ ((a ≡ BAD_RETURN) ⊎ (a ≡ DEEP)) → Stand (loaded image) a handler_instrs
  handler_stands a (inl e) = subst (λ (x : ℕ). Stand (loaded image) x handler_instrs) (sym e) the_prologue.bad_target
  handler_stands a (inr (inl e)) = subst (λ (x : ℕ). Stand (loaded image) x handler_instrs) (sym e) the_prologue.bad_return
  handler_stands a (inr (inr e)) = subst (λ (x : ℕ). Stand (loaded image) x handler_instrs) (sym e) the_prologue.deep

  -- what stands at a place stands in the loaded image
  pub place_stands : (place : Place) (a : ℕ) → PlaceFacts p profile image graph bytes formed place a → Stand (loaded image) a (place_instrs p place a)
  place_stands handler a facts = handler_stands a (handler_is p profile image graph bytes formed a facts)
  place_stands (opening entry) a facts =
      let stand = (prologue_stands p profile (loaded image) entry facts.1.stands).opening in
      subst (λ (x : ℕ). Stand (loaded image) x (place_instrs p (opening entry) x)) (sym facts.0) stand
  place_stands closing a facts = subst (λ (x : ℕ). Stand (loaded image) x (place_instrs p closing x)) (sym facts) the_prologue.closing
  place_stands (body unit) a facts = unit_stands p (laid_out p profile) image bytes a unit facts

  -- and may stand there; the opening, where callers save sites, has nothing pending
  pub full_may_stand : IsFullProfile p → (entry at : ℕ) → PlaceFacts p profile image graph bytes formed (opening entry) at → MayStand p (opening entry) at []
  full_may_stand full entry at facts = (full, facts.0, refl, call_fits p full entry facts.1.reaches)

  -- the word of `lui x0,label` stands at an address from the start of code on
  record IsLabelAt (label v : ℕ) : Type 0 where
    round : v % 4 ≡ 0
    low : CODE_START ≤ v
    word : read 4 (loaded image) v ≡ label * 4096 + 55

  -- no word of what stands before the first unit bears a label
  in_place : (place : Place) (a label v : ℕ) → PlaceFacts p profile image graph bytes formed place a → MayStand p place a [] → label < 2 ^ 20 → IsLabelAt label v →
      a ≤ v → v < a + place_size p place → (place ≡ body (V.Gate label)) × (v ≡ a)
  in_place place a label v facts may low has from to =
      label_is_gate p (loaded image) [] place a label v may (place_stands place a facts) low has.round has.word from to

  in_opening : (label v : ℕ) → label < 2 ^ 20 → IsLabelAt label v → OPENING ≤ v → v < p.closing → ⊥
  in_opening label v low has from to =
      let entry = (prologue p profile image graph bytes formed).0 in
      let whole = opening_length p profile entry in
      let round = has.round in
      let here : v ≡ OPENING + 4 * ((v - OPENING) / 4) = omega arith in
      let gate_here : decoded (read 4 (loaded image) (OPENING + 4 * ((v - OPENING) / 4))) ≡ Some (gate label) =
      gate_word _ label low (ap (read 4 (loaded image)) (sym here) ∙ has.word) in
      elim (slice_get_cases (opening_instrs p entry) ((v - OPENING) / 4)).1 [
        | inl found ↦
            let word = the_prologue.opening.words ((v - OPENING) / 4) found.0 found.2 in
            let same : found.0 ≡ gate label = cc in
            nowhere true (opening_instrs p entry) ((v - OPENING) / 4) (gate label) refl (opening_lacks true p profile entry) (found.2 ∙ ap Some same)
        | inr past ↦ let beyond = past.0 in absurd (omega arith)
      ]

  not_before : (label v : ℕ) → label < 2 ^ 20 → IsLabelAt label v → v < p.units_from → ⊥
  not_before label v low has below =
      let layout = laid_out p profile in
      let code = has.low in
      elim (cases_lt v BAD_RETURN) [
        | inl a ↦ let e = (in_place handler BAD_TARGET label v refl tt low has (omega arith) (omega arith)).0 in cc
        | inr a ↦ elim (cases_lt v DEEP) [
          | inl b ↦ let e = (in_place handler BAD_RETURN label v refl tt low has (omega arith) (omega arith)).0 in cc
          | inr b ↦ elim (cases_lt v OPENING) [
            | inl c ↦ let e = (in_place handler DEEP label v refl tt low has (omega arith) (omega arith)).0 in cc
            | inr c ↦ elim (cases_lt v p.closing) [
              | inl d ↦ in_opening label v low has (omega arith) d
              | inr d ↦ let e = (in_place closing p.closing label v refl tt low has (omega arith) (omega arith)).0 in cc
            ]
          ]
        ]
      ]

  zero_past : (v : ℕ) → CODE_START + length image.code ≤ v → loaded image v ≡ 0
  zero_past v past =
      ap (loaded image) (let z : v ≡ CODE_START + (v - CODE_START) = omega arith in z) ∙ loaded_past image bytes.size (v - CODE_START) (omega arith)

  -- a label's word stands in code only as the gate of the label
  gate_there : (label v : ℕ) → label < 2 ^ 20 → IsLabelAt label v → unit_at p (code_words image.code) v ≡ Some (V.Gate label)
  gate_there label v low has =
      let whole = length-code_words image.code bytes.size.words in
      elim (cases_lt v (CODE_START + 4 * length (code_words image.code))) [
        | inl inside ↦ elim (cases_lt v p.units_from) [
          | inl below ↦ absurd (not_before label v low has below)
          | inr from ↦
              let around = unit_around p (laid_out p profile) (code_words image.code) (is_whole p profile image graph bytes formed) v from inside in
              let unit = around.1 in let s = around.0 in let place = around.2 in
              let found = in_place (body unit) s label v place.here (place.here.begins.fits, tt) low has place.from place.below in
              let gate : unit ≡ V.Gate label = let same = found.0 in cc in
              ap (unit_at p (code_words image.code)) found.1 ∙ place.here.is ∙ ap Some gate
        ]
        | inr past ↦
            let z0 = zero_past v (omega arith) in let z1 = zero_past (v + 1) (omega arith) in
            let z2 = zero_past (v + 1 + 1) (omega arith) in let z3 = zero_past (v + 1 + 1 + 1) (omega arith) in
            let word = has.word in absurd (omega arith)
      ]

  -- an address whose word that a transfer's check reads bears its label is a target of the class
  pub label_in_class : (kind : SiteKind) (which : TargetWord) (label v : ℕ) (ts : List ℕ) → which ≡ read_by graph.version kind → label < 2 ^ 20 →
      targets_for graph.lines kind which label ≡ Some ts → HasLabel (loaded image) which label v → InClass graph.lines kind which label v
  label_in_class kind which label v ts reads low class has =
      let code = has.low in
      let is = gate_there label (v + past which) low (record { round = word_round which v has.round; low = omega arith; word = has.word }) in
      ap (λ o. holds_of o (is_among v)) class ∙ word_among which v ts (gate_listed p image graph formed kind which (v + past which) label ts reads is class)
