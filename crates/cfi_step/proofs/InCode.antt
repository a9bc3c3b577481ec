-- What stands at an address of an image that meets the rules lies in its code.
use Rattle.std.proofs.Common.{◌≡◌, ℕ, ◌+◌, ◌-◌, ◌*◌, ◌/◌, ◌≤◌, ◌<◌, inl, inr, true, false, List, length, Option, Some, None, refl, sym, ◌∙◌, arith}
use Rattle.std.specs.Prelude.{slice_get}
use Rattle.std.proofs.lemmas.Bool.{cases_lt}
use Rattle.std.proofs.lemmas.Option.{slice_get_within}
use Rattle.rv_image.specs.Image.{Contents}
use Rattle.rv_image.specs.MemoryMap.{CODE_START, IsProfile, Profile}
use Rattle.rv_image.proofs.Profiles.{LaidOut, laid_out}
use Rattle.cfi_graph.specs.Graph.{GraphParts}
use Rattle.cfi_unit.specs.declared.place.Place.{Place}
use Rattle.cfi_unit.specs.declared.place.Place.TheVariants.{Handler as handler, Opening as opening, Closing as closing, Body as body}
use Rattle.cfi_unit.specs.Place.{IsWordOf}
use Rattle.cfi_unit.specs.UnitWords.{DEEP}
use Rattle.cfi_rules.specs.Laws.{AreBytes}
use Rattle.cfi_rules.specs.Rules.{IsWellFormed, prologue_word_fits}
use Rattle.cfi_rules.specs.Split.{code_words, is_handler}
use Rattle.cfi_rules.specs.declared.reject.Rule.TheVariants as R
use Rattle.cfi_rules.proofs.Opening.{prologue_word}
use Rattle.cfi_rules.proofs.Places.{PlaceFacts, not_handler, place_facts}
use Rattle.cfi_step.specs.Starts.{LiesInCode}

fits_within : (p : Profile) (k : ℕ) (words : List ℕ) (o : Option ℕ) → slice_get words k ≡ o → prologue_word_fits p k o ≡ true → k < length words
fits_within p k words None at fits = absurd (cc)
fits_within p k words (Some w) at fits = slice_get_within words k w at

module _ (p : Profile) (profile : IsProfile p) (image : Contents) (graph : GraphParts) (bytes : AreBytes image) (formed : IsWellFormed p image graph) where
  abbrev words : List ℕ
  words = code_words image.code

  laid : LaidOut p
  laid = laid_out p profile

  -- the prologue's last word is one of the code
  prologue_end : p.units_from ≤ CODE_START + 4 * length words
  prologue_end =
      let low = laid.low in let round = laid.round in
      let last = (p.units_from - CODE_START) / 4 - 1 in
      let within : last < length words = fits_within p last words (slice_get words last) refl (prologue_word p laid words (λ a. formed.rules R.Prologue a) last (omega arith)) in
      omega arith

  handler_low : (a : ℕ) → is_handler a ≡ true → a ≤ DEEP
  handler_low a e = elim (cases_lt DEEP a) [
    | inl above ↦ absurd (let clash : true ≡ false = sym e ∙ not_handler a above in cc)
    | inr low ↦ omega arith
  ]

  word_in_code : (a pc : ℕ) (place : Place) → PlaceFacts p profile image graph bytes formed place a → IsWordOf p place a pc → pc < CODE_START + 4 * length words
  word_in_code a pc handler facts (k, less, is) = let low = handler_low a facts in let from = laid.low in let end = prologue_end in omega arith
  word_in_code a pc (opening entry) facts (k, less, is) = let here = facts.0 in let close = laid.closing in let end = prologue_end in omega arith
  word_in_code a pc closing facts (k, less, is) = let here : a ≡ p.closing = facts in let close = laid.closing in let end = prologue_end in omega arith
  word_in_code a pc (body unit) facts (k, less, is) = let high = facts.high in omega arith

  pub lies_in : LiesInCode p words
  lies_in a pc place there word = word_in_code a pc place (place_facts p profile image graph bytes formed a place there) word
