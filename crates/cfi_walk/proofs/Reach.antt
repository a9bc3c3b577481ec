-- Where in a code things stand.
use Rattle.std.proofs.Common.{◌≡◌, ℕ, ◌*◌, ◌-◌, ◌/◌, ◌^◌, ◌<◌, ◌≤◌, ◌⊎◌, inl, inr, List, length, drop, Option, Some, None, sym, ap, ◌∙◌, arith}
use Rattle.std.specs.Prelude.{◌==◌, ◌||◌, true, option_map}
use Rattle.std.proofs.lemmas.Bool.{eqb-true, or_cases}
use Rattle.cfi_walk.proofs.Prelude.{Contents, IsImageSize, CODE_START, Profile, Place, OPENING, recognised, BAD_TARGET, BAD_RETURN, DEEP, code_words, is_start, unit_at, is_handler, entry_of, place_at}
use Rattle.rv_word.proofs.Cases.{cases_Option, chosen}
use Rattle.rv_image.proofs.Profiles.{LaidOut}
use Rattle.cfi_unit.specs.declared.unit.Unit as U
use Rattle.cfi_unit.specs.declared.place.Place.TheVariants.{Handler as handler, Opening as opening, Closing as closing, Body as body}
use Rattle.cfi_rules.proofs.Bytes.{length-code_words}
use Rattle.cfi_verify.proofs.InUnits.{IsInUnits, start_within}

handler_lies : (a : ℕ) → is_handler a ≡ true → (CODE_START ≤ a) × (a < 2 ^ 32)
handler_lies a e =
    elim (or_cases (a == BAD_TARGET) (a == BAD_RETURN || a == DEEP) e) [
      | inl h ↦ let is = eqb-true a BAD_TARGET h in (omega arith, omega arith)
      | inr more ↦ elim (or_cases (a == BAD_RETURN) (a == DEEP) more) [
        | inl h ↦ let is = eqb-true a BAD_RETURN h in (omega arith, omega arith)
        | inr h ↦ let is = eqb-true a DEEP h in (omega arith, omega arith)
      ]
    ]

no_opening : (entry : Option ℕ) (u : U.Unit) → option_map opening entry ≡ Some (body u) → ⊥
no_opening None u e = absurd (cc)
no_opening (Some entry) u e = absurd (cc)

own_body : (o : Option U.Unit) (u : U.Unit) → option_map body o ≡ Some (body u) → o ≡ Some u
own_body None u e = absurd (cc)
own_body (Some w) u e = cc

module _ (p : Profile) (laid : LaidOut p) where
  pub unit_within : (words : List ℕ) (a : ℕ) (u : U.Unit) → unit_at p words a ≡ Some u → IsInUnits p words a
  unfolding unit_at
  unit_within words a u e =
      elim (chosen (is_start p words a) (recognised (drop ((a - CODE_START) / 4) words) a) None (Some u) e) [
        | inl found ↦ start_within p laid words a found.0
        | inr none ↦ absurd (cc)
      ]

  -- the four kinds of place, by their addresses
  abbrev Stands : List ℕ → ℕ → Type 0
  Stands words a = (is_handler a ≡ true) ⊎ ((a ≡ OPENING) ⊎ ((a ≡ p.closing) ⊎ ((u : U.Unit) × (unit_at p words a ≡ Some u))))

  body_stands : (words : List ℕ) (a : ℕ) (place : Place) → option_map body (unit_at p words a) ≡ Some place → (u : U.Unit) × (unit_at p words a ≡ Some u)
  body_stands words a place e =
      elim (cases_Option (unit_at p words a)) [
        | inl none ↦ let e' : None ≡ Some place = ap (option_map body) (sym none) ∙ e in absurd (cc)
        | inr found ↦ found
      ]

  stands : (words : List ℕ) (a : ℕ) (place : Place) → place_at p words a ≡ Some place → Stands words a
  unfolding place_at
  stands words a place e =
      elim (chosen (is_handler a) (Some handler) _ (Some place) e) [
        | inl h ↦ inl h.0
        | inr o ↦ elim (chosen (a == OPENING) (option_map opening (entry_of p words)) _ (Some place) o.1) [
          | inl h ↦ inr (inl (eqb-true a OPENING h.0))
          | inr c ↦ elim (chosen (a == p.closing) (Some closing) _ (Some place) c.1) [
            | inl h ↦ inr (inr (inl (eqb-true a p.closing h.0)))
            | inr b ↦ inr (inr (inr (body_stands words a place b.1)))
          ]
        ]
      ]

  -- a unit that stands starts there, from where units begin on
  pub body_unit : (words : List ℕ) (a : ℕ) (u : U.Unit) → place_at p words a ≡ Some (body u) → unit_at p words a ≡ Some u
  unfolding place_at
  body_unit words a u e =
      elim (chosen (is_handler a) (Some handler) _ (Some (body u)) e) [
        | inl h ↦ let k = h.1 in absurd (cc)
        | inr o ↦ elim (chosen (a == OPENING) (option_map opening (entry_of p words)) _ (Some (body u)) o.1) [
          | inl h ↦ absurd (no_opening (entry_of p words) u h.1)
          | inr c ↦ elim (chosen (a == p.closing) (Some closing) _ (Some (body u)) c.1) [
            | inl h ↦ let k = h.1 in absurd (cc)
            | inr b ↦ own_body (unit_at p words a) u b.1
          ]
        ]
      ]

  pub body_low : (words : List ℕ) (a : ℕ) (u : U.Unit) → place_at p words a ≡ Some (body u) → p.units_from ≤ a
  body_low words a u e = (unit_within words a u (body_unit words a u e)).low

  pub place_from : (words : List ℕ) (a : ℕ) (place : Place) → place_at p words a ≡ Some place → CODE_START ≤ a
  place_from words a place e =
      elim (stands words a place e) [
        | inl h ↦ (handler_lies a h).0
        | inr (inl is) ↦ omega arith
        | inr (inr (inl is)) ↦ omega arith
        | inr (inr (inr found)) ↦ let low = (unit_within words a found.0 found.1).low in omega arith
      ]

  place_low : (words : List ℕ) (a : ℕ) (place : Place) → 4 * length words ≤ 2 ^ 20 → place_at p words a ≡ Some place → a < 2 ^ 32
  place_low words a place room e =
      elim (stands words a place e) [
        | inl h ↦ (handler_lies a h).1
        | inr (inl is) ↦ omega arith
        | inr (inr (inl is)) ↦ omega arith
        | inr (inr (inr found)) ↦ let end = (unit_within words a found.0 found.1).end in omega arith
      ]

  -- what stands in an image's code stands below 2^32
  pub code_low : (image : Contents) (a : ℕ) (place : Place) → IsImageSize (length image.code) (length image.init) → place_at p (code_words image.code) a ≡ Some place → a < 2 ^ 32
  code_low image a place size e =
      let count : 4 * length (code_words image.code) ≡ length image.code = length-code_words image.code size.words in
      let most : length image.code ≤ 2 ^ 20 = size.most in
      place_low (code_words image.code) a place (omega arith) e
