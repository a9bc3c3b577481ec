-- Whole numbers that are no offsets are no places.
use Rattle.std.proofs.Common.{◌≡◌, ◌==◌, ℕ, pos, negsuc, ◌/◌, ◌%◌, ◌<◌, ◌≤◌, ◌^◌, nat_lt, ℤ, Bool, true, false, not, ◌&&◌, Some, None, inl, inr, refl, sym, arith}
use Rattle.std.proofs.lemmas.Bool.{cases_lt, and_parts, or_cases, ltb-true, eqb-true, lt-ltb, false_from_ne_true}
use Rattle.std.proofs.lemmas.List.{get_or_past}
use Rattle.obj_input.specs.Input.{InputParts, SectionParts, is_code, no_section, section_count, section_of}
use Rattle.obj_input.specs.Code.{at_whole, natural, is_start, is_place, starts_at, is_inside, word_count}

pub start_parts : (s : SectionParts) (at : ℕ) → is_start s at ≡ true → (is_code s ≡ true) × (at / 4 < word_count s)
unfolding is_start
start_parts s at e =
    let parts = and_parts (is_code s && at % 4 == 0) (starts_at s (at / 4)) e in
    ((and_parts (is_code s) (at % 4 == 0) parts.0).0, ltb-true _ _ (and_parts (nat_lt (at / 4) (word_count s)) (not (is_inside s (at / 4))) parts.1).0)

pub start_inside : (s : SectionParts) (at : ℕ) → is_start s at ≡ true → at < s.size
start_inside s at e = let below : at / 4 < s.size / 4 = (start_parts s at e).1 in omega arith

pub place_inside : (s : SectionParts) (at : ℕ) → is_place s at ≡ true → at ≤ s.size
place_inside s at e = elim (or_cases (is_start s at) (is_code s && at == s.size) e) [
  | inl start ↦ let below = start_inside s at start in omega arith
  | inr end ↦ let same : at ≡ s.size = eqb-true _ _ (and_parts (is_code s) (at == s.size) end).1 in omega arith
]

module _ (test : ℕ → Bool) (inside : (n : ℕ) → test n ≡ true → n < 2 ^ 64) where
  pub past_offsets : (z : ℤ) → natural z ≡ None → false ≡ at_whole test z
  past_offsets (negsuc n) none = refl
  past_offsets (pos n) none = elim (cases_lt n (2 ^ 64)) [
    | inl below ↦ let no : Some n ≡ None = rw (lt-ltb n (2 ^ 64) below) at none in absurd (cc)
    | inr past ↦ sym (false_from_ne_true (test n) (λ holds. let below = inside n holds in absurd (omega arith)))
  ]

-- no section has no places
pub no_start : (z : ℤ) → at_whole (is_start no_section) z ≡ false
unfolding is_start
no_start (pos n) = refl
no_start (negsuc n) = refl

pub no_place : (z : ℤ) → at_whole (is_place no_section) z ≡ false
unfolding is_start
no_place (pos n) = refl
no_place (negsuc n) = refl

pub past_sections : (input : InputParts) (k : ℕ) → section_count input ≤ k → section_of input k ≡ no_section
past_sections input k past = get_or_past input.sections k no_section past
