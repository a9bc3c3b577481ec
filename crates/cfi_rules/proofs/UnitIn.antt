-- Which unit of a list stands at an address, and where it lies.
use Rattle.std.proofs.Common.{◌≡◌, ◌≢◌, ℕ, ◌+◌, ◌*◌, ◌%◌, ◌≤◌, ◌<◌, inl, inr, List, [], ◌∷◌, ◌++◌, length, length-append, map, refl, sym, ap, subst, ◌∙◌, Some, None, arith}
use Rattle.std.proofs.lemmas.Bool.{cases_eq, eq-eqb, ne_eqb}
use Rattle.std.proofs.lemmas.Option.{same_Some}
use Rattle.rv_image.specs.MemoryMap.{CODE_START, IsProfile, Profile}
use Rattle.rv_code.specs.Encode.{code_of}
use Rattle.cfi_unit.specs.declared.unit.Unit as U
use Rattle.cfi_unit.specs.Prologue.{prologue_instrs}
use Rattle.cfi_unit.specs.UnitWords.{word_count, words_of}
use Rattle.cfi_unit.proofs.UnitInList.{words_counted}
use Rattle.cfi_rules.specs.Placed.{code_from, placed_code}
use Rattle.cfi_rules.specs.Split.{unit_in}
use Rattle.cfi_unit.proofs.Counts.{some_word}

pub in_here : (u : U.Unit) (us : List U.Unit) (at : ℕ) → unit_in (u ∷ us) at at ≡ Some u
unfolding unit_in
in_here u us at = rw (eq-eqb at at refl) refl

pub in_later : (u : U.Unit) (us : List U.Unit) (at a : ℕ) → a ≢ at → unit_in (u ∷ us) at a ≡ unit_in us (at + 4 * word_count u) a
unfolding unit_in
in_later u us at a other = rw (ne_eqb a at other) refl

-- no unit starts before the first
pub in_none : (us : List U.Unit) (at a : ℕ) → a < at → unit_in us at a ≡ None
unfolding unit_in
in_none [] at a below = refl
in_none (u ∷ us) at a below = in_later u us at a (λ e. omega arith) ∙ in_none us (at + 4 * word_count u) a (omega arith)

-- a unit that starts at an address lies within the words of the list, at a distance of whole words
pub record Lies (us : List U.Unit) (at a : ℕ) (u : U.Unit) : Type 0 where
  pub from : at ≤ a
  pub to : a + 4 * word_count u ≤ at + 4 * length (code_from at us)
  pub round : a % 4 ≡ at % 4

pub length-code_from : (u : U.Unit) (us : List U.Unit) (at : ℕ) → length (code_from at (u ∷ us)) ≡ word_count u + length (code_from (at + 4 * word_count u) us)
unfolding code_from
length-code_from u us at =
    length-append (words_of u at) (code_from (at + 4 * word_count u) us)
    ∙ ap (λ n. n + length (code_from (at + 4 * word_count u) us)) (words_counted u at)

-- the prologue reaches to the first unit
pub prologue_counted : (p : Profile) → IsProfile p → (entry : ℕ) → CODE_START + 4 * length (map code_of (prologue_instrs p entry)) ≡ p.units_from
prologue_counted p (inl (inl e)) entry = subst (λ (q : Profile). CODE_START + 4 * length (map code_of (prologue_instrs q entry)) ≡ q.units_from) (sym e) refl
prologue_counted p (inl (inr e)) entry = subst (λ (q : Profile). CODE_START + 4 * length (map code_of (prologue_instrs q entry)) ≡ q.units_from) (sym e) refl
prologue_counted p (inr (inl e)) entry = subst (λ (q : Profile). CODE_START + 4 * length (map code_of (prologue_instrs q entry)) ≡ q.units_from) (sym e) refl
prologue_counted p (inr (inr e)) entry = subst (λ (q : Profile). CODE_START + 4 * length (map code_of (prologue_instrs q entry)) ≡ q.units_from) (sym e) refl

both_counted : (front back : List ℕ) (from : ℕ) → CODE_START + 4 * length front ≡ from → CODE_START + 4 * length (front ++ back) ≡ from + 4 * length back
both_counted front back from e = let whole = length-append front back in omega (arith, e, whole)

pub length-placed_code : (p : Profile) → IsProfile p → (entry : ℕ) (us : List U.Unit) → CODE_START + 4 * length (placed_code p entry us) ≡ p.units_from + 4 * length (code_from p.units_from us)
length-placed_code p profile entry us =
    both_counted (map code_of (prologue_instrs p entry)) (code_from p.units_from us) p.units_from (prologue_counted p profile entry)

pub lies : (us : List U.Unit) (at a : ℕ) (u : U.Unit) → unit_in us at a ≡ Some u → Lies us at a u
unfolding unit_in
lies [] at a u e = absurd (cc)
lies (v ∷ us) at a u e =
    let size = length-code_from v us at in
    elim (cases_eq a at) [
      | inl here ↦
          let same : word_count v ≡ word_count u =
          ap word_count (same_Some v u (sym (in_here v us at) ∙ ap (unit_in (v ∷ us) at) (sym here) ∙ e)) in
          record { from = omega arith; to = omega (arith, size, same); round = ap (λ n. n % 4) here }
      | inr other ↦
          let later = lies us (at + 4 * word_count v) a u (sym (in_later v us at a other) ∙ e) in
          let from = later.from in
          let to = later.to in
          let round = later.round in
          record { from = omega arith; to = omega (arith, size); round = omega arith }
    ]

-- a unit of what follows the first one is one of the list
pub in_past : (u v : U.Unit) (us : List U.Unit) (at a : ℕ) → unit_in us (at + 4 * word_count u) a ≡ Some v → unit_in (u ∷ us) at a ≡ Some v
in_past u v us at a e =
    let from = (lies us (at + 4 * word_count u) a v e).from in
    let some = some_word u in
    in_later u us at a (λ here. omega arith) ∙ e
