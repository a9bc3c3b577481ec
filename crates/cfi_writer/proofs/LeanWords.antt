-- The words before a unit where callees save sites, by what stands behind each: the word for computed jumps stands before the unit or before
-- a jump to it, the gate of computed calls before what saves their sites, and that before the unit.
use Rattle.std.proofs.Common.{◌≡◌, ℕ, zero, suc, ◌+◌, ◌≤◌, ◌<◌, Bool, true, false, List, [], ◌∷◌, Option, Some, None, refl, sym, arith}
use Rattle.std.specs.Prelude.{slice_get}
use Rattle.std.proofs.lemmas.Bool.{true≢false}
use Rattle.std.proofs.lemmas.Option.{same_Some}
use Rattle.cfi_unit.specs.declared.unit.Unit as U
use Rattle.cfi_unit.specs.declared.unit.Unit.TheVariants as V
use Rattle.cfi_unit.proofs.Counts.{some_word}
use Rattle.cfi_writer.specs.Units.{lead_of_entry, lead_unit}
use Rattle.cfi_writer.proofs.LeadWords.{words_in, lead_word_count}

-- a unit stands within the words of all
pub within_words : (us : List U.Unit) (j : ℕ) (u : U.Unit) → slice_get us j ≡ Some u → j < words_in us
within_words [] j u get = absurd (cc)
within_words (v ∷ us) zero u get = let some = some_word v in omega arith
within_words (v ∷ us) (suc j) u get =
    let some = some_word v in
    let rest = within_words us j u get in
    omega arith

-- of these units before the unit at a word, the one with this index
pub data IsLeanWord (us : List U.Unit) (word j : ℕ) (u : U.Unit) : Type 0 where
  before_unit : (o : Option ℕ) → u ≡ lead_unit o → words_in us ≡ j + 1 → IsLeanWord us word j u
  before_jump : (o : Option ℕ) → u ≡ lead_unit o → slice_get us (j + 1) ≡ Some (V.Jump word) → IsLeanWord us word j u
  jumps_over : u ≡ V.Jump word → IsLeanWord us word j u
  before_enter : (label : ℕ) → u ≡ V.Gate label → 1 ≤ j → slice_get us (j + 1) ≡ Some V.Enter → IsLeanWord us word j u
  saves_site : u ≡ V.Enter → 1 ≤ j → words_in us ≡ j + 5 → IsLeanWord us word j u

-- so many words are each of them and those behind it
words_behind : (o : Option ℕ) (us : List U.Unit) (n : ℕ) → words_in us ≡ n → words_in (lead_unit o ∷ us) ≡ 1 + n
words_behind o us n rest = let one = lead_word_count o in omega arith

module _ (word : ℕ) (jumps : Option ℕ) where
  abbrev lead_for : Bool → Bool → Option ℕ → List U.Unit
  lead_for target saves calls = lead_of_entry target saves word (calls ∷ jumps ∷ [])

  pub lean_word : (target saves : Bool) (calls : Option ℕ) (j : ℕ) (u : U.Unit) → slice_get (lead_for target saves calls) j ≡ Some u →
      IsLeanWord (lead_for target saves calls) word j u
  lean_word false false calls j u e = absurd (cc)
  lean_word true false calls zero u e = before_unit jumps (sym (same_Some (lead_unit jumps) u e)) (words_behind jumps [] 0 refl)
  lean_word true false calls (suc j) u e = absurd (cc)
  lean_word false true None zero u e = jumps_over (sym (same_Some (V.Jump word) u e))
  lean_word false true None (suc zero) u e = saves_site (sym (same_Some V.Enter u e)) (omega arith) refl
  lean_word false true None (suc (suc j)) u e = absurd (cc)
  lean_word false true (Some label) zero u e = jumps_over (sym (same_Some (V.Jump word) u e))
  lean_word false true (Some label) (suc zero) u e = before_enter label (sym (same_Some (V.Gate label) u e)) (omega arith) refl
  lean_word false true (Some label) (suc (suc zero)) u e = saves_site (sym (same_Some V.Enter u e)) (omega arith) refl
  lean_word false true (Some label) (suc (suc (suc j))) u e = absurd (cc)
  lean_word true true None zero u e = before_jump jumps (sym (same_Some (lead_unit jumps) u e)) refl
  lean_word true true None (suc zero) u e = jumps_over (sym (same_Some (V.Jump word) u e))
  lean_word true true None (suc (suc zero)) u e =
      saves_site (sym (same_Some V.Enter u e)) (omega arith) (words_behind jumps (V.Jump word ∷ V.Enter ∷ []) 6 refl)
  lean_word true true None (suc (suc (suc j))) u e = absurd (cc)
  lean_word true true (Some label) zero u e = before_jump jumps (sym (same_Some (lead_unit jumps) u e)) refl
  lean_word true true (Some label) (suc zero) u e = jumps_over (sym (same_Some (V.Jump word) u e))
  lean_word true true (Some label) (suc (suc zero)) u e = before_enter label (sym (same_Some (V.Gate label) u e)) (omega arith) refl
  lean_word true true (Some label) (suc (suc (suc zero))) u e =
      saves_site (sym (same_Some V.Enter u e)) (omega arith) (words_behind jumps (V.Jump word ∷ V.Gate label ∷ V.Enter ∷ []) 7 refl)
  lean_word true true (Some label) (suc (suc (suc (suc j)))) u e = absurd (cc)

  -- behind the gate of computed calls, the third word of a class's target, stands what saves their sites
  pub lean_third : (target saves : Bool) (calls : Option ℕ) (label : ℕ) → target ≡ true → saves ≡ true → calls ≡ Some label →
      slice_get (lead_for target saves calls) 3 ≡ Some V.Enter
  lean_third true true (Some other) label is_target saved called = refl
  lean_third true true None label is_target saved called = absurd (cc)
  lean_third true false calls label is_target saved called = absurd (true≢false (sym saved))
  lean_third false saves calls label is_target saved called = absurd (true≢false (sym is_target))
