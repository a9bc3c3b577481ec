-- Units' words and splits determine the units.
use Rattle.std.proofs.Common.{◌≡◌, ℕ, ◌+◌, ◌*◌, ◌==◌, ◌⊎◌, inl, inr, Bool, true, false, not, refl, ap, sym, subst, ◌∙◌, List, [], ◌∷◌, ◌++◌, drop}
use Rattle.std.specs.Prelude.{Some, is_none, length, nat_le}
use Rattle.std.proofs.lemmas.Bool.{and_parts, cases_Bool, eqb-true, leb-false, or_parts}
use Rattle.std.proofs.lemmas.List.{append-nil}
use Rattle.cfi_unit.specs.declared.unit.Unit as U
use Rattle.cfi_unit.specs.declared.unit.Unit.TheVariants as V
use Rattle.cfi_unit.specs.UnitWords.{Begins, Fits, instr_at, is_jump, may_precede, near_offset, skip_offset, word_count, words_of}
use Rattle.cfi_unit.specs.Members.{MOST_MEMBERS, member_of}
use Rattle.cfi_unit.specs.Laws.{IsOpen}
use Rattle.cfi_unit.specs.Recognise.{recognised}
use Rattle.cfi_unit.specs.Split.{IsSplit}
use Rattle.cfi_unit.proofs.Found.{begins_recognised, found}

-- a unit that may not come before some words is a near branch over the next one, or stores of which
-- there may be more
looks_on : (u : U.Unit) (at : ℕ) (rest : List ℕ) → may_precede u at rest ≡ false → IsOpen u at
looks_on (V.Near op rs1 rs2 target) at rest e =
    eqb-true (near_offset at target) skip_offset
    (and_parts (near_offset at target == skip_offset) (is_jump (instr_at rest 0)) (kept _ e)).0
  where
    kept : (b : Bool) → not b ≡ false → b ≡ true
    kept true e = refl
    kept false e = absurd (cc)
looks_on (V.Stores mask rs1 imm members) at rest e =
    leb-false MOST_MEMBERS (length members) (or_parts (nat_le MOST_MEMBERS (length members)) (is_none (member_of (instr_at rest 0))) e).0
looks_on other at rest e = absurd (cc)

-- at a list's end each unit may stand
pub precedes_nothing : (u : U.Unit) (at : ℕ) → may_precede u at [] ≡ true
precedes_nothing (V.Near op rs1 rs2 target) at =
    elim (cases_Bool (near_offset at target == skip_offset)) [ inl skips ↦ rw skips refl | inr other ↦ rw other refl ]
precedes_nothing (V.Stores mask rs1 imm members) at =
    elim (cases_Bool (nat_le MOST_MEMBERS (length members))) [ inl most ↦ rw most refl | inr fewer ↦ rw fewer refl ]
precedes_nothing other at = refl

same_words : (u v : U.Unit) (at : ℕ) (rest : List ℕ) → Fits u at → Fits v at → may_precede u at rest ≡ true →
    words_of v at ≡ words_of u at ++ rest → u ≡ v
same_words u v at rest f g ahead e =
    let here : recognised (words_of u at ++ rest) at ≡ Some u = found u at rest f ahead in
    let there : recognised (words_of v at ++ []) at ≡ Some v = found v at [] g (precedes_nothing v at) in
    let same : words_of u at ++ rest ≡ words_of v at ++ [] = sym e ∙ sym (append-nil (words_of v at)) in
    let one : Some u ≡ Some v = sym here ∙ ap (λ (l : List ℕ). recognised l at) same ∙ there in
    cc

pub no_prefix : (u v : U.Unit) (at : ℕ) (rest : List ℕ) → Fits u at → Fits v at → words_of v at ≡ words_of u at ++ rest →
    (u ≡ v) ⊎ IsOpen u at
no_prefix u v at rest f g e =
    elim (cases_Bool (may_precede u at rest)) [
      | inl ahead ↦ inl (same_words u v at rest f g ahead e)
      | inr not_ahead ↦ inr (looks_on u at rest not_ahead)
    ]

pub words_determine : (u v : U.Unit) (at : ℕ) → Fits u at → Fits v at → words_of u at ≡ words_of v at → u ≡ v
words_determine u v at f g e =
    same_words u v at [] f g (precedes_nothing u at) (sym e ∙ sym (append-nil (words_of u at)))

nothing_begins : (at : ℕ) (u : U.Unit) → Begins [] at u → ⊥
unfolding recognised
nothing_begins at u b = let e : recognised [] at ≡ Some u = begins_recognised [] at u b in cc

pub split_unique : (ws : List ℕ) (at : ℕ) (us vs : List U.Unit) → IsSplit ws at us → IsSplit ws at vs → us ≡ vs
unfolding IsSplit
split_unique ws at [] [] s t = refl
split_unique ws at [] (v ∷ vs) s t = absurd (nothing_begins at v (subst (λ (l : List ℕ). Begins l at v) s t.0))
split_unique ws at (u ∷ us) [] s t = absurd (nothing_begins at u (subst (λ (l : List ℕ). Begins l at u) t s.0))
split_unique ws at (u ∷ us) (v ∷ vs) s t =
    let first : Some u ≡ Some v = sym (begins_recognised ws at u s.0) ∙ begins_recognised ws at v t.0 in
    let same : u ≡ v = cc in
    let t' : IsSplit (drop (word_count u) ws) (at + 4 * word_count u) vs =
    subst (λ (w : U.Unit). IsSplit (drop (word_count w) ws) (at + 4 * word_count w) vs) (sym same) t.1 in
    let others : us ≡ vs = split_unique (drop (word_count u) ws) (at + 4 * word_count u) us vs s.1 t' in
    cc
