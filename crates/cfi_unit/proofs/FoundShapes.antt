-- The shape that is found is that of a unit which begins the words.
use Rattle.std.proofs.Common.{◌≡◌, ℕ, ◌+◌, ◌<◌, ◌^◌, true, not, refl, ap, sym, subst, ◌∙◌, inl, inr, List, [], ◌∷◌, length, take, drop}
use Rattle.std.specs.Prelude.{Some}
use Rattle.std.proofs.lemmas.Bool.{and_parts}
use Rattle.std.proofs.lemmas.Option.{same_Some}
use Rattle.rv_word.proofs.Arrays.{take_all}
use Rattle.rv_word.proofs.Cases.{chosen}
use Rattle.cfi_unit.specs.declared.pattern.End.{End}
use Rattle.cfi_unit.specs.declared.pattern.Pattern.{Pattern}
use Rattle.cfi_unit.specs.declared.unit.Unit as U
use Rattle.cfi_unit.specs.UnitWords.{Begins, word_count}
use Rattle.cfi_unit.specs.Patterns.{matches}
use Rattle.cfi_unit.specs.Shapes.{SHAPES, Shape}
use Rattle.cfi_unit.specs.ShapeOf.{shape_of}
use Rattle.cfi_unit.specs.Opens.{Among, Opens, Small}
use Rattle.cfi_unit.specs.FoundShape.{begins_as, first_of, found_shape, goes_on}
use Rattle.cfi_unit.proofs.Further.{precedes_by}
use Rattle.cfi_unit.proofs.MadeUnits.{made}
use Rattle.cfi_unit.proofs.ShapedUnits.{counted}

-- words begin as patterns say where the first of them are as these say, and no more of them
begun : (ps : List Pattern) (end : End) (ws : List ℕ) (at : ℕ) → begins_as ps end ws at ≡ true →
    Opens ps (take (length ps) ws) at [] × ((here : ℕ) × (not (goes_on end (drop (length ps) ws) here) ≡ true))
unfolding Opens
begun [] end ws at e = (refl, (at, e))
begun (p ∷ ps) end [] at e = absurd (cc)
begun (p ∷ ps) end (w ∷ ws) at e =
    let q = and_parts (matches p w at) (begins_as ps end ws (at + 4)) e in
    let more = begun ps end ws (at + 4) q.1 in
    ((q.0, more.0), more.1)

first_among : (ss : List Shape) (ws : List ℕ) (at : ℕ) (s : Shape) → first_of ss ws at ≡ Some s → Among s ss × (begins_as s.words s.end ws at ≡ true)
unfolding Among
first_among [] ws at s e = absurd (cc)
first_among (r ∷ ss) ws at s e =
    elim (chosen (begins_as r.words r.end ws at) (Some r) (first_of ss ws at) (Some s) e) [
      | inl here ↦
          let same = same_Some r s here.1 in (inl (sym same), subst (λ (t : Shape). begins_as t.words t.end ws at ≡ true) same here.0)
      | inr later ↦ let more = first_among ss ws at s later.1 in (inr more.0, more.1)
    ]

pub found_begins : (ws : List ℕ) (at : ℕ) (s : Shape) → found_shape ws at ≡ Some s → Small ws → (u : U.Unit) × (Begins ws at u × (shape_of u at ≡ s))
found_begins ws at s e small =
    let first = first_among SHAPES ws at s e in
    let (opens, (here, ends)) = begun s.words s.end ws at first.1 in
    let m = made s (take (length s.words) ws) at first.0 (take_all (λ (w : ℕ). w < 2 ^ 32) (length s.words) ws small) opens in
    let count : word_count m.unit ≡ length s.words = counted m.unit at m.fits ∙ ap (λ (r : Shape). length r.words) m.shape_is in (
      m.unit,
      (
        record {
          fits = m.fits;
          words_are = ap (λ (n : ℕ). take n ws) count ∙ sym m.words;
          ahead = precedes_by m.unit at (drop (word_count m.unit) ws) here m.fits
              ∙ ap (λ (r : Shape). not (goes_on r.end (drop (word_count m.unit) ws) here)) m.shape_is
              ∙ ap (λ (n : ℕ). not (goes_on s.end (drop n ws) here)) count ∙ ends;
        },
        m.shape_is,
      ),
    )
