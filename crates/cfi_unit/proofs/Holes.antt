-- The holes of patterns: words are as patterns say where the words in the holes are, and the others are the
-- patterns' own.
use Rattle.std.proofs.Common.{◌≡◌, ℕ, ◌+◌, ◌==◌, true, refl, ap, sym, subst, ◌∙◌, List, [], ◌∷◌, length, arith}
use Rattle.std.proofs.lemmas.Bool.{and_from, and_parts, eq-eqb, eqb-true}
use Rattle.rv_code.specs.Encode.{code_of}
use Rattle.cfi_unit.specs.declared.pattern.Pattern.{Pattern}
use Rattle.cfi_unit.specs.declared.pattern.Pattern.TheVariants as P
use Rattle.cfi_unit.specs.Reach.{reaches}
use Rattle.cfi_unit.specs.UnitWords.{jump}
use Rattle.cfi_unit.specs.Patterns.{matches}
use Rattle.cfi_unit.specs.Opens.{Opens, Small}

-- these words may stand in the holes; the patterns begin so many bytes from an address
abbrev pub Fill : List Pattern → ℕ → ℕ → List ℕ → Type 0
Fill [] at k [] = Unit {0}
Fill [] at k (h ∷ hs) = ⊥
Fill (P.Is code ∷ ps) at k hs = Fill ps at (k + 4) hs
Fill (P.Halt to ∷ ps) at k hs = (reaches (at + k) to ≡ true) × Fill ps at (k + 4) hs
Fill (p ∷ ps) at k [] = ⊥
Fill (p ∷ ps) at k (h ∷ hs) = (matches p h (at + k) ≡ true) × Fill ps at (k + 4) hs

-- the words, with these in the holes
abbrev pub filled : List Pattern → ℕ → ℕ → List ℕ → List ℕ
filled [] at k hs = []
filled (P.Is code ∷ ps) at k hs = code ∷ filled ps at (k + 4) hs
filled (P.Halt to ∷ ps) at k hs = code_of (jump (at + k) to) ∷ filled ps at (k + 4) hs
filled (p ∷ ps) at k [] = []
filled (p ∷ ps) at k (h ∷ hs) = h ∷ filled ps at (k + 4) hs

-- the words in the holes of some words
pub record Filled (ps : List Pattern) (ws : List ℕ) (at k : ℕ) : Type 0 where
  pub holes : List ℕ
  pub small : Small holes
  pub fill : Fill ps at k holes
  pub words : filled ps at k holes ≡ ws

pub holes_in : (ps : List Pattern) (ws : List ℕ) (at k : ℕ) → Small ws → Opens ps ws (at + k) [] → Filled ps ws at k
unfolding Opens
holes_in [] [] at k s o = record { holes = []; small = tt; fill = tt; words = refl }
holes_in [] (w ∷ ws) at k s o = absurd o
holes_in (p ∷ ps) [] at k s o = absurd (cc)
holes_in (P.Is code ∷ ps) (w ∷ ws) at k s o =
    let e : at + k + 4 ≡ at + (k + 4) = omega arith in
    let more = holes_in ps ws at (k + 4) s.1 (subst (λ (a : ℕ). Opens ps ws a []) e o.1) in
    record {
      holes = more.holes;
      small = more.small;
      fill = more.fill;
      words = ap (λ c. c ∷ filled ps at (k + 4) more.holes) (sym (eqb-true w code o.0)) ∙ ap (λ l. w ∷ l) more.words;
    }
holes_in (P.Halt to ∷ ps) (w ∷ ws) at k s o =
    let e : at + k + 4 ≡ at + (k + 4) = omega arith in
    let more = holes_in ps ws at (k + 4) s.1 (subst (λ (a : ℕ). Opens ps ws a []) e o.1) in
    let halts = and_parts (reaches (at + k) to) (w == code_of (jump (at + k) to)) o.0 in
    record {
      holes = more.holes;
      small = more.small;
      fill = (halts.0, more.fill);
      words = ap (λ c. c ∷ filled ps at (k + 4) more.holes) (sym (eqb-true w (code_of (jump (at + k) to)) halts.1)) ∙ ap (λ l. w ∷ l) more.words;
    }
holes_in (p ∷ ps) (w ∷ ws) at k s o =
    let e : at + k + 4 ≡ at + (k + 4) = omega arith in
    let more = holes_in ps ws at (k + 4) s.1 (subst (λ (a : ℕ). Opens ps ws a []) e o.1) in
    record { holes = w ∷ more.holes; small = (s.0, more.small); fill = (o.0, more.fill); words = ap (λ l. w ∷ l) more.words }

pub filled_opens : (ps : List Pattern) (at k : ℕ) (hs : List ℕ) → Fill ps at k hs → Opens ps (filled ps at k hs) (at + k) []
unfolding Opens
filled_opens [] at k [] f = refl
filled_opens [] at k (h ∷ hs) f = absurd f
filled_opens (P.Is code ∷ ps) at k hs f =
    let e : at + (k + 4) ≡ at + k + 4 = omega arith in
    (eq-eqb code code refl, subst (λ (a : ℕ). Opens ps (filled ps at (k + 4) hs) a []) e (filled_opens ps at (k + 4) hs f))
filled_opens (P.Halt to ∷ ps) at k hs f =
    let e : at + (k + 4) ≡ at + k + 4 = omega arith in
    let code : ℕ = code_of (jump (at + k) to) in (
      and_from (reaches (at + k) to) (code == code) f.0 (eq-eqb code code refl),
      subst (λ (a : ℕ). Opens ps (filled ps at (k + 4) hs) a []) e (filled_opens ps at (k + 4) hs f.1),
    )
filled_opens (p ∷ ps) at k [] f = absurd f
filled_opens (p ∷ ps) at k (h ∷ hs) f =
    let e : at + (k + 4) ≡ at + k + 4 = omega arith in
    (f.0, subst (λ (a : ℕ). Opens ps (filled ps at (k + 4) hs) a []) e (filled_opens ps at (k + 4) hs f.1))

-- as many words as patterns
pub opened_length : (ps : List Pattern) (ws : List ℕ) (at : ℕ) → Opens ps ws at [] → length ws ≡ length ps
unfolding Opens
opened_length [] [] at o = refl
opened_length [] (w ∷ ws) at o = absurd o
opened_length (p ∷ ps) [] at o = absurd (cc)
opened_length (p ∷ ps) (w ∷ ws) at o = let more = opened_length ps ws (at + 4) o.1 in omega arith
