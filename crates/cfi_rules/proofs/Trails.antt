-- Each begun instruction of each hart in a run along a graph is in its place.
use Rattle.std.proofs.Common.{◌≡◌, ℕ, inl, inr, List, [], ◌∷◌, sym, subst, Option, Some, None}
use Rattle.std.specs.List.{AllByRecursion}
use Rattle.std.proofs.lemmas.Bool.{cases_eq, eq-eqb, ne_eqb}
use Rattle.rv_image.specs.Image.{Contents}
use Rattle.rv_image.specs.MemoryMap.{Profile}
use Rattle.rv_word.proofs.Cases.{cases_Option}
use Rattle.cfi_graph.specs.declared.line.GraphLine.{GraphLine}
use Rattle.cfi_rules.specs.Along.{GoesOn, Walk, Walks, RunsAlong, with_walk}
use Rattle.cfi_rules.specs.Laws.{SafeStaysInPlace}
use Rattle.cfi_rules.specs.Split.{code_words, place_at}
use Rattle.cfi_rules.specs.Taken.{TakenStep, steps_taken}
use Rattle.cfi_rules.specs.Trails.{newest_of, trail_of, IsInPlace}
use Rattle.cfi_rules.proofs.Reading.{safe_as_recognised}

module _ (p : Profile) (image : Contents) (words : List ℕ) (lines : List GraphLine) where
  -- the newest address of the walk so far, if it has begun
  abbrev IsNewest : Option Walk → ℕ → Type 0
  IsNewest None newest = Unit {0}
  IsNewest (Some w) newest = w.at ≡ newest

  -- the next walk address is the newest
  newest_is : (before : Option Walk) (newest : ℕ) (t : TakenStep) (w : Walk) → IsNewest before newest →
      GoesOn p (place_at p words) lines before (place_at p words t.before.pc) t w → w.at ≡ newest_of (place_at p words t.before.pc) newest t.before.pc
  newest_is before newest t w is goes =
      elim (cases_Option (place_at p words t.before.pc)) [
        | inl none ↦ let stays : before ≡ Some w = rw none at goes in
            let same : IsNewest (Some w) newest = subst (λ (b : Option Walk). IsNewest b newest) stays is in rw none same
        | inr (place, some) ↦ let arrives = rw some at goes in rw some arrives.0
      ]

  stays : (k : ℕ) (taken : List TakenStep) (walks : Walks) (newest : ℕ) → IsNewest (walks k) newest → RunsAlong p image (place_at p words) lines walks taken →
      AllByRecursion (IsInPlace p words) (trail_of p words k newest taken)
  unfolding trail_of
  stays k [] walks newest is r = tt
  stays k (t ∷ rest) walks newest is r =
      let pc = t.before.pc in
      let here = newest_of (place_at p words pc) newest pc in
      elim (cases_eq t.hart k) [
        | inl same ↦
            let before : IsNewest (walks t.hart) newest = subst (λ (j : ℕ). IsNewest (walks j) newest) (sym same) is in
            let e : r.0.at ≡ here = newest_is (walks t.hart) newest t r.0 before r.1 in
            let next : IsNewest (with_walk walks t.hart r.0 k) here = rw (eq-eqb k t.hart (sym same)) e in
            rw (eq-eqb t.hart k same) (
              subst (λ (a : ℕ). IsInPlace p words (record { newest = a; pc = pc; turn = t.after.turn })) e (r.2.0, r.2.1, r.2.2, r.2.3),
              stays k rest (with_walk walks t.hart r.0) here next r.3,
            )
        | inr other ↦
            let next : IsNewest (with_walk walks t.hart r.0 k) newest = rw (ne_eqb k t.hart (λ e. other (sym e))) is in
            rw (ne_eqb t.hart k other) (stays k rest (with_walk walks t.hart r.0) newest next r.3)
      ]

pub safe_stays : SafeStaysInPlace
safe_stays p image graph count harts s steps k safe may start low =
    stays p image (code_words image.code) graph.lines k (steps_taken p harts s steps) (λ j. None) 0 tt (safe_as_recognised p image graph safe count may harts s start steps low)
