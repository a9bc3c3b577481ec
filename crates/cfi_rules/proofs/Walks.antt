-- The walk of each hart in a run along a graph is a list of steps of the graph walk.
use Rattle.std.proofs.Common.{◌≡◌, ℕ, inl, inr, List, [], ◌∷◌, refl, sym, ap, subst, ◌∙◌, Option, Some, None}
use Rattle.std.proofs.lemmas.Bool.{cases_eq, eq-eqb, ne_eqb}
use Rattle.rv_image.specs.Image.{Contents}
use Rattle.rv_image.specs.MemoryMap.{Profile}
use Rattle.rv_word.proofs.Cases.{cases_Option}
use Rattle.cfi_graph.specs.declared.line.GraphLine.{GraphLine}
use Rattle.cfi_unit.specs.Prologue.{OPENING}
use Rattle.cfi_rules.specs.Along.{Walk, Walks, Arrives, RunsAlong, with_walk}
use Rattle.cfi_rules.specs.Laws.{SafeWalksGraph}
use Rattle.cfi_rules.specs.Split.{code_words, place_at}
use Rattle.cfi_rules.specs.Taken.{TakenStep, steps_taken}
use Rattle.cfi_rules.specs.Walks.{WalkState, walk_of, AreSteps, IsGraphWalk}
use Rattle.cfi_rules.proofs.Leading.{leads_goes}
use Rattle.cfi_rules.proofs.Reading.{safe_as_recognised}

abbrev state : ℕ → List ℕ → WalkState
state at pending = record { at = at; pending = pending }

module _ (p : Profile) (image : Contents) (words : List ℕ) (lines : List GraphLine) where
  abbrev Runs : Walks → List TakenStep → Type 0
  Runs walks taken = RunsAlong p image (place_at p words) lines walks taken

  -- the hart that steps has the walk that it goes on to, the others have theirs
  own_walk : (walks : Walks) (j k : ℕ) (w : Walk) → j ≡ k → with_walk walks j w k ≡ Some w
  own_walk walks j k w same = rw (eq-eqb k j (sym same)) refl

  other_walk : (walks : Walks) (j k : ℕ) (w : Walk) → (j ≡ k → ⊥) → with_walk walks j w k ≡ walks k
  other_walk walks j k w other = rw (ne_eqb k j (λ e. other (sym e))) refl

  later_steps : (k : ℕ) (taken : List TakenStep) (walks : Walks) (w : Walk) → walks k ≡ Some w → Runs walks taken →
      AreSteps p words lines (state w.at w.pending) (walk_of p words k taken)
  unfolding walk_of
  later_steps k [] walks w going r = tt
  later_steps k (t ∷ rest) walks w going r =
      let pc = t.before.pc in
      let later = walk_of p words k rest in
      elim (cases_eq t.hart k) [
        | inl same ↦
            let before : walks t.hart ≡ Some w = ap walks same ∙ going in
            let more : AreSteps p words lines (state r.0.at r.0.pending) later = later_steps k rest (with_walk walks t.hart r.0) r.0 (own_walk walks t.hart k r.0 same) r.3 in
            elim (cases_Option (place_at p words pc)) [
              | inl none ↦
                  let goes : walks t.hart ≡ Some r.0 = rw none at r.1 in
                  let back : r.0 ≡ w = cc in
                  rw (eq-eqb t.hart k same, none) (subst (λ (v : Walk). AreSteps p words lines (state v.at v.pending) later) back more)
              | inr (place, some) ↦
                  let goes = rw some at r.1 in
                  let arrives : Arrives p (place_at p words) lines (Some w) pc r.0.pending =
                  subst (λ (b : Option Walk). Arrives p (place_at p words) lines b pc r.0.pending) before goes.2 in
                  rw (eq-eqb t.hart k same, some) (
                    state pc r.0.pending,
                    (arrives.0, arrives.1, refl, leads_goes lines p arrives.0 w.at w.pending w.regs r.0.pending pc arrives.2),
                    subst (λ (a : ℕ). AreSteps p words lines (state a r.0.pending) later) goes.0 more,
                  )
            ]
        | inr other ↦ rw (ne_eqb t.hart k other) (later_steps k rest (with_walk walks t.hart r.0) w (other_walk walks t.hart k r.0 other ∙ going) r.3)
      ]

  first_steps : (k : ℕ) (taken : List TakenStep) (walks : Walks) → walks k ≡ None → Runs walks taken → IsGraphWalk p words lines (walk_of p words k taken)
  unfolding walk_of
  first_steps k [] walks waiting r = tt
  first_steps k (t ∷ rest) walks waiting r =
      let pc = t.before.pc in
      let later = walk_of p words k rest in
      elim (cases_eq t.hart k) [
        | inl same ↦
            let before : walks t.hart ≡ None = ap walks same ∙ waiting in
            let more : AreSteps p words lines (state r.0.at r.0.pending) later = later_steps k rest (with_walk walks t.hart r.0) r.0 (own_walk walks t.hart k r.0 same) r.3 in
            elim (cases_Option (place_at p words pc)) [
              | inl none ↦ let goes : walks t.hart ≡ Some r.0 = rw none at r.1 in absurd (cc)
              | inr (place, some) ↦
                  let goes = rw some at r.1 in
                  let arrives : Arrives p (place_at p words) lines None pc r.0.pending =
                  subst (λ (b : Option Walk). Arrives p (place_at p words) lines b pc r.0.pending) before goes.2 in
                  rw (eq-eqb t.hart k same, some) (
                    arrives.0,
                    subst (λ (ps : List ℕ). AreSteps p words lines (state OPENING ps) later) arrives.1
                        (subst (λ (a : ℕ). AreSteps p words lines (state a r.0.pending) later) (goes.0 ∙ arrives.0) more),
                  )
            ]
        | inr other ↦ rw (ne_eqb t.hart k other) (first_steps k rest (with_walk walks t.hart r.0) (other_walk walks t.hart k r.0 other ∙ waiting) r.3)
      ]

pub safe_walks : SafeWalksGraph
safe_walks p image graph count harts s steps k safe may start low =
    first_steps p image (code_words image.code) graph.lines k (steps_taken p harts s steps) (λ j. None) refl (safe_as_recognised p image graph safe count may harts s start steps low)
