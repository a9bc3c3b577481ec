-- A well-formed pair is safe: by induction on the steps, each step keeps what is known of all harts,
-- and goes along the graph. What comes after a step may be any statement that follows from what is known.
use Rattle.std.proofs.Common.{◌≡◌, ℕ, ◌≤◌, ◌<◌, inl, inr, List, [], ◌∷◌, refl, sym, ap, subst, ◌∙◌, Option, Some, None, arith}
use Rattle.std.specs.Prelude.{◌==◌, if◌then◌else◌}
use Rattle.std.specs.List.{AllByRecursion}
use Rattle.std.proofs.lemmas.Bool.{cases_eq, eq-eqb, ne_eqb}
use Rattle.rv_image.specs.Image.{Contents, loaded}
use Rattle.rv_image.specs.MemoryMap.{IsProfile, MayRun, Profile, part_of}
use Rattle.rv_word.specs.Memory.{Memory}
use Rattle.rv_image.proofs.Profiles.{laid_out}
use Rattle.rv_code.specs.Run.{ByteChange, HartStep, IsDataChange, changed, disturbed}
use Rattle.rv_code.specs.State.{Hart, Harts, Shared, After, last_exit, with_hart}
use Rattle.rv_code.specs.Step.{step}
use Rattle.rv_code.specs.declared.turn.Turn.TheVariants.{Ran}
use Rattle.rv_code.proofs.Changes.{changed_above}
use Rattle.cfi_graph.specs.Graph.{GraphParts}
use Rattle.cfi_unit.specs.Context.{IsCodeOf, Context}
use Rattle.cfi_unit.specs.declared.place.Place.{Place}
use Rattle.cfi_unit.specs.declared.place.Place.TheVariants.{Opening as opening}
use Rattle.cfi_unit.proofs.Others.{other_part}
use Rattle.cfi_rules.specs.Along.{Walk, Walks, with_walk, GoesOn, Arrives, Begun, MayStart, RunsAlong, AreStepsOf, AllRunAlong}
use Rattle.cfi_rules.specs.Rules.{IsWellFormed}
use Rattle.cfi_rules.specs.Split.{code_words, place_at, unit_words}
use Rattle.cfi_rules.specs.Taken.{TakenStep, steps_taken}
use Rattle.cfi_rules.specs.Laws.{AreBytes, WellFormedIsSafe}
use Rattle.cfi_rules.proofs.Bytes.{are_words}
use Rattle.cfi_rules.proofs.CodeSplit.{code_is_split}
use Rattle.cfi_rules.proofs.Places.{prologue, place_facts, nothing_inside, at_opening}
use Rattle.cfi_rules.proofs.Reading.{places_same, split_read}
use Rattle.cfi_rules.proofs.Steps.{Inside, Now, Shadow, arrived, begins, now_kept, opens_at, starting, step_on, walk_at, within}
use Rattle.cfi_rules.proofs.Taken.{after_step}

module _ (p : Profile) (profile : IsProfile p) (image : Contents) (graph : GraphParts) (bytes : AreBytes image) (formed : IsWellFormed p image graph) where
  abbrev the_words : List ℕ
  the_words = code_words image.code

  abbrev NowOf : ℕ → Option Walk → Hart → Memory → Type 0
  NowOf part before h m = Now p profile image graph bytes formed part before h m

  module _ (harts : ℕ) (may_run : MayRun p harts) where
    -- what is known of all harts between two steps
    record Known (walks : Walks) (hs : Harts) (s : Shared) : Type 0 where
      going : last_exit s.events ≡ None
      code : IsCodeOf (loaded image) s.memory
      each : (k : ℕ) → k < harts → NowOf (part_of k) (walks k) (hs k) s.memory

    known_disturbed : (walks : Walks) (hs : Harts) (s : Shared) (cs : List ByteChange) → AllByRecursion IsDataChange cs → Known walks hs s → Known walks hs (disturbed s cs)
    known_disturbed walks hs s cs low known = record {
      going = known.going;
      code = λ k from to. changed_above s.memory cs low k (omega arith) ∙ known.code k from to;
      each = λ k below.
          now_kept p profile image graph bytes formed (part_of k) s.memory (changed s.memory cs) (λ j from to. changed_above s.memory cs low j (omega arith)) (walks k) (hs k) (known.each k below);
    }

    abbrev Along : Walks → List TakenStep → Type 0
    Along walks taken = RunsAlong p image (place_at p the_words) graph.lines walks taken

    -- one step of hart `k`, and then the rest of the run
    module _ (Q : Walks → Harts → Shared → Type 0) (go_on : (walks : Walks) (hs : Harts) (s : Shared) → Known walks hs s → Q walks hs s)
        (walks : Walks) (hs : Harts) (k : ℕ) (below : k < harts) (s : Shared) (known : Known walks hs s) where
      -- the others are where they were, and their parts are as before
      known_after : (w : Walk) (after : After) (stacked : List ℕ) → Context (part_of k) (loaded image) s.memory stacked after.shared →
          NowOf (part_of k) (Some w) after.hart after.shared.memory → Known (with_walk walks k w) (with_hart hs k after.hart) after.shared
      known_after w after stacked c now = record {
        going = c.going;
        code = c.kept.code;
        each = λ j low. elim (cases_eq j k) [
          | inl same ↦ rw (eq-eqb j k same) (subst (λ (i : ℕ). NowOf (part_of i) (Some w) after.hart after.shared.memory) (sym same) now)
          | inr other ↦ rw (ne_eqb j k other)
              (now_kept p profile image graph bytes formed (part_of j) s.memory after.shared.memory
              (other_part (part_of k) (part_of j) s.memory after.shared.memory (omega arith) (omega arith) (λ e. other (omega arith)) (omega arith) c.kept.frame)
              (walks j) (hs j) (known.each j low))
        ];
      }

      abbrev Rest : Walk → After → Type 0
      Rest w after = Q (with_walk walks k w) (with_hart hs k after.hart) after.shared

      inside_harts : k < p.harts
      inside_harts = let most = may_run.most in omega arith

      next : (w : Walk) (after : After) (stacked : List ℕ) → Context (part_of k) (loaded image) s.memory stacked after.shared →
          NowOf (part_of k) (Some w) after.hart after.shared.memory → Rest w after
      next w after stacked c now = go_on (with_walk walks k w) (with_hart hs k after.hart) after.shared (known_after w after stacked c now)

      abbrev after : After
      after = step p (hs k) s

      abbrev taken : TakenStep
      taken = record { hart = k; before = hs k; shared = s; after = after }

      abbrev Goes : Option Place → Walk → Type 0
      Goes there w = GoesOn p (place_at p the_words) graph.lines (walks k) there taken w

      -- what is owed of the step
      abbrev Owed : Type 0
      Owed = (w : Walk) × Goes (place_at p the_words (hs k).pc) w × Begun p image (place_at p the_words) w taken × (after.turn ≡ Ran → Rest w after)

      abbrev walk : List ℕ → Walk
      walk pending = walk_at p profile image graph bytes formed k inside_harts (hs k) s known.going known.code pending

      -- where something starts
      enter : (place : Place) (pending : List ℕ) → place_at p the_words (hs k).pc ≡ Some place → Inside p profile image graph bytes formed (part_of k) place (walk pending) (hs k) s.memory →
          Shadow p profile image graph bytes formed k inside_harts (hs k) s known.going known.code place pending → Arrives p (place_at p the_words) graph.lines (walks k) (hs k).pc pending → Owed
      enter place pending is i shadow arrives =
          let on = step_on p profile image graph bytes formed k inside_harts (hs k) s known.going known.code Rest next (walk pending) place is i in
          let goes_there : Goes (Some place) (walk pending) = (refl, refl, arrives, shadow) in (
            walk pending,
            subst (λ (o : Option Place). Goes o (walk pending)) (sym is) goes_there,
            on.begun,
            on.on,
          )

      goes_on : NowOf (part_of k) (walks k) (hs k) s.memory → Owed
      goes_on (starting none e mine) =
          enter (opening (prologue p profile image graph bytes formed).0) [] (ap (place_at p the_words) e ∙ at_opening p profile image graph bytes formed)
          (refl, opens_at p profile image graph bytes formed k inside_harts (hs k) s known.going known.code profile mine e) tt (subst (λ (b : Option Walk). Arrives p (place_at p the_words) graph.lines b (hs k).pc []) (sym none) (e, refl))
      goes_on (within w place b is later i) =
          let facts = place_facts p profile image graph bytes formed w.at place is in
          let on = step_on p profile image graph bytes formed k inside_harts (hs k) s known.going known.code Rest next w place is i in
          let size = on.word.1 in let here = on.word.2 in
          let nothing = nothing_inside p profile image graph bytes formed place w.at (hs k).pc facts later (omega arith) in (
            w,
            subst (λ (o : Option Place). Goes o w) (sym nothing) b,
            on.begun,
            on.on,
          )
      goes_on (arrived w place start newer b is a ready) =
          let first = begins p profile image graph bytes formed k inside_harts (hs k) s known.going known.code a.settled.place start newer a.settled.is a.settled.stage ready in
          enter a.settled.place newer a.settled.is first.0 first.1
          (subst (λ (o : Option Walk). Arrives p (place_at p the_words) graph.lines o (hs k).pc newer) (sym b) (place, is, a.leads))

    -- the run from what is known goes along the graph
    runs : (steps : List HartStep) → AreStepsOf harts steps → (walks : Walks) (hs : Harts) (s : Shared) → Known walks hs s → Along walks (steps_taken p hs s steps)
    unfolding steps_taken
    runs [] low walks hs s known = tt
    runs (t ∷ rest) low walks hs s known =
        let now = known_disturbed walks hs s t.changes low.0.changes known in
        let after = step p (hs t.hart) (disturbed s t.changes) in
        let (w, goes, begun, on) =
        goes_on (λ walks hs s. Along walks (steps_taken p hs s rest)) (runs rest low.1) walks hs t.hart low.0.hart (disturbed s t.changes) now (now.each t.hart low.0.hart) in
        (w, goes, begun, after_step (Along (with_walk walks t.hart w)) after.turn (steps_taken p (with_hart hs t.hart after.hart) after.shared rest) tt on)

    start_known : (hs : Harts) (s : Shared) → MayStart image harts hs s → Known (λ k. None) hs s
    start_known hs s start = record {
      going = start.going;
      code = start.code;
      each = λ k below. starting refl (start.pc k below) (ap part_of (sym (start.number k below)));
    }

  pub well_formed_along : AllRunAlong p image (place_at p the_words) graph.lines
  well_formed_along count may_run harts s start steps low = runs count may_run steps low (λ k. None) harts s (start_known count may_run harts s start)

-- and the units that are recognised are those that the code is read as
pub well_formed_is_safe : WellFormedIsSafe
well_formed_is_safe p image graph profile bytes formed =
    let laid = laid_out p profile in
    let words = code_words image.code in
    let (us, split, same) = code_is_split p image graph profile bytes formed in (
      us,
      record { low = omega arith; round = laid.round; small = are_words image.code bytes.code; read = split_read us (unit_words p words) p.units_from split },
      subst (λ (places : ℕ → Option Place). AllRunAlong p image places graph.lines) (places_same p words us same)
          (well_formed_along p profile image graph bytes formed),
    )
