-- Meaning kept, by induction on the source machine's steps.
use Rattle.std.proofs.Common.{◌≡◌, ℕ, ◌+◌, ◌≤◌, ◌⊎◌, true, false, inl, inr, List, [], Option, Some, None, refl, sym, ap, subst, ◌∙◌, arith}
use Rattle.std.proofs.lemmas.Bool.{cases_Bool}
use Rattle.cfi_meaning.proofs.Prelude.{Contents, DATA_START, Profile, placed, zeros, last_exit, whole_at, Source, init_here, source_start, SourceAfter, StepTurn, after_steps, ran, source_step, untame, Reason, Own, RunsTo, undisturbed, Choice, is_later_at, IsImageOf, is_at_later, most_steps, Matches, gate_of, own_of, EndsAs, MeaningKept, PlacesRun, holds_store, place_step, places_start, KeepsPlaces, IsPastFirst, StandsPastFirst}
use Rattle.cfi_map.proofs.LaterRuns.{past, past_few, past_some}
use Rattle.cfi_writer.proofs.Grouping.{other_first}
use Rattle.cfi_meaning.proofs.AtLater.{at_later_is, at_no_later, free_place}
use Rattle.cfi_meaning.proofs.LedSteps.{Led, led, there}
use Rattle.cfi_meaning.proofs.Matching.{from_own}
use Rattle.cfi_meaning.proofs.PlacesKept.{places_kept, steps_rise}
use Rattle.cfi_meaning.proofs.StepKept.{ends_as}
use Rattle.cfi_meaning.proofs.Steps.{Stepped, at_closing, at_place, has_ended, is_untame, stepped}
use Rattle.cfi_meaning.proofs.StoreSteps.{goes_or_untame, store_goes}

module _ (m : Choice) (image : Contents) (of : IsImageOf m image) (input : List ℕ) (init : image.init ≡ init_here m.layout) where
  abbrev p : Profile
  p = m.layout.profile

  abbrev start : Source
  start = source_start m.layout input

  starts : own_of m.layout start ≡ places_start m image input
  starts =
      ap (λ (bytes : List ℕ). record (places_start m image input) { shared = record { memory = placed zeros DATA_START bytes; left = input; output = []; events = [] } })
      (sym init)

  kept : (n : ℕ) (st : Source) → (l : Led m image n start st) → is_at_later m.layout st.place ≡ false →
      KeepsPlaces m image input l.places st.place (own_of m.layout st)
  kept n st l free =
      places_kept m image input l.places st.place (own_of m.layout st) of l.chain (free_place m st.place of.accepted free)
      (subst (λ (o : Own). PlacesRun m image l.places o (own_of m.layout st)) starts l.run) refl l.back

  goes : (n : ℕ) (st : Source) → after_steps m.layout n start ≡ Some st → is_at_later m.layout st.place ≡ false →
      RunsTo p image input (most_steps m.layout n) (Matches m.layout image st)
  goes n st e free =
      let l = led m image of input n st e in
      let comes = (kept n st l free).goes in
      (comes.0, subst (λ (i : ℕ). comes.0 ≤ most_steps m.layout i) l.counted comes.1, from_own m.layout image st (undisturbed p image input comes.0) l.fits comes.2)

  -- no system call of a state that is reached has ended the run
  going : (n : ℕ) (st : Source) → after_steps m.layout n start ≡ Some st → last_exit st.shared.events ≡ None
  going n st e =
      let first = (there m image of input n st e).leader in
      let (steps, few, same) = goes first.steps first.state first.runs (at_no_later m first.state.place of.accepted first.place) in
      ap last_exit (first.world.events ∙ sym same.events) ∙ same.going

  -- at a later store it is a few steps past the first of its group
  past_first : (n : ℕ) (st : Source) → after_steps m.layout n start ≡ Some st → is_at_later m.layout st.place ≡ true →
      (place : Option ℕ) → st.place ≡ place → IsPastFirst m.layout input n st
  past_first n st e later None at = let wrong : false ≡ true = ap (is_at_later m.layout) (sym at) ∙ later in absurd (cc)
  past_first n st e later (Some j) at =
      let leader = (there m image of input n st e).leader in
      let is_so : is_later_at m j ≡ true = sym (at_later_is m j of.accepted) ∙ ap (is_at_later m.layout) (sym at) ∙ later in
      let some = past_some m.layout (whole_at m.whole) input of.accepted.groups of.accepted.sound j is_so in
      let few = past_few m.layout (whole_at m.whole) input of.accepted.groups of.accepted.sound (Some j) in
      let counted : n ≡ leader.steps + past m.layout (whole_at m.whole) input (Some j) =
      leader.counted ∙ ap (λ (o : Option ℕ). leader.steps + past m.layout (whole_at m.whole) input o) at in
      record {
        steps = leader.steps;
        fewer = omega (arith, some, counted);
        near = omega (arith, few, counted);
        first = leader.state;
        runs = leader.runs;
        no_later = at_no_later m leader.state.place of.accepted leader.place;
        same = leader.world;
      }

  pub stands_past_first : StandsPastFirst m.layout input
  stands_past_first n st e later = past_first n st e later st.place refl

  -- of a step that goes on or is untame nothing is asked
  nothing_asked : (n : ℕ) (st : Source) → ((source_step m.layout st).turn ≡ ran) ⊎ ((why : Reason) × (k : ℕ) × ((source_step m.layout st).turn ≡ untame why k)) →
      RunsTo p image input (most_steps m.layout (n + 1)) (EndsAs m.layout (source_step m.layout st).turn (source_step m.layout st).state)
  nothing_asked n st (inl on) =
      subst (λ (t : StepTurn). RunsTo p image input (most_steps m.layout (n + 1)) (EndsAs m.layout t (source_step m.layout st).state)) (sym on) (0, omega arith, tt)
  nothing_asked n st (inr (why, k, is)) =
      subst (λ (t : StepTurn). RunsTo p image input (most_steps m.layout (n + 1)) (EndsAs m.layout t (source_step m.layout st).state)) (sym is) (0, omega arith, tt)

  ends_so : (n : ℕ) (st : Source) → after_steps m.layout n start ≡ Some st → Stepped m image st →
      RunsTo p image input (most_steps m.layout (n + 1)) (EndsAs m.layout (source_step m.layout st).turn (source_step m.layout st).state)
  ends_so n st e (has_ended status ended is) = let wrong : Some status ≡ None = sym ended ∙ going n st e in absurd (cc)
  ends_so n st e (is_untame why k is) = nothing_asked n st (inr (why, k, is))
  ends_so n st e (at_place k at now own goes_fit) =
      let turn = (source_step m.layout st).turn in
      let state = (source_step m.layout st).state in
      elim (cases_Bool (holds_store m k)) [
        | inl store ↦
            nothing_asked n st
            (goes_or_untame m.layout (place_step m k (own_of m.layout st)) turn state own (store_goes m image k (own_of m.layout st) of.accepted now store).turn)
        | inr other ↦
            let l = led m image of input n st e in
            let free : is_at_later m.layout st.place ≡ false = ap (is_at_later m.layout) at ∙ at_later_is m k of.accepted ∙ other_first m k other in
            let next = (kept n st l free).ends k at other now in
            let after = undisturbed p image input next.0 in (
              next.0,
              subst (λ (i : ℕ). next.0 ≤ most_steps m.layout (i + 1)) l.counted next.1,
              ends_as m.layout turn state (place_step m k (own_of m.layout st)) own after next.2,
            )
      ]
  ends_so n st e (at_closing nowhere is) =
      let l = led m image of input n st e in
      let close = (kept n st l (ap (is_at_later m.layout) nowhere)).closes (ap (gate_of m.layout) nowhere) in
      let few = subst (λ (i : ℕ). close.0 ≤ most_steps m.layout i) l.counted close.1 in
      let more = steps_rise m.layout n (n + 1) (omega arith) in (
        close.0,
        omega arith,
        subst (λ (a : SourceAfter). EndsAs m.layout a.turn a.state (undisturbed p image input close.0)) (sym is) (close.2.turn, close.2.shared),
      )

pub meaning_kept : MeaningKept
meaning_kept m image input of init = record {
  goes = λ n st e free. goes m image of input init n st e free;
  ends = λ n st e. ends_so m image of input init n st e (stepped m image of st);
}
