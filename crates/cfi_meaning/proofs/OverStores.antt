-- Steps of the source machine over the stores of a group are a run over its places.
use Rattle.std.proofs.Common.{◌≡◌, ℕ, zero, suc, ◌+◌, ◌-◌, ◌≤◌, inl, inr, true, false, Option, Some, None, [], ◌∷◌, refl, sym, ap, subst, ◌∙◌, arith}
use Rattle.std.specs.List.{range_with_len}
use Rattle.std.proofs.lemmas.Bool.{cases_eq, cases_lt}
use Rattle.std.proofs.lemmas.Option.{same_Some}
use Rattle.cfi_meaning.proofs.Prelude.{Contents, last_exit, Ran, Source, StepTurn, ran, source_step, untame, Own, OwnAfter, Choice, behind, is_later_at, IsImageOf, is_at_later, own_of, PlacesRun, TamePlace, holds_store, place_step, LeadsOver}
use Rattle.cfi_writer.proofs.Grouping.{first_behind, later_behind, later_store}
use Rattle.cfi_meaning.proofs.AtLater.{at_later_is}
use Rattle.cfi_meaning.proofs.KindActs.{IsOwn}
use Rattle.cfi_meaning.proofs.KindFits.{Fits}
use Rattle.cfi_meaning.proofs.Steps.{Stepped, at_closing, at_place, has_ended, is_untame, stepped}
use Rattle.cfi_meaning.proofs.StoreSteps.{store_goes, store_next}

-- a run over the stores of a group from the first on, and the step from the last of them
pub run_more : (m : Choice) (image : Contents) (n k : ℕ) (o middle : Own) (after : OwnAfter) → PlacesRun m image (range_with_len k n) o middle →
    TamePlace m image (k + n) middle → place_step m (k + n) middle ≡ after → after.turn ≡ Ran → PlacesRun m image (range_with_len k (suc n)) o after.state
run_more m image zero k o middle after same now leads going =
    let e : k + 0 ≡ k = omega arith in
    let now_here = subst (λ (j : ℕ). TamePlace m image j middle) e now in
    let leads_here : place_step m k middle ≡ after = subst (λ (j : ℕ). place_step m j middle ≡ after) e leads in
    subst (λ (x : Own). PlacesRun m image (k ∷ []) x after.state) same
    (now_here, ap (λ (a : OwnAfter). a.turn) leads_here ∙ going, sym (ap (λ (a : OwnAfter). a.state) leads_here))
run_more m image (suc n) k o middle after run now leads going =
    let e : k + suc n ≡ k + 1 + n = omega arith in (
      run.0,
      run.1,
      run_more m image n (k + 1) (place_step m k o).state middle after run.2 (subst (λ (j : ℕ). TamePlace m image j middle) e now)
          (subst (λ (j : ℕ). place_step m j middle ≡ after) e leads) going,
    )

-- so many steps from a store on over later stores alone
pub record StoresMade (m : Choice) (image : Contents) (n k : ℕ) (st last : Source) : Type 0 where
  pub run : PlacesRun m image (range_with_len k n) (own_of m.layout st) (own_of m.layout last)
  pub others : (i : ℕ) → 1 ≤ i → i ≤ n → is_later_at m (k + i) ≡ true
  pub at : last.place ≡ Some (k + n)
  pub store : holds_store m (k + n) ≡ true
  pub going : last_exit last.shared.events ≡ None
  pub fits : Fits m.layout st → Fits m.layout last

none_made : (m : Choice) (image : Contents) (k : ℕ) (st : Source) → st.place ≡ Some k → holds_store m k ≡ true → last_exit st.shared.events ≡ None →
    StoresMade m image 0 k st st
none_made m image k st at store going =
    let e : k ≡ k + 0 = omega arith in
    record {
      run = refl;
      others = λ i some few. absurd (omega arith);
      at = at ∙ ap (λ (j : ℕ). Some j) e;
      store = subst (λ (j : ℕ). holds_store m j ≡ true) e store;
      going = going;
      fits = λ fits. fits;
    }

-- a step from a store that goes on
record StepsOn (m : Choice) (image : Contents) (k : ℕ) (st next : Source) : Type 0 where
  now : TamePlace m image k (own_of m.layout st)
  leads : place_step m k (own_of m.layout st) ≡ record { state = own_of m.layout next; turn = Ran }
  events : next.shared.events ≡ st.shared.events
  fits : Fits m.layout st → Fits m.layout next

-- and more of them behind it
more_made : (m : Choice) (image : Contents) (n k : ℕ) (st next last : Source) → StepsOn m image k st next → is_later_at m (k + 1) ≡ true →
    StoresMade m image n (k + 1) next last → StoresMade m image (suc n) k st last
more_made m image n k st next last step later more =
    let e : k + 1 + n ≡ k + suc n = omega arith in
    record {
      run = (
        step.now,
        ap (λ (a : OwnAfter). a.turn) step.leads,
        subst (λ (a : OwnAfter). PlacesRun m image (range_with_len (k + 1) n) a.state (own_of m.layout last)) (sym step.leads) more.run,
      );
      others = λ i some few.
          elim (cases_eq i 1) [
            | inl first ↦ subst (λ (d : ℕ). is_later_at m (k + d) ≡ true) (sym first) later
            | inr further ↦
                let f : k + 1 + (i - 1) ≡ k + i = omega arith in
                subst (λ (d : ℕ). is_later_at m d ≡ true) f (more.others (i - 1) (omega arith) (omega arith))
          ];
      at = more.at ∙ ap (λ (d : ℕ). Some d) e;
      store = subst (λ (d : ℕ). holds_store m d ≡ true) e more.store;
      going = more.going;
      fits = λ fits. more.fits (step.fits fits);
    }

module _ (m : Choice) (image : Contents) (of : IsImageOf m image) where
  steps_on : (k : ℕ) (st : Source) → st.place ≡ Some k → holds_store m k ≡ true → last_exit st.shared.events ≡ None → (source_step m.layout st).turn ≡ ran →
      Stepped m image st → StepsOn m image k st (source_step m.layout st).state
  steps_on k st at store going on (has_ended status ended is) = let wrong : Some status ≡ None = sym ended ∙ going in absurd (cc)
  steps_on k st at store going on (is_untame why j is) = let wrong : untame why j ≡ ran = sym is ∙ on in absurd (cc)
  steps_on k st at store going on (at_closing nowhere is) = let wrong : Some k ≡ None = sym at ∙ nowhere in absurd (cc)
  steps_on k st at store going on (at_place j there now own goes_fit) =
      let here : j ≡ k = same_Some j k (sym there ∙ at) in
      let now_here = subst (λ (i : ℕ). TamePlace m image i (own_of m.layout st)) here now in
      let next = (source_step m.layout st).state in
      let leads : IsOwn m.layout (place_step m k (own_of m.layout st)) ran next =
      subst (λ (t : StepTurn). IsOwn m.layout (place_step m k (own_of m.layout st)) t next) on
      (subst (λ (i : ℕ). IsOwn m.layout (place_step m i (own_of m.layout st)) (source_step m.layout st).turn next) here own) in
      let goes = store_goes m image k (own_of m.layout st) of.accepted now_here store in
      record {
        now = now_here;
        leads = leads;
        events = sym (ap (λ (a : OwnAfter). a.state.shared.events) leads) ∙ goes.events;
        fits = λ fits. (goes_fit fits).fits;
      }

  pub stores_made : (n k : ℕ) (st last : Source) → st.place ≡ Some k → holds_store m k ≡ true → last_exit st.shared.events ≡ None →
      LeadsOver m.layout n st last → StoresMade m image n k st last
  stores_made zero k st last at store going over = subst (λ (x : Source). StoresMade m image 0 k st x) (sym over) (none_made m image k st at store going)
  stores_made (suc n) k st last at store going over =
      let next = (source_step m.layout st).state in
      let step = steps_on k st at store going over.1 (stepped m image of st) in
      let next_at : next.place ≡ Some (k + 1) = store_next m.layout st k at store over.1 in
      let later : is_later_at m (k + 1) ≡ true =
      sym (at_later_is m (k + 1) of.accepted) ∙ subst (λ (place : Option ℕ). is_at_later m.layout place ≡ true) next_at over.2 in
      more_made m image n k st next last step later
      (stores_made n (k + 1) next last next_at (later_store m (k + 1) later).0 (ap last_exit step.events ∙ going) over.3)

  -- they are all of the group, if the next place is no later store
  pub all_made : (n k : ℕ) (st last : Source) → StoresMade m image n k st last → is_later_at m (k + n + 1) ≡ false → n ≡ behind m k
  all_made n k st last made free =
      elim (cases_lt n (behind m k)) [
        | inl less ↦
            let more = later_behind m k (n + 1) (omega arith) (omega arith) in
            let e : k + n + 1 ≡ k + (n + 1) = omega arith in
            let wrong : true ≡ false = sym more ∙ ap (is_later_at m) (sym e) ∙ free in absurd (cc)
        | inr not_less ↦ elim (cases_lt (behind m k) n) [
          | inl more ↦
              let wrong : true ≡ false = sym (made.others (behind m k + 1) (omega arith) (omega arith)) ∙ first_behind m k in absurd (cc)
          | inr not_more ↦ omega arith
        ]
      ]

  pub whole_group : (n k : ℕ) (st last : Source) (after : OwnAfter) → StoresMade m image n k st last → TamePlace m image (k + n) (own_of m.layout last) →
      place_step m (k + n) (own_of m.layout last) ≡ after → after.turn ≡ Ran → is_later_at m (k + n + 1) ≡ false →
      PlacesRun m image (range_with_len k (suc (behind m k))) (own_of m.layout st) after.state
  whole_group n k st last after made now leads going free =
      subst (λ (j : ℕ). PlacesRun m image (range_with_len k (suc j)) (own_of m.layout st) after.state) (all_made n k st last made free)
      (run_more m image n k (own_of m.layout st) (own_of m.layout last) after made.run now leads going)
