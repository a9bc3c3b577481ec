-- The steps of the source machine from its start lead over places, each linked with the next: a later store comes right behind a store.
use Rattle.std.proofs.Common.{◌≡◌, ℕ, zero, suc, ◌+◌, ◌%◌, ◌^◌, true, inl, inr, List, [], ◌∷◌, ◌++◌, length, length-append, Option, Some, None, refl, sym, ap, subst, ◌∙◌, arith}
use Rattle.std.proofs.lemmas.Bool.{cases_Bool}
use Rattle.std.proofs.lemmas.Option.{option_and_then_some, same_Some}
use Rattle.cfi_meaning.proofs.Prelude.{Contents, Ran, item_of, whole_at, Source, source_start, SourceAfter, StepTurn, after_steps, closes, exits, going_on, ran, source_step, Own, OwnAfter, Choice, is_later_at, IsImageOf, is_outside, own_of, Chained, Linked, PlacesRun, TamePlace, holds_store, place_step, ComesBackOutside, Follows}
use Rattle.obj_input.specs.declared.item_kind.ItemKind.TheVariants as is
use Rattle.cfi_map.proofs.LaterPlaces.{NoneLater, entry_is, stepped as steps_to}
use Rattle.cfi_map.proofs.LaterRuns.{Reached, reached, gone_on}
use Rattle.cfi_meaning.proofs.KindActs.{IsOwn}
use Rattle.cfi_meaning.proofs.KindFits.{Fits, GoesFit}
use Rattle.cfi_meaning.proofs.Steps.{Stepped, at_closing, at_place, has_ended, is_untame, stepped}
use Rattle.cfi_meaning.proofs.StoreSteps.{store_next}

-- a step more at the end of a run over places
one_more : (m : Choice) (image : Contents) (places : List ℕ) (k : ℕ) (o middle last : Own) → PlacesRun m image places o middle → TamePlace m image k middle →
    place_step m k middle ≡ record { state = last; turn = Ran } → PlacesRun m image (places ++ k ∷ []) o last
one_more m image [] k o middle last same now is =
    subst (λ (x : Own). PlacesRun m image (k ∷ []) x last) same
    (now, ap (λ (a : OwnAfter). a.turn) is, sym (ap (λ (a : OwnAfter). a.state) is))
one_more m image (j ∷ places) k o middle last on now is = (on.0, on.1, one_more m image places k (place_step m j o).state middle last on.2 now is)

-- the closing exits
closes_turn : (m : Choice) (st : Source) → (closes m.layout st).turn ≡ exits (st.regs 10 % 2 ^ 8)
closes_turn m st = refl

chained_on : (m : Choice) (before : Option ℕ) (places : List ℕ) (k : ℕ) (next : Option ℕ) → Chained m before places (Some k) → Linked m (Some k) next →
    Chained m before (places ++ k ∷ []) next
chained_on m before [] k next chain link = (chain, link)
chained_on m before (j ∷ places) k next chain link = (chain.0, chained_on m (Some j) places k next chain.1 link)

-- a place and the next one are linked
linked : (m : Choice) (k : ℕ) (next : Option ℕ) → (holds_store m k ≡ true → next ≡ Some (k + 1)) →
    ((j : ℕ) → next ≡ Some j → is_later_at m j ≡ true → holds_store m k ≡ true) → Linked m (Some k) next
linked m k None store later =
    elim (cases_Bool (holds_store m k)) [ inl has ↦ let wrong : None ≡ Some (k + 1) = store has in absurd (cc) | inr other ↦ other ]
linked m k (Some j) store later = (λ has. same_Some j (k + 1) (store has), λ is_later. later j refl is_later)

-- a place more, from which no call comes back into a leaf
follows : (m : Choice) (k : ℕ) (next : Option ℕ) →
    ((item_of m.layout.program k).kind ≡ is.Return → (j : ℕ) → next ≡ Some j → is_outside m.layout j) → Follows m k next
follows m k None back = tt
follows m k (Some j) back = λ returns. back returns j refl

back_on : (m : Choice) (places : List ℕ) (k : ℕ) (next : Option ℕ) → ComesBackOutside m places (Some k) → Follows m k next →
    ComesBackOutside m (places ++ k ∷ []) next
back_on m [] k next before behind = behind
back_on m (j ∷ []) k next before behind = (before, behind)
back_on m (j ∷ i ∷ places) k next before behind = (before.0, back_on m (i ∷ places) k next before.1 behind)

-- n steps lead over as many places, which are linked
pub record Led (m : Choice) (image : Contents) (n : ℕ) (start st : Source) : Type 0 where
  pub places : List ℕ
  pub counted : length places ≡ n
  pub run : PlacesRun m image places (own_of m.layout start) (own_of m.layout st)
  pub chain : Chained m None places st.place
  pub fits : Fits m.layout st
  pub back : ComesBackOutside m places st.place

module _ (m : Choice) (image : Contents) (of : IsImageOf m image) (input : List ℕ) where
  abbrev pub start : Source
  start = source_start m.layout input

  -- what is known of each state of the run
  pub there : (n : ℕ) (st : Source) → after_steps m.layout n start ≡ Some st → Reached m.layout (whole_at m.whole) input n st
  there = reached m.layout (whole_at m.whole) input of.accepted.groups of.accepted.sound

  link_on : (s st : Source) (k : ℕ) → NoneLater m.layout (whole_at m.whole) s.pending → s.place ≡ Some k → (source_step m.layout s).turn ≡ ran →
      (source_step m.layout s).state ≡ st → Linked m (Some k) st.place
  link_on s st k pending at going leads =
      let step = steps_to m.layout (whole_at m.whole) of.accepted.groups s pending going in
      subst (λ (x : Source). Linked m (Some k) x.place) leads
      (linked m k (source_step m.layout s).state.place (λ store. store_next m.layout s k at store going)
      (λ j next later.
      let (i, there_at, store, after) = step.place j next later in
      subst (λ (d : ℕ). holds_store m d ≡ true) (same_Some i k (sym there_at ∙ at)) store))

  led_on : (n : ℕ) (s st : Source) → after_steps m.layout n start ≡ Some s → Led m image n start s →
      going_on (source_step m.layout s).turn (source_step m.layout s).state ≡ Some st → Stepped m image s → Led m image (suc n) start st
  led_on n s st before led on (has_ended status ended is) =
      let wrong : None ≡ Some st = sym (ap (λ (a : SourceAfter). going_on a.turn a.state) is) ∙ on in absurd (cc)
  led_on n s st before led on (is_untame why k is) =
      let wrong : None ≡ Some st = sym (ap (λ (t : StepTurn). going_on t (source_step m.layout s).state) is) ∙ on in absurd (cc)
  led_on n s st before led on (at_closing nowhere is) =
      let wrong : None ≡ Some st =
      sym (ap (λ (a : SourceAfter). going_on a.turn a.state) is ∙ ap (λ (t : StepTurn). going_on t (closes m.layout s).state) (closes_turn m s)) ∙ on in absurd (cc)
  led_on n s st before led on (at_place k at now own goes_fit) =
      let went = gone_on (source_step m.layout s).turn (source_step m.layout s).state st on in
      let moved : IsOwn m.layout (place_step m k (own_of m.layout s)) ran (source_step m.layout s).state =
      subst (λ (t : StepTurn). IsOwn m.layout (place_step m k (own_of m.layout s)) t (source_step m.layout s).state) went.0 own in
      let is : place_step m k (own_of m.layout s) ≡ record { state = own_of m.layout st; turn = Ran } =
      moved ∙ ap (λ (x : Source). record { state = own_of m.layout x; turn = Ran }) went.1 in
      let fit : GoesFit m.layout (item_of m.layout.program k).kind st =
      subst (GoesFit m.layout (item_of m.layout.program k).kind) went.1 (goes_fit led.fits) in
      let longer = length-append led.places (k ∷ []) in
      let counted = led.counted in
      record {
        places = led.places ++ k ∷ [];
        counted = omega arith;
        run = one_more m image led.places k (own_of m.layout start) (own_of m.layout s) (own_of m.layout st) led.run now is;
        chain =
            chained_on m None led.places k st.place (subst (λ (place : Option ℕ). Chained m None led.places place) at led.chain)
            (link_on s st k (there n s before).pending at went.0 went.1);
        fits = fit.fits;
        back =
            back_on m led.places k st.place (subst (λ (place : Option ℕ). ComesBackOutside m led.places place) at led.back) (follows m k st.place fit.back);
      }

  pub led : (n : ℕ) (st : Source) → after_steps m.layout n start ≡ Some st → Led m image n start st
  unfolding after_steps
  led zero st e =
      let same : start ≡ st = same_Some start st e in
      subst (Led m image 0 start) same (record {
        places = [];
        counted = refl;
        run = refl;
        chain = entry_is m.layout (whole_at m.whole) of.accepted.groups;
        fits = record { room = omega arith; outside = tt };
        back = tt;
      })
  led (suc n) st e =
      option_and_then_some {P = Led m image (suc n) start st}
      (λ (s : Source). going_on (source_step m.layout s).turn (source_step m.layout s).state) (after_steps m.layout n start) st e
      (λ s before on. led_on n s st before (led n s before) on (stepped m image of s))
