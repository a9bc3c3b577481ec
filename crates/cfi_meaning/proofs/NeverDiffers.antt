-- Nothing differs: where the program's run goes on its trace is the beginning of the image's, and where
-- it has ended both are the same.
use Rattle.std.proofs.Common.{◌≡◌, ℕ, zero, suc, ◌+◌, ◌-◌, ◌≤◌, ◌==◌, Bool, true, List, [], ◌∷◌, ◌++◌, length, map, Option, Some, None, append-nil, append_assoc, replicate, refl, sym, ap, subst, ◌∙◌, arith}
use Rattle.std.proofs.lemmas.Bool.{le-ltb}
use Rattle.rv_word.proofs.Booleans.{is_self}
use Rattle.cfi_meaning.proofs.Prelude.{Contents, Profile, continue, ByteChange, next_or_stop, run_alone, After, start_hart, start_shared, Event, Turn, Ran, Exit, Break, ProgramAtMap, word, OPENING, undisturbed, whole_at, IsAccepted, Choice, most_steps, Compared, Difference, SourceRun, TraceItem, broke, called, compared_from, differs, exited, first_difference, has_ended, image_end, run_from, running, same_bytes, same_event, same_item, source_end, source_run, stopped, trace, verdict, EndsAs, KeepsMeaning, Source, source_start, SourceAfter, StepTurn, after_steps, breaks, exits, ran, source_step, untame}
use Rattle.rv_image.proofs.Profiles.{laid_out}
use Rattle.rv_code.proofs.Continued.{events_added, run_in_parts}
use Rattle.cfi_meaning.specs.NeverDiffers as law
use Rattle.cfi_meaning.proofs.Kept.{meaning_kept}
use Rattle.cfi_map.proofs.LaterRuns.{AtLeader, reached}
use Rattle.cfi_meaning.proofs.PlacesKept.{steps_rise}
use Rattle.cfi_meaning.proofs.AtLater.{at_no_later}

bytes_self : (xs : List ℕ) → same_bytes xs xs ≡ true
bytes_self [] = refl
bytes_self (x ∷ xs) = rw (is_self x, bytes_self xs) refl

event_self : (e : Event) → same_event e e ≡ true
event_self e = rw (is_self e.number, is_self e.a0, is_self e.a1, is_self e.a2, is_self e.a3, is_self e.a4, is_self e.a5, bytes_self e.bytes, is_self e.answer) refl

item_self : (x : TraceItem) → same_item x x ≡ true
item_self (called e) = event_self e
item_self (exited s) = is_self s
item_self broke = refl
item_self stopped = refl
item_self running = refl

-- nothing differs from what goes on
pub prefix_same : (k : ℕ) (ended : Bool) (xs ys : List TraceItem) → first_difference k ended xs (xs ++ ys) ≡ None
prefix_same k ended [] ys = refl
prefix_same k ended (x ∷ xs) ys = rw (item_self x) (prefix_same (suc k) ended xs ys)

pub all_same : (k : ℕ) (ended : Bool) (xs : List TraceItem) → first_difference k ended xs xs ≡ None
all_same k ended xs = ap (first_difference k ended xs) (sym (append-nil xs)) ∙ prefix_same k ended xs []

-- where a run of the source machine is
pub data Where (g : ProgramAtMap) (start : Source) (j : ℕ) (r : SourceRun) : Type 0 where
  on_way : r.turn ≡ ran → after_steps g (j + r.steps) start ≡ Some r.state → Where g start j r
  at_end : (before : Source) (i : ℕ) → r.steps ≡ i + 1 → after_steps g (j + i) start ≡ Some before → source_step g before ≡ record { state = r.state; turn = r.turn } →
      (r.turn ≡ ran → ⊥) → Where g start j r
  off_way : (why : _) (k : ℕ) → r.turn ≡ untame why k → Where g start j r

module _ (g : ProgramAtMap) (start : Source) where
  -- a step more
  step_more : (j : ℕ) (st : Source) → after_steps g j start ≡ Some st → (source_step g st).turn ≡ ran → after_steps g (suc j) start ≡ Some (source_step g st).state
  unfolding after_steps
  step_more j st e going = rw (e, going) refl

  further : (j : ℕ) (r : SourceRun) → Where g start (suc j) r → Where g start j (record { steps = suc r.steps; state = r.state; turn = r.turn })
  further j r (on_way t e) =
      let same : suc j + r.steps ≡ j + suc r.steps = omega arith in on_way t (subst (λ (i : ℕ). after_steps g i start ≡ Some r.state) same e)
  further j r (at_end before i counted e is not_ran) =
      let same : suc j + i ≡ j + suc i = omega arith in
      at_end before (suc i) (omega arith) (subst (λ (n : ℕ). after_steps g n start ≡ Some before) same e) is not_ran
  further j r (off_way why k is) = off_way why k is

  here : (j : ℕ) (st : Source) → after_steps g j start ≡ Some st → after_steps g (j + 0) start ≡ Some st
  here j st e = let same : j ≡ j + 0 = omega arith in subst (λ (i : ℕ). after_steps g i start ≡ Some st) same e

  next_where : (j : ℕ) (st : Source) (turn : StepTurn) (rest : SourceRun) → after_steps g j start ≡ Some st → (source_step g st).turn ≡ turn →
      (after_steps g (suc j) start ≡ Some (source_step g st).state → Where g start (suc j) rest) → Where g start j (run_from turn (source_step g st).state rest)
  next_where j st ran rest e is on = further j rest (on (step_more j st e is))
  next_where j st (exits status) rest e is on =
      at_end st 0 refl (here j st e) (ap (λ (t : StepTurn). record { state = (source_step g st).state; turn = t }) is) (λ wrong. cc)
  next_where j st (breaks k) rest e is on =
      at_end st 0 refl (here j st e) (ap (λ (t : StepTurn). record { state = (source_step g st).state; turn = t }) is) (λ wrong. cc)
  next_where j st (untame why k) rest e is on = off_way why k refl

  pub where_is : (n : ℕ) (st : Source) (j : ℕ) → after_steps g j start ≡ Some st → Where g start j (source_run g n st)
  unfolding source_run
  where_is zero st j e = on_way refl (here j st e)
  where_is (suc n) st j e =
      next_where j st (source_step g st).turn (source_run g n (source_step g st).state) e refl (λ on. where_is n (source_step g st).state (suc j) on)

-- the image's run goes on
none_join : (m more : ℕ) → replicate {A = List ByteChange} (m + more) [] ≡ replicate m [] ++ replicate more []
none_join zero more = ap (λ (n : ℕ). replicate {A = List ByteChange} n []) (let e : 0 + more ≡ more = omega arith in e)
none_join (suc m) more =
    ap (λ (n : ℕ). replicate {A = List ByteChange} n []) (let e : suc m + more ≡ suc (m + more) = omega arith in e)
    ∙ ap (λ (rest : List (List ByteChange)). [] ∷ rest) (none_join m more)

none_differs : (turn : StepTurn) (n : ℕ) (d : Difference) → verdict turn None n ≡ differs d → ⊥
none_differs ran n d e = cc
none_differs (exits status) n d e = cc
none_differs (breaks k) n d e = cc
none_differs (untame why k) n d e = cc

untame_differs : (turn : StepTurn) (why : _) (k : ℕ) (o : Option Difference) (n : ℕ) (d : Difference) → turn ≡ untame why k → verdict turn o n ≡ differs d → ⊥
untame_differs turn why k o n d is e = let e' : verdict (untame why k) o n ≡ differs d = ap (λ (t : StepTurn). verdict t o n) (sym is) ∙ e in cc

module _ (m : Choice) (ok : IsAccepted m) (image : Contents) (input : List ℕ) where
  abbrev p : Profile
  p = m.layout.profile

  abbrev after : ℕ → After
  after n = undisturbed p image input n

  goes_on : (few most : ℕ) → few ≤ most → after most ≡ continue p (after few) (replicate (most - few) [])
  goes_on few most less =
      let e : most ≡ few + (most - few) = omega arith in
      ap after e
      ∙ ap (run_alone p (start_hart 0) (start_shared image input)) (none_join few (most - few))
      ∙ run_in_parts p (start_hart 0) (start_shared image input) (replicate few []) (replicate (most - few) [])

  -- after a stop nothing follows
  exits_still : (a : After) (status : ℕ) (rest : After) → a.turn ≡ Exit status → next_or_stop a.turn a rest ≡ a
  exits_still a status rest e = ap (λ (t : Turn). next_or_stop t a rest) e

  breaks_still : (a : After) (pc : ℕ) (rest : After) → a.turn ≡ Break pc → next_or_stop a.turn a rest ≡ a
  breaks_still a pc rest e = ap (λ (t : Turn). next_or_stop t a rest) e

  runs_still : (a : After) (rest : After) → a.turn ≡ Ran → next_or_stop a.turn a rest ≡ rest
  runs_still a rest e = ap (λ (t : Turn). next_or_stop t a rest) e

  -- events that were there come first
  added : (few most : ℕ) → few ≤ most → (after few).turn ≡ Ran → (more : List Event) × ((after most).shared.events ≡ (after few).shared.events ++ more)
  added few most less going =
      let a = after few in
      let on = events_added p a.hart a.shared (replicate (most - few) []) in
      (on.0, ap (λ (x : After). x.shared.events) (goes_on few most less ∙ runs_still a (run_alone p a.hart a.shared (replicate (most - few) [])) going) ∙ on.1)

  map_join : (xs ys : List Event) → map called (xs ++ ys) ≡ map called xs ++ map called ys
  map_join [] ys = refl
  map_join (x ∷ xs) ys = ap (λ (rest : List TraceItem). called x ∷ rest) (map_join xs ys)

  going_same : (events more : List Event) (end : List TraceItem) (k : ℕ) (ended : Bool) →
      first_difference k ended (trace events []) (trace (events ++ more) end) ≡ None
  going_same events more end k ended =
      ap (λ (xs : List TraceItem). first_difference k ended xs (trace (events ++ more) end)) (append-nil (map called events))
      ∙ ap (first_difference k ended (map called events)) (ap (λ (xs : List TraceItem). xs ++ end) (map_join events more) ∙ append_assoc (map called events) (map called more) end)
      ∙ prefix_same k ended (map called events) (map called more ++ end)

  ended_same : (turn : StepTurn) (st : Source) (few most : ℕ) → few ≤ most → EndsAs m.layout turn st (after few) → (turn ≡ ran → ⊥) → (d : Difference) →
      verdict turn (first_difference 0 (has_ended turn) (trace st.shared.events (source_end turn)) (trace (after most).shared.events (image_end (after most).turn))) (length st.shared.events) ≡ differs d → ⊥
  ended_same ran st few most less answer not_ran d e = not_ran refl
  ended_same (exits status) st few most less answer not_ran d e =
      let same : after most ≡ after few = goes_on few most less ∙ exits_still (after few) status _ answer.0 in
      let events : (after most).shared.events ≡ st.shared.events = ap (λ (x : After). x.shared.events) same ∙ answer.1.events in
      let turn : (after most).turn ≡ Exit status = ap (λ (x : After). x.turn) same ∙ answer.0 in
      let none : first_difference 0 true (trace st.shared.events (exited status ∷ [])) (trace (after most).shared.events (image_end (after most).turn)) ≡ None =
      ap (λ (es : List Event). first_difference 0 true (trace st.shared.events (exited status ∷ [])) (trace es (image_end (after most).turn))) events
      ∙ ap (λ (t : Turn). first_difference 0 true (trace st.shared.events (exited status ∷ [])) (trace st.shared.events (image_end t))) turn
      ∙ all_same 0 true (trace st.shared.events (exited status ∷ [])) in
      none_differs (exits status) (length st.shared.events) d (ap (λ (o : Option Difference). verdict (exits status) o (length st.shared.events)) (sym none) ∙ e)
  ended_same (breaks k) st few most less answer not_ran d e =
      let same : after most ≡ after few = goes_on few most less ∙ breaks_still (after few) (word m.layout k) _ answer.0 in
      let events : (after most).shared.events ≡ st.shared.events = ap (λ (x : After). x.shared.events) same ∙ answer.2.events in
      let turn : (after most).turn ≡ Break (word m.layout k) = ap (λ (x : After). x.turn) same ∙ answer.0 in
      let past = answer.1 in
      let low = (laid_out p ok.profile).low in
      let own : image_end (Break (word m.layout k)) ≡ broke ∷ [] = rw (le-ltb (word m.layout k) OPENING (omega arith)) refl in
      let none : first_difference 0 true (trace st.shared.events (broke ∷ [])) (trace (after most).shared.events (image_end (after most).turn)) ≡ None =
      ap (λ (es : List Event). first_difference 0 true (trace st.shared.events (broke ∷ [])) (trace es (image_end (after most).turn))) events
      ∙ ap (λ (end : List TraceItem). first_difference 0 true (trace st.shared.events (broke ∷ [])) (trace st.shared.events end)) (ap image_end turn ∙ own)
      ∙ all_same 0 true (trace st.shared.events (broke ∷ [])) in
      none_differs (breaks k) (length st.shared.events) d (ap (λ (o : Option Difference). verdict (breaks k) o (length st.shared.events)) (sym none) ∙ e)
  ended_same (untame why k) st few most less answer not_ran d e = cc

  module _ (kept : KeepsMeaning m.layout image input) where
    abbrev start : Source
    start = source_start m.layout input

    -- what is compared
    abbrev told : SourceRun → Compared
    told r =
        verdict r.turn
        (first_difference 0 (has_ended r.turn) (trace r.state.shared.events (source_end r.turn)) (trace (after (most_steps m.layout r.steps)).shared.events (image_end (after (most_steps m.layout r.steps)).turn)))
        (length r.state.shared.events)

    -- where the run goes on its trace is the beginning of the image's: it is that of the last state at no later store
    traces : (n most : ℕ) (st : Source) → n ≤ most → AtLeader m.layout (whole_at m.whole) input n st →
        (more : List Event) × ((after (most_steps m.layout most)).shared.events ≡ st.shared.events ++ more)
    traces n most st less first =
        let here = kept.goes first.steps first.state first.runs (at_no_later m first.state.place ok first.place) in
        let few = here.1 in
        let least = first.few in
        let rises = steps_rise m.layout first.steps most (omega arith) in
        let more = added here.0 (most_steps m.layout most) (omega arith) here.2.turn in
        (more.0, more.1 ∙ ap (λ (old : List Event). old ++ more.0) (here.2.events ∙ sym first.world.events))

    never : (r : SourceRun) → Where m.layout start 0 r → (d : Difference) → told r ≡ differs d → ⊥
    never r (on_way t e) d differ =
        let runs = subst (λ (i : ℕ). after_steps m.layout i start ≡ Some r.state) (let s : 0 + r.steps ≡ r.steps = omega arith in s) e in
        let (more, events) =
        traces r.steps r.steps r.state (omega arith) (reached m.layout (whole_at m.whole) input ok.groups ok.sound r.steps r.state runs).leader in
        let most = most_steps m.layout r.steps in
        let es = r.state.shared.events in
        let end = image_end (after most).turn in
        let none : first_difference 0 (has_ended r.turn) (trace es (source_end r.turn)) (trace (after most).shared.events end) ≡ None =
        ap (λ (x : StepTurn). first_difference 0 (has_ended r.turn) (trace es (source_end x)) (trace (after most).shared.events end)) t
        ∙ ap (λ (all : List Event). first_difference 0 (has_ended r.turn) (trace es []) (trace all end)) events
        ∙ going_same es more end 0 (has_ended r.turn) in
        none_differs r.turn (length es) d (ap (λ (o : Option Difference). verdict r.turn o (length es)) (sym none) ∙ differ)
    never r (at_end before i counted e is not_ran) d differ =
        let there = kept.ends i before (subst (λ (j : ℕ). after_steps m.layout j start ≡ Some before) (let s : 0 + i ≡ i = omega arith in s) e) in
        let answer : EndsAs m.layout r.turn r.state (after there.0) =
        subst (λ (a : SourceAfter). EndsAs m.layout a.turn a.state (after there.0)) is there.2 in
        ended_same r.turn r.state there.0 (most_steps m.layout r.steps) (subst (λ (n : ℕ). there.0 ≤ most_steps m.layout n) (sym counted) there.1) answer not_ran d differ
    never r (off_way why k is) d differ = untame_differs r.turn why k _ _ d is differ

pub never_differs : law.NeverDiffers
unfolding compared_from after_steps
never_differs m image of init input limit d differ =
    never m of.accepted image input (meaning_kept m image input of init) (source_run m.layout limit (source_start m.layout input))
    (where_is m.layout (source_start m.layout input) limit (source_start m.layout input) 0 (begins m input)) d differ
  where
    begins : (m : Choice) (input : List ℕ) → after_steps m.layout 0 (source_start m.layout input) ≡ Some (source_start m.layout input)
    begins m input = refl
