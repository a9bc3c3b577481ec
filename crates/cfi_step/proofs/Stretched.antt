-- A stretch of steps of one hart, and the run that it is part of.
use Rattle.std.proofs.Common.{◌≡◌, ◌≤◌, ◌<◌, ◌+◌, ◌*◌, ◌-◌, ◌++◌, ◌∷◌, [], ℕ, zero, suc, Bool, true, false, List, length, set, None, Some, Ok, Err, refl, sym, ◌∙◌, ap, subst, arith}
use Rattle.std.specs.Prelude.{is_some, slice_get, IfErr, Result}
use Rattle.std.specs.List.{AllByRecursion}
use Rattle.std.specs.Vec.{with_item}
use Rattle.std.proofs.lemmas.List.{length-set}
use Rattle.rv_image.specs.Image.{Contents}
use Rattle.rv_image.specs.MemoryMap.{CODE_START, Profile, profile_of}
use Rattle.rv_image.specs.declared.version.ImageVersion.{ImageVersion}
use Rattle.rv_word.specs.Memory.{Memory}
use Rattle.rv_code.specs.Run.{ByteChange, HartStep, IsDataChange, IsStepOf, RunAfter, changed, disturbed, stepped}
use Rattle.rv_code.specs.State.{Harts, Shared, last_exit}
use Rattle.rv_code.specs.declared.turn.Turn.{Turn}
use Rattle.rv_code.specs.declared.turn.Turn.TheVariants.{Ran, Exit, Break, LoadFault, StoreFault, FetchFault, Illegal}
use Rattle.rv_machine.specs.Harts.{HartParts, MachineParts, at_pc, harts_in, harts_share, run_after}
use Rattle.rv_machine.specs.Parts.{IsNoFetch}
use Rattle.cfi_unit.specs.declared.place.Place.{Place}
use Rattle.cfi_rules.specs.Along.{MayEnd}
use Rattle.cfi_rules.specs.Split.{code_words, place_at}
use Rattle.cfi_rules.specs.Taken.{steps_taken}
use Rattle.cfi_rules.specs.Trails.{IsInPlace, trail_of}
use Rattle.cfi_script.specs.Plan.{Plan, Planned, changes_of, planned, step_of}
use Rattle.cfi_step.specs.Report.{end_of}
use Rattle.rv_code.specs.SameMachine.{IsSameMachine}
use Rattle.cfi_step.specs.Running.{is_stop, AreNoted, IsOver, IsPrepared, IsReady, IsStill, StaysFrom, changes_in_plan, hart_in_plan}
use Rattle.cfi_step.specs.Starts.{AreStartsOf, LiesInCode}
use Rattle.cfi_step.specs.Stretch.{at, AreQuiet, GoesOn, IsOwnStep, IsQuiet, IsStaying, MayFetch, OnStop, Stops, with_own}
use Rattle.cfi_step.specs.Taken.{AreTurnsOf}
use Rattle.cfi_step.specs.Trail.{TrailParts}
use Rattle.cfi_step.specs.declared.report.RunEnd.{RunEnd}
use Rattle.cfi_step.specs.declared.running.Running.{Running}
use Rattle.cfi_step.specs.declared.stretch.Halt.{Halt}
use Rattle.cfi_step.specs.declared.stretch.Halt.TheVariants.{NoMemory, Stopped}
use Rattle.cfi_step.specs.declared.turns.TakenTurns.{TakenTurns}
use Rattle.cfi_step.proofs.Continues.{Continues, Took, has_end, next, own_in_place, stays_next, step_at, stopped, took_so}
use Rattle.cfi_step.proofs.Noting.{noted_own, selected_pc}
use Rattle.cfi_step.proofs.Preparing.{goes_on_so, ready_next}
use Rattle.cfi_step.proofs.Stepping.{noted_so, stepped_so}
use Rattle.rv_code.proofs.SameSteps.{stepped_same}

-- what is noted of a word is so at its address
pub start_at : (p : Profile) (words : List ℕ) (starts : List Bool) (word pc : ℕ) (is : Bool) → pc ≡ CODE_START + 4 * word → Some is ≡ slice_get starts word → AreStartsOf p words starts → is ≡ is_some (place_at p words pc)
start_at p words starts word pc is there got are = are.each word is (sym got) ∙ ap (λ (a : ℕ). is_some (place_at p words a)) (sym there)

-- a step of a machine's hart is one of a run
pub quiet_of : (p : Profile) (words : List ℕ) (running : Running) (before after : MachineParts) (old new : TrailParts) (turn : Turn) → before.current ≡ running.taken.hart → running.taken.hart < length running.trails.items
    → IsOwnStep p words before after old new turn → IsQuiet p words (with_own running before old) (with_own running after new) turn
quiet_of p words running before after old new turn selected below step = record {
  stepped = step.stepped ∙ ap (λ (h : ℕ). stepped (profile_of before.processor.memory.version) (harts_in before) (harts_share before) (record { hart = h; changes = [] })) selected;
  going = step.going;
  noted = subst (λ (pc : ℕ). AreNoted p words running.taken.hart pc (set running.trails.items running.taken.hart old) (set running.trails.items running.taken.hart new)) (selected_pc before running.taken.hart selected)
      (noted_own p words running.taken.hart before.processor.pc running.trails.items old new below step.walk step.count);
  made = refl;
  taken = refl;
  each = length-set running.trails.items running.taken.hart new ∙ sym (length-set running.trails.items running.taken.hart old);
  quiet = refl;
  current = step.current;
  resting = step.resting;
  version = step.version;
}

-- what holds of a run with its own machine and trail, where the trail was taken from the list and put back
pub own_so : (R : Running → Running → Type 0) (now : Running) (m : MachineParts) (hart : ℕ) (was t new : TrailParts) → hart ≡ now.taken.hart → was ≡ t → R (with_own now now.machine was) (with_own now m new)
    → R (with_own now now.machine t) (record now { machine = m; trails = with_item now.trails hart new })
own_so R now m hart was t new own same holds =
    subst (λ (k : ℕ). R (with_own now now.machine t) (record now { machine = m; trails = with_item now.trails k new })) (sym own)
    (subst (λ (x : TrailParts). R (with_own now now.machine x) (with_own now m new)) same holds)

pub stops_map : {A : Type 0} (P Q : Turn → ℕ → Type 0) (result : Result A Halt) → IfErr result (OnStop P) → ((turn : Turn) (steps : ℕ) → P turn steps → Q turn steps) → IfErr result (OnStop Q)
stops_map P Q (Ok x) told follows = tt
stops_map P Q (Err (Stopped turn steps)) told follows = follows turn steps told
stops_map P Q (Err NoMemory) told follows = tt

-- no end that may come is want of an instruction
no_end : (place : Place) (pc : ℕ) (turn : Turn) → MayEnd place pc turn → IsNoFetch turn → ⊥
no_end place pc Ran may none = none
no_end place pc (Exit status) may none = none
no_end place pc (Break a) may none = none
no_end place pc (LoadFault a b) may none = none
no_end place pc (StoreFault a b) may none = none
no_end place pc (FetchFault a) may none = may
no_end place pc (Illegal a) may none = may

-- where a run stays in its place there is an instruction of the code, and it stays so after a step
module _ (count : ℕ) (m : MachineParts) (staying : IsStaying count m) (below : m.current < length m.resting) where
  abbrev own_steps : Profile
  own_steps = profile_of m.processor.memory.version

  one_step : IsStepOf (length m.resting) (step_of (m.current, []))
  one_step = record { hart = below; changes = tt }

  same_step : stepped own_steps (harts_in m) (harts_share m) (step_of (m.current, [])) ≡ stepped staying.profile (harts_in m) (harts_share m) (step_of (m.current, []))
  same_step = stepped_same own_steps staying.profile staying.same (harts_in m) (harts_share m) (step_of (m.current, []))

  pub may_fetch : MayFetch m
  may_fetch none =
      let (place, there, word, may) = own_in_place staying.profile staying.image (length m.resting) (harts_in m) (harts_share m) (m.current, []) staying.newest staying.stays one_step in
      no_end place _ _ may (subst (λ (a : RunAfter). IsNoFetch a.turn) same_step none)

  pub in_code : m.processor.pc < CODE_START + 4 * count
  in_code =
      let (place, there, word, may) = own_in_place staying.profile staying.image (length m.resting) (harts_in m) (harts_share m) (m.current, []) staying.newest staying.stays one_step in
      let inside = staying.inside _ _ place there word in
      omega (arith, inside, selected_pc m m.current refl, staying.words)

  pub stays_on : (p : Profile) (words : List ℕ) (after : MachineParts) (old new : TrailParts) → IsOwnStep p words m after old new Ran → IsStaying count after
  stays_on p words after old new step =
      let (newest, stays) = stays_next staying.profile staying.image (length m.resting) (harts_in m) (harts_share m) (m.current, []) staying.newest staying.stays one_step (run_after after Ran) (step.stepped ∙ same_step) refl in
      record {
        profile = staying.profile;
        same = ap (λ (v : ImageVersion). (profile_of v).shadow_size) step.version ∙ staying.same;
        image = staying.image;
        newest = newest;
        stays = subst (λ (n : ℕ). StaysFrom staying.profile staying.image n newest (harts_in after) (harts_share after)) (sym (ap (λ (r : List HartParts). length r) step.resting)) stays;
        words = staying.words;
        inside = staying.inside;
      }

-- before the first of the steps
pub none_quiet : (p : Profile) (words : List ℕ) (running : Running) (m : MachineParts) (t : TrailParts) (pc : ℕ) → pc ≡ m.processor.pc → AreQuiet p words (with_own running m t) 0 (with_own running (at_pc m pc) t)
unfolding AreQuiet
none_quiet p words running m t pc is = ap (λ (a : ℕ). with_own running (at_pc m a) t) is

-- one more
pub more_quiet : (p : Profile) (words : List ℕ) (first before after : Running) (n m : ℕ) → m ≡ suc n → AreQuiet p words first n before → IsQuiet p words before after Ran → AreQuiet p words first m after
unfolding AreQuiet
more_quiet p words first before after n m is front step = rw is (before, front, step)

-- ---- a run stays in its place where data changes

all_changes : (first rest : List ByteChange) → AllByRecursion IsDataChange first → AllByRecursion IsDataChange rest → AllByRecursion IsDataChange (first ++ rest)
all_changes [] rest all later = later
all_changes (c ∷ cs) rest all later = (all.0, all_changes cs rest all.1 later)

changed_both : (first rest : List ByteChange) (m : Memory) → changed m (first ++ rest) ≡ changed (changed m first) rest
changed_both [] rest m = refl
changed_both (c ∷ cs) rest m = changed_both cs rest _

module _ (p : Profile) (image : Contents) (count : ℕ) (newest : ℕ → ℕ) (harts : Harts) (s : Shared) (first : List ByteChange) where
  taken_both : (t : HartStep) (rest : List HartStep) → steps_taken p harts s (record { hart = t.hart; changes = first ++ t.changes } ∷ rest) ≡ steps_taken p harts (disturbed s first) (t ∷ rest)
  unfolding steps_taken
  taken_both t rest = rw (changed_both first t.changes s.memory) refl

  pub stays_changed : StaysFrom p image count newest harts s → AllByRecursion IsDataChange first → StaysFrom p image count newest harts (disturbed s first)
  unfolding steps_taken trail_of
  stays_changed stays are [] all k = tt
  stays_changed stays are (t ∷ rest) all k =
      subst (λ taken. AllByRecursion (IsInPlace p (code_words image.code)) (trail_of p (code_words image.code) k (newest k) taken)) (taken_both t rest)
      (stays (record { hart = t.hart; changes = first ++ t.changes } ∷ rest) (record { hart = all.0.hart; changes = all_changes first t.changes are all.0.changes }, all.1) k)

-- ---- the first step after the changes is one of the plan

module _ (p : Profile) (image : Contents) (plan : Plan) (k : ℕ) (before mid after : Running) (turn : Turn) (ready : IsReady plan k before) (prepared : IsPrepared plan k before mid)
    (quiet : IsQuiet p (code_words image.code) mid after turn) where
  abbrev version_before : Profile
  version_before = profile_of before.machine.processor.memory.version

  first_own : Took version_before p image (length before.machine.resting) (step_at plan k (length before.machine.resting) before) k before after turn
  first_own = record {
    stepped = quiet.stepped ∙ stepped_so (profile_of mid.machine.processor.memory.version) version_before (harts_in mid.machine) (harts_in before.machine) (harts_share mid.machine) (harts_share before.machine) mid.taken.hart
        (hart_in_plan plan k before.machine) (changes_in_plan plan k before.machine) (ap profile_of prepared.version) prepared.harts prepared.shared prepared.hart;
    allowed = record { hart = subst (λ (h : ℕ). h < length before.machine.resting) prepared.hart prepared.below; changes = prepared.allowed };
    made = quiet.made ∙ prepared.made;
    taken = λ harts len are.
        subst (λ (t : TakenTurns). AreTurnsOf (harts ++ hart_in_plan plan k before.machine ∷ []) t) (sym quiet.taken)
        (subst (λ (h : ℕ). AreTurnsOf (harts ++ h ∷ []) mid.taken) prepared.hart (prepared.taken harts len are));
    noted = noted_so p (code_words image.code) mid.taken.hart (hart_in_plan plan k before.machine) (harts_in mid.machine) (harts_in before.machine) mid.trails.items before.trails.items after.trails.items
        prepared.hart prepared.harts prepared.trails quiet.noted;
  }

  pub first_took : (count : ℕ) → IsSameMachine version_before p → length before.machine.resting ≡ count → Took p p image count (step_at plan k count before) k before after turn
  first_took count profile counted = took_so version_before p image (length before.machine.resting) count plan plan k before after turn profile counted refl first_own

  pub first_ready : IsReady plan (k + 1) after
  first_ready =
      ready_next plan k before mid after ready prepared (ap (λ (r : List HartParts). length r) quiet.resting) quiet.current quiet.taken
      quiet.each (λ j t at. let (old, was, noted) = quiet.noted j t at in (old, was, noted.count)) quiet.quiet

-- ---- a run that is under way

-- what is left of the run leads to what the whole leads to, and stays in its place
pub record IsUnderWay (p : Profile) (image : Contents) (count : ℕ) (harts0 : Harts) (s0 : Shared) (limit : ℕ) (plan : Plan) (k : ℕ) (running : Running) : Type 0 where
  pub bound : k ≤ limit
  pub ready : IsReady plan k running
  pub counted : length running.machine.resting ≡ count
  pub profile : IsSameMachine (profile_of running.machine.processor.memory.version) p
  pub stays : (newest : ℕ → ℕ) × StaysFrom p image count newest (harts_in running.machine) (harts_share running.machine)
  pub going : last_exit (harts_share running.machine).events ≡ None
  pub continues : Continues p image count harts0 s0 (planned p plan count 0 harts0 s0 limit) k (harts_in running.machine) (harts_share running.machine)
      (planned p plan count k (harts_in running.machine) (harts_share running.machine) (limit - k)) running.made running.taken running.trails.items

module _ (p : Profile) (image : Contents) (count : ℕ) (harts0 : Harts) (s0 : Shared) (limit : ℕ) (plan : Plan) where
  abbrev whole : List Planned
  whole = planned p plan count 0 harts0 s0 limit

  abbrev UnderWay : ℕ → Running → Type 0
  UnderWay k running = IsUnderWay p image count harts0 s0 limit plan k running

  abbrev TookOne : ℕ → Running → Running → Turn → Type 0
  TookOne k before after turn = Took p p image count (step_at plan k count before) k before after turn

  abbrev words_of_code : List ℕ
  words_of_code = code_words image.code

  -- a step of the run, from a state under way
  record Step (k : ℕ) (after : Running) (turn : Turn) : Type 0 where
    before : Running
    way : UnderWay k before
    took : TookOne k before after turn
    ready : IsReady plan (k + 1) after
    counted : length after.machine.resting ≡ length before.machine.resting
    version : after.machine.processor.memory.version ≡ before.machine.processor.memory.version

  -- after which it is under way, or over
  way_next : (k : ℕ) (after : Running) (turn : Turn) → Step k after turn → k < limit → is_stop turn ≡ false → last_exit (harts_share after.machine).events ≡ None → UnderWay (k + 1) after
  way_next k after turn step less goes going =
      let way = step.way in
      let before = step.before in
      record {
        bound = omega arith;
        ready = step.ready;
        counted = step.counted ∙ way.counted;
        profile = ap (λ (v : ImageVersion). (profile_of v).shadow_size) step.version ∙ way.profile;
        stays = stays_next p image count (harts_in before.machine) (harts_share before.machine) (step_at plan k count before) way.stays.0 way.stays.1 step.took.allowed _ step.took.stepped goes;
        going = going;
        continues = next p image count harts0 s0 whole plan k (limit - (k + 1)) before after turn limit (omega arith) goes way.continues step.took;
      }

  way_end : (k : ℕ) (after : Running) (turn : Turn) → Step k after turn → (end : RunEnd) × (end_of turn ≡ Some end)
  way_end k after turn step =
      let before = step.before in
      has_end p image count (harts_in before.machine) (harts_share before.machine) (step_at plan k count before) step.way.stays.0 step.way.stays.1 step.took.allowed _ step.took.stepped

  way_stopped : (k : ℕ) (after : Running) (turn : Turn) (end : RunEnd) → Step k after turn → k < limit → is_stop turn ≡ true → end_of turn ≡ Some end → IsOver p image count harts0 s0 whole end (k + 1) after
  way_stopped k after turn end step less stop is_end =
      let all = step.counted ∙ step.way.counted in
      stopped p image count harts0 s0 whole plan k (limit - (k + 1)) step.before after turn limit (omega arith) end stop step.way.continues step.took (step.ready.each ∙ all)
      (subst (λ (n : ℕ). after.taken.hart < n) all step.ready.last) step.ready.since is_end

  -- the first step after the changes, and one of the same hart before which none comes
  prepared_step : (k : ℕ) (before mid after : Running) (turn : Turn) → UnderWay k before → IsPrepared plan k before mid → IsQuiet p words_of_code mid after turn → Step k after turn
  prepared_step k before mid after turn way prepared quiet = record {
    before = before;
    way = way;
    took = first_took p image plan k before mid after turn way.ready prepared quiet count way.profile way.counted;
    ready = first_ready p image plan k before mid after turn way.ready prepared quiet;
    counted = ap (λ (r : List HartParts). length r) quiet.resting ∙ prepared.count;
    version = quiet.version ∙ prepared.version;
  }

  -- along quiet steps
  same_along : (n : ℕ) (before mid : Running) → AreQuiet p words_of_code before n mid → (mid.taken ≡ before.taken) × (mid.machine.resting ≡ before.machine.resting)
  unfolding AreQuiet
  same_along zero before mid same = (ap (λ (r : Running). r.taken) same, ap (λ (r : Running). r.machine.resting) same)
  same_along (suc n) before mid (last, front, quiet) =
      let along = same_along n before last front in
      (quiet.taken ∙ along.0, quiet.resting ∙ along.1)

  last_step : (n k until : ℕ) (before mid last after : Running) (turn : Turn) → UnderWay k before → IsPrepared plan k before mid → IsStill (k + 1) until plan (length before.machine.resting) mid.taken.hart
      → AreQuiet p words_of_code mid n last → IsQuiet p words_of_code last after turn → k + n < until → until ≤ limit → Step (k + n) after turn
  unfolding AreQuiet
  last_step zero k until before mid last after turn way prepared still same quiet less most =
      let none : k ≡ k + 0 = omega arith in
      let own = subst (λ (r : Running). IsQuiet p words_of_code r after turn) same quiet in
      subst (λ (j : ℕ). Step j after turn) none (prepared_step k before mid after turn way prepared own)
  last_step (suc n) k until before mid last after turn way prepared still along quiet less most =
      let (former, front, ran) = along in
      let here = last_step n k until before mid former last Ran way prepared still front ran (omega arith) most in
      let one : k + n + 1 ≡ k + suc n = omega arith in
      let on = subst (λ (j : ℕ). UnderWay j last) one (way_next (k + n) last Ran here (omega arith) refl (ran.going refl)) in
      let (taken, resting) = same_along (suc n) mid last along in
      let counted = sym prepared.count ∙ sym (ap (λ (r : List HartParts). length r) resting) in
      let left : IsStill (k + suc n) until plan (length last.machine.resting) last.taken.hart =
      subst (λ (c : ℕ). IsStill (k + suc n) until plan c last.taken.hart) counted
      (subst (λ (h : ℕ). IsStill (k + suc n) until plan (length before.machine.resting) h) (sym (ap (λ (t : TakenTurns). t.hart) taken))
      (λ j from below. still j (omega arith) below)) in
      prepared_step (k + suc n) last last after turn on (goes_on_so plan (k + suc n) until last on.ready left less) quiet

  -- ---- what a stretch asks of the run where its next step is prepared, and what it comes to

  module _ (from : ℕ) (before mid : Running) (way : UnderWay from before) (prepared : IsPrepared plan from before mid) where
    pub prepared_going : last_exit (harts_share mid.machine).events ≡ None
    prepared_going = ap (λ (s : Shared). last_exit s.events) prepared.shared ∙ way.going

    pub prepared_stays : (words : ℕ) → length words_of_code ≡ words → LiesInCode p words_of_code → IsStaying words mid.machine
    prepared_stays words counted inside = record {
      profile = p;
      same = ap (λ (v : ImageVersion). (profile_of v).shadow_size) prepared.version ∙ way.profile;
      image = image;
      newest = way.stays.0;
      stays =
          subst (λ (n : ℕ). StaysFrom p image n way.stays.0 (harts_in mid.machine) (harts_share mid.machine)) (sym (prepared.count ∙ way.counted))
          (subst (λ (hs : Harts). StaysFrom p image count way.stays.0 hs (harts_share mid.machine)) (sym prepared.harts)
          (subst (λ (s : Shared). StaysFrom p image count way.stays.0 (harts_in before.machine) s) (sym prepared.shared)
          (stays_changed p image count way.stays.0 (harts_in before.machine) (harts_share before.machine) (changes_of (changes_in_plan plan from before.machine)) way.stays.1 prepared.allowed)));
      words = counted;
      inside = inside;
    }

    module _ (after : Running) (until : ℕ) (still : IsStill (from + 1) until plan (length before.machine.resting) mid.taken.hart) (most : until ≤ limit) where
      pub stretch_way : GoesOn p words_of_code from until mid after → UnderWay until after
      unfolding AreQuiet
      stretch_way goes =
          let n = goes.n in
          let (last, front, quiet) = goes.along in
          let there : from + n + 1 ≡ until = omega (arith, goes.taken) in
          subst (λ (j : ℕ). UnderWay j after) there
          (way_next (from + n) after Ran (last_step n from until before mid last after Ran way prepared still front quiet (omega (arith, there)) most) (omega (arith, there, most)) refl (quiet.going refl))

      stopped_step : (turn : Turn) (steps : ℕ) (stops : Stops p words_of_code from until mid after turn steps) → Step (from + stops.n) (at after stops.pc) turn
      stopped_step turn steps stops =
          last_step stops.n from until before mid stops.mid (at after stops.pc) turn way prepared still stops.along stops.last (omega (arith, stops.taken, stops.most)) most

      pub stretch_end : (turn : Turn) (steps : ℕ) → Stops p words_of_code from until mid after turn steps → (end : RunEnd) × (end_of turn ≡ Some end)
      stretch_end turn steps stops = way_end (from + stops.n) (at after stops.pc) turn (stopped_step turn steps stops)

      over_at : (k pc : ℕ) (end : RunEnd) → IsOver p image count harts0 s0 whole end k (at after pc) → IsOver p image count harts0 s0 whole end k after
      over_at k pc end over = record {
        ending = over.ending;
        number = over.number;
        output = over.output;
        events = over.events;
        made = over.made;
        taken = over.taken;
        since = over.since;
        each = over.each;
        last = over.last;
        walks = over.walks;
        allowed = over.allowed;
      }

      pub stretch_stopped : (turn : Turn) (steps : ℕ) (end : RunEnd) → Stops p words_of_code from until mid after turn steps → end_of turn ≡ Some end → IsOver p image count harts0 s0 whole end steps after
      stretch_stopped turn steps end stops is_end =
          let there : from + stops.n + 1 ≡ steps = omega (arith, stops.taken) in
          subst (λ (j : ℕ). IsOver p image count harts0 s0 whole end j after) there
          (over_at (from + stops.n + 1) stops.pc end (way_stopped (from + stops.n) (at after stops.pc) turn end (stopped_step turn steps stops) (omega (arith, stops.taken, stops.most, most)) stops.stop is_end))
