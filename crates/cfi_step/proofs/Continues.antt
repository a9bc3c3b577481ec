-- A run that is under way: what is left of it leads to what the whole leads to.
use Rattle.std.proofs.Common.{◌≡◌, ◌≤◌, ◌<◌, ◌==◌, ℕ, suc, ◌+◌, ◌-◌, Bool, true, false, List, [], ◌∷◌, ◌++◌, length, map, Option, Some, None, refl, sym, ◌∙◌, ap, subst, arith, append_assoc, append-nil, eq-eqb}
use Rattle.std.specs.Prelude.{slice_get}
use Rattle.std.specs.List.{AllByRecursion}
use Rattle.std.proofs.lemmas.List.{length-append}
use Rattle.rv_image.specs.Image.{Contents}
use Rattle.rv_image.specs.MemoryMap.{Profile}
use Rattle.rv_code.specs.Run.{HartStep, IsStepOf, RunAfter, if_ran, next_or_stop, run, stepped}
use Rattle.rv_code.specs.State.{Harts, Shared}
use Rattle.rv_code.specs.declared.turn.Turn.{Turn}
use Rattle.rv_code.specs.declared.turn.Turn.TheVariants.{Ran, Exit, Break, LoadFault, StoreFault, FetchFault, Illegal}
use Rattle.rv_machine.specs.Harts.{harts_in, harts_share, run_after}
use Rattle.cfi_unit.specs.declared.place.Place.{Place}
use Rattle.cfi_rules.specs.Along.{AreStepsOf, MayEnd}
use Rattle.cfi_rules.specs.Split.{code_words, place_at}
use Rattle.cfi_rules.specs.Taken.{steps_taken}
use Rattle.cfi_rules.specs.Trails.{Begin, IsInPlace, if_own_begin, newest_of, trail_of}
use Rattle.cfi_rules.specs.Walks.{if_own, if_starts, walk_of}
use Rattle.cfi_script.specs.Plan.{Plan, Planned, harts_of, numbered, planned, step_of, steps_of}
use Rattle.cfi_step.specs.Report.{end_of, break_at}
use Rattle.rv_code.specs.SameMachine.{IsSameMachine}
use Rattle.cfi_step.specs.Running.{is_stop, AreNoted, IsOver, StaysFrom}
use Rattle.cfi_step.specs.Taken.{AreTurnsOf}
use Rattle.cfi_step.specs.Trail.{IsTrailOf, TrailParts}
use Rattle.cfi_step.specs.declared.report.RunEnd.{RunEnd}
use Rattle.cfi_step.specs.declared.report.RunEnd.TheVariants as ends
use Rattle.cfi_step.specs.declared.running.Running.{Running}
use Rattle.cfi_step.specs.declared.turns.TakenTurns.{TakenTurns}
use Rattle.rv_code.proofs.SameSteps.{stepped_same}

pub record Continues (p : Profile) (image : Contents) (count : ℕ) (harts0 : Harts) (s0 : Shared) (whole : List Planned) (k : ℕ) (harts : Harts) (s : Shared) (rest : List Planned) (made : List (ℕ × (ℕ × ℕ))) (taken : TakenTurns) (trails : List TrailParts) : Type 0 where
  pub steps : length whole ≡ k + length rest
  pub final : run p harts0 s0 (steps_of whole) ≡ run p harts s (steps_of rest)
  pub changes : numbered 0 whole ≡ made ++ numbered k rest
  pub turns : (front : List ℕ) × (length front ≡ k) × AreTurnsOf front taken × (harts_of whole ≡ front ++ harts_of rest)
  pub walks : (j : ℕ) (t : TrailParts) → slice_get trails j ≡ Some t →
      (w : List ℕ) × IsTrailOf w t × (walk_of p (code_words image.code) j (steps_taken p harts0 s0 (steps_of whole)) ≡ w ++ walk_of p (code_words image.code) j (steps_taken p harts s (steps_of rest)))
  pub allowed : AreStepsOf count (steps_of rest) → AreStepsOf count (steps_of whole)

-- before the first step
pub at_start : (p : Profile) (image : Contents) (count : ℕ) (harts : Harts) (s : Shared) (whole : List Planned) (made : List (ℕ × (ℕ × ℕ))) (taken : TakenTurns) (trails : List TrailParts)
    → made ≡ [] → AreTurnsOf [] taken → ((j : ℕ) (t : TrailParts) → slice_get trails j ≡ Some t → IsTrailOf [] t)
    → Continues p image count harts s whole 0 harts s whole made taken trails
at_start p image count harts s whole made taken trails none no_turn empty = record {
  steps = omega arith;
  final = refl;
  changes = rw none refl;
  turns = ([], refl, no_turn, refl);
  walks = λ j t at. ([], empty j t at, refl);
  allowed = λ all. all;
}

starts_first : (place : Option Place) (pc : ℕ) (later : List ℕ) → if_starts place pc later ≡ if_starts place pc [] ++ later
starts_first None pc later = refl
starts_first (Some place) pc later = refl

none_after : (made last : List (ℕ × (ℕ × ℕ))) → made ++ last ≡ made ++ (last ++ [])
none_after made last = ap (λ m. made ++ m) (sym (append-nil last))

pub ran_of : (turn : Turn) → is_stop turn ≡ false → turn ≡ Ran
ran_of Ran e = refl
ran_of (Exit status) e = absurd (cc)
ran_of (Break pc) e = absurd (cc)
ran_of (LoadFault pc a) e = absurd (cc)
ran_of (StoreFault pc a) e = absurd (cc)
ran_of (FetchFault pc) e = absurd (cc)
ran_of (Illegal pc) e = absurd (cc)

-- an end that may come has a name
named : (place : Place) (pc : ℕ) (turn : Turn) → MayEnd place pc turn → (end : RunEnd) × (end_of turn ≡ Some end)
named place pc Ran may = (ends.Limit, refl)
named place pc (Exit status) may = (ends.Exit status, refl)
named place pc (Break at) may = (break_at at, refl)
named place pc (LoadFault at a) may = (ends.LoadFault at a, refl)
named place pc (StoreFault at a) may = absurd may
named place pc (FetchFault at) may = absurd may
named place pc (Illegal at) may = absurd may

-- nothing comes after a stop
none_later : {A : Type 0} (turn : Turn) (later : List A) → is_stop turn ≡ true → if_ran turn later ≡ []
none_later Ran later e = absurd (cc)
none_later (Exit status) later e = refl
none_later (Break pc) later e = refl
none_later (LoadFault pc a) later e = refl
none_later (StoreFault pc a) later e = refl
none_later (FetchFault pc) later e = refl
none_later (Illegal pc) later e = refl

stays_stopped : (turn : Turn) (after rest : RunAfter) → is_stop turn ≡ true → next_or_stop turn after rest ≡ after
stays_stopped Ran after rest e = absurd (cc)
stays_stopped (Exit status) after rest e = refl
stays_stopped (Break pc) after rest e = refl
stays_stopped (LoadFault pc a) after rest e = refl
stays_stopped (StoreFault pc a) after rest e = refl
stays_stopped (FetchFault pc) after rest e = refl
stays_stopped (Illegal pc) after rest e = refl

-- ---- a run stays in its place

rest_in : (P : Begin → Type 0) (own : Bool) (b : Begin) (rest : List Begin) → AllByRecursion P (if_own_begin own b rest) → AllByRecursion P rest
rest_in P true b rest all = all.1
rest_in P false b rest all = all

module _ (p : Profile) (image : Contents) (count : ℕ) (harts : Harts) (s : Shared) (t : Planned) (newest : ℕ → ℕ) (stays : StaysFrom p image count newest harts s) (one : IsStepOf count (step_of t)) where
  abbrev words : List ℕ
  words = code_words image.code

  abbrev pc : ℕ
  pc = (harts t.0).pc

  abbrev then : RunAfter
  then = stepped p harts s (step_of t)

  -- the newest addresses of the walks with this step's
  abbrev newer : ℕ → ℕ
  newer = λ k. newest_of (if_own (t.0 == k) (place_at p words pc)) (newest k) pc

  abbrev begin_of : ℕ → Begin
  begin_of k = record { newest = newer k; pc = pc; turn = then.turn }

  -- the begun instructions of a hart from here on, this one and the later ones
  begun : (steps : List HartStep) → AreStepsOf count steps → (k : ℕ)
      → AllByRecursion (IsInPlace p words) (if_own_begin (t.0 == k) (begin_of k) (trail_of p words k (newer k) (if_ran then.turn (steps_taken p then.harts then.shared steps))))
  unfolding trail_of steps_taken
  begun steps all k = stays (step_of t ∷ steps) (one, all) k

  stays_here : then.turn ≡ Ran → StaysFrom p image count newer then.harts then.shared
  stays_here ran steps all k =
      subst (λ (turn : Turn). AllByRecursion (IsInPlace p words) (trail_of p words k (newer k) (if_ran turn (steps_taken p then.harts then.shared steps)))) ran
      (rest_in (IsInPlace p words) (t.0 == k) (begin_of k) (trail_of p words k (newer k) (if_ran then.turn (steps_taken p then.harts then.shared steps))) (begun steps all k))

  -- the step's own instruction is in its place
  pub own_in_place : IsInPlace p words (begin_of t.0)
  own_in_place =
      let own = subst (λ (b : Bool). AllByRecursion (IsInPlace p words) (if_own_begin b (begin_of t.0) (trail_of p words t.0 (newer t.0) (if_ran then.turn (steps_taken p then.harts then.shared []))))) (eq-eqb t.0 t.0 refl) (begun [] tt t.0) in
      own.0

  pub has_end : (result : RunAfter) → result ≡ then → (end : RunEnd) × (end_of result.turn ≡ Some end)
  has_end result e =
      let (place, there, word, may) = own_in_place in
      subst (λ (a : RunAfter). (end : RunEnd) × (end_of a.turn ≡ Some end)) (sym e) (named place pc then.turn may)

  pub stays_next : (result : RunAfter) → result ≡ then → is_stop result.turn ≡ false → (at : ℕ → ℕ) × StaysFrom p image count at result.harts result.shared
  stays_next result e on =
      subst (λ (a : RunAfter). is_stop a.turn ≡ false → (at : ℕ → ℕ) × StaysFrom p image count at a.harts a.shared) (sym e)
      (λ goes. (newer, stays_here (ran_of then.turn goes))) on

-- ---- the next step

-- what a step comes to, of a machine of the profile `q`
pub record Took (q p : Profile) (image : Contents) (count : ℕ) (t : Planned) (k : ℕ) (before after : Running) (turn : Turn) : Type 0 where
  pub stepped : run_after after.machine turn ≡ stepped q (harts_in before.machine) (harts_share before.machine) (step_of t)
  pub allowed : IsStepOf count (step_of t)
  pub made : after.made ≡ before.made ++ map (λ c. (k, c)) t.1
  pub taken : (harts : List ℕ) → length harts ≡ k → AreTurnsOf harts before.taken → AreTurnsOf (harts ++ t.0 ∷ []) after.taken
  pub noted : AreNoted p (code_words image.code) t.0 (harts_in before.machine t.0).pc before.trails.items after.trails.items

abbrev pub step_at : Plan → ℕ → ℕ → Running → Planned
step_at plan k count before = (plan.hart k count (harts_in before.machine) (harts_share before.machine), plan.changes k count (harts_in before.machine) (harts_share before.machine))

-- the same by a profile with the machine's steps, where the count and the plan have other names
pub took_so : (q p : Profile) (image : Contents) (n count : ℕ) (before_plan plan : Plan) (k : ℕ) (before after : Running) (turn : Turn) → IsSameMachine q p → n ≡ count → before_plan ≡ plan
    → Took q p image n (step_at before_plan k n before) k before after turn → Took p p image count (step_at plan k count before) k before after turn
took_so q p image n count before_plan plan k before after turn profile counted planned_so took =
    subst (λ (x : Plan). Took p p image count (step_at x k count before) k before after turn) planned_so
    (subst (λ (x : ℕ). Took p p image x (step_at before_plan k x before) k before after turn) counted
    (record {
      stepped = took.stepped ∙ stepped_same q p profile (harts_in before.machine) (harts_share before.machine) (step_of (step_at before_plan k n before));
      allowed = took.allowed;
      made = took.made;
      taken = took.taken;
      noted = took.noted;
    }))

module _ (p : Profile) (image : Contents) (count : ℕ) (harts0 : Harts) (s0 : Shared) (whole : List Planned) (plan : Plan) (k n : ℕ) (before after : Running) (turn : Turn) where
  abbrev all_words : List ℕ
  all_words = code_words image.code

  abbrev harts : Harts
  harts = harts_in before.machine

  abbrev s : Shared
  s = harts_share before.machine

  abbrev t : Planned
  t = (plan.hart k count harts s, plan.changes k count harts s)

  abbrev at : ℕ
  at = (harts t.0).pc

  abbrev reached : RunAfter
  reached = stepped p harts s (step_of t)

  abbrev later : List Planned
  later = planned p plan count (k + 1) reached.harts reached.shared n

  -- what starts here, for a hart
  abbrev here_of : ℕ → List ℕ
  here_of j = if_starts (if_own (t.0 == j) (place_at p all_words at)) at []

  -- the step ran
  run_on : reached.turn ≡ Ran → (rest : List Planned) → run p harts s (steps_of (t ∷ rest)) ≡ run p reached.harts reached.shared (steps_of rest)
  unfolding run
  run_on ran rest = ap (λ turn. next_or_stop turn reached (run p reached.harts reached.shared (steps_of rest))) ran

  walk_on : (j : ℕ) → reached.turn ≡ Ran → (rest : List Planned) →
      walk_of p all_words j (steps_taken p harts s (steps_of (t ∷ rest))) ≡ here_of j ++ walk_of p all_words j (steps_taken p reached.harts reached.shared (steps_of rest))
  unfolding walk_of steps_taken
  walk_on j ran rest =
      ap (λ turn. if_starts (if_own (t.0 == j) (place_at p all_words at)) at (walk_of p all_words j (if_ran turn (steps_taken p reached.harts reached.shared (steps_of rest))))) ran
      ∙ starts_first (if_own (t.0 == j) (place_at p all_words at)) at (walk_of p all_words j (steps_taken p reached.harts reached.shared (steps_of rest)))

  planned_on : reached.turn ≡ Ran → planned p plan count k harts s (suc n) ≡ t ∷ later
  unfolding planned
  planned_on ran = ap (λ turn. t ∷ if_ran turn later) ran

  next_here : Continues p image count harts0 s0 whole k harts s (planned p plan count k harts s (suc n)) before.made before.taken before.trails.items
      → reached.turn ≡ Ran → Took p p image count t k before after turn
      → Continues p image count harts0 s0 whole (k + 1) reached.harts reached.shared later after.made after.taken after.trails.items
  unfolding numbered
  next_here continues ran took =
      let here : Continues p image count harts0 s0 whole k harts s (t ∷ later) before.made before.taken before.trails.items = rw (planned_on ran) at continues in
      let (front, len, turns, all_turns) = here.turns in
      record {
        steps = omega (arith, here.steps);
        final = here.final ∙ run_on ran later;
        changes = here.changes ∙ sym (append_assoc before.made (map (λ c. (k, c)) t.1) (numbered (k + 1) later)) ∙ ap (λ m. m ++ numbered (k + 1) later) (sym took.made);
        turns = (
          front ++ t.0 ∷ [],
          omega (arith, length-append front (t.0 ∷ []), len),
          took.taken front len turns,
          all_turns ∙ sym (append_assoc front (t.0 ∷ []) (harts_of later)),
        );
        walks = λ j now there.
            let (old, was, noted) = took.noted j now there in
            let (w, is_trail, walked) = here.walks j old was in
            (w ++ here_of j, noted.walk w is_trail, walked ∙ ap (λ x. w ++ x) (walk_on j ran later) ∙ sym (append_assoc w _ _));
        allowed = λ all. here.allowed (took.allowed, all);
      }

  run_stop : is_stop reached.turn ≡ true → run p harts s (steps_of (t ∷ [])) ≡ reached
  unfolding run
  run_stop stop = stays_stopped reached.turn reached (run p reached.harts reached.shared []) stop

  walk_stop : (j : ℕ) → is_stop reached.turn ≡ true → walk_of p all_words j (steps_taken p harts s (steps_of (t ∷ []))) ≡ here_of j
  unfolding walk_of steps_taken
  walk_stop j stop = ap (λ later. if_starts (if_own (t.0 == j) (place_at p all_words at)) at (walk_of p all_words j later)) (none_later reached.turn [] stop)

  planned_stop : is_stop reached.turn ≡ true → planned p plan count k harts s (suc n) ≡ t ∷ []
  unfolding planned
  planned_stop stop = ap (λ rest. t ∷ rest) (none_later reached.turn later stop)

  -- the step ran: the run goes on
  pub next : (limit : ℕ) → limit - k ≡ suc n → is_stop turn ≡ false
      → Continues p image count harts0 s0 whole k harts s (planned p plan count k harts s (limit - k)) before.made before.taken before.trails.items
      → Took p p image count t k before after turn
      → Continues p image count harts0 s0 whole (k + 1) (harts_in after.machine) (harts_share after.machine) (planned p plan count (k + 1) (harts_in after.machine) (harts_share after.machine) n) after.made after.taken after.trails.items
  next limit left on continues took =
      let here : Continues p image count harts0 s0 whole k harts s (planned p plan count k harts s (suc n)) before.made before.taken before.trails.items = rw left at continues in
      subst (λ (a : RunAfter). is_stop a.turn ≡ false → Continues p image count harts0 s0 whole (k + 1) a.harts a.shared (planned p plan count (k + 1) a.harts a.shared n) after.made after.taken after.trails.items) (sym took.stepped)
      (λ goes. next_here here (ran_of reached.turn goes) took) on

  -- the step stopped the run
  pub stopped : (limit : ℕ) → limit - k ≡ suc n → (end : RunEnd) → is_stop turn ≡ true
      → Continues p image count harts0 s0 whole k harts s (planned p plan count k harts s (limit - k)) before.made before.taken before.trails.items
      → Took p p image count t k before after turn → length after.trails.items ≡ count → after.taken.hart < count → after.taken.since ≤ k + 1
      → end_of turn ≡ Some end
      → IsOver p image count harts0 s0 whole end (k + 1) after
  unfolding numbered
  stopped limit left end stop continues took each last since is_end =
      let halts : is_stop reached.turn ≡ true = ap (λ (a : RunAfter). is_stop a.turn) (sym took.stepped) ∙ stop in
      let here : Continues p image count harts0 s0 whole k harts s (t ∷ []) before.made before.taken before.trails.items = rw (left, planned_stop halts) at continues in
      let final : run p harts0 s0 (steps_of whole) ≡ run_after after.machine turn = here.final ∙ run_stop halts ∙ sym took.stepped in
      let (front, len, turns, all_turns) = here.turns in
      record {
        ending = ap (λ (a : RunAfter). end_of a.turn) final ∙ is_end;
        number = omega (arith, here.steps);
        output = ap (λ (a : RunAfter). a.shared.output) (sym final);
        events = ap (λ (a : RunAfter). a.shared.events) (sym final);
        made = took.made ∙ none_after before.made (map (λ c. (k, c)) t.1) ∙ sym here.changes;
        taken = subst (λ (harts : List ℕ). AreTurnsOf harts after.taken) (sym all_turns) (took.taken front len turns);
        since = since;
        each = each;
        last = last;
        walks = λ j now there.
            let (old, was, noted) = took.noted j now there in
            let (w, is_trail, walked) = here.walks j old was in
            subst (λ (walk : List ℕ). IsTrailOf walk now) (sym (walked ∙ ap (λ x. w ++ x) (walk_stop j halts))) (noted.walk w is_trail);
        allowed = here.allowed (took.allowed, tt);
      }

-- no step is left
pub all_taken : (p : Profile) (image : Contents) (count : ℕ) (harts0 : Harts) (s0 : Shared) (whole : List Planned) (plan : Plan) (k limit : ℕ) (running : Running)
    → limit - k ≡ 0
    → Continues p image count harts0 s0 whole k (harts_in running.machine) (harts_share running.machine) (planned p plan count k (harts_in running.machine) (harts_share running.machine) (limit - k)) running.made running.taken running.trails.items
    → length running.trails.items ≡ count → running.taken.hart < count → running.taken.since ≤ k
    → IsOver p image count harts0 s0 whole ends.Limit k running
unfolding planned run walk_of steps_taken numbered
all_taken p image count harts0 s0 whole plan k limit running left continues each last since =
    let here : Continues p image count harts0 s0 whole k (harts_in running.machine) (harts_share running.machine) [] running.made running.taken running.trails.items = rw left at continues in
    let (front, len, turns, all_turns) = here.turns in
    record {
      ending = ap (λ (a : RunAfter). end_of a.turn) here.final;
      number = omega (arith, here.steps);
      output = ap (λ (a : RunAfter). a.shared.output) (sym here.final);
      events = ap (λ (a : RunAfter). a.shared.events) (sym here.final);
      made = sym (append-nil running.made) ∙ sym here.changes;
      taken = subst (λ (harts : List ℕ). AreTurnsOf harts running.taken) (sym (all_turns ∙ append-nil front)) turns;
      since = since;
      each = each;
      last = last;
      walks = λ j now there.
          let (w, is_trail, walked) = here.walks j now there in
          subst (λ (walk : List ℕ). IsTrailOf walk now) (sym (walked ∙ append-nil w)) is_trail;
      allowed = here.allowed tt;
    }
