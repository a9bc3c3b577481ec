-- The next step of a run is prepared: by the hart that took the last one, or by what a meddler answers.
use Rattle.std.proofs.Common.{◌≡◌, ◌≤◌, ◌<◌, ◌+◌, ℕ, List, [], Some, get_or, length, min, set, refl, sym, ap, subst, ◌∙◌, arith, append-nil}
use Rattle.std.specs.Prelude.{slice_get}
use Rattle.std.specs.List.{All}
use Rattle.std.proofs.lemmas.List.{set-get_or}
use Rattle.std.proofs.lemmas.Option.{get_or_from_slice_get, slice_get-get_or, slice_get_within}
use Rattle.rv_image.specs.Image.{Contents}
use Rattle.rv_image.specs.MemoryMap.{Profile}
use Rattle.rv_machine.specs.Harts.{harts_in, harts_share}
use Rattle.cfi_script.specs.Plan.{IsOneHart, IsQuietPlan, Plan}
use Rattle.cfi_step.specs.Running.{IsBegun, IsPrepared, IsReady, IsStill}
use Rattle.cfi_step.specs.Stretch.{with_own}
use Rattle.cfi_step.specs.Trail.{IsTrailOf, TrailParts}
use Rattle.cfi_step.specs.declared.running.Running.{Running}
use Rattle.cfi_step.specs.declared.turns.TakenTurns.{TakenTurns}
use Rattle.cfi_step.proofs.TurnsTaken.{takes_own}

-- the same hart goes on, and no change comes
pub goes_on_so : (plan : Plan) (step until : ℕ) (running : Running) → IsReady plan step running → IsStill step until plan (length running.machine.resting) running.taken.hart → step < until → IsPrepared plan step running running
goes_on_so plan step until running ready still less =
    let known = still step (omega arith) less (harts_in running.machine) (harts_share running.machine) in
    let none = known.1 in
    record {
      hart = sym known.0;
      below = ready.last;
      since = ready.since;
      current = ready.current;
      taken = λ harts len are. takes_own harts running.taken running.taken.hart refl are;
      allowed = rw none tt;
      harts = refl;
      shared = rw none refl;
      made = rw none (sym (append-nil running.made));
      count = refl;
      version = refl;
      trails = refl;
      quiet = λ k from below. ready.quiet k (omega arith) below;
    }

-- what is known of the steps after one of a hart
pub still_so : (plan : Plan) (step quiet until still count hart : ℕ) → still ≡ min quiet until → IsQuietPlan (step + 1) quiet plan → IsOneHart step until count hart plan → IsStill (step + 1) still plan count hart
still_so plan step quiet until still count hart least none one k from below now shared = (one k (omega arith) (omega (arith, least)) now shared, none k from (omega (arith, least)) count now shared)

-- each of the trails is of a walk without addresses
pub empty_so : (trails : List TrailParts) → All (IsTrailOf []) trails → (k : ℕ) (t : TrailParts) → slice_get trails k ≡ Some t → IsTrailOf [] t
empty_so trails empty k t at =
    subst (λ (x : TrailParts). IsTrailOf [] x) (get_or_from_slice_get trails k t t at) (empty k t (slice_get_within trails k t at))

-- before the first step nothing is known
pub begun_ready : (plan : Plan) (p : Profile) (image : Contents) (running : Running) → IsBegun p image running → IsReady plan 0 running
begun_ready plan p image running begun = record {
  last = omega (arith, begun.some, begun.last);
  since = omega (arith, begun.since);
  current = begun.current ∙ sym begun.last;
  each = begun.each;
  walked = λ k t at.
      let is = empty_so running.trails.items begun.empty k t at in
      omega (arith, is.0);
  quiet = λ k from below. absurd (omega (arith, begun.quiet));
}

-- and after a step it is known of the next one, where its hart noted it
pub ready_next : (plan : Plan) (step : ℕ) (before mid after : Running) → IsReady plan step before → IsPrepared plan step before mid
    → length after.machine.resting ≡ length mid.machine.resting → after.machine.current ≡ mid.machine.current → after.taken ≡ mid.taken → length after.trails.items ≡ length mid.trails.items
    → ((k : ℕ) (t : TrailParts) → slice_get after.trails.items k ≡ Some t → (old : TrailParts) × (slice_get mid.trails.items k ≡ Some old) × (t.count ≤ old.count + 1))
    → after.quiet ≡ mid.quiet → IsReady plan (step + 1) after
ready_next plan step before mid after ready prepared counted selected turns each noted quiet =
    let count = counted ∙ prepared.count in
    let hart = ap (λ (t : TakenTurns). t.hart) turns in
    record {
      last = omega (arith, prepared.below, count, hart);
      since = omega (arith, ap (λ (t : TakenTurns). t.since) turns, prepared.since);
      current = selected ∙ prepared.current ∙ sym hart;
      each = each ∙ ap (λ (items : List TrailParts). length items) prepared.trails ∙ ready.each ∙ sym count;
      walked = λ k t at.
          let (old, was, more) = noted k t at in
          let low = ready.walked k old (subst (λ (items : List TrailParts). slice_get items k ≡ Some old) prepared.trails was) in
          omega arith;
      quiet = λ k from below. prepared.quiet k from (omega (arith, quiet));
    }

-- no walk has more addresses than steps were taken
pub own_walked : (plan : Plan) (step : ℕ) (before mid : Running) → IsReady plan step before → IsPrepared plan step before mid → (t : TrailParts) → slice_get mid.trails.items mid.taken.hart ≡ Some t → t.count ≤ step
own_walked plan step before mid ready prepared t at = ready.walked mid.taken.hart t (subst (λ (items : List TrailParts). slice_get items mid.taken.hart ≡ Some t) prepared.trails at)

-- the hart that is chosen has a trail
pub trail_there : (before mid : Running) → mid.taken.hart < length before.machine.resting → length before.trails.items ≡ length before.machine.resting → mid.trails.items ≡ before.trails.items
    → (t : TrailParts) × (slice_get mid.trails.items mid.taken.hart ≡ Some t)
trail_there before mid below each same =
    let none : TrailParts = record { count = 0; last = [] } in
    (get_or mid.trails.items mid.taken.hart none, slice_get-get_or mid.trails.items mid.taken.hart none (omega (arith, ap (λ (items : List TrailParts). length items) same)))

-- the next step is prepared, with the trail of its hart as it stands in the list
pub own_prepared : (plan : Plan) (step : ℕ) (before mid : Running) (t : TrailParts) → IsPrepared plan step before mid → slice_get mid.trails.items mid.taken.hart ≡ Some t → IsPrepared plan step before (with_own mid mid.machine t)
own_prepared plan step before mid t prepared at = record {
  hart = prepared.hart;
  below = prepared.below;
  since = prepared.since;
  current = prepared.current;
  taken = prepared.taken;
  allowed = prepared.allowed;
  harts = prepared.harts;
  shared = prepared.shared;
  made = prepared.made;
  count = prepared.count;
  version = prepared.version;
  trails = ap (λ (x : TrailParts). set mid.trails.items mid.taken.hart x) (sym (get_or_from_slice_get mid.trails.items mid.taken.hart t t at)) ∙ set-get_or mid.trails.items mid.taken.hart t ∙ prepared.trails;
  quiet = prepared.quiet;
}
