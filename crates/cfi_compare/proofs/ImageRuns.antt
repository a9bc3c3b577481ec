-- An image's run that is under way: one step of it, and the system calls that are alike so far.
use Rattle.std.proofs.Common.{◌≡◌, true, false, ℕ, zero, suc, ◌+◌, ◌-◌, ◌<◌, ◌≤◌, List, [], ◌∷◌, ◌++◌, length, replicate, slice_get, Option, Some, None, append-nil, refl, sym, ap, subst, ◌∙◌, arith}
use Rattle.std.proofs.lemmas.Option.{slice_get_past, slice_get_within}
use Rattle.cfi_compare.proofs.Prelude.{ImageVersion, Profile, profile_of, ByteChange, next_or_stop, run, run_alone, After, Hart, Shared, step, Event, Turn, Ran, Exit, Break, LoadFault, StoreFault, FetchFault, Illegal, Parts, after_step, hart_in, shared_in, Agree, agree_at, both_same, is_stop}
use Rattle.rv_code.proofs.Alone.{alone_next}
use Rattle.rv_code.proofs.Continued.{events_added}

-- more is added to the list of a run than to what it begins with
abbrev Adds : List Event → List Event → Type 0
Adds old new = (added : List Event) × (new ≡ old ++ added)

next_adds : (turn : Turn) (a rest : After) → Adds a.shared.events rest.shared.events → Adds a.shared.events (next_or_stop turn a rest).shared.events
next_adds Ran a rest more = more
next_adds (Exit status) a rest more = ([], sym (append-nil a.shared.events))
next_adds (Break pc) a rest more = ([], sym (append-nil a.shared.events))
next_adds (LoadFault pc v) a rest more = ([], sym (append-nil a.shared.events))
next_adds (StoreFault pc v) a rest more = ([], sym (append-nil a.shared.events))
next_adds (FetchFault pc) a rest more = ([], sym (append-nil a.shared.events))
next_adds (Illegal pc) a rest more = ([], sym (append-nil a.shared.events))

-- a run of one step makes the system calls of the step
one_step : (p : Profile) (turn : Turn) (a : After) → (next_or_stop turn a (run_alone p a.hart a.shared [])).shared.events ≡ a.shared.events
unfolding run
one_step p Ran a = refl
one_step p (Exit status) a = refl
one_step p (Break pc) a = refl
one_step p (LoadFault pc v) a = refl
one_step p (StoreFault pc v) a = refl
one_step p (FetchFault pc) a = refl
one_step p (Illegal pc) a = refl

next_stop : (turn : Turn) (a rest : After) → is_stop turn ≡ true → next_or_stop turn a rest ≡ a
next_stop Ran a rest e = absurd (cc)
next_stop (Exit status) a rest e = refl
next_stop (Break pc) a rest e = refl
next_stop (LoadFault pc v) a rest e = refl
next_stop (StoreFault pc v) a rest e = refl
next_stop (FetchFault pc) a rest e = refl
next_stop (Illegal pc) a rest e = refl

next_ran : (turn : Turn) (a rest : After) → is_stop turn ≡ false → next_or_stop turn a rest ≡ rest
next_ran Ran a rest e = refl
next_ran (Exit status) a rest e = absurd (cc)
next_ran (Break pc) a rest e = absurd (cc)
next_ran (LoadFault pc v) a rest e = absurd (cc)
next_ran (StoreFault pc v) a rest e = absurd (cc)
next_ran (FetchFault pc) a rest e = absurd (cc)
next_ran (Illegal pc) a rest e = absurd (cc)

-- a step of the version that there was before the run
pub as_begun : (h : Hart) (s : Shared) (now : Parts) (turn : Turn) (version before : ImageVersion) → version ≡ before →
    after_step now turn ≡ step (profile_of version) h s → after_step now turn ≡ step (profile_of before) h s
as_begun h s now turn version before same is = subst (λ (v : ImageVersion). after_step now turn ≡ step (profile_of v) h s) same is

module _ (p : Profile) (h : Hart) (s : Shared) (now : Parts) (turn : Turn) (stepped : after_step now turn ≡ step p h s) where
  abbrev rest_of : ℕ → List (List ByteChange)
  rest_of n = replicate {A = List ByteChange} n []

  run_step : (n : ℕ) → run_alone p h s (rest_of (suc n)) ≡ next_or_stop turn (after_step now turn) (run_alone p (hart_in now) (shared_in now) (rest_of n))
  run_step n =
      alone_next p h s [] (rest_of n)
      ∙ ap (λ (a : After). next_or_stop a.turn a (run_alone p a.hart a.shared (rest_of n))) (sym stepped)

  pub run_goes : (n : ℕ) → is_stop turn ≡ false → run_alone p h s (rest_of (suc n)) ≡ run_alone p (hart_in now) (shared_in now) (rest_of n)
  run_goes n goes = run_step n ∙ next_ran turn (after_step now turn) _ goes

  pub run_stops : (n : ℕ) → is_stop turn ≡ true → run_alone p h s (rest_of (suc n)) ≡ after_step now turn
  run_stops n stops = run_step n ∙ next_stop turn (after_step now turn) _ stops

  pub run_adds : (n : ℕ) → Adds (shared_in now).events (run_alone p h s (rest_of (suc n))).shared.events
  run_adds n =
      let more = next_adds turn (after_step now turn) (run_alone p (hart_in now) (shared_in now) (rest_of n)) (events_added p (hart_in now) (shared_in now) (rest_of n)) in
      (more.0, ap (λ (a : After). a.shared.events) (run_step n) ∙ more.1)

  -- a step only adds to the system calls
  pub step_adds : Adds s.events (shared_in now).events
  step_adds =
      let more = events_added p h s (rest_of 1) in
      let one = ap (λ (a : After). a.shared.events) (run_step 0) ∙ one_step p turn (after_step now turn) in
      (more.0, sym one ∙ more.1)

pub get_more : (xs ys : List Event) (i : ℕ) (x : Event) → slice_get xs i ≡ Some x → slice_get (xs ++ ys) i ≡ Some x
get_more [] ys i x e = absurd (cc)
get_more (y ∷ xs) ys zero x e = e
get_more (y ∷ xs) ys (suc i) x e = get_more xs ys i x e

-- what is the same in both lists stands there
pub both_there : (o p : Option Event) → both_same o p ≡ true → (e : Event) × (f : Event) × (o ≡ Some e) × (p ≡ Some f) × (both_same (Some e) (Some f) ≡ true)
both_there (Some e) (Some f) same = (e, f, refl, refl, same)
both_there (Some e) None same = absurd (cc)
both_there None p same = absurd (cc)

same_none : (o : Option Event) → both_same o None ≡ false
same_none None = refl
same_none (Some e) = refl

pub agree_more : (n : ℕ) (ours theirs added : List Event) → Agree n ours theirs → Agree n ours (theirs ++ added)
agree_more n ours theirs added agree i less =
    let (e, f, is, it, same) = both_there (slice_get ours i) (slice_get theirs i) (agree i less) in
    rw (is, get_more theirs added i f it) same

pub agree_within : (n : ℕ) (ours theirs : List Event) → Agree n ours theirs → (n ≤ length ours) × (n ≤ length theirs)
agree_within zero ours theirs agree = (omega arith, omega arith)
agree_within (suc n) ours theirs agree =
    let (e, f, is, it, same) = both_there (slice_get ours n) (slice_get theirs n) (agree n (omega arith)) in
    let first = slice_get_within ours n e is in
    let second = slice_get_within theirs n f it in
    (omega (arith, first), omega (arith, second))

pub none_past : (n : ℕ) (ours theirs : List Event) → length theirs ≤ n → agree_at ours theirs n ≡ false
none_past n ours theirs past = rw (slice_get_past theirs n past) (same_none (slice_get ours n))

-- what is left of a run after some of its steps, the next of them apart
pub next_left : (p : Profile) (h : Hart) (s : Shared) (whole : After) (most steps : ℕ) → whole ≡ run_alone p h s (replicate {A = List ByteChange} (most - steps) []) → steps < most →
    whole ≡ run_alone p h s (replicate {A = List ByteChange} (suc (most - (steps + 1))) [])
next_left p h s whole most steps left less =
    let same : most - steps ≡ suc (most - (steps + 1)) = omega arith in
    left ∙ ap (λ (k : ℕ). run_alone p h s (replicate {A = List ByteChange} k [])) same

pub none_left : (p : Profile) (h : Hart) (s : Shared) (whole : After) (most steps : ℕ) → whole ≡ run_alone p h s (replicate {A = List ByteChange} (most - steps) []) → most ≤ steps →
    whole ≡ record { hart = h; shared = s; turn = Ran }
unfolding run
none_left p h s whole most steps left past =
    let same : most - steps ≡ 0 = omega arith in
    left ∙ ap (λ (k : ℕ). run_alone p h s (replicate {A = List ByteChange} k [])) same
