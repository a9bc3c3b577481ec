-- Small images whose bare system call is not in a list: their undisturbed runs make it, so they are not
-- listed.
use Rattle.std.proofs.Common.{◌≡◌, ℕ, zero, suc, ◌+◌, ◌<◌, ◌&&◌, Bool, true, false, inl, inr, List, [], ◌∷◌, ◌++◌, refl, sym, ap, subst, ◌∙◌, Option, Some, None, arith, lit<, lit≤}
use Rattle.std.specs.List.{AllByRecursion}
use Rattle.std.proofs.lemmas.Bool.{and_parts, false≢true}
use Rattle.std.proofs.lemmas.Option.{none-some, same_Some}
use Rattle.rv_image.specs.Image.{Contents, loaded}
use Rattle.rv_image.specs.MemoryMap.{MayRun, Profile, version_1, version_2}
use Rattle.rv_word.specs.Memory.{placed, write}
use Rattle.rv_word.specs.Numbers.{is_listed}
use Rattle.rv_image.proofs.Profiles.{laid_out}
use Rattle.rv_code.specs.Decode.{decoded}
use Rattle.rv_code.specs.Encode.{code_of}
use Rattle.rv_code.specs.Run.{ByteChange}
use Rattle.rv_code.specs.State.{After, Hart, Shared, start_hart, start_shared, last_exit}
use Rattle.rv_code.specs.Step.{step}
use Rattle.rv_code.specs.declared.event.Event.{Event}
use Rattle.rv_code.proofs.Runs.{calm}
use Rattle.cfi_rules.specs.Listed.{AddsListed, IsListed}
use Rattle.cfi_rules.specs.Taken.{TakenStep}
use Rattle.cfi_rules.specs.Unsafe.{bare_call, bare_exit, other_closing, second_call, BareCallIsNotListed}
use Rattle.cfi_rules.proofs.Arrivals.{after_calm, calm_and, is_ran, ran_of}
use Rattle.cfi_rules.proofs.Starts.{machine_may_start}
use Rattle.cfi_rules.proofs.OneHart.{one_may_run}
use Rattle.cfi_rules.proofs.Taken.{alone_taken, may_come, steps_of, taken_alone}

module _ (p : Profile) (calls : List ℕ) where
  -- the run of one hart alone, `k`
  abbrev ListedAlone : ℕ → Hart → Shared → List (List ByteChange) → Type 0
  ListedAlone k h s changes = AllByRecursion (AddsListed p calls) (taken_alone p k h s changes)

  -- some undisturbed steps run
  unfoldable all_run : ℕ → Hart → Shared → Bool
  all_run zero h s = true
  all_run (suc k) h s = is_ran (step p h s).turn && all_run k (step p h s).hart (step p h s).shared

  later : (hart k : ℕ) (h : Hart) (s : Shared) (rest : List (List ByteChange)) → all_run k h s ≡ true → ListedAlone hart h s (calm k ++ rest) →
      ListedAlone hart (after_calm p k h s).hart (after_calm p k h s).shared rest
  unfolding all_run after_calm
  later hart zero h s rest run r = r
  later hart (suc k) h s rest run r =
      let after = step p h s in
      let parts = and_parts (is_ran after.turn) (all_run k after.hart after.shared) run in
      let on : ListedAlone hart after.hart after.shared (calm k ++ rest) = rw (ran_of after.turn parts.0) at r.1 in
      later hart k after.hart after.shared rest parts.1 on

-- the number of the first event
first_number : List Event → Option ℕ
first_number [] = None
first_number (e ∷ es) = Some e.number

-- the first call is none of the list, nor the closing's
refuted : (p : Profile) (calls : List ℕ) (t : TakenStep) (pc number : ℕ) → t.before.pc ≡ pc → t.shared.events ≡ [] → first_number t.after.shared.events ≡ Some number →
    is_listed number calls ≡ false → (pc ≡ p.closing + 4 → number ≡ 93 → ⊥) → AddsListed p calls t → ⊥
unfolding first_number
refuted p calls t pc number there none first out elsewhere (inl same) = none-some number (sym (ap first_number (same ∙ none)) ∙ first)
refuted p calls t pc number there none first out elsewhere (inr one) =
    let same : number ≡ one.0.number = same_Some number one.0.number (sym first ∙ ap first_number (one.1 ∙ ap (λ (events : List Event). events ++ one.0 ∷ []) none)) in
    elim one.2 [
      | inl listed ↦ false≢true (sym out ∙ ap (λ n. is_listed n calls) same ∙ listed)
      | inr closing ↦ elsewhere (sym there ∙ closing.0) (same ∙ closing.1)
    ]

-- one hart of an image after some undisturbed steps
abbrev after_steps : Profile → Contents → ℕ → ℕ → After
after_steps p image hart k = after_calm p k (start_hart hart) (start_shared image [])

-- its next step
abbrev next_step : Profile → Contents → ℕ → ℕ → TakenStep
next_step p image hart k =
    let now = after_steps p image hart k in
    record { hart = hart; before = now.hart; shared = now.shared; after = step p now.hart now.shared }

-- a list of the number 63 admits what that adds
listed_there : (p : Profile) (image : Contents) (harts hart k : ℕ) → MayRun p harts → hart < harts →
    all_run p (63 ∷ []) k (start_hart hart) (start_shared image []) ≡ true → IsListed p image (63 ∷ []) → AddsListed p (63 ∷ []) (next_step p image hart k)
listed_there p image harts hart k may below run listed =
    let start = start_shared image [] in
    let low = calm_and k ([] ∷ []) (tt, tt) in
    let along = listed harts may start_hart start (machine_may_start image [] harts) (steps_of hart (calm k ++ ([] ∷ []))) (may_come harts hart below (calm k ++ ([] ∷ [])) low) in
    (later p (63 ∷ []) hart k (start_hart hart) start ([] ∷ []) run
    (subst (λ (taken : List TakenStep). AllByRecursion (AddsListed p (63 ∷ [])) taken) (alone_taken p hart (calm k ++ ([] ∷ [])) start_hart start) along)).0

one : MayRun version_1 1
one = one_may_run version_1 (laid_out version_1 (inl (inl refl)))

call_unlisted : IsListed version_1 bare_call (63 ∷ []) → ⊥
unfolding loaded placed decoded code_of step write last_exit after_calm is_ran all_run first_number
call_unlisted listed =
    refuted version_1 (63 ∷ []) (next_step version_1 bare_call 0 11) 0x40000044 64 refl refl refl refl (λ e other. omega arith)
    (listed_there version_1 bare_call 1 0 11 one (lit< tt) refl listed)

exit_unlisted : IsListed version_1 bare_exit (63 ∷ []) → ⊥
unfolding loaded placed decoded code_of step write last_exit after_calm is_ran all_run first_number
exit_unlisted listed =
    refuted version_1 (63 ∷ []) (next_step version_1 bare_exit 0 11) 0x40000044 93 refl refl refl refl (λ e other. omega arith)
    (listed_there version_1 bare_exit 1 0 11 one (lit< tt) refl listed)

-- hart 1 makes a call with 0
second_unlisted : IsListed version_2 second_call (63 ∷ []) → ⊥
unfolding loaded placed decoded code_of step write last_exit after_calm is_ran all_run first_number
second_unlisted listed =
    refuted version_2 (63 ∷ []) (next_step version_2 second_call 1 15) 0x40000054 0 refl refl refl refl (λ e other. omega arith)
    (listed_there version_2 second_call 2 1 15 (record { some = lit≤ tt; most = lit≤ tt }) (lit< tt) refl listed)

closing_unlisted : IsListed version_1 other_closing (63 ∷ []) → ⊥
unfolding loaded placed decoded code_of step write last_exit after_calm is_ran all_run first_number
closing_unlisted listed =
    refuted version_1 (63 ∷ []) (next_step version_1 other_closing 0 15) 0x4000003c 64 refl refl refl refl (λ e other. omega arith)
    (listed_there version_1 other_closing 1 0 15 one (lit< tt) refl listed)

pub bare_call_unlisted : BareCallIsNotListed
bare_call_unlisted = record { call = call_unlisted; exit = exit_unlisted; second = second_unlisted; closing = closing_unlisted }
