-- Lists of addresses that are followed: what is left of them leads to where the whole leads.
use Rattle.std.proofs.Common.{◌≡◌, ◌+◌, ℕ, ◌<◌, ◌≤◌, inl, inr, List, [], ◌∷◌, length, drop, get_or, refl, sym, subst, ◌∙◌}
use Rattle.std.proofs.lemmas.List.{drop_all}
use Rattle.rv_word.proofs.Lists.{drop_step}
use Rattle.cfi_walk.proofs.Prelude.{Contents, IsProfile, Profile, GraphParts, GraphLine, OPENING, IsSafe, IsWellFormed, code_words, AreSteps, IsGraphWalk, IsStep, IsWalked, WalkState, walk_start, AreSites, LeadTo, StopAt}
use Rattle.cfi_rules.proofs.Walks.{safe_walks}
use Rattle.cfi_walk.proofs.Sites.{sites_kept}
use Rattle.cfi_walk.proofs.Unique.{one_step}

module _ (p : Profile) (words : List ℕ) (lines : List GraphLine) where
  pub record Onward (start : WalkState) (whole : List ℕ) (walk : WalkState) (rest : List ℕ) : Type 0 where
    pub leads : (last : WalkState) → LeadTo p words lines walk rest last → LeadTo p words lines start whole last
    pub stops : (last : WalkState) → StopAt p words lines walk rest last → StopAt p words lines start whole last

  pub begins : (start : WalkState) (whole : List ℕ) → Onward start whole start whole
  begins start whole = record { leads = λ last l. l; stops = λ last s. s }

  pub passes : (start : WalkState) (whole : List ℕ) (i : ℕ) (walk next : WalkState) → i < length whole →
      IsStep p words lines walk (get_or whole i 0) next → Onward start whole walk (drop i whole) → Onward start whole next (drop (i + 1) whole)
  passes start whole i walk next below step o =
      let cut : drop i whole ≡ get_or whole i 0 ∷ drop (i + 1) whole = drop_step whole i below in
      record {
        leads = λ last l. o.leads last (subst (λ (vs : List ℕ). LeadTo p words lines walk vs last) (sym cut) (next, step, l));
        stops = λ last s. o.stops last (subst (λ (vs : List ℕ). StopAt p words lines walk vs last) (sym cut) (inr (next, step, s)));
      }

  pub ends : (start : WalkState) (whole : List ℕ) (i : ℕ) (walk : WalkState) → length whole ≤ i → Onward start whole walk (drop i whole) →
      LeadTo p words lines start whole walk
  ends start whole i walk past o = o.leads walk (subst (λ (vs : List ℕ). LeadTo p words lines walk vs walk) (sym (drop_all i whole past)) refl)

  pub refused : (start : WalkState) (whole : List ℕ) (i : ℕ) (walk new : WalkState) → i < length whole →
      new ≡ walk → ((next : WalkState) → IsStep p words lines walk (get_or whole i 0) next → ⊥) → Onward start whole walk (drop i whole) →
      StopAt p words lines start whole new
  refused start whole i walk new below same never o =
      let cut : drop i whole ≡ get_or whole i 0 ∷ drop (i + 1) whole = drop_step whole i below in
      o.stops new (subst (λ (vs : List ℕ). StopAt p words lines walk vs new) (sym cut) (inl (same, never)))

  -- what leads on are steps
  pub led_steps : (walk : WalkState) (vs : List ℕ) (last : WalkState) → LeadTo p words lines walk vs last → AreSteps p words lines walk vs
  led_steps walk [] last l = tt
  led_steps walk (v ∷ vs) last (next, step, l) = (next, step, led_steps next vs last l)

module _ (p : Profile) (image : Contents) (graph : GraphParts) (is : IsProfile p) (formed : IsWellFormed p image graph) where
  -- where an address fixes the step, steps do not stop
  pub never_stops : (walk : WalkState) (vs : List ℕ) (last : WalkState) → AreSites walk.pending →
      StopAt p (code_words image.code) graph.lines walk vs last → AreSteps p (code_words image.code) graph.lines walk vs → ⊥
  never_stops walk [] last sites s steps = s
  never_stops walk (v ∷ vs) last sites (inl (same, never)) (next, step, steps) = never next step
  never_stops walk (v ∷ vs) last sites (inr (next, step, s)) (other, step', steps) =
      let one : other ≡ next = one_step p image graph walk v other next is formed sites step' step in
      never_stops next vs last (sites_kept p image graph walk v next is sites step) s
      (subst (λ (w : WalkState). AreSteps p (code_words image.code) graph.lines w vs) one steps)

  -- nor does the walk of a hart in a run
  pub run_never_stops : IsSafe p image graph → (vs : List ℕ) (last : WalkState) → IsWalked p image vs →
      StopAt p (code_words image.code) graph.lines walk_start vs last → ⊥
  run_never_stops safe vs last w s =
      let walk : IsGraphWalk p (code_words image.code) graph.lines (OPENING ∷ vs) =
      subst (λ (walk : List ℕ). IsGraphWalk p (code_words image.code) graph.lines walk) w.walk
      (safe_walks p image graph w.count w.harts w.shared w.steps w.hart safe w.may w.start w.allowed) in
      never_stops walk_start vs last tt s walk.1
