-- A run over places is a run along a path of units, with no more words than a place has at most; the stores of a group are one unit.
use Rattle.std.proofs.Common.{◌≡◌, ℕ, ◌+◌, ◌≤◌, true, false, inl, inr, Option, Some, None, List, [], ◌∷◌, ◌++◌, length, suc, refl, sym, ap, subst, ◌∙◌, arith}
use Rattle.std.specs.List.{range_with_len}
use Rattle.std.proofs.lemmas.Bool.{cases_Bool, cases_eq, cases_lt}
use Rattle.std.proofs.lemmas.Option.{same_Some}
use Rattle.cfi_meaning.proofs.Prelude.{Contents, loaded, Profile, Ran, item_of, IsWhole, Walked, Own, OwnAfter, OwnRuns, Choice, behind, is_later_at, unit_here, most_words, IsImageOf, gate_of, is_outside, shown_of, ComesThrough, at_unit, shown, Chained, Linked, PlacesRun, TamePlace, holds_store, place_step, ComesBackOutside, Follows}
use Rattle.obj_input.specs.declared.item_kind.ItemKind.TheVariants as is
use Rattle.cfi_runs.proofs.GroupRuns.{paths_join, stays, walks_join, words_join}
use Rattle.cfi_writer.proofs.Grouping.{first_behind, later_behind, later_store}
use Rattle.cfi_meaning.proofs.GoesOn.{step_goes_on}
use Rattle.cfi_meaning.proofs.GroupSteps.{group_runs}
use Rattle.cfi_meaning.proofs.OverStores.{run_more}

-- the place that is first, of these or behind them
abbrev pub first_of : List ℕ → Option ℕ → Option ℕ
first_of [] next = next
first_of (k ∷ places) next = Some k

first_link : (m : Choice) (places : List ℕ) (before next : Option ℕ) → Chained m before places next → Linked m before (first_of places next)
first_link m [] before next chain = chain
first_link m (k ∷ places) before next chain = chain.0

-- behind a place that holds no store stands no later one, and behind one that does the next place
free_behind : (m : Choice) (k : ℕ) (next : Option ℕ) → holds_store m k ≡ false → Linked m (Some k) next → Linked m None next
free_behind m k None other link = tt
free_behind m k (Some j) other link =
    elim (cases_Bool (is_later_at m j)) [
      | inl later ↦ let store = link.1 later in let wrong : true ≡ false = sym store ∙ other in absurd (cc)
      | inr first ↦ first
    ]

behind_store : (m : Choice) (k : ℕ) (next : Option ℕ) → holds_store m k ≡ true → Linked m (Some k) next → next ≡ Some (k + 1)
behind_store m k None store link = let wrong : true ≡ false = sym store ∙ link in absurd (cc)
behind_store m k (Some j) store link = ap (λ (i : ℕ). Some i) (link.0 store)

-- where no call comes back into a leaf
back_first : (m : Choice) (k : ℕ) (places : List ℕ) (next : Option ℕ) → ComesBackOutside m (k ∷ places) next → Follows m k (first_of places next)
back_first m k [] next back = back
back_first m k (j ∷ places) next back = back.0

back_rest : (m : Choice) (k : ℕ) (places : List ℕ) (next : Option ℕ) → ComesBackOutside m (k ∷ places) next → ComesBackOutside m places next
back_rest m k [] next back = tt
back_rest m k (j ∷ places) next back = back.1

returns_outside : (m : Choice) (k : ℕ) (next : Option ℕ) → Follows m k next → (item_of m.layout.program k).kind ≡ is.Return → (j : ℕ) → next ≡ Some j →
    is_outside m.layout j
returns_outside m k None follows returns j none = let wrong : None ≡ Some j = none in absurd (cc)
returns_outside m k (Some i) follows returns j at = subst (is_outside m.layout) (same_Some i j at) (follows returns)

-- what is whole has as many stores as the group that begins there
whole_count : (m : Choice) (k n : ℕ) → IsWhole (holds_store m) (is_later_at m) k n → n ≡ suc (behind m k)
whole_count m k n whole =
    elim (cases_lt n (suc (behind m k))) [
      | inl less ↦
          let more = later_behind m k n whole.some (omega arith) in
          let past = whole.past in
          let wrong : true ≡ false = sym more ∙ past in
          absurd (cc)
      | inr not_less ↦ elim (cases_lt (suc (behind m k)) n) [
        | inl more ↦
            let other = whole.others (suc (behind m k)) (omega arith) more in
            let same : k + (behind m k + 1) ≡ k + suc (behind m k) = omega arith in
            let stop = ap (is_later_at m) (sym same) ∙ first_behind m k in
            let wrong : true ≡ false = sym other ∙ stop in
            absurd (cc)
        | inr not_more ↦ omega arith
      ]
    ]

-- the path through a place
pub path_through : (m : Choice) (image : Contents) (k : ℕ) (next : Option ℕ) (o last : Own) → ComesThrough m image k next o last →
    Walked m.layout.profile (loaded image) (most_words m.layout) 1 (shown m k o) (shown_of m.layout next last)
path_through m image k next o last through =
    let here = through.comes in
    let p = m.layout.profile in
    let rest = unit_here m k ∷ through.behind in
    let counted = words_join here.path rest in
    let few = through.few in
    record {
      path = here.path ++ rest;
      few = omega arith;
      leads =
          paths_join p (loaded image) here.path rest (shown m k o) (at_unit m k o) (shown_of m.layout next last) here.leads (
            here.step,
            ap (λ (a : OwnAfter). a.turn) through.leads,
            subst (λ (a : OwnAfter). OwnRuns p (loaded image) through.behind a.state (shown_of m.layout next last)) (sym through.leads) through.lands,
          );
    }

-- the first stores of a group, after which the run is at a state
record IsBegun (m : Choice) (image : Contents) (k more : ℕ) (o here : Own) : Type 0 where
  stores : (i : ℕ) → i ≤ more → holds_store m (k + i) ≡ true
  first : is_later_at m k ≡ false
  others : (i : ℕ) → 1 ≤ i → i ≤ more → is_later_at m (k + i) ≡ true
  run : PlacesRun m image (range_with_len k (suc more)) o here

-- after n places all are walked, or all but the first stores of a group, behind which the next one may stand
data SoFar (m : Choice) (image : Contents) (start : Own) (n : ℕ) (next : Option ℕ) (here : Own) : Type 0 where
  between : Linked m None next → Walked m.layout.profile (loaded image) (most_words m.layout) n start (shown_of m.layout next here) → SoFar m image start n next here
  within : (a k more : ℕ) (o : Own) → a + 1 ≤ n → Walked m.layout.profile (loaded image) (most_words m.layout) a start (shown m k o) →
      IsBegun m image k more o here → next ≡ Some (k + more + 1) → SoFar m image start n next here

module _ (m : Choice) (image : Contents) (of : IsImageOf m image) (start : Own) where
  abbrev p : Profile
  p = m.layout.profile

  abbrev WalkedTo : ℕ → Own → Type 0
  WalkedTo n o = Walked p (loaded image) (most_words m.layout) n start o

  -- one place more
  walked_on : (a n k : ℕ) (next : Option ℕ) (o last : Own) → a + 1 ≤ n → WalkedTo a (shown m k o) → ComesThrough m image k next o last →
      WalkedTo n (shown_of m.layout next last)
  walked_on a n k next o last few walked through =
      walks_join p (loaded image) (most_words m.layout) a 1 n start (shown m k o) (shown_of m.layout next last) few walked (path_through m image k next o last through)

  -- where no later store is next, the stores of a group are all of it
  group_ends : (a n k more : ℕ) (o here : Own) → a + 1 ≤ n → WalkedTo a (shown m k o) → IsBegun m image k more o here → is_later_at m (k + more + 1) ≡ false →
      WalkedTo n (shown m (k + more + 1) here)
  group_ends a n k more o here few walked begun past =
      let zero_behind : k + 0 ≡ k = omega arith in
      let last_behind : k + more + 1 ≡ k + suc more = omega arith in
      let all : suc more ≡ suc (behind m k) =
      whole_count m k (suc more) (record {
        some = omega arith;
        stores = λ i below. begun.stores i (omega arith);
        first = begun.first;
        others = λ i some below. begun.others i some (omega arith);
        past = ap (is_later_at m) (sym last_behind) ∙ past;
      }) in
      let store : holds_store m k ≡ true = ap (holds_store m) (sym zero_behind) ∙ begun.stores 0 (omega arith) in
      let run = subst (λ (n' : ℕ). PlacesRun m image (range_with_len k n') o here) all begun.run in
      let next : k + (behind m k + 1) ≡ k + more + 1 = omega arith in
      subst (λ (j : ℕ). WalkedTo n (shown m j here)) next
      (walked_on a n k (Some (k + (behind m k + 1))) o here few walked (group_runs m image k o here of store begun.first run))

  walked_to : (n : ℕ) (next : Option ℕ) (here : Own) → SoFar m image start n next here → Linked m None next → WalkedTo n (shown_of m.layout next here)
  walked_to n next here (between free walked) link = walked
  walked_to n next here (within a k more o few walked begun is) link =
      subst (λ (j : Option ℕ). WalkedTo n (shown_of m.layout j here)) (sym is)
      (group_ends a n k more o here few walked begun (subst (λ (j : Option ℕ). Linked m None j) is link))

  -- a step from a place, to the one that is next
  module _ (k : ℕ) (next : Option ℕ) (here : Own) (now : TamePlace m image k here) (going : (place_step m k here).turn ≡ Ran) (link : Linked m (Some k) next)
      (at : (place_step m k here).state.pc ≡ gate_of m.layout next) (follows : Follows m k next) where
    abbrev arrived : Own
    arrived = (place_step m k here).state

    from_first : (n : ℕ) → is_later_at m k ≡ false → WalkedTo n (shown m k here) → SoFar m image start (suc n) next arrived
    from_first n first walked =
        elim (cases_Bool (holds_store m k)) [
          | inr other ↦
              between (free_behind m k next other link)
              (walked_on n (suc n) k next here arrived (omega arith) walked
              (step_goes_on m image k next here of other now going at (returns_outside m k next follows)))
          | inl store ↦
              let zero_behind : k + 0 ≡ k = omega arith in
              let after : k + 1 ≡ k + 0 + 1 = omega arith in
              within n k 0 here (omega arith) walked (record {
                stores = λ i few. let none : k ≡ k + i = omega arith in ap (holds_store m) (sym none) ∙ store;
                first = first;
                others = λ i some few. absurd (omega arith);
                run = (now, going, refl);
              }) (behind_store m k next store link ∙ ap (λ (j : ℕ). Some j) after)
        ]

    one_more : (a j more n : ℕ) (o : Own) → a + 1 ≤ n → WalkedTo a (shown m j o) → IsBegun m image j more o here → k ≡ j + more + 1 → is_later_at m k ≡ true →
        SoFar m image start (suc n) next arrived
    one_more a j more n o few walked begun is later =
        let here_is : k ≡ j + suc more = omega arith in
        let after : k + 1 ≡ j + suc more + 1 = omega arith in
        let store : holds_store m k ≡ true = (later_store m k later).0 in
        within a j (suc more) o (omega arith) walked (record {
          stores = λ i most.
              elim (cases_eq i (suc more)) [
                | inl same ↦
                    let e : k ≡ j + i = omega arith in ap (holds_store m) (sym e) ∙ store
                | inr fewer ↦ begun.stores i (omega arith)
              ];
          first = begun.first;
          others = λ i some most.
              elim (cases_eq i (suc more)) [
                | inl same ↦
                    let e : k ≡ j + i = omega arith in ap (is_later_at m) (sym e) ∙ later
                | inr fewer ↦ begun.others i some (omega arith)
              ];
          run = run_more m image (suc more) j o here (place_step m k here) begun.run (subst (λ (i : ℕ). TamePlace m image i here) here_is now)
              (ap (λ (i : ℕ). place_step m i here) (sym here_is)) going;
        }) (behind_store m k next store link ∙ ap (λ (i : ℕ). Some i) after)

    stepped : (n : ℕ) → SoFar m image start n (Some k) here → SoFar m image start (suc n) next arrived
    stepped n (between free walked) = from_first n free walked
    stepped n (within a j more o few walked begun is) =
        let here_is : k ≡ j + more + 1 = same_Some k (j + more + 1) is in
        elim (cases_Bool (is_later_at m k)) [
          | inl later ↦ one_more a j more n o few walked begun here_is later
          | inr first ↦
              from_first n first
              (subst (λ (i : ℕ). WalkedTo n (shown m i here)) (sym here_is) (group_ends a n j more o here few walked begun (ap (is_later_at m) (sym here_is) ∙ first)))
        ]

  -- the run stands at the gate of the place that is first
  pub at_first : (places : List ℕ) (next : Option ℕ) (o last : Own) → PlacesRun m image places o last → last.pc ≡ gate_of m.layout next →
      o.pc ≡ gate_of m.layout (first_of places next)
  at_first [] next o last same at = ap (λ (x : Own). x.pc) (sym same) ∙ at
  at_first (k ∷ places) next o last run at = run.0.at

  along : (places : List ℕ) (next : Option ℕ) (n : ℕ) (here last : Own) → SoFar m image start n (first_of places next) here →
      (before : Option ℕ) → Chained m before places next → PlacesRun m image places here last → last.pc ≡ gate_of m.layout next → ComesBackOutside m places next →
      SoFar m image start (n + length places) next last
  along [] next n here last so_far before chain same at back =
      let none : n ≡ n + 0 = omega arith in
      subst (λ (x : Own). SoFar m image start (n + 0) next x) (sym same) (subst (λ (i : ℕ). SoFar m image start i next here) none so_far)
  along (k ∷ places) next n here last so_far before chain run at back =
      let counted : suc n + length places ≡ n + length (k ∷ places) = omega arith in
      subst (λ (i : ℕ). SoFar m image start i next last) counted
      (along places next (suc n) (place_step m k here).state last
      (stepped k (first_of places next) here run.0 run.1 (first_link m places (Some k) next chain.1) (at_first places next (place_step m k here).state last run.2 at)
      (back_first m k places next back) n so_far)
      (Some k) chain.1 run.2 at (back_rest m k places next back))

pub walks : (m : Choice) (image : Contents) → IsImageOf m image → (places : List ℕ) (next : Option ℕ) (o last : Own) → Chained m None places next →
    Linked m None next → PlacesRun m image places o last → last.pc ≡ gate_of m.layout next → ComesBackOutside m places next →
    Walked m.layout.profile (loaded image) (most_words m.layout) (length places) (shown_of m.layout (first_of places next) o) (shown_of m.layout next last)
walks m image of places next o last chain free run at back =
    let start = shown_of m.layout (first_of places next) o in
    let so_far : SoFar m image start 0 (first_of places next) o =
    between (first_link m places None next chain) (stays m.layout.profile (loaded image) (most_words m.layout) start) in
    let counted : 0 + length places ≡ length places = omega arith in
    walked_to m image of start (length places) next last
    (subst (λ (n : ℕ). SoFar m image start n next last) counted (along m image of start places next 0 o last so_far None chain run at back)) free
