-- Runs along a list of places, from steps by places of any kind that is tame: the run is walked by units, and the stores of a group are one
-- step.
use Rattle.std.proofs.Common.{◌≡◌, ℕ, zero, suc, ◌+◌, ◌^◌, ◌≤◌, ◌<◌, Bool, true, false, Option, Some, None, List, [], ◌∷◌, length, refl, sym, ap, subst, ◌∙◌, arith}
use Rattle.std.specs.List.{range_with_len}
use Rattle.std.proofs.lemmas.Option.{same_Some}
use Rattle.cfi_runs.proofs.Prelude.{Profile, Memory, Ran, Mask, Member, after_unit, sum_of, Chained, GoesAlong, IsWhole, Link, PlacesRun, Walked, IsPast, StoresRun, TellsLow, members_from, own_store, Own, OwnAfter, executes, own_step, touched}
use Rattle.cfi_unit.specs.declared.unit.Unit.TheVariants as V
use Rattle.cfi_runs.proofs.GroupRuns.{places_walked}
use Rattle.cfi_runs.proofs.GroupStores.{group_is_one_step}

-- where a run is after i steps of its places, and what is behind them
abbrev place_in : ℕ → List ℕ → Option ℕ → Option ℕ
place_in zero [] behind = behind
place_in zero (k ∷ ks) behind = Some k
place_in (suc i) [] behind = behind
place_in (suc i) (k ∷ ks) behind = place_in i ks behind

a_place : (i : ℕ) (ks : List ℕ) (behind : Option ℕ) → i < length ks → (k : ℕ) × (place_in i ks behind ≡ Some k)
a_place zero [] behind below = absurd (omega arith)
a_place zero (k ∷ ks) behind below = (k, refl)
a_place (suc i) [] behind below = absurd (omega arith)
a_place (suc i) (k ∷ ks) behind below = a_place i ks behind (omega arith)

last_place : (ks : List ℕ) (behind : Option ℕ) → place_in (length ks) ks behind ≡ behind
last_place [] behind = refl
last_place (k ∷ ks) behind = last_place ks behind

module _ (store later : ℕ → Bool) where
  first_link : (ks : List ℕ) (before behind : Option ℕ) → Chained store later before ks behind → Link store later before (place_in 0 ks behind)
  first_link [] before behind chain = chain
  first_link (k ∷ ks) before behind chain = chain.0

  links : (i : ℕ) (ks : List ℕ) (before behind : Option ℕ) → i < length ks → Chained store later before ks behind →
      Link store later (place_in i ks behind) (place_in (suc i) ks behind)
  links zero [] before behind below chain = absurd (omega arith)
  links zero (k ∷ ks) before behind below chain = first_link ks (Some k) behind chain.1
  links (suc i) [] before behind below chain = absurd (omega arith)
  links (suc i) (k ∷ ks) before behind below chain = links i ks (Some k) behind (omega arith) chain.1

  goes_along : (ks : List ℕ) (behind : Option ℕ) → Chained store later None ks behind → Link store later None behind →
      GoesAlong store later (λ (i : ℕ). place_in i ks behind) (length ks)
  goes_along ks behind chain free = record {
    begins = first_link ks None behind chain;
    at = λ i below. a_place i ks behind below;
    links = λ i below. links i ks None behind below chain;
    ends = subst (Link store later None) (sym (last_place ks behind)) free;
  }

module _ (own_at : ℕ → Own → OwnAfter) (tame : ℕ → Own → Type 0) where
  abbrev state_in : ℕ → List ℕ → Own → Own
  state_in zero ks o = o
  state_in (suc i) [] o = o
  state_in (suc i) (k ∷ ks) o = state_in i ks (own_at k o).state

  last_state : (ks : List ℕ) (o last : Own) → PlacesRun own_at tame ks o last → last ≡ state_in (length ks) ks o
  last_state [] o last run = run
  last_state (k ∷ ks) o last run = last_state ks (own_at k o).state last run.2

  -- the step from a place is tame, goes on, and leads to the next state
  record StepsOn (k : ℕ) (o next : Own) : Type 0 where
    is_tame : tame k o
    goes_on : (own_at k o).turn ≡ Ran
    leads : next ≡ (own_at k o).state

  steps_on : (i : ℕ) (ks : List ℕ) (behind : Option ℕ) (o last : Own) (k : ℕ) → i < length ks → place_in i ks behind ≡ Some k →
      PlacesRun own_at tame ks o last → StepsOn k (state_in i ks o) (state_in (suc i) ks o)
  steps_on zero [] behind o last k below at run = absurd (omega arith)
  steps_on zero (j ∷ ks) behind o last k below at run =
      subst (λ (x : ℕ). StepsOn x o (own_at j o).state) (same_Some j k at) (record { is_tame = run.0; goes_on = run.1; leads = refl })
  steps_on (suc i) [] behind o last k below at run = absurd (omega arith)
  steps_on (suc i) (j ∷ ks) behind o last k below at run = steps_on i ks behind (own_at j o).state last k (omega arith) at run.2

  -- the part of a run over places that follow each other
  part_runs : (count i k : ℕ) (ks : List ℕ) (behind : Option ℕ) (o last : Own) → i + count ≤ length ks →
      ((j : ℕ) → j < count → place_in (i + j) ks behind ≡ Some (k + j)) → PlacesRun own_at tame ks o last →
      PlacesRun own_at tame (range_with_len k count) (state_in i ks o) (state_in (i + count) ks o)
  part_runs zero i k ks behind o last inside places run =
      let e : i + 0 ≡ i = omega arith in ap (λ (x : ℕ). state_in x ks o) e
  part_runs (suc count) i k ks behind o last inside places run =
      let e : i + 0 ≡ i = omega arith in
      let f : k + 0 ≡ k = omega arith in
      let at = subst (λ (x : ℕ). place_in x ks behind ≡ Some k) e (places 0 (omega arith) ∙ ap (λ (x : ℕ). Some x) f) in
      let step = steps_on i ks behind o last k (omega arith) at run in
      let others = λ (j : ℕ) (below : j < count). (
      let g : i + suc j ≡ suc i + j = omega arith in
      let h : k + suc j ≡ k + 1 + j = omega arith in
      subst (λ (x : ℕ). place_in x ks behind ≡ Some (k + 1 + j)) g (places (suc j) (omega arith) ∙ ap (λ (x : ℕ). Some x) h)) in
      let rest = part_runs count (suc i) (k + 1) ks behind o last (omega arith) others run in
      let g : suc i + count ≡ i + suc count = omega arith in (
        step.is_tame,
        step.goes_on,
        subst (λ (x : ℕ). PlacesRun own_at tame (range_with_len (k + 1) count) (own_at k (state_in i ks o)).state (state_in x ks o)) g
            (subst (λ (x : Own). PlacesRun own_at tame (range_with_len (k + 1) count) x (state_in (suc i + count) ks o)) step.leads rest),
      )

  module _ (p : Profile) (image : Memory) (most : ℕ) (store later : ℕ → Bool) where
    -- a run of linked places that does not end at a later store is walked, if the steps from places that hold no store are, and the
    -- steps of whole groups
    pub walked : ((k : ℕ) → later k ≡ true → store k ≡ true) →
        ((k : ℕ) (o : Own) → store k ≡ false → tame k o → (own_at k o).turn ≡ Ran → Walked p image most 1 o (own_at k o).state) →
        ((k n : ℕ) (o last : Own) → IsWhole store later k n → PlacesRun own_at tame (range_with_len k n) o last → Walked p image most 1 o last) →
        (ks : List ℕ) (behind : Option ℕ) (o last : Own) → Chained store later None ks behind → Link store later None behind →
        PlacesRun own_at tame ks o last → Walked p image most (length ks) o last
    walked later_stores single grouped ks behind o last chain free run =
        let place : ℕ → Option ℕ = λ (i : ℕ). place_in i ks behind in
        let state : ℕ → Own = λ (i : ℕ). state_in i ks o in
        subst (Walked p image most (length ks) o) (sym (last_state ks o last run))
        (places_walked p image most store later place state (length ks) later_stores (goes_along store later ks behind chain free)
        (λ i k below at other.
        let step = steps_on i ks behind o last k below at run in
        subst (Walked p image most 1 (state i)) (sym step.leads) (single k (state i) other step.is_tame step.goes_on))
        (λ i k count inside places whole.
        grouped k count (state i) (state (i + count)) whole (part_runs count i k ks behind o last inside places run)))

  module _ (p : Profile) (rs1 mask : ℕ) (member : ℕ → Member) (imm gate : ℕ → ℕ) where
    -- the step from a place is that of a store, whose address lies in the window of data
    pub record IsStoreAt (k : ℕ) : Type 0 where
      pub past : IsPast mask (imm k) (member k).distance
      pub step : (o : Own) → tame k o → own_at k o ≡ executes p o (own_store rs1 member imm k) o.regs (gate (k + 1))
      pub window : (o : Own) → tame k o → touched (own_store rs1 member imm k) o.regs ≤ 2 ^ 28

    stores_run : (n k : ℕ) (o last : Own) → ((i : ℕ) → i < n → IsStoreAt (k + i)) → PlacesRun own_at tame (range_with_len k n) o last →
        StoresRun p rs1 member imm gate k n o last
    stores_run zero k o last stores run = run
    stores_run (suc n) k o last stores run =
        let e : k + 0 ≡ k = omega arith in
        let first = subst IsStoreAt e (stores 0 (omega arith)) in
        let others = λ (i : ℕ) (below : i < n). (
        let f : k + suc i ≡ k + 1 + i = omega arith in subst IsStoreAt f (stores (suc i) (omega arith))) in (
          first.window o run.0,
          subst (λ (x : OwnAfter). StoresRun p rs1 member imm gate (k + 1) n x.state last) (first.step o run.0)
              (stores_run n (k + 1) (own_at k o).state last others run.2),
        )

    -- a group's steps are one of its unit
    pub group_step : (how : Mask) (n k at : ℕ) (o last : Own) → 1 ≤ n → ((i : ℕ) → i < n → IsStoreAt (k + i)) → TellsLow rs1 mask member k n o.regs →
        gate (k + n) ≡ after_unit (V.Stores how rs1 mask (members_from member k n)) at → PlacesRun own_at tame (range_with_len k n) o last →
        (sum_of o.regs rs1 mask < 2 ^ 28)
        × (own_step p (record o { pc = at }) (V.Stores how rs1 mask (members_from member k n)) ≡ record { state = last; turn = Ran })
    group_step how n k at o last some stores tells ends run =
        group_is_one_step p how rs1 mask member imm gate k n o last at some (λ i below. (stores i below).past) tells ends
        (stores_run n k o last stores run)
