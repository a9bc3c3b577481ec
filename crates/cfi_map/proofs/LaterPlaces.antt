-- Where a step of the source machine leads: to a later member of a group from the store right before it, and from nowhere else.
use Rattle.std.proofs.Common.{◌≡◌, ◌==◌, ℕ, suc, ◌+◌, ◌<◌, Bool, true, false, List, [], ◌∷◌, Option, Some, None, inl, inr, refl, sym, ap, subst, ◌∙◌, arith}
use Rattle.std.specs.Prelude.{option_and_then, unwrap_or}
use Rattle.std.specs.List.{AllByRecursion, list_any}
use Rattle.std.proofs.lemmas.Bool.{cases_Bool, cases_lt, cond_both, eq-eqb, or_cases, or_left, or_right}
use Rattle.std.proofs.lemmas.List.{get_or_past}
use Rattle.std.proofs.lemmas.List.Folds.{list_any_at}
use Rattle.std.proofs.lemmas.List.Quantifiers.{position-Some}
use Rattle.std.proofs.lemmas.Option.{same_Some}
use Rattle.rv_word.proofs.Cases.{chosen}
use Rattle.cfi_map.proofs.Prelude.{Instr, Registers, get_reg, branch_taken, After, last_exit, exec, Turn, Ran, Exit, Break, ItemKind, Item, count, item_of, no_item, has, Side, class_at, class_of, class_reaches, is_same, is_target, is_target_of, side_reaches, aims_at, ProgramAtMap, entered_in, word, AreGroups, bounds_in, is_direct_target, is_entered, is_later, is_store, members_before, Source, SourceAfter, acts, branches, calls, goes_to, hart_at, if_taken, leaves, place_after, ran, returns_from, source_step, step_at, turn_at, unless, unless_ended, computed, computed_place, if_reached, place_with_gate, Reason}
use Rattle.rv_instr.specs.declared.instr.Instr.TheVariants as I
use Rattle.obj_input.specs.declared.item_kind.ItemKind.TheVariants as is
use Rattle.cfi_map.proofs.GroupFacts.{joins, none_at_start, none_before}

-- a place that a site's class has is a target
same_there : (a b : Option ℕ) → is_same a b ≡ true → (class : ℕ) × (b ≡ Some class)
same_there None None e = absurd (cc)
same_there None (Some b) e = absurd (cc)
same_there (Some a) None e = absurd (cc)
same_there (Some a) (Some b) e = (b, refl)

side_there : (k t : ℕ) (side : Side) → side_reaches k t side ≡ true → is_target_of t side ≡ true
side_there k t side e =
    let at = same_there (class_of side k) (class_at side t) e in
    let found = position-Some (has t) side.classes at.0 [] at.1 in
    list_any_at (has t) side.classes at.0 [] found.0 found.1

reached_there : (k t : ℕ) (sides : List Side) → list_any (side_reaches k t) sides ≡ true → list_any (is_target_of t) sides ≡ true
reached_there k t [] e = absurd (cc)
reached_there k t (side ∷ sides) e = elim (or_cases (side_reaches k t side) (list_any (side_reaches k t) sides) e) [
  | inl here ↦ or_left (is_target_of t side) (list_any (is_target_of t) sides) (side_there k t side here)
  | inr rest ↦ or_right (is_target_of t side) (list_any (is_target_of t) sides) (reached_there k t sides rest)
]

-- a turn of the hart with which a step ran
ran_only : (k : ℕ) (turn : Turn) → turn_at k turn ≡ ran → turn ≡ Ran
ran_only k Ran e = refl
ran_only k (Exit status) e = absurd (cc)
ran_only k (Break pc) e = absurd (cc)
ran_only k other e = absurd (cc)

module _ (layout : ProgramAtMap) (whole : ℕ → Bool) where
  abbrev pub later : ℕ → Bool
  later k = is_later (item_of layout.program) whole k

  -- no pending call returns to a later member
  abbrev pub NoneLater : List ℕ → Type 0
  NoneLater pending = AllByRecursion (λ k. later k ≡ false) pending

  -- what holds after a step: a place that is a later member comes right behind the store at which the step was made
  pub record Stepped (st after : Source) : Type 0 where
    pub pending : NoneLater after.pending
    pub place : (j : ℕ) → after.place ≡ Some j → later j ≡ true → (k : ℕ) × (st.place ≡ Some k) × (is_store (item_of layout.program k).kind ≡ true) × (j ≡ k + 1)

  module _ (groups : AreGroups (item_of layout.program) (bounds_in (entered_in layout)) whole) where
    abbrev members : ℕ → ℕ
    members k = members_before (item_of layout.program) whole k

    entered_first : (k : ℕ) → is_entered layout.program layout.closed layout.entry k ≡ true → later k ≡ false
    entered_first k entered = elim (cases_Bool (later k)) [
      | inl is_so ↦
          let free = (joins (item_of layout.program) (bounds_in (entered_in layout)) whole k (members k) (groups k is_so)).free in
          let wrong : true ≡ false = sym entered ∙ free in
          absurd (cc)
      | inr not_so ↦ not_so
    ]

    uncounted_first : (k : ℕ) → members k ≡ 0 → later k ≡ false
    uncounted_first k none = elim (cases_Bool (later k)) [
      | inl is_so ↦
          let some = (joins (item_of layout.program) (bounds_in (entered_in layout)) whole k (members k) (groups k is_so)).some in
          absurd (omega (arith, some, none))
      | inr not_so ↦ not_so
    ]

    -- the entry is no later member
    pub entry_is : later layout.entry ≡ false
    entry_is = entered_first layout.entry (or_left _ _ (eq-eqb layout.entry layout.entry refl))

    -- nor is what follows another place than a store's
    pub fall : (k : ℕ) → is_store (item_of layout.program k).kind ≡ false → later (k + 1) ≡ false
    fall k other =
        let same : suc k ≡ k + 1 = omega arith in
        subst (λ (m : ℕ). later m ≡ false) same (uncounted_first (suc k) (none_before (item_of layout.program) (bounds_in (entered_in layout)) whole k other))

    first_is : later 0 ≡ false
    first_is = uncounted_first 0 (none_at_start (item_of layout.program) (bounds_in (entered_in layout)) whole)

    -- nor is a direct target
    aimed : (k : ℕ) (o : Option ℕ) → k < count layout.program → (item_of layout.program k).target ≡ o → later (unwrap_or o 0) ≡ false
    aimed k None below is = first_is
    aimed k (Some t) below is =
        let aims : aims_at t (item_of layout.program k).target ≡ true = ap (aims_at t) is ∙ eq-eqb t t refl in
        let some = list_any_at (λ (i : Item). aims_at t i.target) layout.program.items k no_item below aims in
        entered_first t (or_right (t == layout.entry) _ (or_left _ _ some))

    target_is : (k : ℕ) → later (unwrap_or (item_of layout.program k).target 0) ≡ false
    target_is k = elim (cases_lt k (count layout.program)) [
      | inl below ↦ aimed k (item_of layout.program k).target below refl
      | inr past ↦
          let none : item_of layout.program k ≡ no_item = get_or_past layout.program.items k no_item past in
          rw none first_is
    ]

    -- nor is a computed one
    class_is : (k t : ℕ) → class_reaches layout.closed k t ≡ true → later t ≡ false
    class_is k t reaches =
        let target : is_target layout.closed.sides t ≡ true = reached_there k t layout.closed.sides reaches in
        entered_first t (or_right (t == layout.entry) _ (or_right (is_direct_target layout.program t) _ (or_left _ _ target)))

    if_reached_is : (k : ℕ) (o : Option ℕ) (j : ℕ) → option_and_then (if_reached layout.closed k) o ≡ Some j → later j ≡ false
    if_reached_is k None j e = absurd (cc)
    if_reached_is k (Some t) j e = elim (chosen (class_reaches layout.closed k t) (Some t) None (Some j) e) [
      | inl (reaches, same) ↦ subst (λ (m : ℕ). later m ≡ false) (same_Some t j same) (class_is k t reaches)
      | inr (reaches, same) ↦ absurd (cc)
    ]

    computed_is : (k : ℕ) (i : Instr) (regs : Registers) (j : ℕ) → computed_place layout k i regs ≡ Some j → later j ≡ false
    computed_is k i regs j e = if_reached_is k (place_with_gate layout.gates (computed i regs)) j e

    computed_or : (o : Option ℕ) → ((j : ℕ) → o ≡ Some j → later j ≡ false) → later (unwrap_or o 0) ≡ false
    computed_or None each = first_is
    computed_or (Some t) each = each t refl

    -- steps by what they do
    not_both : {X : Type 0} (j : ℕ) → later j ≡ false → later j ≡ true → X
    not_both j one other = let wrong : true ≡ false = sym other ∙ one in absurd (cc)

    goes_well : (st : Source) (o : Option ℕ) → NoneLater st.pending → ((j : ℕ) → o ≡ Some j → later j ≡ false) → Stepped st (goes_to st o).state
    goes_well st o pending each = record { pending = pending; place = λ j at is_so. not_both j (each j at) is_so }

    goes_to_place : (st : Source) (t : ℕ) → NoneLater st.pending → later t ≡ false → Stepped st (goes_to st (Some t)).state
    goes_to_place st t pending first = goes_well st (Some t) pending (λ j at. subst (λ (m : ℕ). later m ≡ false) (same_Some t j at) first)

    branch_well : (k : ℕ) (i : Instr) (target : ℕ) (st : Source) → NoneLater st.pending → later target ≡ false → later (k + 1) ≡ false →
        Stepped st (branches k i target st).state
    branch_well k (I.Branch op rs1 rs2 imm) target st pending there next =
        let taken = branch_taken op (get_reg st.regs rs1) (get_reg st.regs rs2) in
        goes_to_place st (if_taken taken target (k + 1)) pending (cond_both taken target (k + 1) (λ (m : ℕ). later m ≡ false) (λ e. there) (λ e. next))
    branch_well k other target st pending there next = goes_to_place st (k + 1) pending next

    call_well : (k target : ℕ) (st : Source) → NoneLater st.pending → later target ≡ false → later (k + 1) ≡ false → Stepped st (calls layout k target st).state
    call_well k target st pending there next = record {
      pending = (next, pending);
      place = λ j at is_so. not_both j (subst (λ (m : ℕ). later m ≡ false) (same_Some target j at) there) is_so;
    }

    return_well : (places : List ℕ) (st : Source) → NoneLater places → NoneLater st.pending → Stepped st (returns_from places st).state
    return_well [] st each pending = goes_well st None pending (λ j at. absurd (cc))
    return_well (k ∷ places) st each pending = record {
      pending = each.1;
      place = λ j at is_so. not_both j (subst (λ (m : ℕ). later m ≡ false) (same_Some k j at) each.0) is_so;
    }

    execute_well : (k : ℕ) (st : Source) (after : After) → st.place ≡ Some k → NoneLater st.pending → (leaves k st after).turn ≡ ran → Stepped st (leaves k st after).state
    execute_well k st after at pending going =
        let turn = ran_only k after.turn going in
        record {
          pending = pending;
          place = λ j there is_so.
              let next : place_after k after.turn ≡ Some (k + 1) = ap (place_after k) turn in
              let same : j ≡ k + 1 = same_Some j (k + 1) (sym there ∙ next) in
              elim (cases_Bool (is_store (item_of layout.program k).kind)) [
                | inl store ↦ (k, at, store, same)
                | inr other ↦ not_both j (subst (λ (m : ℕ). later m ≡ false) (sym same) (fall k other)) is_so
              ];
        }

    acts_well : (k : ℕ) (kind : ItemKind) (i : Instr) (target : ℕ) (st : Source) → st.place ≡ Some k → (item_of layout.program k).kind ≡ kind →
        NoneLater st.pending → later target ≡ false → (acts layout k kind i target st).turn ≡ ran → Stepped st (acts layout k kind i target st).state
    acts_well k is.Branch i target st at of pending there going = branch_well k i target st pending there (fall k (ap is_store of))
    acts_well k is.Jump i target st at of pending there going = goes_to_place st target pending there
    acts_well k is.Call i target st at of pending there going = call_well k target st pending there (fall k (ap is_store of))
    acts_well k is.Return i target st at of pending there going = return_well st.pending st pending pending
    acts_well k is.Ijump i target st at of pending there going = goes_well st (computed_place layout k i st.regs) pending (computed_is k i st.regs)
    acts_well k is.Icall i target st at of pending there going =
        call_well k (unwrap_or (computed_place layout k i st.regs) 0) st pending (computed_or (computed_place layout k i st.regs) (computed_is k i st.regs))
        (fall k (ap is_store of))
    acts_well k other i target st at of pending there going =
        execute_well k st (exec layout.profile i (hart_at (word layout k) st.regs) st.shared) at pending going

    unless_well : (why : Option Reason) (k : ℕ) (st : Source) (after : SourceAfter) → (after.turn ≡ ran → Stepped st after.state) →
        (unless why k st after).turn ≡ ran → Stepped st (unless why k st after).state
    unless_well None k st after well going = well going
    unless_well (Some because) k st after well going = absurd (cc)

    ended_well : (o : Option ℕ) (st : Source) (after : SourceAfter) → (after.turn ≡ ran → Stepped st after.state) →
        (unless_ended o st after).turn ≡ ran → Stepped st (unless_ended o st after).state
    ended_well None st after well going = well going
    ended_well (Some status) st after well going = absurd (cc)

    step_well : (place : Option ℕ) (st : Source) → st.place ≡ place → NoneLater st.pending → (step_at layout place st).turn ≡ ran →
        Stepped st (step_at layout place st).state
    step_well None st at pending going = record { pending = pending; place = λ j there is_so. let wrong : None ≡ Some j = sym at ∙ there in absurd (cc) }
    step_well (Some k) st at pending going =
        unless_well _ k st _ (acts_well k (item_of layout.program k).kind _ _ st at refl pending (target_is k)) going

    -- a step that ran
    pub stepped : (st : Source) → NoneLater st.pending → (source_step layout st).turn ≡ ran → Stepped st (source_step layout st).state
    unfolding source_step
    stepped st pending going = ended_well (last_exit st.shared.events) st (step_at layout st.place st) (step_well st.place st refl pending) going
