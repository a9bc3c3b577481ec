-- Runs of the source machine whose places stand in groups: each state is that of a run up to a group, but for what the group's stores did,
-- which are fewer than sixteen and told nothing to the world.
use Rattle.std.proofs.Common.{◌≡◌, ℕ, zero, suc, ◌+◌, ◌<◌, ◌≤◌, Bool, true, false, List, Option, Some, None, inl, inr, refl, sym, ap, subst, ◌∙◌, arith}
use Rattle.std.specs.Prelude.{if◌then◌else◌, option_and_then, option_map, unwrap_or, ℤ}
use Rattle.std.proofs.lemmas.Bool.{and_parts, cases_Bool, cases_lt, cond_both}
use Rattle.std.proofs.lemmas.List.{get_or_past}
use Rattle.std.proofs.lemmas.Option.{same_Some}
use Rattle.cfi_map.proofs.Prelude.{Profile, Instr, Lui, Auipc, decoded, After, Hart, Shared, last_exit, exec, ItemKind, Item, Patch, distance, instr_at, low_part, patched_instr, Program, count, is_end, item_of, no_item, IsSound, is_of, ProgramAtMap, entered_in, words_at, AreGroups, bounds_in, MOST_STORES, is_store, members_before, Source, instr_here, source_start, SameWorld, SourceAfter, StepTurn, acts, after_steps, breaks, exits, going_on, ran, source_step, step_at, unless, unless_ended, untame, Reason}
use Rattle.rv_instr.specs.declared.instr.Instr.TheVariants as I
use Rattle.obj_input.specs.declared.item_kind.ItemKind.TheVariants as is
use Rattle.obj_program.specs.declared.item.Patch.TheVariants as put
use Rattle.obj_program.specs.Suits as suits
use Rattle.obj_program.proofs.Read.{read_there}
use Rattle.cfi_map.proofs.GroupFacts.{joins, later_if, more_before, one_before}
use Rattle.cfi_map.proofs.LaterPlaces.{NoneLater, Stepped, entry_is, later, stepped}

-- an instruction that is no system call
abbrev is_quiet : Instr → Bool
is_quiet I.Ecall = false
is_quiet other = true

-- a store stays one where its immediate is changed
high_quiet : (b : Bool) (op : _) (rs1 rs2 imm : ℕ) → is_quiet (unwrap_or (if b then Some (I.Store op rs1 rs2 imm) else None) I.Ebreak) ≡ true
high_quiet true op rs1 rs2 imm = refl
high_quiet false op rs1 rs2 imm = refl

low_quiet : (o : Option ℤ) (op : _) (rs1 rs2 imm : ℕ) → is_quiet (unwrap_or (option_map (low_part (I.Store op rs1 rs2 imm)) o) I.Ebreak) ≡ true
low_quiet None op rs1 rs2 imm = refl
low_quiet (Some value) op rs1 rs2 imm = refl

patched_quiet : (program : Program) (gates words : List ℕ) (k : ℕ) (i : Instr) (patch : Patch) → suits.is_store i ≡ true →
    is_quiet (unwrap_or (patched_instr program gates words k i patch) I.Ebreak) ≡ true
patched_quiet program gates words k (I.Store op rs1 rs2 imm) put.Own store = refl
patched_quiet program gates words k (I.Store op rs1 rs2 imm) (put.High v) store = high_quiet _ op rs1 rs2 imm
patched_quiet program gates words k (I.Store op rs1 rs2 imm) (put.Low v) store = refl
patched_quiet program gates words k (I.Store op rs1 rs2 imm) (put.RelativeHigh v) store = high_quiet _ op rs1 rs2 imm
patched_quiet program gates words k (I.Store op rs1 rs2 imm) (put.RelativeLow j) store = low_quiet (distance gates words j (item_of program j).patch) op rs1 rs2 imm
patched_quiet program gates words k other patch store = absurd (cc)

read_quiet : (program : Program) (gates words : List ℕ) (k : ℕ) (kind : ItemKind) (patch : Patch) (o : Option Instr) → is_store kind ≡ true →
    is_of kind patch o ≡ true → is_quiet (unwrap_or (option_and_then (λ (i : Instr). patched_instr program gates words k i patch) o) I.Ebreak) ≡ true
read_quiet program gates words k is.Store patch None store of = absurd (cc)
read_quiet program gates words k is.Store patch (Some i) store of = patched_quiet program gates words k i patch (and_parts _ _ (and_parts _ _ of).0).0
read_quiet program gates words k other patch o store of = absurd (cc)

pub store_no_end : (kind : ItemKind) → is_store kind ≡ true → is_end kind ≡ false
store_no_end is.Store store = refl
store_no_end other store = absurd (cc)

-- the place of a store has one
store_quiet : (layout : ProgramAtMap) (k : ℕ) → IsSound layout.program → is_store (item_of layout.program k).kind ≡ true → is_quiet (instr_here layout k) ≡ true
unfolding instr_at
store_quiet layout k sound store = elim (cases_lt k (count layout.program)) [
  | inl below ↦
      let item = item_of layout.program k in
      read_quiet layout.program layout.gates (words_at layout) k item.kind item.patch (decoded item.word) store
      (read_there layout.program k sound below (store_no_end item.kind store))
  | inr past ↦
      let none : item_of layout.program k ≡ no_item = get_or_past layout.program.items k no_item past in
      let wrong : false ≡ true = sym (ap (λ (item : Item). is_store item.kind) none) ∙ store in
      absurd (cc)
]

-- what leaves the world as it was
if_field : {X : Type 0} (f : Shared → X) (b : Bool) (x y : After) (v : X) → f x.shared ≡ v → f y.shared ≡ v → f (if b then x else y).shared ≡ v
if_field f b x y v one other = cond_both b x y (λ (a : After). f a.shared ≡ v) (λ e. one) (λ e. other)

if_same : (b : Bool) (x y : After) (s : Shared) → SameWorld x.shared s → SameWorld y.shared s → SameWorld (if b then x else y).shared s
if_same b x y s one other = cond_both b x y (λ (a : After). SameWorld a.shared s) (λ e. one) (λ e. other)

as_it_was : (s : Shared) → SameWorld s s
as_it_was s = record { left = refl; output = refl; events = refl }

through : (s t u : Shared) → SameWorld s t → SameWorld t u → SameWorld s u
through s t u one other = record { left = one.left ∙ other.left; output = one.output ∙ other.output; events = one.events ∙ other.events }

quiet : (p : Profile) (i : Instr) (h : Hart) (s : Shared) → is_quiet i ≡ true → SameWorld (exec p i h s).shared s
quiet p (I.Branch op rs1 rs2 imm) h s is = if_same _ _ _ s (as_it_was s) (as_it_was s)
quiet p (I.Load op rd rs1 imm) h s is = if_same _ _ _ s (as_it_was s) (as_it_was s)
quiet p (I.Store op rs1 rs2 imm) h s is = record {
  left = if_field (λ (t : Shared). t.left) _ _ _ s.left refl refl;
  output = if_field (λ (t : Shared). t.output) _ _ _ s.output refl refl;
  events = if_field (λ (t : Shared). t.events) _ _ _ s.events refl refl;
}
quiet p I.Ecall h s is = absurd (cc)
quiet p (I.Upper Lui rd imm) h s is = as_it_was s
quiet p (I.Upper Auipc rd imm) h s is = as_it_was s
quiet p other h s is = as_it_was s

unless_quiet : (why : Option Reason) (k : ℕ) (st : Source) (after : SourceAfter) → SameWorld after.state.shared st.shared →
    SameWorld (unless why k st after).state.shared st.shared
unless_quiet None k st after same = same
unless_quiet (Some because) k st after same = as_it_was st.shared

ended_quiet : (o : Option ℕ) (st : Source) (after : SourceAfter) → SameWorld after.state.shared st.shared →
    SameWorld (unless_ended o st after).state.shared st.shared
ended_quiet None st after same = same
ended_quiet (Some status) st after same = as_it_was st.shared

acts_quiet : (layout : ProgramAtMap) (k : ℕ) (kind : ItemKind) (i : Instr) (target : ℕ) (st : Source) → is_store kind ≡ true → is_quiet i ≡ true →
    SameWorld (acts layout k kind i target st).state.shared st.shared
acts_quiet layout k is.Store i target st store calm = quiet layout.profile i _ st.shared calm
acts_quiet layout k other i target st store calm = absurd (cc)

place_quiet : (layout : ProgramAtMap) (k : ℕ) (place : Option ℕ) (st : Source) → IsSound layout.program → is_store (item_of layout.program k).kind ≡ true →
    place ≡ Some k → SameWorld (step_at layout place st).state.shared st.shared
place_quiet layout k None st sound store at = absurd (cc)
place_quiet layout k (Some j) st sound store at =
    let same : j ≡ k = same_Some j k at in
    let here : is_store (item_of layout.program j).kind ≡ true = subst (λ (m : ℕ). is_store (item_of layout.program m).kind ≡ true) (sym same) store in
    unless_quiet _ j st _ (acts_quiet layout j (item_of layout.program j).kind (instr_here layout j) _ st here (store_quiet layout j sound here))

-- a step from a store leaves the world as it was
pub step_quiet : (layout : ProgramAtMap) (k : ℕ) (st : Source) → IsSound layout.program → is_store (item_of layout.program k).kind ≡ true →
    st.place ≡ Some k → SameWorld (source_step layout st).state.shared st.shared
unfolding source_step
step_quiet layout k st sound store at = ended_quiet (last_exit st.shared.events) st _ (place_quiet layout k st.place st sound store at)

-- the last of some steps
pub gone_on : (turn : StepTurn) (s st : Source) → going_on turn s ≡ Some st → (turn ≡ ran) × (s ≡ st)
gone_on ran s st e = (refl, same_Some s st e)
gone_on (exits status) s st e = absurd (cc)
gone_on (breaks k) s st e = absurd (cc)
gone_on (untame why k) s st e = absurd (cc)

record LastStep (layout : ProgramAtMap) (n : ℕ) (start st : Source) : Type 0 where
  before : Source
  runs : after_steps layout n start ≡ Some before
  going : (source_step layout before).turn ≡ ran
  leaves : (source_step layout before).state ≡ st

stepped_from : (layout : ProgramAtMap) (n : ℕ) (start st : Source) (o : Option Source) → after_steps layout n start ≡ o →
    option_and_then (λ (s : Source). going_on (source_step layout s).turn (source_step layout s).state) o ≡ Some st → LastStep layout n start st
stepped_from layout n start st None runs e = absurd (cc)
stepped_from layout n start st (Some before) runs e =
    let last = gone_on (source_step layout before).turn (source_step layout before).state st e in
    record { before = before; runs = runs; going = last.0; leaves = last.1 }

last_step : (layout : ProgramAtMap) (n : ℕ) (start st : Source) → after_steps layout (suc n) start ≡ Some st → LastStep layout n start st
unfolding after_steps
last_step layout n start st e = stepped_from layout n start st (after_steps layout n start) refl e

module _ (layout : ProgramAtMap) (whole : ℕ → Bool) (input : List ℕ) where
  -- how many stores of its group stand before a place that is a later member
  abbrev pub past : Option ℕ → ℕ
  past None = 0
  past (Some j) = if later layout whole j then members_before (item_of layout.program) whole j else 0

  -- a run that is shorter by the stores of the group whose state is at no later member, with the same world as a state
  pub record AtLeader (n : ℕ) (st : Source) : Type 0 where
    pub steps : ℕ
    pub few : steps ≤ n
    pub counted : n ≡ steps + past st.place
    pub state : Source
    pub runs : after_steps layout steps (source_start layout input) ≡ Some state
    pub place : (j : ℕ) → state.place ≡ Some j → later layout whole j ≡ false
    pub world : SameWorld st.shared state.shared

  pub record Reached (n : ℕ) (st : Source) : Type 0 where
    pub pending : NoneLater layout whole st.pending
    pub leader : AtLeader n st

  module _ (groups : AreGroups (item_of layout.program) (bounds_in (entered_in layout)) whole) (sound : IsSound layout.program) where
    none_past : (place : Option ℕ) → ((j : ℕ) → place ≡ Some j → later layout whole j ≡ false) → past place ≡ 0
    none_past None first = refl
    none_past (Some j) first = rw (first j refl) refl

    -- from a store one more stands before the next place
    one_past : (k j : ℕ) → is_store (item_of layout.program k).kind ≡ true → j ≡ k + 1 → later layout whole j ≡ true → past (Some j) ≡ suc (past (Some k))
    one_past k j store next is_so =
        let items = item_of layout.program in
        let bounds = bounds_in (entered_in layout) in
        let here : past (Some j) ≡ members_before items whole j = rw is_so refl in
        let after : members_before items whole j ≡ members_before items whole (suc k) = let e : j ≡ suc k = omega arith in ap (members_before items whole) e in
        elim (cases_Bool (whole k)) [
          | inl first ↦
              let none : past (Some k) ≡ 0 = none_past (Some k) (λ i at.
              subst (λ (d : ℕ). later layout whole d ≡ false) (same_Some k i at) (rw (store, first) refl)) in
              here ∙ after ∙ one_before items bounds whole k store first ∙ ap suc (sym none)
          | inr other ↦
              let some : past (Some k) ≡ members_before items whole k = rw (later_if items bounds whole k store other) refl in
              let more = more_before items bounds whole k store other in
              omega (arith, here, after, more, some)
        ]

    -- fewer than a group may have
    pub past_few : (place : Option ℕ) → past place < MOST_STORES
    past_few None = omega arith
    past_few (Some j) = elim (cases_Bool (later layout whole j)) [
      | inl is_so ↦ rw is_so (joins (item_of layout.program) (bounds_in (entered_in layout)) whole j _ (groups j is_so)).most
      | inr not_so ↦ rw not_so (omega arith)
    ]

    pub past_some : (j : ℕ) → later layout whole j ≡ true → 0 < past (Some j)
    past_some j is_so = rw is_so (joins (item_of layout.program) (bounds_in (entered_in layout)) whole j _ (groups j is_so)).some

    itself : (n : ℕ) (st : Source) → after_steps layout n (source_start layout input) ≡ Some st → ((j : ℕ) → st.place ≡ Some j → later layout whole j ≡ false) →
        AtLeader n st
    itself n st runs first =
        let none = none_past st.place first in
        record { steps = n; few = omega arith; counted = omega arith; state = st; runs = runs; place = first; world = as_it_was st.shared }

    first_reached : (st : Source) → after_steps layout 0 (source_start layout input) ≡ Some st → Reached 0 st
    unfolding after_steps
    first_reached st runs =
        let same : source_start layout input ≡ st = same_Some (source_start layout input) st runs in
        subst (Reached 0) same (record {
          pending = tt;
          leader = itself 0 (source_start layout input) refl (λ j at.
              subst (λ (m : ℕ). later layout whole m ≡ false) (same_Some layout.entry j at) (entry_is layout whole groups));
        })

    -- one step on
    leader_on : (n : ℕ) (before st : Source) → AtLeader n before → Stepped layout whole before st →
        after_steps layout (suc n) (source_start layout input) ≡ Some st →
        ((k : ℕ) → before.place ≡ Some k → is_store (item_of layout.program k).kind ≡ true → SameWorld st.shared before.shared) →
        (place : Option ℕ) → st.place ≡ place → AtLeader (suc n) st
    leader_on n before st leader step runs calm None at = itself (suc n) st runs (λ j there. let wrong : None ≡ Some j = sym at ∙ there in absurd (cc))
    leader_on n before st leader step runs calm (Some j) at = elim (cases_Bool (later layout whole j)) [
      | inl is_so ↦
          let from = step.place j at is_so in
          record {
            steps = leader.steps;
            few = let few = leader.few in omega arith;
            counted =
                let counted = leader.counted in
                let more = one_past from.0 j from.2 from.3 is_so in
                let came = ap past from.1 in
                let now = ap past at in
                omega (arith, counted, more, came, now);
            state = leader.state;
            runs = leader.runs;
            place = leader.place;
            world = through st.shared before.shared leader.state.shared (calm from.0 from.1 from.2) leader.world;
          }
      | inr not_so ↦ itself (suc n) st runs (λ i there.
          let same : j ≡ i = same_Some j i (sym at ∙ there) in
          subst (λ (m : ℕ). later layout whole m ≡ false) same not_so)
    ]

    -- each state of a run
    pub reached : (n : ℕ) (st : Source) → after_steps layout n (source_start layout input) ≡ Some st → Reached n st
    reached zero st runs = first_reached st runs
    reached (suc n) st runs =
        let last = last_step layout n (source_start layout input) st runs in
        let so_far = reached n last.before last.runs in
        let step = subst (Stepped layout whole last.before) last.leaves (stepped layout whole groups last.before so_far.pending last.going) in
        record {
          pending = step.pending;
          leader = leader_on n last.before st so_far.leader step runs
              (λ k at store. subst (λ (s : Source). SameWorld s.shared last.before.shared) last.leaves (step_quiet layout k last.before sound store at))
              st.place refl;
        }
