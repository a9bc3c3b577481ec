-- A step leads to a place that is there, and calls return to places.
use Rattle.std.proofs.Common.{◌≡◌, ℕ, ◌+◌, ◌-◌, ◌<◌, nat_lt, Bool, true, false, List, [], ◌∷◌, length, All, Option, Some, None, inl, inr, refl, sym, subst, ◌∙◌, arith}
use Rattle.std.specs.Prelude.{◌&&◌, not, if◌then◌else◌, option_and_then, slice_get, unwrap_or, Result, Ok, Err, IfOk, OnErr}
use Rattle.std.proofs.lemmas.Bool.{and_parts, cases_Bool, cases_eq, ltb-true}
use Rattle.std.proofs.lemmas.List.Elements.{All-cons, All-head, All-tail}
use Rattle.src_machine.proofs.Prelude.{NoMemory, Instr, Branch, branch_taken, last_exit, Turn, Ran, Registers, get_reg, ItemKind, EndsLast, Program, count, is_end, item_of, IsSound, aims, is_direct, ProgramAtMap, Reason, SourceTurn, Exit, Source, instr_here, SourceAfter, acts, branches, closes, exits, if_taken, place_after, returns_from, source_step, step_at, step_item, unless, unless_ended, IsInside, IsThere, Leaves, StateParts, source_in, computed, computed_place, if_reached, is_off_graph, is_off_window, is_too_deep, is_unlisted, is_wrong_return, place_with_gate, reason, return_address, class_reaches}
use Rattle.obj_input.specs.declared.item_kind.ItemKind.TheVariants as is
use Rattle.cfi_map.specs.declared.reason.Reason.TheVariants as why
use Rattle.cfi_map.proofs.ByGate.{place_below}

-- behind an instruction another place follows
pub next_there : (layout : ProgramAtMap) (k : ℕ) → EndsLast layout.program → k < count layout.program → is_end (item_of layout.program k).kind ≡ false →
    k + 1 < count layout.program
next_there layout k last below instruction = elim (cases_eq (k + 1) (count layout.program)) [
  | inl same ↦
      let index : count layout.program - 1 ≡ k = omega arith in
      let end : is_end (item_of layout.program k).kind ≡ true =
      subst (λ (n : ℕ). is_end (item_of layout.program n).kind ≡ true) index (last (omega arith)) in
      let wrong : false ≡ true = sym instruction ∙ end in
      absurd (cc)
  | inr other ↦ omega arith
]

-- with no call pending a return leads to the closing
pub returns_nowhere : (layout : ProgramAtMap) (pending : List ℕ) (closing : ℕ) → layout.profile.closing ≡ closing → slice_get pending 0 ≡ None →
    closing ≡ return_address layout pending
returns_nowhere layout [] closing is none = sym is
returns_nowhere layout (k ∷ pending) closing is none = absurd (cc)

-- what the step at the closing leaves
pub closed : (layout : ProgramAtMap) (place : Option ℕ) (st : Source) (parts : StateParts) (status : ℕ) → None ≡ place →
    ◌≡◌ {A = SourceAfter} (record { state = source_in parts; turn = exits status }) (closes layout st) →
    Leaves layout.program (step_at layout place st) (Exit status) parts
closed layout place st parts status at is =
    subst (λ (p : Option ℕ). Leaves layout.program (step_at layout p st) (Exit status) parts) at
    (subst (λ (after : SourceAfter). Leaves layout.program after (Exit status) parts) is (record { turn = refl; state = refl }))

-- where the fifth of six reasons does not stand
no_last : (a b c d e f : Bool) →
    (if a then Some why.Graph else if b then Some why.Return else if c then Some why.Window else if d then Some why.Deep else if e then Some why.End else if f then Some why.Call else None) ≡ None →
    e ≡ false
no_last true b c d e f none = absurd (cc)
no_last false true c d e f none = absurd (cc)
no_last false false true d e f none = absurd (cc)
no_last false false false true e f none = absurd (cc)
no_last false false false false true f none = absurd (cc)
no_last false false false false false f none = refl

after_there : (n k : ℕ) (turn : Turn) → k + 1 < n → IsThere n (place_after k turn)
after_there n k Ran below = below
after_there n k other below = let less : k < n = omega arith in less

if_there : (n a b : ℕ) (test : Bool) → a < n → b < n → if_taken test a b < n
if_there n a b true first second = first
if_there n a b false first second = second

branch_there : (n k target : ℕ) (instr : Instr) (st : Source) → k + 1 < n → target < n → IsInside n st → IsInside n (branches k instr target st).state
branch_there n k target (Branch op rs1 rs2 imm) st next there inside = record {
  place = if_there n target (k + 1) (branch_taken op (get_reg st.regs rs1) (get_reg st.regs rs2)) there next;
  pending = inside.pending;
}
branch_there n k target other st next there inside = record { place = next; pending = inside.pending }

return_there : (n : ℕ) (pending : List ℕ) (st : Source) → All (λ k. k < n) pending → All (λ k. k < n) st.pending → IsInside n (returns_from pending st).state
return_there n [] st these all = record { place = tt; pending = all }
return_there n (k ∷ pending) st these all = record {
  place = All-head (λ (j : ℕ). j < n) k pending these;
  pending = All-tail (λ (j : ℕ). j < n) k pending these;
}

-- after a step or a refusal
pub either_inside : (program : Program) (n : ℕ) (before : Source) (after : SourceAfter) (r : Result SourceTurn NoMemory) (parts : StateParts) →
    IfOk r (λ turn. Leaves program after turn parts) → OnErr r (source_in parts ≡ before) → IsInside n before → IsInside n after.state →
    IsInside n (source_in parts)
either_inside program n before after (Ok turn) parts leaves same inside there = subst (IsInside n) (sym leaves.state) there
either_inside program n before after (Err e) parts leaves same inside there = subst (IsInside n) (sym same) inside

unless_inside : (n k : ℕ) (why_not : Option Reason) (st : Source) (after : SourceAfter) → IsInside n st → (why_not ≡ None → IsInside n after.state) →
    IsInside n (unless why_not k st after).state
unless_inside n k None st after inside rest = rest refl
unless_inside n k (Some because) st after inside rest = inside

-- what a computed transfer goes to is a place
if_reached_there : (layout : ProgramAtMap) (n k : ℕ) (found : Option ℕ) → ((t : ℕ) → found ≡ Some t → t < n) →
    IsThere n (option_and_then (if_reached layout.closed k) found)
if_reached_there layout n k None each = tt
if_reached_there layout n k (Some t) each = elim (cases_Bool (class_reaches layout.closed k t)) [
  | inl yes_it ↦ rw yes_it (each t refl)
  | inr no_it ↦ rw no_it tt
]

there_or_first : (n : ℕ) (place : Option ℕ) → 0 < n → IsThere n place → unwrap_or place 0 < n
there_or_first n None some there = some
there_or_first n (Some k) some there = there

aimed_below : (program : Program) (kind : ItemKind) (target : Option ℕ) → 0 < count program → aims program kind target ≡ true →
    unwrap_or target 0 < count program
aimed_below program kind None some aimed = some
aimed_below program kind (Some t) some aimed =
    let parts = and_parts (is_direct kind && nat_lt t (count program)) (not (is_end (item_of program t).kind)) aimed in
    ltb-true t (count program) (and_parts (is_direct kind) (nat_lt t (count program)) parts.0).1

module _ (layout : ProgramAtMap) (sound : IsSound layout.program) (last : EndsLast layout.program) (gates : length layout.gates ≡ count layout.program) where
  computed_there : (k : ℕ) (instr : Instr) (regs : Registers) → IsThere (count layout.program) (computed_place layout k instr regs)
  computed_there k instr regs =
      if_reached_there layout (count layout.program) k (place_with_gate layout.gates (computed instr regs))
      (λ t some. let below = place_below layout.gates (computed instr regs) t some in omega arith)

  acts_there : (k : ℕ) (kind : ItemKind) (instr : Instr) (target : ℕ) (st : Source) → k + 1 < count layout.program → target < count layout.program →
      IsInside (count layout.program) st → IsInside (count layout.program) (acts layout k kind instr target st).state
  acts_there k is.Branch instr target st next there inside = branch_there (count layout.program) k target instr st next there inside
  acts_there k is.Jump instr target st next there inside = record { place = there; pending = inside.pending }
  acts_there k is.Call instr target st next there inside =
      record { place = there; pending = All-cons (λ (j : ℕ). j < count layout.program) (k + 1) st.pending next inside.pending }
  acts_there k is.Return instr target st next there inside = return_there (count layout.program) st.pending st inside.pending inside.pending
  acts_there k is.Ijump instr target st next there inside = record { place = computed_there k instr st.regs; pending = inside.pending }
  acts_there k is.Icall instr target st next there inside = record {
    place = there_or_first (count layout.program) (computed_place layout k instr st.regs) (omega arith) (computed_there k instr st.regs);
    pending = All-cons (λ (j : ℕ). j < count layout.program) (k + 1) st.pending next inside.pending;
  }
  acts_there k other instr target st next there inside = record { place = after_there (count layout.program) k _ next; pending = inside.pending }

  at_there : (k : ℕ) (st : Source) → k < count layout.program → IsInside (count layout.program) st →
      IsInside (count layout.program) (step_item layout k (item_of layout.program k) st).state
  at_there k st below inside =
      let item = item_of layout.program k in
      let instr = instr_here layout k in
      unless_inside (count layout.program) k (reason layout k item.kind instr st) st (acts layout k item.kind instr (unwrap_or item.target 0) st) inside
      (λ none.
      let instruction = no_last (is_off_graph layout k item.kind instr st) (is_wrong_return layout item.kind st) (is_off_window layout k item.kind instr st)
      (is_too_deep item.kind st) (is_end item.kind) (is_unlisted layout item.kind instr st) none in
      acts_there k item.kind instr (unwrap_or item.target 0) st (next_there layout k last below instruction)
      (aimed_below layout.program item.kind item.target (omega arith) (sound.targets k below)) inside)

  pub place_there : (place : Option ℕ) (st : Source) → IsThere (count layout.program) place → IsInside (count layout.program) st →
      IsInside (count layout.program) (step_at layout place st).state
  place_there None st there inside = record { place = inside.place; pending = inside.pending }
  place_there (Some k) st there inside = at_there k st there inside

  ended_there : (ended : Option ℕ) (st : Source) → IsInside (count layout.program) st →
      IsInside (count layout.program) (unless_ended ended st (step_at layout st.place st)).state
  ended_there None st inside = place_there st.place st inside.place inside
  ended_there (Some status) st inside = inside

  -- a step stays inside
  pub step_there : (st : Source) → IsInside (count layout.program) st → IsInside (count layout.program) (source_step layout st).state
  unfolding source_step
  step_there st inside = ended_there (last_exit st.shared.events) st inside
