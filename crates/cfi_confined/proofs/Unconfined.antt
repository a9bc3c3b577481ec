-- Small pairs with one fault each: their undisturbed runs take a step that is not confined.
use Rattle.std.proofs.Common.{◌≡◌, ℕ, zero, ◌+◌, suc, ◌<◌, ◌&&◌, Bool, true, false, inl, inr, List, [], ◌∷◌, ◌++◌, refl, sym, ap, subst, ◌∙◌, Option, Some, None, arith, lit<, lit≤}
use Rattle.std.specs.Prelude.{◌==◌, if◌then◌else◌, slice_get}
use Rattle.std.specs.List.{Contains}
use Rattle.std.proofs.lemmas.Bool.{and_parts, eq-eqb, false≢true}
use Rattle.std.proofs.lemmas.Option.{same_Some}
use Rattle.cfi_confined.proofs.Prelude.{Contents, loaded, MayRun, Profile, part_of, lean_version_1, version_1, version_2, placed, write, Instr, Branch, Jal, Jalr, decoded, code_of, ByteChange, disturbed, After, Hart, Shared, last_exit, start_hart, start_shared, step, Ran, GraphParts, Call, Class, Edge, Site, SiteKind, words_of, TakenStep, astray_call, astray_call_graph, breaking_closing, breaking_closing_graph, calling_opening, handler_graph, high_pointer, illegal_handler, lean_opening_graph, loading_handler, one_pointer_graph, opening_graph, storing_handler, storing_opening, ConfinedAlong, IsConfined, IsConfinedStep, Moves, Pending, Writes, fetched, with_pending, FaultsAreUnconfined, borrowed_edge, borrowed_edge_graph, running_handler, early_return, early_return_graph, long_branch, long_branch_graph, unlisted_entry, unlisted_entry_graph, unlisted_jump, unlisted_jump_graph, lean_graph, moved_link, saved_early, saved_high, saved_pointer, short_call, short_call_graph}
use Rattle.rv_image.proofs.Profiles.{LaidOut, laid_out}
use Rattle.rv_code.proofs.Runs.{calm}
use Rattle.cfi_graph.specs.declared.line.Sort.TheVariants as sorts
use Rattle.cfi_graph.specs.declared.line.SiteKind.TheVariants as K
use Rattle.cfi_rules.proofs.Arrivals.{after_calm, calm_and, is_ran, ran_of}
use Rattle.cfi_rules.proofs.OneHart.{one_may_run}
use Rattle.cfi_rules.proofs.Starts.{machine_may_start}
use Rattle.cfi_rules.proofs.Taken.{AreDataChanges, alone_taken, may_come, steps_of, taken_alone}
use Rattle.cfi_rules.proofs.Unsafe.{calm_is_data}

-- no call and no return
abbrev is_keeping : Option Instr → Bool
is_keeping (Some (Jal rd imm)) = rd == 0
is_keeping (Some (Jalr rd rs1 imm)) = false
is_keeping other = true

module _ (p : Profile) (graph : GraphParts) where
  keeps : (code : ℕ → Option Instr) (o : Option Instr) (pc : ℕ) (pending : List ℕ) (to : ℕ) (newer : List ℕ) → is_keeping o ≡ true → Moves p graph code o pc pending to newer →
      newer ≡ pending
  keeps code None pc pending to newer keep moves = absurd moves
  keeps code (Some (Branch op rs1 rs2 imm)) pc pending to newer keep moves = moves.1
  keeps code (Some (Jal rd imm)) pc pending to newer keep (inl moves) = moves.2
  keeps code (Some (Jal rd imm)) pc pending to newer keep (inr moves) = absurd (false≢true (sym (ap (λ (n : ℕ). n == 0) moves.0) ∙ keep))
  keeps code (Some (Jalr rd rs1 imm)) pc pending to newer keep moves = absurd (cc)
  keeps code (Some other) pc pending to newer keep moves = moves.1

  module _ (k : ℕ) where
    -- the run of one hart alone is confined
    abbrev AloneAlong : List ℕ → Hart → Shared → List (List ByteChange) → Type 0
    AloneAlong pending h s [] = Unit {0}
    AloneAlong pending h s (cs ∷ rest) =
        let now = disturbed s cs in
        let after = step p h now in
        (newer : List ℕ)
        × IsConfinedStep p graph pending (record { hart = k; before = h; shared = now; after = after }) newer
        × (after.turn ≡ Ran → AloneAlong newer after.hart after.shared rest)

    alone : (changes : List (List ByteChange)) (pending : Pending) (h : Hart) (s : Shared) → ConfinedAlong p graph pending (taken_alone p k h s changes) →
        AloneAlong (pending k) h s changes
    alone [] pending h s c = tt
    alone (cs ∷ rest) pending h s c =
        let after = step p h (disturbed s cs) in (
          c.0,
          c.1,
          λ ran.
              let on : ConfinedAlong p graph (with_pending pending k c.0) (taken_alone p k after.hart after.shared rest) = rw ran at c.2 in
              let later : AloneAlong (if k == k then c.0 else pending k) after.hart after.shared rest = alone rest (with_pending pending k c.0) after.hart after.shared on in
              subst (λ (b : Bool). AloneAlong (if b then c.0 else pending k) after.hart after.shared rest) (eq-eqb k k refl) later,
        )

    -- some undisturbed steps run, none of which is a call or a return
    unfoldable all_keep : ℕ → Hart → Shared → Bool
    all_keep zero h s = true
    all_keep (suc n) h s = is_ran (step p h s).turn && (is_keeping (fetched s.memory h.pc) && all_keep n (step p h s).hart (step p h s).shared)

    -- the same calls are pending after them
    later : (n : ℕ) (pending : List ℕ) (h : Hart) (s : Shared) (rest : List (List ByteChange)) → all_keep n h s ≡ true → AloneAlong pending h s (calm n ++ rest) →
        AloneAlong pending (after_calm p n h s).hart (after_calm p n h s).shared rest
    unfolding all_keep after_calm
    later zero pending h s rest run c = c
    later (suc n) pending h s rest run c =
        let a = step p h s in
        let runs = and_parts (is_ran a.turn) (is_keeping (fetched s.memory h.pc) && all_keep n a.hart a.shared) run in
        let parts = and_parts (is_keeping (fetched s.memory h.pc)) (all_keep n a.hart a.shared) runs.1 in
        let ran = ran_of a.turn runs.0 in
        let same = keeps (fetched s.memory) (fetched s.memory h.pc) h.pc pending a.hart.pc c.0 parts.0 (c.1.leads ran).1 in
        later n pending a.hart a.shared rest parts.1 (subst (λ (l : List ℕ). AloneAlong l a.hart a.shared (calm n ++ rest)) same (c.2 ran))

-- hart 0 of an image after some undisturbed steps
abbrev after_steps : Profile → Contents → ℕ → After
after_steps p image n = after_calm p n (start_hart 0) (start_shared image [])

-- the run of hart 0 alone is confined
hart_0 : (p : Profile) (image : Contents) (graph : GraphParts) (count : ℕ) (changes : List (List ByteChange)) → MayRun p count → 0 < count → IsConfined p image graph → AreDataChanges changes →
    AloneAlong p graph 0 [] (start_hart 0) (start_shared image []) changes
hart_0 p image graph count changes may some confined low =
    alone p graph 0 changes (λ k. []) (start_hart 0) (start_shared image [])
    (subst (λ (taken : List TakenStep). ConfinedAlong p graph (λ k. []) taken) (alone_taken p 0 changes start_hart (start_shared image []))
    (confined count may start_hart (start_shared image []) (machine_may_start image [] count) (steps_of 0 changes) (may_come count 0 some changes low)))

-- the undisturbed run of hart 0 is confined after some steps without a call
from_start : (p : Profile) (image : Contents) (graph : GraphParts) (count n more : ℕ) → MayRun p count → 0 < count → IsConfined p image graph →
    all_keep p graph 0 n (start_hart 0) (start_shared image []) ≡ true → AloneAlong p graph 0 [] (after_steps p image n).hart (after_steps p image n).shared (calm more)
from_start p image graph count n more may some confined run =
    let changes : List (List ByteChange) = calm n ++ calm more in
    later p graph 0 n [] (start_hart 0) (start_shared image []) (calm more) run
    (hart_0 p image graph count changes may some confined (calm_and n (calm more) (calm_is_data more)))

several : (image : Contents) (graph : GraphParts) (n : ℕ) → IsConfined version_2 image graph → all_keep version_2 graph 0 n (start_hart 0) (start_shared image []) ≡ true →
    AloneAlong version_2 graph 0 [] (after_steps version_2 image n).hart (after_steps version_2 image n).shared (calm 1)
several image graph n = from_start version_2 image graph 2 n 1 (record { some = lit≤ tt; most = lit≤ tt }) (lit< tt)

-- images for one hart, whose opening calls the entry after its first steps
module _ (p : Profile) (laid : LaidOut p) (first : ℕ) (image : Contents) (graph : GraphParts) where
  lone_of : (n more : ℕ) → IsConfined p image graph → all_keep p graph 0 n (start_hart 0) (start_shared image []) ≡ true →
      AloneAlong p graph 0 [] (after_steps p image n).hart (after_steps p image n).shared (calm more)
  lone_of n more = from_start p image graph 1 n more (one_may_run p laid) (lit< tt)

  abbrev entered : After
  entered = let h = after_steps p image first in step p h.hart h.shared

  called_of : (n more : ℕ) → IsConfined p image graph → all_keep p graph 0 first (start_hart 0) (start_shared image []) ≡ true → is_ran entered.turn ≡ true →
      all_keep p graph 0 n entered.hart entered.shared ≡ true →
      (pending : List ℕ) × Moves p graph (fetched (after_steps p image first).shared.memory) (fetched (after_steps p image first).shared.memory (after_steps p image first).hart.pc)
      (after_steps p image first).hart.pc [] entered.hart.pc pending
      × AloneAlong p graph 0 pending (after_calm p n entered.hart entered.shared).hart (after_calm p n entered.hart entered.shared).shared (calm more)
  called_of n more confined opens ran run =
      let start = start_shared image [] in
      let changes : List (List ByteChange) = [] ∷ (calm n ++ calm more) in
      let c = later p graph 0 first [] (start_hart 0) start changes opens
      (hart_0 p image graph 1 (calm first ++ changes) (one_may_run p laid) (lit< tt) confined (calm_and first changes (tt, calm_and n (calm more) (calm_is_data more)))) in
      let goes = ran_of entered.turn ran in
      (c.0, (c.1.leads goes).1, later p graph 0 n c.0 entered.hart entered.shared (calm more) run (c.2 goes))

-- the tenth step is the opening's call
lone : (image : Contents) (graph : GraphParts) (n more : ℕ) → IsConfined version_1 image graph → all_keep version_1 graph 0 n (start_hart 0) (start_shared image []) ≡ true →
    AloneAlong version_1 graph 0 [] (after_steps version_1 image n).hart (after_steps version_1 image n).shared (calm more)
lone image graph = lone_of version_1 (laid_out version_1 (inl (inl refl))) 9 image graph

called : (image : Contents) (graph : GraphParts) (n more : ℕ) → IsConfined version_1 image graph → all_keep version_1 graph 0 9 (start_hart 0) (start_shared image []) ≡ true →
    is_ran (entered version_1 (laid_out version_1 (inl (inl refl))) 9 image graph).turn ≡ true →
    all_keep version_1 graph 0 n (entered version_1 (laid_out version_1 (inl (inl refl))) 9 image graph).hart (entered version_1 (laid_out version_1 (inl (inl refl))) 9 image graph).shared ≡ true →
    (pending : List ℕ)
    × AloneAlong version_1 graph 0 pending (after_calm version_1 n (entered version_1 (laid_out version_1 (inl (inl refl))) 9 image graph).hart (entered version_1 (laid_out version_1 (inl (inl refl))) 9 image graph).shared).hart
    (after_calm version_1 n (entered version_1 (laid_out version_1 (inl (inl refl))) 9 image graph).hart (entered version_1 (laid_out version_1 (inl (inl refl))) 9 image graph).shared).shared (calm more)
called image graph n more confined opens ran run =
    let c = called_of version_1 (laid_out version_1 (inl (inl refl))) 9 image graph n more confined opens ran run in (c.0, c.2)

-- two numbers are not the same
differ : {a b : ℕ} → (a == b) ≡ false → a ≡ b → ⊥
differ {b = b} other same = false≢true (sym other ∙ ap (λ (n : ℕ). n == b) same ∙ eq-eqb b b refl)

-- the only line is a call's
no_edge : (a b c d : ℕ) → Contains (Call a b ∷ []) (Edge c d) → ⊥
no_edge a b c d (zero, below, is) = absurd (cc)
no_edge a b c d (suc k, below, is) = absurd (omega arith)

jump_unconfined : IsConfined version_1 unlisted_jump unlisted_jump_graph → ⊥
unfolding loaded placed decoded code_of step write last_exit after_calm is_ran all_keep
jump_unconfined confined =
    let c = called unlisted_jump unlisted_jump_graph 0 1 confined refl refl refl in
    elim (c.1.1.leads refl).1 [
      | inl (zero_is, inl low, same) ↦ let end = low.1 in omega arith
      | inl (zero_is, inr (inl edge), same) ↦ no_edge _ _ _ _ edge
      | inl (zero_is, inr (inr edge), same) ↦ no_edge _ _ _ _ edge.1
      | inr (one_is, line, new) ↦ differ refl one_is
    ]

branch_unconfined : IsConfined version_1 long_branch long_branch_graph → ⊥
unfolding loaded placed decoded code_of step write last_exit after_calm is_ran all_keep
branch_unconfined confined =
    let c = called long_branch long_branch_graph 0 1 confined refl refl refl in
    elim (c.1.1.leads refl).1.0 [
      | inl (inl next) ↦ omega arith
      | inl (inr (inl over)) ↦ omega arith
      | inl (inr (inr (low, high, call))) ↦ absurd (cc)
      | inr edge ↦ no_edge _ _ _ _ edge
    ]

entry_unconfined : IsConfined version_1 unlisted_entry unlisted_entry_graph → ⊥
unfolding loaded placed decoded code_of step write last_exit after_calm is_ran all_keep
entry_unconfined confined =
    let c = lone unlisted_entry unlisted_entry_graph 9 1 confined refl in
    elim (c.1.leads refl).1 [
      | inl (zero_is, to, same) ↦ differ refl zero_is
      | inr (one_is, (k, below, is), new) ↦ omega arith
    ]

-- the lines of the computed call have one class, with one target
only_class : (label : ℕ) (targets : List ℕ) → Contains astray_call_graph.lines (Class sorts.Both label targets) → (0x40000094 ∷ []) ≡ targets
only_class label targets (zero, below, is) = cc
only_class label targets (suc zero, below, is) = absurd (cc)
only_class label targets (suc (suc zero), below, is) = absurd (cc)
only_class label targets (suc (suc (suc k)), below, is) = absurd (omega arith)

no_class : (label : ℕ) (targets : List ℕ) → Contains astray_call_graph.lines (Class sorts.Calls label targets) → ⊥
no_class label targets (zero, below, is) = absurd (cc)
no_class label targets (suc zero, below, is) = absurd (cc)
no_class label targets (suc (suc zero), below, is) = absurd (cc)
no_class label targets (suc (suc (suc k)), below, is) = absurd (omega arith)

no_target : Contains {X = ℕ} (0x40000094 ∷ []) 0x40000090 → ⊥
no_target (zero, below, is) = differ refl is
no_target (suc k, below, is) = absurd (omega arith)

target_unconfined : IsConfined version_1 astray_call astray_call_graph → ⊥
unfolding loaded placed decoded code_of words_of step write last_exit after_calm is_ran all_keep
target_unconfined confined =
    let c = called astray_call astray_call_graph 16 1 confined refl refl refl in
    elim (c.1.1.leads refl).1 [
      | inl (zero_is, to) ↦ differ refl zero_is
      | inr (one_is, site, new) ↦ elim site.class [
        | inl class ↦
            let gate : 0x40000090 ≡ site.gate = site.behind ∙ omega arith in
            no_target (subst (λ (ts : List ℕ). Contains ts 0x40000090) (sym (only_class site.label site.targets class)) (subst (λ (a : ℕ). Contains site.targets a) (sym gate) site.target))
        | inr class ↦ no_class site.label site.targets class
      ]
    ]

-- the lines of the early return have one site
other_site : (a : ℕ) (kind : SiteKind) (label : ℕ) → (a == 0x40000018) ≡ false → Contains early_return_graph.lines (Site a kind label) → ⊥
other_site a kind label other (zero, below, is) = absurd (cc)
other_site a kind label other (suc zero, below, is) = absurd (cc)
other_site a kind label other (suc (suc zero), below, is) = differ other (let same : 0x40000018 ≡ a = cc in sym same)
other_site a kind label other (suc (suc (suc zero)), below, is) = absurd (cc)
other_site a kind label other (suc (suc (suc (suc k))), below, is) = absurd (omega arith)

return_unconfined : IsConfined version_1 early_return early_return_graph → ⊥
unfolding loaded placed decoded code_of step write last_exit after_calm is_ran all_keep
return_unconfined confined =
    let c = called early_return early_return_graph 0 3 confined refl refl refl in
    let call = c.1 in
    let jump = call.2 refl in
    let back = jump.2 refl in
    elim (call.1.leads refl).1 [
      | inl (zero_is, to, same) ↦ differ refl zero_is
      | inr (one_is, line, new) ↦ elim (jump.1.leads refl).1 [
        | inl (zero_is, inl (none, pops)) ↦ none K.Jump 1 (2, lit< tt, refl)
        | inl (zero_is, inr (site, same)) ↦ elim (back.1.leads refl).1 [
          | inl (zero_too, inl (none, pops)) ↦
              let first : slice_get (0x40000044 ∷ c.0) 0 ≡ slice_get (0x40000038 ∷ back.0) 0 = ap (λ (l : List ℕ). slice_get l 0) (sym new ∙ sym same ∙ pops) in
              differ refl (same_Some 0x40000044 0x40000038 first)
          | inl (zero_too, inr (other, stays)) ↦ other_site 0x40000014 K.Jump other.label refl other.listed
          | inr other ↦ differ refl other.0
        ]
        | inr other ↦ differ refl other.0
      ]
    ]

-- the lines of the borrowed edge have one edge
other_edge : (a b : ℕ) → (a == 0x40000040) ≡ false → Contains borrowed_edge_graph.lines (Edge a b) → ⊥
other_edge a b other (zero, below, is) = absurd (cc)
other_edge a b other (suc zero, below, is) = differ other (let same : 0x40000040 ≡ a = cc in sym same)
other_edge a b other (suc (suc k), below, is) = absurd (omega arith)

borrowed_unconfined : IsConfined version_1 borrowed_edge borrowed_edge_graph → ⊥
unfolding loaded placed decoded code_of step write last_exit after_calm is_ran all_keep
borrowed_unconfined confined =
    let c = called borrowed_edge borrowed_edge_graph 1 1 confined refl refl refl in
    elim (c.1.1.leads refl).1 [
      | inl (zero_is, inl low, same) ↦ let end = low.1 in omega arith
      | inl (zero_is, inr (inl edge), same) ↦ other_edge _ _ refl edge
      | inl (zero_is, inr (inr (over, edge)), same) ↦ differ refl over
      | inr (one_is, line, new) ↦ differ refl one_is
    ]

-- a handler stands twelve steps on
run_unconfined : IsConfined version_1 running_handler handler_graph → ⊥
unfolding loaded placed decoded code_of step write last_exit after_calm is_ran all_keep
run_unconfined confined = let c = called running_handler handler_graph 2 1 confined refl refl refl in let low = c.1.1.ends in omega arith

load_fault_unconfined : IsConfined version_1 loading_handler handler_graph → ⊥
unfolding loaded placed decoded code_of step write last_exit after_calm is_ran all_keep
load_fault_unconfined confined = let c = called loading_handler handler_graph 2 1 confined refl refl refl in let low = c.1.1.ends in omega arith

store_fault_unconfined : IsConfined version_1 storing_handler handler_graph → ⊥
unfolding loaded placed decoded code_of step write last_exit after_calm is_ran all_keep
store_fault_unconfined confined = (called storing_handler handler_graph 2 1 confined refl refl refl).1.1.ends

illegal_unconfined : IsConfined version_1 illegal_handler handler_graph → ⊥
unfolding loaded placed decoded code_of step write last_exit after_calm is_ran all_keep
illegal_unconfined confined = (called illegal_handler handler_graph 2 1 confined refl refl refl).1.1.ends

-- a return comes before it
break_unconfined : IsConfined version_1 breaking_closing breaking_closing_graph → ⊥
unfolding loaded placed decoded code_of step write last_exit after_calm is_ran all_keep
break_unconfined confined =
    let c = called breaking_closing breaking_closing_graph 3 3 confined refl refl refl in
    elim ((c.1.2 refl).2 refl).1.ends [ inl low ↦ let end = low.1 in omega arith | inr past ↦ omega arith ]

call_unconfined : IsConfined version_2 calling_opening one_pointer_graph → ⊥
unfolding loaded placed decoded code_of step write last_exit after_calm is_ran all_keep
call_unconfined confined =
    let c = several calling_opening one_pointer_graph 5 confined refl in
    elim c.1.calls [ inl past ↦ let low = past.0 in omega arith | inr closing ↦ let here = closing.0 in omega arith ]

-- the site's lowest byte is in slot 1
slot_unconfined : IsConfined version_1 high_pointer opening_graph → ⊥
unfolding loaded placed decoded code_of step write last_exit after_calm is_ran all_keep
slot_unconfined confined = let c = lone high_pointer opening_graph 7 1 confined refl in differ refl (c.1.writes 0x60000010 (lit≤ tt) (inr (inl (lit≤ tt))))

part_unconfined : IsConfined version_2 storing_opening one_pointer_graph → ⊥
unfolding loaded placed decoded code_of step write last_exit after_calm is_ran all_keep
part_unconfined confined = let c = several storing_opening one_pointer_graph 8 confined refl in differ refl (c.1.writes 0x600407f2 (lit≤ tt) (inr (inr (lit≤ tt))))

-- where callees save sites, the sixth step is the opening's call, and leaves the closing as the newest site
the_lean : LaidOut lean_version_1
the_lean = laid_out lean_version_1 (inr (inl refl))

module _ (image : Contents) (graph : GraphParts) where
  abbrev LeanCall : List ℕ → Type 0
  LeanCall pending =
      let before = after_steps lean_version_1 image 5 in
      Moves lean_version_1 graph (fetched before.shared.memory) (Some (Jal 1 6)) 0x40000020 [] 0x4000002c pending

  lean_pending : (pending : List ℕ) → LeanCall pending → pending ≡ 0x40000024 ∷ []
  lean_pending pending (inl (zero_is, to, same)) = absurd (differ refl zero_is)
  lean_pending pending (inr (one_is, line, new)) = new

-- before the call no call is pending, so that no slot may be written
early_unconfined : IsConfined lean_version_1 saved_early lean_opening_graph → ⊥
unfolding loaded placed decoded code_of step write last_exit after_calm is_ran all_keep
early_unconfined confined =
    let c = lone_of lean_version_1 the_lean 5 saved_early lean_opening_graph 4 1 confined refl in differ refl (c.1.writes 0x60000008 (lit≤ tt))

saved_unconfined : IsConfined lean_version_1 saved_pointer (lean_graph 0x30) → ⊥
unfolding loaded placed decoded code_of step write last_exit after_calm is_ran all_keep
saved_unconfined confined =
    let c = called_of lean_version_1 the_lean 5 saved_pointer (lean_graph 0x30) 0 1 confined refl refl refl in
    let pending = lean_pending saved_pointer (lean_graph 0x30) c.0 c.1 in
    let e = entered lean_version_1 the_lean 5 saved_pointer (lean_graph 0x30) in
    let writes = subst (λ (l : List ℕ). Writes true (part_of 0) l e.shared.memory (step lean_version_1 e.hart e.shared).shared.memory) pending c.2.1.writes in
    elim writes.1 [
      | inl before ↦ differ refl before
      | inr newest ↦ differ refl newest
    ]

-- the site's lowest byte is in slot 1
high_unconfined : IsConfined lean_version_1 saved_high (lean_graph 0x30) → ⊥
unfolding loaded placed decoded code_of step write last_exit after_calm is_ran all_keep
high_unconfined confined =
    let c = called_of lean_version_1 the_lean 5 saved_high (lean_graph 0x30) 0 1 confined refl refl refl in
    let pending = lean_pending saved_high (lean_graph 0x30) c.0 c.1 in
    let e = entered lean_version_1 the_lean 5 saved_high (lean_graph 0x30) in
    let writes = subst (λ (l : List ℕ). Writes true (part_of 0) l e.shared.memory (step lean_version_1 e.hart e.shared).shared.memory) pending c.2.1.writes in
    differ refl (writes.0 0x60000010 (lit≤ tt) (inr (inl (lit≤ tt))))

no_site_line : (kind : SiteKind) (a b c label : ℕ) → Contains (Call a b ∷ []) (Site c kind label) → ⊥
no_site_line kind a b c label (zero, below, is) = absurd (cc)
no_site_line kind a b c label (suc k, below, is) = absurd (omega arith)

link_unconfined : IsConfined lean_version_1 moved_link (lean_graph 0x34) → ⊥
unfolding loaded placed decoded code_of step write last_exit after_calm is_ran all_keep
link_unconfined confined =
    let c = called_of lean_version_1 the_lean 5 moved_link (lean_graph 0x34) 1 1 confined refl refl refl in
    let pending = lean_pending moved_link (lean_graph 0x34) c.0 c.1 in
    elim (c.2.1.leads refl).1 [
      | inl (zero_is, inl (none, pops)) ↦
          let first : slice_get (0x40000024 ∷ []) 0 ≡ slice_get (0x40000028 ∷ c.2.0) 0 = ap (λ (l : List ℕ). slice_get l 0) (sym pending ∙ pops) in
          differ refl (same_Some 0x40000024 0x40000028 first)
      | inl (zero_is, inr (site, same)) ↦ no_site_line K.Jump _ _ _ site.label site.listed
      | inr other ↦ differ refl other.0
    ]

-- the lines of the short call have one class, with one target
short_target : (label : ℕ) (targets : List ℕ) → Contains short_call_graph.lines (Class sorts.Both label targets) → (0x40000038 ∷ []) ≡ targets
short_target label targets (zero, below, is) = cc
short_target label targets (suc zero, below, is) = absurd (cc)
short_target label targets (suc (suc zero), below, is) = absurd (cc)
short_target label targets (suc (suc (suc k)), below, is) = absurd (omega arith)

no_calls : (label : ℕ) (targets : List ℕ) → Contains short_call_graph.lines (Class sorts.Calls label targets) → ⊥
no_calls label targets (zero, below, is) = absurd (cc)
no_calls label targets (suc zero, below, is) = absurd (cc)
no_calls label targets (suc (suc zero), below, is) = absurd (cc)
no_calls label targets (suc (suc (suc k)), below, is) = absurd (omega arith)

no_gate : (gate : ℕ) → Contains {X = ℕ} (0x40000038 ∷ []) gate → 0x40000038 ≡ gate + 8 → ⊥
no_gate gate (zero, below, is) behind = let here : 0x40000038 ≡ gate = is in omega arith
no_gate gate (suc k, below, is) behind = absurd (omega arith)

gate_unconfined : IsConfined lean_version_1 short_call short_call_graph → ⊥
unfolding loaded placed decoded code_of step write last_exit after_calm is_ran all_keep
gate_unconfined confined =
    let c = called_of lean_version_1 the_lean 5 short_call short_call_graph 1 1 confined refl refl refl in
    elim (c.2.1.leads refl).1 [
      | inl (zero_is, to) ↦ differ refl zero_is
      | inr (one_is, site, new) ↦ elim site.class [
        | inl class ↦
            no_gate site.gate (subst (λ (ts : List ℕ). Contains ts site.gate) (sym (short_target site.label site.targets class)) site.target) site.behind
        | inr class ↦ no_calls site.label site.targets class
      ]
    ]

pub faults_unconfined : FaultsAreUnconfined
faults_unconfined = record {
  jump = jump_unconfined;
  borrowed = borrowed_unconfined;
  branch = branch_unconfined;
  entry = entry_unconfined;
  target = target_unconfined;
  return = return_unconfined;
  stops = record {
    run = run_unconfined;
    load_fault = load_fault_unconfined;
    store_fault = store_fault_unconfined;
    illegal = illegal_unconfined;
    break = break_unconfined;
  };
  call = call_unconfined;
  slot = slot_unconfined;
  part = part_unconfined;
  lean = record {
    early = early_unconfined;
    saved = saved_unconfined;
    slot = high_unconfined;
    link = link_unconfined;
    gate = gate_unconfined;
  };
}
