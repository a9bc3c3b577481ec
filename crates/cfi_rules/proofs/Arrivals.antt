-- What safety says of each arrival of an undisturbed run, and small pairs that have one of which it is
-- false: they are not safe.
use Rattle.std.proofs.Common.{◌≡◌, ℕ, zero, suc, ◌&&◌, not, Bool, true, false, inl, inr, List, [], ◌∷◌, ◌++◌, length, refl, sym, ap, subst, ◌∙◌, Option, Some, None, arith, lit≤, lit<}
use Rattle.std.specs.Prelude.{◌==◌, is_some, slice_get}
use Rattle.std.proofs.lemmas.Bool.{and_parts, false≢true}
use Rattle.std.proofs.lemmas.Option.{same_Some}
use Rattle.rv_image.specs.Image.{Contents, loaded}
use Rattle.rv_image.specs.MemoryMap.{Profile, SHADOW_START, part_of, version_1, version_2}
use Rattle.rv_image.proofs.Profiles.{laid_out}
use Rattle.rv_word.specs.Memory.{placed, write}
use Rattle.rv_instr.specs.Registers.{Registers}
use Rattle.rv_code.specs.Decode.{decoded}
use Rattle.rv_code.specs.Encode.{code_of}
use Rattle.rv_code.specs.Run.{ByteChange}
use Rattle.rv_code.specs.State.{Hart, Shared, After, start_hart, start_shared, last_exit}
use Rattle.rv_code.specs.Step.{step, stops}
use Rattle.rv_code.specs.declared.event.Event.{Event}
use Rattle.rv_code.specs.declared.turn.Turn.{Turn}
use Rattle.rv_code.specs.declared.turn.Turn.TheVariants.{Ran, Exit, Break, LoadFault, StoreFault, FetchFault, Illegal}
use Rattle.rv_code.proofs.Runs.{calm}
use Rattle.cfi_graph.specs.Graph.{GraphParts}
use Rattle.cfi_unit.specs.declared.unit.Unit.TheVariants as V
use Rattle.cfi_unit.specs.Context.{SameOutside}
use Rattle.cfi_unit.specs.EventLaw.{Adds, adds_none, adds_one}
use Rattle.cfi_unit.specs.declared.target_word.TargetWord.TheVariants as T
use Rattle.cfi_unit.specs.declared.place.Place.{Place}
use Rattle.cfi_unit.specs.declared.place.Place.TheVariants.{Handler as handler, Opening as opening, Closing as closing, Body as body}
use Rattle.cfi_unit.specs.Prologue.{OPENING}
use Rattle.cfi_unit.specs.Recognise.{read_each, recognised}
use Rattle.cfi_unit.specs.Shadow.{slot, Holds}
use Rattle.cfi_unit.specs.UnitWords.{BAD_TARGET, words_of}
use Rattle.cfi_pending.specs.PendingLeads.{GoesBack}
use Rattle.cfi_rules.specs.Along.{Walk, Arrives, PlaceLeads, ShadowStands, IsSafe, start_in}
use Rattle.cfi_rules.specs.Lines.{class_with, leaves_in, targets_for}
use Rattle.cfi_rules.specs.Split.{code_words, starts, is_start, unit_at, place_at}
use Rattle.cfi_rules.specs.Unsafe.{bare_return, bare_return_graph, BareReturnIsUnsafe, astray_call, astray_call_graph, halted_jump, halted_jump_graph, WrongTransfersAreUnsafe, high_pointer, lost_site, opening_graph, WrongShadowsAreUnsafe, one_pointer, one_pointer_graph, SharedPartsAreUnsafe, calling_opening, storing_opening, WrongDeedsAreUnsafe}
use Rattle.cfi_rules.specs.Walk.{by_class}
use Rattle.cfi_rules.proofs.OneHart.{AloneAlong, one_may_run, safe_along_alone}
use Rattle.cfi_rules.proofs.Taken.{AreDataChanges}
use Rattle.cfi_rules.proofs.Unsafe.{calm_is_data}

unfoldable pub is_ran : Turn → Bool
is_ran Ran = true
is_ran other = false

pub ran_of : (turn : Turn) → is_ran turn ≡ true → turn ≡ Ran
unfolding is_ran
ran_of Ran e = refl
ran_of (Exit status) e = absurd (cc)
ran_of (Break pc) e = absurd (cc)
ran_of (LoadFault pc a) e = absurd (cc)
ran_of (StoreFault pc a) e = absurd (cc)
ran_of (FetchFault pc) e = absurd (cc)
ran_of (Illegal pc) e = absurd (cc)

none_of : (place : Option Place) → not (is_some place) ≡ true → place ≡ None
none_of None e = refl
none_of (Some place) e = absurd (cc)

-- the state after some undisturbed steps
unfoldable pub after_calm : Profile → ℕ → Hart → Shared → After
after_calm p zero h s = stops h s Ran
after_calm p (suc k) h s = after_calm p k (step p h s).hart (step p h s).shared

pub calm_and : (k : ℕ) (rest : List (List ByteChange)) → AreDataChanges rest → AreDataChanges (calm k ++ rest)
calm_and zero rest low = low
calm_and (suc k) rest low = (tt, calm_and k rest low)

module _ (p : Profile) (hart : ℕ) (image : Contents) (graph : GraphParts) where
  abbrev pub Along : Option Walk → Hart → Shared → List (List ByteChange) → Type 0
  Along before h s changes = AloneAlong p hart image (code_words image.code) graph.lines before h s changes

  -- some undisturbed steps run, and nothing starts where they begin
  unfoldable pub quiet : ℕ → Hart → Shared → Bool
  quiet zero h s = true
  quiet (suc k) h s =
      not (is_some (place_at p (code_words image.code) h.pc))
      && (is_ran (step p h s).turn && quiet k (step p h s).hart (step p h s).shared)

  -- the walk stays meanwhile
  stays : (k : ℕ) (w : Walk) (h : Hart) (s : Shared) (rest : List (List ByteChange)) → quiet k h s ≡ true → Along (Some w) h s (calm k ++ rest) →
      Along (Some w) (after_calm p k h s).hart (after_calm p k h s).shared rest
  unfolding quiet after_calm
  stays zero w h s rest still r = r
  stays (suc k) w h s rest still r =
      let after = step p h s in
      let one = and_parts _ _ still in
      let more = and_parts _ _ one.1 in
      let nothing : place_at p (code_words image.code) h.pc ≡ None = none_of _ one.0 in
      let same : Some w ≡ Some r.0 = rw nothing at r.1 in
      let back : r.0 ≡ w = sym (same_Some w r.0 same) in
      let on : Along (Some r.0) after.hart after.shared (calm k ++ rest) = r.3 (ran_of after.turn more.0) in
      stays k w after.hart after.shared rest more.1 (subst (λ v. Along (Some v) after.hart after.shared (calm k ++ rest)) back on)

  -- what holds where the walk arrives
  pub record Arrival (before : Option Walk) (place : Place) (h : Hart) (s : Shared) (rest : List (List ByteChange)) : Type 0 where
    pub w : Walk
    pub at : w.at ≡ h.pc
    pub regs : w.regs ≡ h.regs
    pub arrives : Arrives p (place_at p (code_words image.code)) graph.lines before h.pc w.pending
    pub shadow : ShadowStands p (part_of hart) (start_in (place_at p (code_words image.code)) graph.lines h.pc) place h s.memory w.pending
    pub on : (step p h s).turn ≡ Ran → Along (Some w) (step p h s).hart (step p h s).shared rest

  pub arrival : (before : Option Walk) (place : Place) (h : Hart) (s : Shared) (rest : List (List ByteChange)) → place_at p (code_words image.code) h.pc ≡ Some place →
      Along before h s ([] ∷ rest) → Arrival before place h s rest
  arrival before place h s rest is r =
      let goes = rw is at r.1 in
      record { w = r.0; at = goes.0; regs = goes.1; arrives = goes.2; shadow = goes.3; on = r.3 }

  -- from something that starts a run comes to the next thing, after `k` more steps
  pub record Leads (k : ℕ) (h : Hart) (s : Shared) (next : Place) : Type 0 where
    pub runs : (step p h s).turn ≡ Ran
    pub still : quiet k (step p h s).hart (step p h s).shared ≡ true
    pub there : place_at p (code_words image.code) (after_calm p (suc k) h s).hart.pc ≡ Some next

  pub next_arrival : (before : Option Walk) (place next : Place) (k : ℕ) (h : Hart) (s : Shared) (rest : List (List ByteChange)) →
      (a : Arrival before place h s (calm k ++ ([] ∷ rest))) → Leads k h s next →
      Arrival (Some a.w) next (after_calm p (suc k) h s).hart (after_calm p (suc k) h s).shared rest
  unfolding after_calm
  next_arrival before place next k h s rest a leads =
      let after = step p h s in
      let on : Along (Some a.w) after.hart after.shared (calm k ++ ([] ∷ rest)) = a.on leads.runs in
      arrival (Some a.w) next (after_calm p k after.hart after.shared).hart (after_calm p k after.hart after.shared).shared rest leads.there
      (stays k a.w after.hart after.shared ([] ∷ rest) leads.still on)

  -- what an instruction does that stands behind the first word of something
  record Does (place : Place) (h : Hart) (s : Shared) : Type 0 where
    at : ℕ
    writes : SameOutside (part_of hart) s.memory (step p h s).shared.memory
    adds : Adds place at h s.events (step p h s).shared.events

  does : (before : Option Walk) (place : Place) (k : ℕ) (h : Hart) (s : Shared) → place_at p (code_words image.code) h.pc ≡ Some place → (step p h s).turn ≡ Ran →
      quiet k (step p h s).hart (step p h s).shared ≡ true → place_at p (code_words image.code) (after_calm p (suc k) h s).hart.pc ≡ None →
      Along before h s ([] ∷ (calm k ++ ([] ∷ []))) → Does place (after_calm p (suc k) h s).hart (after_calm p (suc k) h s).shared
  unfolding after_calm
  does before place k h s is runs still nothing r =
      let after = step p h s in
      let a = arrival before place h s (calm k ++ ([] ∷ [])) is r in
      let on : Along (Some a.w) after.hart after.shared (calm k ++ ([] ∷ [])) = a.on runs in
      let there = stays k a.w after.hart after.shared ([] ∷ []) still on in
      let same : Some a.w ≡ Some there.0 = rw nothing at there.1 in
      let at : there.0.at ≡ h.pc = ap (λ (w : Walk). w.at) (sym (same_Some a.w there.0 same)) ∙ a.at in
      let begun = there.2 in
      let here : begun.0 ≡ place = same_Some begun.0 place (sym begun.1 ∙ ap (place_at p (code_words image.code)) at ∙ is) in
      let now = after_calm p k after.hart after.shared in
      record {
        at = there.0.at;
        writes = begun.6;
        adds = subst (λ (q : Place). Adds q there.0.at now.hart now.shared.events (step p now.hart now.shared).shared.events) here begun.7;
      }

  -- where the walk that arrived was led from
  pub went : (w : Walk) (from next : Place) (h : Hart) (s : Shared) (rest : List (List ByteChange)) → place_at p (code_words image.code) w.at ≡ Some from →
      (a : Arrival (Some w) next h s rest) → PlaceLeads p (by_class graph.lines) from w.at w.pending w.regs a.w.pending h.pc
  went w from next h s rest is a =
      let (place, there, leads) = a.arrives in
      let same : place ≡ from = cc in
      subst (λ (q : Place). PlaceLeads p (by_class graph.lines) q w.at w.pending w.regs a.w.pending h.pc) same leads

-- the first thing that the opening of a lone hart calls: its site alone is pending
module _ (image : Contents) (graph : GraphParts) where
  abbrev start : Shared
  start = start_shared image []

  record First (unit : Place) (h : Hart) (s : Shared) (rest : List (List ByteChange)) : Type 0 where
    opened : Walk
    arrived : Arrival version_1 0 image graph (Some opened) unit h s rest
    pending : arrived.w.pending ≡ version_1.closing ∷ []

  first : (entry : ℕ) (unit : Place) (rest : List (List ByteChange)) → place_at version_1 (code_words image.code) OPENING ≡ Some (opening entry) →
      Leads version_1 0 image graph 9 (start_hart 0) start unit → AreDataChanges rest → IsSafe version_1 image graph →
      First unit (after_calm version_1 10 (start_hart 0) start).hart (after_calm version_1 10 (start_hart 0) start).shared rest
  first entry unit rest opens leads low safe =
      let run = safe_along_alone version_1 image graph [] 1 0 ([] ∷ (calm 9 ++ ([] ∷ rest))) safe (one_may_run version_1 (laid_out version_1 (inl (inl refl)))) (lit< tt) (tt, calm_and 9 ([] ∷ rest) (tt, low)) in
      let a = arrival version_1 0 image graph None (opening entry) (start_hart 0) start (calm 9 ++ ([] ∷ rest)) opens run in
      let b = next_arrival version_1 0 image graph None (opening entry) unit 9 (start_hart 0) start rest a leads in
      let at : place_at version_1 (code_words image.code) a.w.at ≡ Some (opening entry) = ap (place_at version_1 (code_words image.code)) a.at ∙ opens in
      let none : a.w.pending ≡ [] = a.arrives.1 in
      record {
        opened = a.w;
        arrived = b;
        pending = elim (went version_1 0 image graph a.w (opening entry) unit _ _ rest at b) [
          | inl called ↦ called.1 ∙ ap (λ ps. version_1.closing ∷ ps) none
          | inr full ↦ let deep = full.0 in let few = ap length none in absurd (omega arith)
        ];
      }

pointer_unsafe : IsSafe version_1 high_pointer opening_graph → ⊥
unfolding loaded placed decoded code_of step write last_exit code_words read_each recognised words_of starts is_start unit_at place_at after_calm quiet is_ran leaves_in
pointer_unsafe safe =
    let f = first high_pointer opening_graph 0x40000040 (body V.Stop) [] refl (record { runs = refl; still = refl; there = refl }) tt safe in
    let stack = f.arrived.shadow.0 in
    let x3 : 0x60000018 ≡ slot SHADOW_START (length stack.stacked) = stack.pointer in
    let one = ap length (stack.stands ∙ f.pending) in
    omega arith

slot_unsafe : IsSafe version_1 lost_site opening_graph → ⊥
unfolding loaded placed decoded code_of step write last_exit code_words read_each recognised words_of starts is_start unit_at place_at after_calm quiet is_ran leaves_in
slot_unsafe safe =
    let f = first lost_site opening_graph 0x40000040 (body V.Stop) [] refl (record { runs = refl; still = refl; there = refl }) tt safe in
    let held : Holds SHADOW_START (after_calm version_1 10 (start_hart 0) (start_shared lost_site [])).shared.memory (version_1.closing ∷ []) =
    subst (λ ps. Holds SHADOW_START (after_calm version_1 10 (start_hart 0) (start_shared lost_site [])).shared.memory ps) (f.arrived.shadow.0.stands ∙ f.pending)
    f.arrived.shadow.0.holds in
    let site : 0 ≡ version_1.closing = held.0 in
    omega arith

pub wrong_shadows_unsafe : WrongShadowsAreUnsafe
wrong_shadows_unsafe = record { pointer = pointer_unsafe; slot = slot_unsafe }

-- a bare return goes to the site of the opening, which the shadow stack still holds there
pub bare_return_unsafe : BareReturnIsUnsafe
unfolding loaded placed decoded code_of step write last_exit code_words read_each recognised words_of starts is_start unit_at place_at after_calm quiet is_ran
bare_return_unsafe safe =
    let unit : Place = body V.LeafReturn in
    let f = first bare_return bare_return_graph 0x40000040 unit ([] ∷ []) refl (record { runs = refl; still = refl; there = refl }) (tt, tt) safe in
    let a = next_arrival version_1 0 bare_return bare_return_graph (Some f.opened) unit closing 0 _ _ [] f.arrived (record { runs = refl; still = refl; there = refl }) in
    let at : place_at version_1 (code_words bare_return.code) f.arrived.w.at ≡ Some unit = ap (place_at version_1 (code_words bare_return.code)) f.arrived.at in
    let back : GoesBack f.arrived.w.pending a.w.pending version_1.closing =
    went version_1 0 bare_return bare_return_graph f.arrived.w unit closing _ _ [] at a in
    let none : GoesBack (version_1.closing ∷ []) a.w.pending version_1.closing =
    subst (λ (ps : List ℕ). GoesBack ps a.w.pending version_1.closing) f.pending back in
    let stack = a.shadow.0 in
    let x3 : 0x60000010 ≡ slot SHADOW_START (length stack.stacked) = stack.pointer in
    let empty = ap length (stack.stands ∙ none.0) in
    omega arith

astray_unsafe : IsSafe version_1 astray_call astray_call_graph → ⊥
unfolding loaded placed decoded code_of step write last_exit code_words read_each recognised words_of starts is_start unit_at place_at after_calm quiet is_ran class_with targets_for
astray_unsafe safe =
    let call : Place = body (V.Icall 1 88 1) in
    let f = first astray_call astray_call_graph 0x40000040 call (calm 16 ++ ([] ∷ [])) refl (record { runs = refl; still = refl; there = refl }) (calm_is_data 17) safe in
    let a = next_arrival version_1 0 astray_call astray_call_graph (Some f.opened) call (body (V.Gate 1)) 16 _ _ [] f.arrived (record { runs = refl; still = refl; there = refl }) in
    let at : place_at version_1 (code_words astray_call.code) f.arrived.w.at ≡ Some call = ap (place_at version_1 (code_words astray_call.code)) f.arrived.at in
    let there : PlaceLeads version_1 (by_class astray_call_graph.lines) call f.arrived.w.at f.arrived.w.pending (after_calm version_1 10 (start_hart 0) (start_shared astray_call [])).hart.regs a.w.pending 0x40000090 =
    subst (λ (r : Registers). PlaceLeads version_1 (by_class astray_call_graph.lines) call f.arrived.w.at f.arrived.w.pending r a.w.pending 0x40000090) f.arrived.regs
    (went version_1 0 astray_call astray_call_graph f.arrived.w call (body (V.Gate 1)) _ _ [] at a) in
    elim there [
      | inl called ↦ false≢true called.0
      | inr halted ↦ let v : 0x40000090 ≡ BAD_TARGET = halted.1.1 in absurd (omega arith)
    ]

halted_unsafe : IsSafe version_1 halted_jump halted_jump_graph → ⊥
unfolding loaded placed decoded code_of step write last_exit code_words read_each recognised words_of starts is_start unit_at place_at after_calm quiet is_ran class_with targets_for
halted_unsafe safe =
    let jump : Place = body (V.Ijump T.First 1 60 1) in
    let f = first halted_jump halted_jump_graph 0x40000040 jump (calm 10 ++ ([] ∷ [])) refl (record { runs = refl; still = refl; there = refl }) (calm_is_data 11) safe in
    let a = next_arrival version_1 0 halted_jump halted_jump_graph (Some f.opened) jump handler 10 _ _ [] f.arrived (record { runs = refl; still = refl; there = refl }) in
    let at : place_at version_1 (code_words halted_jump.code) f.arrived.w.at ≡ Some jump = ap (place_at version_1 (code_words halted_jump.code)) f.arrived.at in
    let there : PlaceLeads version_1 (by_class halted_jump_graph.lines) jump f.arrived.w.at f.arrived.w.pending (after_calm version_1 10 (start_hart 0) (start_shared halted_jump [])).hart.regs a.w.pending BAD_TARGET =
    subst (λ (r : Registers). PlaceLeads version_1 (by_class halted_jump_graph.lines) jump f.arrived.w.at f.arrived.w.pending r a.w.pending BAD_TARGET) f.arrived.regs
    (went version_1 0 halted_jump halted_jump_graph f.arrived.w jump handler _ _ [] at a) in
    elim there [
      | inl went ↦ let v : BAD_TARGET ≡ 0x40000074 = went.1.1 in absurd (omega arith)
      | inr outside ↦ outside.0 refl
    ]

pub wrong_transfers_unsafe : WrongTransfersAreUnsafe
wrong_transfers_unsafe = record { astray = astray_unsafe; halted = halted_unsafe }

-- the opening makes no system call
none_added : (entry at : ℕ) (h : Hart) (events after : List Event) → Adds (opening entry) at h events after → after ≡ events
none_added entry at h events after (adds_none same) = same
none_added entry at h events after (adds_one e more number may) = absurd may

-- what hart 0 does after some words of an opening for several harts
does_there : (image : Contents) (k : ℕ) → place_at version_2 (code_words image.code) OPENING ≡ Some (opening version_2.units_from) →
    (step version_2 (start_hart 0) (start_shared image [])).turn ≡ Ran →
    quiet version_2 0 image one_pointer_graph k (step version_2 (start_hart 0) (start_shared image [])).hart (step version_2 (start_hart 0) (start_shared image [])).shared ≡ true →
    place_at version_2 (code_words image.code) (after_calm version_2 (suc k) (start_hart 0) (start_shared image [])).hart.pc ≡ None → IsSafe version_2 image one_pointer_graph →
    Does version_2 0 image one_pointer_graph (opening version_2.units_from) (after_calm version_2 (suc k) (start_hart 0) (start_shared image [])).hart
    (after_calm version_2 (suc k) (start_hart 0) (start_shared image [])).shared
does_there image k is runs still nothing safe =
    does version_2 0 image one_pointer_graph None (opening version_2.units_from) k (start_hart 0) (start_shared image []) is runs still nothing
    (safe_along_alone version_2 image one_pointer_graph [] 1 0 ([] ∷ (calm k ++ ([] ∷ []))) safe (one_may_run version_2 (laid_out version_2 (inl (inr refl)))) (lit< tt)
    (tt, calm_and k ([] ∷ []) (tt, tt)))

write_unsafe : IsSafe version_2 storing_opening one_pointer_graph → ⊥
unfolding loaded placed decoded code_of step write last_exit code_words read_each recognised words_of starts is_start unit_at place_at after_calm quiet is_ran
write_unsafe safe =
    let d = does_there storing_opening 7 refl refl refl refl safe in
    let four : 4 ≡ 0 = d.writes 0x600407f2 (lit≤ tt) (inr (lit≤ tt)) in
    false≢true (ap (λ (n : ℕ). n == 0) four)

call_unsafe : IsSafe version_2 calling_opening one_pointer_graph → ⊥
unfolding loaded placed decoded code_of step write last_exit code_words read_each recognised words_of starts is_start unit_at place_at after_calm quiet is_ran
call_unsafe safe =
    let d = does_there calling_opening 4 refl refl refl refl safe in
    let now = after_calm version_2 5 (start_hart 0) (start_shared calling_opening []) in
    let same = none_added version_2.units_from d.at now.hart now.shared.events (step version_2 now.hart now.shared).shared.events d.adds in
    false≢true (ap (λ (l : List Event). is_some (slice_get l 0)) (sym same))

pub wrong_deeds_unsafe : WrongDeedsAreUnsafe
wrong_deeds_unsafe = record { write = write_unsafe; call = call_unsafe }

-- hart 1 comes to the first unit with the shadow pointer of hart 0
one_pointer_unsafe : IsSafe version_2 one_pointer one_pointer_graph → ⊥
unfolding loaded placed decoded code_of step write last_exit code_words read_each recognised words_of starts is_start unit_at place_at after_calm quiet is_ran leaves_in
one_pointer_unsafe safe =
    let start = start_shared one_pointer [] in
    let low : AreDataChanges ([] ∷ (calm 13 ++ ([] ∷ []))) = (tt, calm_and 13 ([] ∷ []) (tt, tt)) in
    let run = safe_along_alone version_2 one_pointer one_pointer_graph [] 2 1 ([] ∷ (calm 13 ++ ([] ∷ []))) safe (record { some = lit≤ tt; most = lit≤ tt }) (lit< tt) low in
    let a = arrival version_2 1 one_pointer one_pointer_graph None (opening version_2.units_from) (start_hart 1) start (calm 13 ++ ([] ∷ [])) refl run in
    let b = next_arrival version_2 1 one_pointer one_pointer_graph None (opening version_2.units_from) (body V.Stop) 13 (start_hart 1) start [] a
    (record { runs = refl; still = refl; there = refl }) in
    let x3 : 0x60000010 ≡ slot (part_of 1) (length b.shadow.0.stacked) = b.shadow.0.pointer in
    omega arith

pub shared_parts_unsafe : SharedPartsAreUnsafe
shared_parts_unsafe = one_pointer_unsafe
