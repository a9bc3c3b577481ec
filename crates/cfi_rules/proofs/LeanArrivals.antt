-- Small lean pairs with an arrival of which what safety says is false: they are not safe.
use Rattle.std.proofs.Common.{◌≡◌, ℕ, inl, inr, List, [], ◌∷◌, ◌++◌, length, refl, ap, subst, ◌∙◌, Some, None, arith, lit<}
use Rattle.rv_image.specs.Image.{Contents, loaded}
use Rattle.rv_image.specs.MemoryMap.{SHADOW_START, lean_version_1}
use Rattle.rv_image.proofs.Profiles.{laid_out}
use Rattle.rv_word.specs.Memory.{placed, write}
use Rattle.rv_instr.specs.declared.instr.Instr.{Instr}
use Rattle.rv_instr.specs.declared.instr.Instr.TheVariants.{Immediate}
use Rattle.rv_instr.specs.declared.instr.ImmediateOp.TheVariants.{Addi}
use Rattle.rv_code.specs.Decode.{decoded}
use Rattle.rv_code.specs.Encode.{code_of}
use Rattle.rv_code.specs.Run.{ByteChange}
use Rattle.rv_code.specs.State.{Hart, Shared, start_hart, start_shared, last_exit}
use Rattle.rv_code.specs.Step.{step}
use Rattle.rv_code.proofs.Runs.{calm}
use Rattle.cfi_graph.specs.Graph.{GraphParts}
use Rattle.cfi_unit.specs.declared.unit.Unit.TheVariants as V
use Rattle.cfi_unit.specs.declared.place.Place.{Place}
use Rattle.cfi_unit.specs.declared.place.Place.TheVariants.{Handler as handler, Opening as opening, Body as body}
use Rattle.cfi_unit.specs.Leads.{Calls, Goes}
use Rattle.cfi_unit.specs.Prologue.{OPENING}
use Rattle.cfi_unit.specs.Recognise.{read_each, recognised}
use Rattle.cfi_unit.specs.Shadow.{slot, Holds}
use Rattle.cfi_unit.specs.UnitWords.{BAD_RETURN, STORE_MASK, after_unit, words_of}
use Rattle.cfi_pending.specs.PendingLeads.{GoesBack, Links, Saves}
use Rattle.cfi_pending.specs.Starts.{StandsBy, fresh}
use Rattle.cfi_rules.specs.Along.{Walk, IsSafe}
use Rattle.cfi_rules.specs.Lines.{leaves_in}
use Rattle.cfi_rules.specs.Split.{code_words, starts, is_start, unit_at, place_at}
use Rattle.cfi_rules.specs.Unsafe.{unmade_mask, lost_link, lean_opening_graph, unsaved_site, unsaved_site_graph, saving_leaf, saving_leaf_graph, calling_leaf, calling_leaf_graph, changed_link, changed_link_graph, WrongLeanPairsAreUnsafe}
use Rattle.cfi_rules.proofs.Arrivals.{Arrival, Leads, after_calm, arrival, calm_and, is_ran, next_arrival, quiet, went}
use Rattle.cfi_rules.proofs.OneHart.{one_may_run, safe_along_alone}
use Rattle.cfi_rules.proofs.Taken.{AreDataChanges}
use Rattle.cfi_rules.proofs.Unsafe.{calm_is_data}

-- the first thing that the opening of a lone hart calls: its site alone is pending
module _ (image : Contents) (graph : GraphParts) where
  abbrev start : Shared
  start = start_shared image []

  record First (unit : Place) (h : Hart) (s : Shared) (rest : List (List ByteChange)) : Type 0 where
    opened : Walk
    arrived : Arrival lean_version_1 0 image graph (Some opened) unit h s rest
    pending : arrived.w.pending ≡ lean_version_1.closing ∷ []

  first : (entry : ℕ) (unit : Place) (rest : List (List ByteChange)) → place_at lean_version_1 (code_words image.code) OPENING ≡ Some (opening entry) →
      Leads lean_version_1 0 image graph 5 (start_hart 0) start unit → AreDataChanges rest → IsSafe lean_version_1 image graph →
      First unit (after_calm lean_version_1 6 (start_hart 0) start).hart (after_calm lean_version_1 6 (start_hart 0) start).shared rest
  first entry unit rest opens leads low safe =
      let run = safe_along_alone lean_version_1 image graph [] 1 0 ([] ∷ (calm 5 ++ ([] ∷ rest))) safe (one_may_run lean_version_1 (laid_out lean_version_1 (inr (inl refl)))) (lit< tt) (tt, calm_and 5 ([] ∷ rest) (tt, low)) in
      let a = arrival lean_version_1 0 image graph None (opening entry) (start_hart 0) start (calm 5 ++ ([] ∷ rest)) opens run in
      let b = next_arrival lean_version_1 0 image graph None (opening entry) unit 5 (start_hart 0) start rest a leads in
      let at : place_at lean_version_1 (code_words image.code) a.w.at ≡ Some (opening entry) = ap (place_at lean_version_1 (code_words image.code)) a.at ∙ opens in
      let none : a.w.pending ≡ [] = a.arrives.1 in
      let called : Links lean_version_1.closing a.w.pending b.w.pending _ entry = went lean_version_1 0 image graph a.w (opening entry) unit _ _ rest at b in
      record { opened = a.w; arrived = b; pending = called.1 ∙ ap (λ ps. lean_version_1.closing ∷ ps) none }

  -- behind an enter the same site is pending
  behind_enter : (w : Walk) (next : Place) (h : Hart) (s : Shared) (rest : List (List ByteChange)) → place_at lean_version_1 (code_words image.code) w.at ≡ Some (body V.Enter) →
      w.pending ≡ lean_version_1.closing ∷ [] → (a : Arrival lean_version_1 0 image graph (Some w) next h s rest) → a.w.pending ≡ lean_version_1.closing ∷ []
  behind_enter w next h s rest is pending a =
      let saves : Saves (after_unit V.Enter w.at) w.pending a.w.pending h.pc = went lean_version_1 0 image graph w (body V.Enter) next h s rest is a in
      elim saves [
        | inl kept ↦ kept.1.0 ∙ pending
        | inr full ↦ let deep = full.0 in let few = ap length pending in absurd (omega arith)
      ]

  -- and behind a plain instruction
  behind_plain : (instr : Instr) (w : Walk) (next : Place) (h : Hart) (s : Shared) (rest : List (List ByteChange)) →
      place_at lean_version_1 (code_words image.code) w.at ≡ Some (body (V.Plain instr)) →
      w.pending ≡ lean_version_1.closing ∷ [] → (a : Arrival lean_version_1 0 image graph (Some w) next h s rest) → a.w.pending ≡ lean_version_1.closing ∷ []
  behind_plain instr w next h s rest is pending a =
      let on : Goes w.pending a.w.pending h.pc (after_unit (V.Plain instr) w.at) =
      went lean_version_1 0 image graph w (body (V.Plain instr)) next h s rest is a in
      on.0 ∙ pending

  -- and behind a call that saves its own site that one too
  behind_call : (target : ℕ) (w : Walk) (next : Place) (h : Hart) (s : Shared) (rest : List (List ByteChange)) →
      place_at lean_version_1 (code_words image.code) w.at ≡ Some (body (V.Call target)) →
      w.pending ≡ lean_version_1.closing ∷ [] → (a : Arrival lean_version_1 0 image graph (Some w) next h s rest) →
      (site : ℕ) × (a.w.pending ≡ site ∷ (lean_version_1.closing ∷ []))
  behind_call target w next h s rest is pending a =
      let site = after_unit (V.Call target) w.at in
      let calls : Calls site w.pending a.w.pending h.pc target = went lean_version_1 0 image graph w (body (V.Call target)) next h s rest is a in
      elim calls [
        | inl called ↦ (site, called.1 ∙ ap (λ (ps : List ℕ). site ∷ ps) pending)
        | inr full ↦ let deep = full.0 in let few = ap length pending in absurd (omega arith)
      ]

mask_unsafe : IsSafe lean_version_1 unmade_mask lean_opening_graph → ⊥
unfolding loaded placed decoded code_of step write last_exit code_words read_each recognised words_of starts is_start unit_at place_at after_calm quiet is_ran leaves_in
mask_unsafe safe =
    let f = first unmade_mask lean_opening_graph 0x4000002c (body V.Stop) [] refl (record { runs = refl; still = refl; there = refl }) tt safe in
    let mask : 0x10000000 ≡ STORE_MASK = f.arrived.shadow.1 in
    omega arith

link_unsafe : IsSafe lean_version_1 lost_link lean_opening_graph → ⊥
unfolding loaded placed decoded code_of step write last_exit code_words read_each recognised words_of starts is_start unit_at place_at after_calm quiet is_ran leaves_in
link_unsafe safe =
    let f = first lost_link lean_opening_graph 0x4000002c (body V.Stop) [] refl (record { runs = refl; still = refl; there = refl }) tt safe in
    let r = (after_calm lean_version_1 6 (start_hart 0) (start_shared lost_link [])).hart.regs in
    let stack = f.arrived.shadow.0 in
    let stands : StandsBy fresh r f.arrived.w.pending stack.stacked = stack.stands in
    let there : StandsBy fresh r (lean_version_1.closing ∷ []) stack.stacked = subst (λ (ps : List ℕ). StandsBy fresh r ps stack.stacked) f.pending stands in
    let x1 : 0 ≡ lean_version_1.closing = there.0 in
    omega arith

unsaved_unsafe : IsSafe lean_version_1 unsaved_site unsaved_site_graph → ⊥
unfolding loaded placed decoded code_of step write last_exit code_words read_each recognised words_of starts is_start unit_at place_at after_calm quiet is_ran leaves_in
unsaved_unsafe safe =
    let f = first unsaved_site unsaved_site_graph 0x4000002c (body V.Stop) [] refl (record { runs = refl; still = refl; there = refl }) tt safe in
    let stack = f.arrived.shadow.0 in
    let stands : stack.stacked ≡ f.arrived.w.pending = stack.stands in
    let x3 : 0x60000008 ≡ slot SHADOW_START (length stack.stacked) = stack.pointer in
    let one = ap length (stands ∙ f.pending) in
    omega arith

pointer_unsafe : IsSafe lean_version_1 saving_leaf saving_leaf_graph → ⊥
unfolding loaded placed decoded code_of step write last_exit code_words read_each recognised words_of starts is_start unit_at place_at after_calm quiet is_ran leaves_in
pointer_unsafe safe =
    let enter : Place = body V.Enter in
    let f = first saving_leaf saving_leaf_graph 0x4000002c enter (calm 3 ++ ([] ∷ [])) refl (record { runs = refl; still = refl; there = refl }) (calm_is_data 4) safe in
    let a = next_arrival lean_version_1 0 saving_leaf saving_leaf_graph (Some f.opened) enter (body V.Stop) 3 _ _ [] f.arrived (record { runs = refl; still = refl; there = refl }) in
    let at : place_at lean_version_1 (code_words saving_leaf.code) f.arrived.w.at ≡ Some enter = ap (place_at lean_version_1 (code_words saving_leaf.code)) f.arrived.at in
    let pending = behind_enter saving_leaf saving_leaf_graph f.arrived.w (body V.Stop) _ _ [] at f.pending a in
    let r = (after_calm lean_version_1 10 (start_hart 0) (start_shared saving_leaf [])).hart.regs in
    let stack = a.shadow.0 in
    let stands : StandsBy fresh r a.w.pending stack.stacked = stack.stands in
    let there : StandsBy fresh r (lean_version_1.closing ∷ []) stack.stacked = subst (λ (ps : List ℕ). StandsBy fresh r ps stack.stacked) pending stands in
    let x3 : 0x60000010 ≡ slot SHADOW_START (length stack.stacked) = stack.pointer in
    let empty = ap length there.1 in
    omega arith

slot_unsafe : IsSafe lean_version_1 calling_leaf calling_leaf_graph → ⊥
unfolding loaded placed decoded code_of step write last_exit code_words read_each recognised words_of starts is_start unit_at place_at after_calm quiet is_ran leaves_in
slot_unsafe safe =
    let call : Place = body (V.Call 0x4000002c) in
    let f = first calling_leaf calling_leaf_graph 0x4000002c call (calm 6 ++ ([] ∷ [])) refl (record { runs = refl; still = refl; there = refl }) (calm_is_data 7) safe in
    let a = next_arrival lean_version_1 0 calling_leaf calling_leaf_graph (Some f.opened) call call 6 _ _ [] f.arrived (record { runs = refl; still = refl; there = refl }) in
    let at : place_at lean_version_1 (code_words calling_leaf.code) f.arrived.w.at ≡ Some call = ap (place_at lean_version_1 (code_words calling_leaf.code)) f.arrived.at in
    let called = behind_call calling_leaf calling_leaf_graph 0x4000002c f.arrived.w call _ _ [] at f.pending a in
    let after = after_calm lean_version_1 13 (start_hart 0) (start_shared calling_leaf []) in
    let stack = a.shadow.0 in
    let stands : StandsBy fresh after.hart.regs a.w.pending stack.stacked = stack.stands in
    let there : StandsBy fresh after.hart.regs (called.0 ∷ (lean_version_1.closing ∷ [])) stack.stacked =
    subst (λ (ps : List ℕ). StandsBy fresh after.hart.regs ps stack.stacked) called.1 stands in
    let held : Holds SHADOW_START after.shared.memory (lean_version_1.closing ∷ []) = subst (λ ps. Holds SHADOW_START after.shared.memory ps) there.1 stack.holds in
    let site : 0x4000004c ≡ lean_version_1.closing = held.0 in
    omega arith

leaf_unsafe : IsSafe lean_version_1 changed_link changed_link_graph → ⊥
unfolding loaded placed decoded code_of step write last_exit code_words read_each recognised words_of starts is_start unit_at place_at after_calm quiet is_ran leaves_in
leaf_unsafe safe =
    let enter : Place = body V.Enter in
    let changes : Instr = Immediate Addi 1 1 0xfe0 in
    let back : Place = body V.LeafReturn in
    let places = place_at lean_version_1 (code_words changed_link.code) in
    let f = first changed_link changed_link_graph 0x4000002c enter (calm 3 ++ ([] ∷ ([] ∷ ([] ∷ [])))) refl (record { runs = refl; still = refl; there = refl }) (calm_is_data 6) safe in
    let a = next_arrival lean_version_1 0 changed_link changed_link_graph (Some f.opened) enter (body (V.Plain changes)) 3 _ _ ([] ∷ ([] ∷ [])) f.arrived (record { runs = refl; still = refl; there = refl }) in
    let b = next_arrival lean_version_1 0 changed_link changed_link_graph (Some f.arrived.w) (body (V.Plain changes)) back 0 _ _ ([] ∷ []) a (record { runs = refl; still = refl; there = refl }) in
    let c = next_arrival lean_version_1 0 changed_link changed_link_graph (Some a.w) back handler 0 _ _ [] b (record { runs = refl; still = refl; there = refl }) in
    let at : places f.arrived.w.at ≡ Some enter = ap places f.arrived.at in
    let at_plain : places a.w.at ≡ Some (body (V.Plain changes)) = ap places a.at in
    let at_return : places b.w.at ≡ Some back = ap places b.at in
    let saved = behind_enter changed_link changed_link_graph f.arrived.w (body (V.Plain changes)) _ _ _ at f.pending a in
    let pending = behind_plain changed_link changed_link_graph changes a.w back _ _ _ at_plain saved b in
    let goes : GoesBack b.w.pending c.w.pending BAD_RETURN = went lean_version_1 0 changed_link changed_link_graph b.w back handler _ _ [] at_return c in
    let site : GoesBack (lean_version_1.closing ∷ []) c.w.pending BAD_RETURN = subst (λ (ps : List ℕ). GoesBack ps c.w.pending BAD_RETURN) pending goes in
    let there : BAD_RETURN ≡ lean_version_1.closing = site.1 in
    omega arith

pub wrong_lean_pairs_unsafe : WrongLeanPairsAreUnsafe
wrong_lean_pairs_unsafe = record { mask = mask_unsafe; link = link_unsafe; unsaved = unsaved_unsafe; pointer = pointer_unsafe; slot = slot_unsafe; leaf = leaf_unsafe }
