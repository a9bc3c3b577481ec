-- A step leaves sites pending: what it puts on top lies above the handlers.
use Rattle.std.proofs.Common.{◌≡◌, ℕ, ◌+◌, ◌<◌, ◌≤◌, ◌⊎◌, inl, inr, Bool, true, false, List, [], ◌∷◌, Some, refl, sym, ap, subst, ◌∙◌, arith}
use Rattle.cfi_walk.proofs.Prelude.{Profile, GraphLine, TargetWord, Third, Place, Exit, Flow, flow_of, BAD_TARGET, DEEP, after_unit, code_words, CallGoes, JumpGoes, ComputedCallGoes, ComputedLinkGoes, ExitGoes, FlowGoes, LeafGoes, LinkGoes, OpeningGoes, ReturnGoes, SaveGoes, Goes, To, AreSites, StepKeepsSites}
use Rattle.rv_image.proofs.Profiles.{LaidOut, laid_out}
use Rattle.cfi_unit.specs.declared.unit.Unit as U
use Rattle.cfi_unit.specs.declared.unit.SystemOp.TheVariants as S
use Rattle.cfi_unit.specs.declared.place.Place.TheVariants.{Handler as handler, Opening as opening, Closing as closing, Body as body}
use Rattle.cfi_unit.specs.Flow as F
use Rattle.cfi_unit.proofs.Flows.{entered, linked_back, linking_call, linking_computed_call, Suits, is_untested, suits, untested, direct_call, guarded_call, computed_jump, computed_call, turned_back}
use Rattle.cfi_walk.proofs.Reach.{body_low}

same : (before after : List ℕ) → AreSites before → after ≡ before → AreSites after
same before after h e = subst (λ (l : List ℕ). AreSites l) (sym e) h

-- the pending sites stay
pub either_kept : (first second : ℕ) (pending : List ℕ) (v : ℕ) (after : List ℕ) → To first pending v after ⊎ To second pending v after → after ≡ pending
either_kept first second pending v after (inl g) = g.1
either_kept first second pending v after (inr g) = g.1

pub jump_kept : (lines : List GraphLine) (which : TargetWord) (label : ℕ) (pending : List ℕ) (v : ℕ) (after : List ℕ) → JumpGoes lines which label pending v after → after ≡ pending
jump_kept lines which label pending v after (inl g) = g.1
jump_kept lines which label pending v after (inr g) = g.1

pub exit_kept : (exit : Exit) (following : ℕ) (pending : List ℕ) (v : ℕ) (after : List ℕ) → is_untested exit ≡ true → ExitGoes exit F.keeps following pending v after → after ≡ pending
exit_kept (F.either op rs1 rs2 met target) following pending v after is g = either_kept following target pending v after g
exit_kept (F.computed rs1 imm) following pending v after is g = absurd g
exit_kept (F.beyond rs1 imm) following pending v after is g = absurd g
exit_kept F.linked following pending v after is g = absurd (cc)
exit_kept F.back following pending v after is g = absurd (cc)
exit_kept (F.after S.Ebreak) following pending v after is g = absurd g
exit_kept other following pending v after is g = g.1

call_keeps : (site target : ℕ) (pending : List ℕ) (v : ℕ) (after : List ℕ) → DEEP < site → AreSites pending → CallGoes site target pending v after → AreSites after
call_keeps site target pending v after low h (inl g) = same (site ∷ pending) after (low, h) g.2
call_keeps site target pending v after low h (inr g) = same pending after h g.1.1

computed_call_keeps : (lines : List GraphLine) (site label : ℕ) (pending : List ℕ) (v : ℕ) (after : List ℕ) → DEEP < site → AreSites pending → ComputedCallGoes lines site label pending v after → AreSites after
computed_call_keeps lines site label pending v after low h (inl g) = same pending after h g.1
computed_call_keeps lines site label pending v after low h (inr (inl g)) = same (site ∷ pending) after (low, h) g.2
computed_call_keeps lines site label pending v after low h (inr (inr g)) = same pending after h g.2.1

return_keeps : (pending : List ℕ) (v : ℕ) (after : List ℕ) → AreSites pending → ReturnGoes pending v after → AreSites after
return_keeps [] v after h g = same [] after h g.1
return_keeps (site ∷ pending) v after h (inl g) = same pending after h.1 g.1
return_keeps (site ∷ pending) v after h (inr g) = same (site ∷ pending) after h g.1

link_keeps : (site target : ℕ) (pending : List ℕ) (v : ℕ) (after : List ℕ) → DEEP < site → AreSites pending → LinkGoes site target pending v after → AreSites after
link_keeps site target pending v after low h g = same (site ∷ pending) after (low, h) g.2

computed_link_keeps : (lines : List GraphLine) (which : TargetWord) (site label : ℕ) (pending : List ℕ) (v : ℕ) (after : List ℕ) → DEEP < site → AreSites pending →
    ComputedLinkGoes lines which site label pending v after → AreSites after
computed_link_keeps lines which site label pending v after low h (inl g) = same pending after h g.1
computed_link_keeps lines which site label pending v after low h (inr (t, there, g)) = link_keeps site (t + 8) pending v after low h g

pub save_kept : (following : ℕ) (pending : List ℕ) (v : ℕ) (after : List ℕ) → SaveGoes following pending v after → after ≡ pending
save_kept following pending v after (inl g) = g.1.1
save_kept following pending v after (inr g) = g.1.1

leaf_keeps : (pending : List ℕ) (v : ℕ) (after : List ℕ) → AreSites pending → LeafGoes pending v after → AreSites after
leaf_keeps [] v after h g = absurd g
leaf_keeps (site ∷ pending) v after h g = same pending after h.1 g.1

flow_keeps : (lines : List GraphLine) (f : Flow) → Suits f → (following : ℕ) (pending : List ℕ) (v : ℕ) (after : List ℕ) → DEEP < following → AreSites pending → FlowGoes lines f following pending v after → AreSites after
flow_keeps lines f (untested exit act is) following pending v after low h g = same pending after h (exit_kept exit following pending v after is g)
flow_keeps lines f (direct_call target) following pending v after low h g = call_keeps following target pending v after low h g
flow_keeps lines f (guarded_call numbers) following pending v after low h g = same pending after h (either_kept following BAD_TARGET pending v after g)
flow_keeps lines f (computed_jump which rs1 imm label) following pending v after low h g = same pending after h (jump_kept lines which label pending v after g)
flow_keeps lines f (computed_call rs1 imm label) following pending v after low h g = computed_call_keeps lines following label pending v after low h g
flow_keeps lines f turned_back following pending v after low h g = return_keeps pending v after h g
flow_keeps lines f (linking_call target) following pending v after low h g = link_keeps following target pending v after low h g
flow_keeps lines f entered following pending v after low h g = same pending after h (save_kept following pending v after g)
flow_keeps lines f (linking_computed_call rs1 imm label) following pending v after low h g = computed_link_keeps lines Third following label pending v after low h g
flow_keeps lines f linked_back following pending v after low h g = leaf_keeps pending v after h g

opening_keeps : (callee : Bool) (site entry : ℕ) (pending : List ℕ) (v : ℕ) (after : List ℕ) → DEEP < site → AreSites pending → OpeningGoes callee site entry pending v after → AreSites after
opening_keeps false site entry pending v after low h g = call_keeps site entry pending v after low h g
opening_keeps true site entry pending v after low h g = link_keeps site entry pending v after low h g

place_keeps : (p : Profile) → LaidOut p → (lines : List GraphLine) (place : Place) (at : ℕ) (pending : List ℕ) (v : ℕ) (after : List ℕ) →
    ((unit : U.Unit) → place ≡ body unit → p.units_from ≤ at) → AreSites pending → Goes p lines place at pending v after → AreSites after
place_keeps p laid lines handler at pending v after from h g = absurd g
place_keeps p laid lines (opening entry) at pending v after from h g = opening_keeps p.callee_saves p.closing entry pending v after (omega arith) h g
place_keeps p laid lines closing at pending v after from h g = absurd g
place_keeps p laid lines (body unit) at pending v after from h g =
    let low = from unit refl in flow_keeps lines (flow_of unit) (suits unit) (after_unit unit at) pending v after (omega arith) h g

pub sites_kept : StepKeepsSites
sites_kept p image graph walk pc next is h (place, stands, at, goes) =
    let laid = laid_out p is in
    place_keeps p laid graph.lines place walk.at walk.pending pc next.pending
    (λ unit same. body_low p laid (code_words image.code) walk.at unit (stands ∙ ap Some same)) h goes
