-- An address fixes the step to it: no site and no target of a class is a handler.
use Rattle.std.proofs.Common.{◌≡◌, ℕ, ◌+◌, ◌<◌, Bool, true, false, Some, refl, inl, inr, List, [], ◌∷◌, sym, ap, subst, ◌∙◌, arith}
use Rattle.std.proofs.lemmas.Bool.{false≢true}
use Rattle.cfi_walk.proofs.Prelude.{Contents, GraphVersion, Profile, GraphLine, SiteKind, GraphParts, TargetWord, First, Third, Place, Flow, flow_of, BAD_TARGET, DEEP, after_unit, holds_of, is_among, leaves_in, targets_for, IsWellFormed, asked_by, code_words, InClass, CallGoes, ComputedCallGoes, ComputedLinkGoes, FlowGoes, LeafGoes, OpeningGoes, ReturnGoes, Goes, WalkState, AreSites, StepIsUnique}
use Rattle.rv_word.proofs.Cases.{cases_Option}
use Rattle.rv_image.proofs.Profiles.{LaidOut, laid_out}
use Rattle.cfi_graph.specs.declared.line.SiteKind.TheVariants as K
use Rattle.cfi_unit.specs.declared.place.Place.TheVariants.{Handler as handler, Opening as opening, Closing as closing, Body as body}
use Rattle.cfi_unit.specs.declared.unit.Unit as U
use Rattle.cfi_unit.proofs.Flows.{entered, linked_back, linking_call, linking_computed_call, Suits, suits, untested, direct_call, guarded_call, computed_jump, computed_call, turned_back}
use Rattle.cfi_rules.proofs.RuleFacts.{Reads, landing, target_bears, unit_borne, unit_reads}
use Rattle.cfi_rules.proofs.Served.{read_by}
use Rattle.cfi_walk.proofs.Reach.{body_unit, unit_within}
use Rattle.cfi_walk.proofs.Sites.{either_kept, exit_kept, jump_kept, save_kept}

class_above : (p : Profile) → LaidOut p → (image : Contents) (graph : GraphParts) → IsWellFormed p image graph → (kind : SiteKind) (which : TargetWord) (label v : ℕ) →
    which ≡ read_by graph.version kind → InClass graph.lines kind which label v → DEEP < landing which v
class_above p laid image graph formed kind which label v reads inside =
    elim (cases_Option (targets_for graph.lines kind which label)) [
      | inl none ↦ absurd (false≢true (sym (ap (λ o. holds_of o (is_among v)) none) ∙ inside))
      | inr (ts, some) ↦
          let borne = target_bears p image graph formed kind which v label ts reads some (sym (ap (λ o. holds_of o (is_among v)) some) ∙ inside) in
          let unit = unit_borne p (code_words image.code) (leaves_in graph.lines) v label which borne in
          let low = (unit_within p laid (code_words image.code) (landing which v) unit.0 unit.1).low in
          omega arith
    ]

call_same : (site target : ℕ) (pending : List ℕ) (v : ℕ) (a b : List ℕ) → CallGoes site target pending v a → CallGoes site target pending v b → a ≡ b
call_same site target pending v a b (inl g) (inl h) = g.2 ∙ sym h.2
call_same site target pending v a b (inl (room, t, s)) (inr (full, to)) = absurd (omega arith)
call_same site target pending v a b (inr (full, to)) (inl (room, t, s)) = absurd (omega arith)
call_same site target pending v a b (inr g) (inr h) = g.1.1 ∙ sym h.1.1

opening_same : (callee : Bool) (site target : ℕ) (pending : List ℕ) (v : ℕ) (a b : List ℕ) → OpeningGoes callee site target pending v a → OpeningGoes callee site target pending v b → a ≡ b
opening_same false site target pending v a b g h = call_same site target pending v a b g h
opening_same true site target pending v a b g h = g.2 ∙ sym h.2

module _ (p : Profile) (version : GraphVersion) (lines : List GraphLine)
    (above : (kind : SiteKind) (which : TargetWord) (label v : ℕ) → which ≡ read_by version kind → InClass lines kind which label v → DEEP < landing which v) where
  never : (label v : ℕ) → First ≡ read_by version K.Call → InClass lines K.Call First label v → v ≡ BAD_TARGET → ⊥
  never label v reads inside e = let high = above K.Call First label v reads inside in omega arith

  computed_call_same : (site label : ℕ) (pending : List ℕ) (v : ℕ) (a b : List ℕ) → First ≡ read_by version K.Call →
      ComputedCallGoes lines site label pending v a → ComputedCallGoes lines site label pending v b → a ≡ b
  computed_call_same site label pending v a b reads (inl g) (inl h) = g.1 ∙ sym h.1
  computed_call_same site label pending v a b reads (inl g) (inr (inl h)) = absurd (never label v reads h.1 g.0)
  computed_call_same site label pending v a b reads (inl g) (inr (inr h)) = g.1 ∙ sym h.2.1
  computed_call_same site label pending v a b reads (inr (inl g)) (inl h) = absurd (never label v reads g.1 h.0)
  computed_call_same site label pending v a b reads (inr (inl g)) (inr (inl h)) = g.2 ∙ sym h.2
  computed_call_same site label pending v a b reads (inr (inl (room, i, s))) (inr (inr (full, t, to))) = absurd (omega arith)
  computed_call_same site label pending v a b reads (inr (inr g)) (inl h) = g.2.1 ∙ sym h.1
  computed_call_same site label pending v a b reads (inr (inr (full, t, to))) (inr (inl (room, i, s))) = absurd (omega arith)
  computed_call_same site label pending v a b reads (inr (inr g)) (inr (inr h)) = g.2.1 ∙ sym h.2.1

  -- past the gate of a target no handler stands
  past_handlers : (label t v : ℕ) → Third ≡ read_by version K.Call → InClass lines K.Call Third label t → v ≡ t + 8 → v ≡ BAD_TARGET → ⊥
  past_handlers label t v reads inside there bad = let high = above K.Call Third label t reads inside in omega arith

  computed_link_same : (site label : ℕ) (pending : List ℕ) (v : ℕ) (a b : List ℕ) → Third ≡ read_by version K.Call →
      ComputedLinkGoes lines Third site label pending v a → ComputedLinkGoes lines Third site label pending v b → a ≡ b
  computed_link_same site label pending v a b reads (inl g) (inl h) = g.1 ∙ sym h.1
  computed_link_same site label pending v a b reads (inl g) (inr (t, inside, (few, there, s))) = absurd (past_handlers label t v reads inside there g.0)
  computed_link_same site label pending v a b reads (inr (t, inside, (few, there, s))) (inl h) = absurd (past_handlers label t v reads inside there h.0)
  computed_link_same site label pending v a b reads (inr (t, i, g)) (inr (u, k, h)) = g.2 ∙ sym h.2

  return_same : (pending : List ℕ) (v : ℕ) (a b : List ℕ) → AreSites pending → ReturnGoes pending v a → ReturnGoes pending v b → a ≡ b
  return_same [] v a b s g h = g.1 ∙ sym h.1
  return_same (site ∷ pending) v a b s (inl g) (inl h) = g.1 ∙ sym h.1
  return_same (site ∷ pending) v a b (low, s) (inl (to, g)) (inr (bad, h)) = absurd (omega arith)
  return_same (site ∷ pending) v a b (low, s) (inr (bad, g)) (inl (to, h)) = absurd (omega arith)
  return_same (site ∷ pending) v a b s (inr g) (inr h) = g.1 ∙ sym h.1

  leaf_same : (pending : List ℕ) (v : ℕ) (a b : List ℕ) → LeafGoes pending v a → LeafGoes pending v b → a ≡ b
  leaf_same [] v a b g h = absurd g
  leaf_same (site ∷ pending) v a b g h = g.1 ∙ sym h.1

  flow_same : (f : Flow) → Suits f → Reads version (asked_by f.test f.sites) → (following : ℕ) (pending : List ℕ) (v : ℕ) (a b : List ℕ) → AreSites pending →
      FlowGoes lines f following pending v a → FlowGoes lines f following pending v b → a ≡ b
  flow_same f (untested exit act is) reads following pending v a b s g h = exit_kept exit following pending v a is g ∙ sym (exit_kept exit following pending v b is h)
  flow_same f (direct_call target) reads following pending v a b s g h = call_same following target pending v a b g h
  flow_same f (guarded_call numbers) reads following pending v a b s g h = either_kept following BAD_TARGET pending v a g ∙ sym (either_kept following BAD_TARGET pending v b h)
  flow_same f (computed_jump which rs1 imm label) reads following pending v a b s g h = jump_kept lines which label pending v a g ∙ sym (jump_kept lines which label pending v b h)
  flow_same f (computed_call rs1 imm label) reads following pending v a b s g h = computed_call_same following label pending v a b reads g h
  flow_same f turned_back reads following pending v a b s g h = return_same pending v a b s g h
  flow_same f (linking_call target) reads following pending v a b s g h = g.2 ∙ sym h.2
  flow_same f entered reads following pending v a b s g h = save_kept following pending v a g ∙ sym (save_kept following pending v b h)
  flow_same f (linking_computed_call rs1 imm label) reads following pending v a b s g h = computed_link_same following label pending v a b reads g h
  flow_same f linked_back reads following pending v a b s g h = leaf_same pending v a b g h

  place_same : (place : Place) → ((unit : U.Unit) → place ≡ body unit → Reads version (asked_by (flow_of unit).test (flow_of unit).sites)) →
      (at : ℕ) (pending : List ℕ) (v : ℕ) (a b : List ℕ) → AreSites pending → Goes p lines place at pending v a → Goes p lines place at pending v b → a ≡ b
  place_same handler reads at pending v a b s g h = absurd g
  place_same (opening entry) reads at pending v a b s g h = opening_same p.callee_saves p.closing entry pending v a b g h
  place_same closing reads at pending v a b s g h = absurd g
  place_same (body unit) reads at pending v a b s g h = flow_same (flow_of unit) (suits unit) (reads unit refl) (after_unit unit at) pending v a b s g h

abbrev state : ℕ → List ℕ → WalkState
state at pending = record { at = at; pending = pending }

states : (x y : WalkState) → x.at ≡ y.at → x.pending ≡ y.pending → x ≡ y
states x y e f = ap (λ a. state a x.pending) e ∙ ap (λ l. state y.at l) f

pub one_step : StepIsUnique
one_step p image graph walk pc next other is formed sites (place, stands, at, goes) (place', stands', at', goes') =
    let same : place' ≡ place = cc in
    let moved = subst (λ (q : Place). Goes p graph.lines q walk.at walk.pending pc other.pending) same goes' in
    let after : next.pending ≡ other.pending =
    place_same p graph.version graph.lines (class_above p (laid_out p is) image graph formed) place
    (λ unit body_is. unit_reads p image graph formed walk.at unit (body_unit p (laid_out p is) (code_words image.code) walk.at unit (stands ∙ ap Some body_is)))
    walk.at walk.pending pc next.pending other.pending sites goes moved in
    let address : next.at ≡ other.at = at ∙ sym at' in
    states next other address after
