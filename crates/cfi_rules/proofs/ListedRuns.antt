-- A well-formed pair with a list of system calls makes no others: it is safe, so each step's events are
-- those of the unit that it is in, and that is admitted with the list.
use Rattle.std.proofs.Common.{◌≡◌, ℕ, ◌+◌, inl, inr, true, List, [], ◌∷◌, sym, ap, subst, ◌∙◌, Some, None}
use Rattle.std.specs.List.{AllByRecursion}
use Rattle.std.proofs.lemmas.Bool.{and_parts}
use Rattle.rv_image.specs.Image.{Contents}
use Rattle.rv_image.specs.MemoryMap.{IsProfile, Profile}
use Rattle.rv_word.specs.Numbers.{is_listed}
use Rattle.rv_word.proofs.SameNumbers.{same_list}
use Rattle.rv_code.specs.State.{Hart}
use Rattle.rv_code.specs.declared.event.Event.{Event}
use Rattle.cfi_graph.specs.Graph.{GraphParts, calls_in}
use Rattle.cfi_unit.specs.declared.unit.Unit as U
use Rattle.cfi_unit.specs.declared.unit.SystemOp.TheVariants as S
use Rattle.cfi_unit.specs.Flow as F
use Rattle.cfi_unit.specs.Flow.{Act, Test, flow_of}
use Rattle.cfi_unit.specs.EventLaw.{ActMayCall, Adds, MayCall, adds_none, adds_one}
use Rattle.cfi_unit.specs.declared.place.Place.{Place}
use Rattle.cfi_unit.specs.declared.place.Place.TheVariants.{Handler as handler, Opening as opening, Closing as closing, Body as body}
use Rattle.cfi_rules.specs.Along.{RunsAlong, Walks, with_walk}
use Rattle.cfi_rules.specs.Laws.{AreBytes}
use Rattle.cfi_rules.specs.Listed.{AddsListed, IsListedCall, WellFormedIsListed}
use Rattle.cfi_rules.specs.Rules.{IsWellFormed, act_may_call, is_of_version, may_call}
use Rattle.cfi_rules.specs.Split.{code_words, place_at, unit_at}
use Rattle.cfi_rules.specs.Taken.{TakenStep, steps_taken}
use Rattle.cfi_rules.proofs.Places.{PlaceFacts, place_facts}
use Rattle.cfi_rules.proofs.RuleFacts.{unit_admitted}
use Rattle.cfi_rules.proofs.Safety.{well_formed_along}

-- a unit that is admitted with a list calls with its numbers alone
pub act_listed : (calls : List ℕ) (test : Test) (act : Act) (h : Hart) → act_may_call (Some calls) test act ≡ true → ActMayCall act test h → is_listed (h.regs 17) calls ≡ true
act_listed calls (F.listed numbers) F.calls h admitted may = subst (λ (ns : List ℕ). is_listed (h.regs 17) ns ≡ true) (same_list numbers calls admitted) may
act_listed calls test F.calls h admitted may = absurd may
act_listed calls test (F.system S.Ecall) h admitted may = absurd (cc)
act_listed calls test (F.system S.Ebreak) h admitted may = absurd may
act_listed calls test other h admitted may = absurd may

module _ (p : Profile) (profile : IsProfile p) (image : Contents) (graph : GraphParts) (bytes : AreBytes image) (formed : IsWellFormed p image graph)
    (calls : List ℕ) (list_is : calls_in graph.lines ≡ Some calls) where
  -- each unit is admitted with the list
  pub admitted : (a : ℕ) (unit : U.Unit) → unit_at p (code_words image.code) a ≡ Some unit → may_call (Some calls) unit ≡ true
  admitted a unit is =
      let may : may_call (calls_in graph.lines) unit ≡ true =
      (and_parts (is_of_version graph.version unit) (may_call (calls_in graph.lines) unit) (unit_admitted p image graph formed a unit is)).1 in
      sym (ap (λ o. may_call o unit) list_is) ∙ may

  listed_call : (place : Place) (at : ℕ) (h : Hart) (e : Event) → PlaceFacts p profile image graph bytes formed place at → e.number ≡ h.regs 17 → MayCall place at h →
      IsListedCall p calls h.pc e
  listed_call handler at h e facts number may = absurd may
  listed_call (opening entry) at h e facts number may = absurd may
  listed_call closing at h e facts number may = inr (may.0 ∙ ap (λ a. a + 4) facts, number ∙ may.1)
  listed_call (body unit) at h e facts number may =
      inl (ap (λ n. is_listed n calls) number ∙ act_listed calls (flow_of unit).test (flow_of unit).act h (admitted at unit facts.is) may)

  adds_listed : (place : Place) (at : ℕ) (t : TakenStep) → PlaceFacts p profile image graph bytes formed place at → Adds place at t.before t.shared.events t.after.shared.events →
      AddsListed p calls t
  adds_listed place at t facts (adds_none same) = inl same
  adds_listed place at t facts (adds_one e more number may) = inr (e, more, listed_call place at t.before e facts number may)

  -- each step of a run along the graph makes what system calls its place may make
  listed_along : (taken : List TakenStep) (walks : Walks) → RunsAlong p image (place_at p (code_words image.code)) graph.lines walks taken →
      AllByRecursion (AddsListed p calls) taken
  listed_along [] walks runs = tt
  listed_along (t ∷ rest) walks runs =
      let w = runs.0 in
      let begun = runs.2 in
      (adds_listed begun.0 w.at t (place_facts p profile image graph bytes formed w.at begun.0 begun.1) begun.7, listed_along rest (with_walk walks t.hart w) runs.3)

pub well_formed_listed : WellFormedIsListed
well_formed_listed p image graph calls profile bytes formed list_is count may harts s start steps low =
    listed_along p profile image graph bytes formed calls list_is (steps_taken p harts s steps) (λ k. None)
    (well_formed_along p profile image graph bytes formed count may harts s start steps low)
