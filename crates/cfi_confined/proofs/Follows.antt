-- What follows from confinement alone: with a list of system calls a run makes no others, and code stays the
-- image's.
use Rattle.std.proofs.Common.{◌≡◌, ℕ, inl, inr, List, [], ◌∷◌, refl, sym, ap, subst, ◌∙◌, Option, Some, None, arith}
use Rattle.std.specs.List.{AllByRecursion}
use Rattle.std.proofs.lemmas.Bool.{cond_both}
use Rattle.cfi_confined.proofs.Prelude.{Contents, loaded, Profile, part_of, is_listed, Instr, Ecall, HartStep, RunAfter, disturbed, next_or_stop, run, stepped, After, Hart, Harts, Shared, last_exit, with_hart, can_fetch, exec, exec_decoded, step, step_unless_ended, stops, Turn, Ran, FetchFault, GraphParts, calls_in, IsCodeOf, AreStepsOf, AddsListed, IsListedCall, steps_taken, ConfinedAlong, IsAllowed, MayEcall, Pending, fetched, with_pending, ConfinedIsListed, ConfinedKeepsCode}
use Rattle.rv_code.proofs.Changes.{changed_above}
use Rattle.cfi_unit.proofs.Events.{call_adds, cases_call, quiet}
use Rattle.cfi_rules.proofs.Taken.{after_step}
use Rattle.cfi_confined.proofs.Writes.{below_part}

module _ (p : Profile) (graph : GraphParts) (calls : List ℕ) (list_is : calls_in graph.lines ≡ Some calls) (hart : ℕ) (h : Hart) (s : Shared) where
  -- what a step leaves
  abbrev Adds : After → Type 0
  Adds a = AddsListed p calls (record { hart = hart; before = h; shared = s; after = a })

  instr_adds : (i : Instr) → MayEcall p graph (Some i) h.pc (h.regs 17) → Adds (exec p i h s)
  instr_adds i may = elim (cases_call i) [
    | inl call ↦
        let one = call_adds h s in
        let its : MayEcall p graph (Some Ecall) h.pc (h.regs 17) = subst (λ (j : Instr). MayEcall p graph (Some j) h.pc (h.regs 17)) call may in
        let listed : IsListedCall p calls h.pc one.event =
        elim its [
          | inl past ↦ inl (ap (λ n. is_listed n calls) one.number ∙ subst (λ (o : Option (List ℕ)). IsAllowed o (h.regs 17)) list_is past.1)
          | inr last ↦ inr (last.0, one.number ∙ last.1)
        ] in
        subst (λ (j : Instr). Adds (exec p j h s)) (sym call) (inr (one.event, one.added, listed))
    | inr other ↦ inl (quiet p i h s other)
  ]

  decoded_adds : (o : Option Instr) → MayEcall p graph o h.pc (h.regs 17) → Adds (exec_decoded p o h s)
  decoded_adds None may = inl refl
  decoded_adds (Some i) may = instr_adds i may

  ended_adds : (o : Option ℕ) → MayEcall p graph (fetched s.memory h.pc) h.pc (h.regs 17) → Adds (step_unless_ended p o h s)
  ended_adds None may =
      cond_both (can_fetch h.pc) (exec_decoded p (fetched s.memory h.pc) h s) (stops h s (FetchFault h.pc)) Adds (λ can. decoded_adds (fetched s.memory h.pc) may) (λ cannot. inl refl)
  ended_adds (Some status) may = inl refl

  step_adds : MayEcall p graph (fetched s.memory h.pc) h.pc (h.regs 17) → Adds (step p h s)
  unfolding step
  step_adds may = ended_adds (last_exit s.events) may

module _ (p : Profile) (graph : GraphParts) where
  listed_along : (calls : List ℕ) → calls_in graph.lines ≡ Some calls → (steps : List HartStep) (pending : Pending) (hs : Harts) (s : Shared) →
      ConfinedAlong p graph pending (steps_taken p hs s steps) → AllByRecursion (AddsListed p calls) (steps_taken p hs s steps)
  unfolding steps_taken
  listed_along calls list_is [] pending hs s c = tt
  listed_along calls list_is (t ∷ rest) pending hs s c =
      let now = disturbed s t.changes in
      let h = hs t.hart in
      let a = step p h now in
      let later = steps_taken p (with_hart hs t.hart a.hart) a.shared rest in (
        step_adds p graph calls list_is t.hart h now c.1.calls,
        after_step (AllByRecursion (AddsListed p calls)) a.turn later tt
            (λ ran.
            let on : ConfinedAlong p graph (with_pending pending t.hart c.0) later = rw ran at c.2 in
            listed_along calls list_is rest (with_pending pending t.hart c.0) (with_hart hs t.hart a.hart) a.shared on),
      )

  -- a run that a step stopped is where the step left it
  stopped_or_on : (C : RunAfter → Type 0) (turn : Turn) (now later : RunAfter) → C now → (turn ≡ Ran → C later) → C (next_or_stop turn now later)
  stopped_or_on C Ran now later here on = on refl
  stopped_or_on C other now later here on = here

  module _ (image : Contents) (count : ℕ) where
    abbrev KeepsCode : RunAfter → Type 0
    KeepsCode after = IsCodeOf (loaded image) after.shared.memory

    code_kept : (steps : List HartStep) → AreStepsOf count steps → (pending : Pending) (hs : Harts) (s : Shared) → IsCodeOf (loaded image) s.memory →
        ConfinedAlong p graph pending (steps_taken p hs s steps) → KeepsCode (run p hs s steps)
    unfolding run steps_taken
    code_kept [] low pending hs s code c = code
    code_kept (t ∷ rest) low pending hs s code c =
        let now = disturbed s t.changes in
        let h = hs t.hart in
        let a = step p h now in
        let after = stepped p hs s t in
        let still : IsCodeOf (loaded image) a.shared.memory =
        λ k from to. below_part p.callee_saves (part_of t.hart) (pending t.hart) now.memory a.shared.memory c.1.writes k (omega arith) (omega arith) ∙ changed_above s.memory t.changes low.0.changes k (omega arith) ∙ code k from to in
        stopped_or_on KeepsCode after.turn after (run p after.harts after.shared rest) still
        (λ ran.
        let on : ConfinedAlong p graph (with_pending pending t.hart c.0) (steps_taken p (with_hart hs t.hart a.hart) a.shared rest) = rw ran at c.2 in
        code_kept rest low.1 (with_pending pending t.hart c.0) (with_hart hs t.hart a.hart) a.shared still on)

pub confined_listed : ConfinedIsListed
confined_listed p image graph calls list_is confined count may harts s start steps low =
    listed_along p graph calls list_is steps (λ k. []) harts s (confined count may harts s start steps low)

pub confined_keeps : ConfinedKeepsCode
confined_keeps p image graph count harts s steps confined may start low =
    code_kept p graph image count steps low (λ k. []) harts s start.code (confined count may harts s start steps low)
