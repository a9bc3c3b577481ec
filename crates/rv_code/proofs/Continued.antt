-- A run that goes on from where it has come: nothing follows a stop, a run is its parts, and events
-- are only added.
use Rattle.std.proofs.Common.{◌≡◌, ℕ, ◌+◌, ◌==◌, ◌||◌, ◌^◌, List, [], ◌∷◌, ◌++◌, Option, Some, None, append-nil, append_assoc, refl, sym, ap, subst, ◌∙◌}
use Rattle.std.specs.Prelude.{nat_le}
use Rattle.std.proofs.lemmas.Bool.{cond_both}
use Rattle.rv_image.specs.MemoryMap.{Profile}
use Rattle.rv_instr.specs.declared.instr.Instr.{Instr}
use Rattle.rv_instr.specs.declared.instr.Instr.TheVariants.{Upper, Jal, Jalr, Branch, Load, Store, Immediate, Shift, ShiftWord, Register, Fence, Ecall, Ebreak}
use Rattle.rv_instr.specs.declared.instr.UpperOp.TheVariants.{Lui, Auipc}
use Rattle.rv_code.proofs.Alone.{alone_next}
use Rattle.rv_code.specs.Continue.{continue, RunInParts, EventsAdded}
use Rattle.rv_code.specs.Run.{ByteChange, disturbed, disturbed_step, next_or_stop, run, run_alone}
use Rattle.rv_code.specs.State.{Hart, Shared, After, last_exit}
use Rattle.rv_code.specs.Step.{can_fetch, exec, exec_decoded, step, step_unless_ended, stops}
use Rattle.rv_code.specs.Decode.{decoded}
use Rattle.rv_code.specs.SystemCall.{system_call, write_call, read_call}
use Rattle.rv_code.specs.declared.event.Event.{Event}
use Rattle.rv_code.specs.declared.turn.Turn.{Turn}
use Rattle.rv_code.specs.declared.turn.Turn.TheVariants.{Ran, Exit, Break, LoadFault, StoreFault, FetchFault, Illegal}
use Rattle.rv_word.specs.Memory.{read}

-- without further changes a run stays where it is
none_next : (turn : Turn) (h : Hart) (s : Shared) → next_or_stop turn (stops h s turn) (stops h s Ran) ≡ stops h s turn
none_next Ran h s = refl
none_next (Exit status) h s = refl
none_next (Break pc) h s = refl
none_next (LoadFault pc a) h s = refl
none_next (StoreFault pc a) h s = refl
none_next (FetchFault pc) h s = refl
none_next (Illegal pc) h s = refl

pub continue_none : (p : Profile) (a : After) → continue p a [] ≡ a
unfolding run
continue_none p a = none_next a.turn a.hart a.shared

-- from a state that goes on, the next list of changes happens, then a step
pub continue_next : (p : Profile) (a : After) (cs : List ByteChange) (rest : List (List ByteChange)) → a.turn ≡ Ran →
    continue p a (cs ∷ rest) ≡ continue p (disturbed_step p a.hart a.shared cs) rest
continue_next p a cs rest going =
    ap (λ (turn : Turn). next_or_stop turn a (run_alone p a.hart a.shared (cs ∷ rest))) going ∙ alone_next p a.hart a.shared cs rest

-- what follows a first part follows the state that it goes on from
part_next : (p : Profile) (turn : Turn) (h : Hart) (s : Shared) (first : After) (rest : List (List ByteChange)) →
    next_or_stop turn (stops h s turn) (continue p first rest) ≡ continue p (next_or_stop turn (stops h s turn) first) rest
part_next p Ran h s first rest = refl
part_next p (Exit status) h s first rest = refl
part_next p (Break pc) h s first rest = refl
part_next p (LoadFault pc a) h s first rest = refl
part_next p (StoreFault pc a) h s first rest = refl
part_next p (FetchFault pc) h s first rest = refl
part_next p (Illegal pc) h s first rest = refl

pub run_in_parts : RunInParts
unfolding run
run_in_parts p h s [] rest = refl
run_in_parts p h s (cs ∷ first) rest =
    let a = disturbed_step p h s cs in
    alone_next p h s cs (first ++ rest)
    ∙ ap (λ (x : After). next_or_stop a.turn a x) (run_in_parts p a.hart a.shared first rest)
    ∙ part_next p a.turn a.hart a.shared (run_alone p a.hart a.shared first) rest
    ∙ ap (λ (x : After). continue p x rest) (sym (alone_next p h s cs first))

-- events that were there come first
abbrev Adds : List Event → List Event → Type 0
Adds old new = (added : List Event) × (new ≡ old ++ added)

none_added : (old : List Event) → Adds old old
none_added old = ([], sym (append-nil old))

module _ (h : Hart) (s : Shared) where
  abbrev After_adds : After → Type 0
  After_adds after = Adds s.events after.shared.events

  write_adds : After_adds (write_call h s)
  write_adds =
      cond_both (h.regs 10 == 1 || h.regs 10 == 2) _ _ After_adds
      (λ right. cond_both (nat_le (h.regs 11 + h.regs 12) (2 ^ 28)) _ _ After_adds (λ inside. (_, refl)) (λ outside. (_, refl)))
      (λ wrong. (_, refl))

  read_adds : After_adds (read_call h s)
  read_adds =
      cond_both (h.regs 10 == 0) _ _ After_adds
      (λ right. cond_both (nat_le (h.regs 11 + h.regs 12) (2 ^ 28)) _ _ After_adds (λ inside. (_, refl)) (λ outside. (_, refl)))
      (λ wrong. (_, refl))

  call_adds : After_adds (system_call h s)
  call_adds =
      cond_both (h.regs 17 == 64) _ _ After_adds (λ is. write_adds)
      (λ no. cond_both (h.regs 17 == 63) _ _ After_adds (λ is. read_adds)
      (λ nor. cond_both (h.regs 17 == 93 || h.regs 17 == 94) _ _ After_adds (λ is. (_, refl)) (λ other. (_, refl))))

  exec_adds : (p : Profile) (i : Instr) → After_adds (exec p i h s)
  exec_adds p (Upper Lui rd imm) = none_added s.events
  exec_adds p (Upper Auipc rd imm) = none_added s.events
  exec_adds p (Jal rd imm) = none_added s.events
  exec_adds p (Jalr rd rs1 imm) = none_added s.events
  exec_adds p (Branch op rs1 rs2 imm) = cond_both _ _ _ After_adds (λ taken. none_added s.events) (λ other. none_added s.events)
  exec_adds p (Load op rd rs1 imm) = cond_both _ _ _ After_adds (λ can. none_added s.events) (λ cannot. none_added s.events)
  exec_adds p (Store op rs1 rs2 imm) = cond_both _ _ _ After_adds (λ can. none_added s.events) (λ cannot. none_added s.events)
  exec_adds p (Immediate op rd rs1 imm) = none_added s.events
  exec_adds p (Shift op rd rs1 amount) = none_added s.events
  exec_adds p (ShiftWord op rd rs1 amount) = none_added s.events
  exec_adds p (Register op rd rs1 rs2) = none_added s.events
  exec_adds p (Fence word) = none_added s.events
  exec_adds p Ecall = call_adds
  exec_adds p Ebreak = none_added s.events

  decoded_adds : (p : Profile) (o : Option Instr) → After_adds (exec_decoded p o h s)
  decoded_adds p None = none_added s.events
  decoded_adds p (Some i) = exec_adds p i

  ended_adds : (p : Profile) (status : Option ℕ) → After_adds (step_unless_ended p status h s)
  ended_adds p (Some status) = none_added s.events
  ended_adds p None =
      cond_both (can_fetch h.pc) _ _ After_adds (λ may. decoded_adds p (decoded (read 4 s.memory h.pc))) (λ no. none_added s.events)

  step_adds : (p : Profile) → After_adds (step p h s)
  unfolding step
  step_adds p = ended_adds p (last_exit s.events)

adds_both : (old middle new : List Event) → Adds old middle → Adds middle new → Adds old new
adds_both old middle new first second =
    (first.0 ++ second.0, second.1 ∙ ap (λ (es : List Event). es ++ second.0) first.1 ∙ append_assoc old first.0 second.0)

adds_next : (old : List Event) (turn : Turn) (h : Hart) (s : Shared) (rest : After) → Adds old s.events → Adds old rest.shared.events →
    Adds old (next_or_stop turn (stops h s turn) rest).shared.events
adds_next old Ran h s rest here later = later
adds_next old (Exit status) h s rest here later = here
adds_next old (Break pc) h s rest here later = here
adds_next old (LoadFault pc a) h s rest here later = here
adds_next old (StoreFault pc a) h s rest here later = here
adds_next old (FetchFault pc) h s rest here later = here
adds_next old (Illegal pc) h s rest here later = here

pub events_added : EventsAdded
unfolding run
events_added p h s [] = none_added s.events
events_added p h s (cs ∷ rest) =
    let a = disturbed_step p h s cs in
    let here : Adds s.events a.shared.events = step_adds h (disturbed s cs) p in
    subst (λ (x : After). Adds s.events x.shared.events) (sym (alone_next p h s cs rest))
    (adds_next s.events a.turn a.hart a.shared (run_alone p a.hart a.shared rest) here
    (adds_both s.events a.shared.events (run_alone p a.hart a.shared rest).shared.events here (events_added p a.hart a.shared rest)))
