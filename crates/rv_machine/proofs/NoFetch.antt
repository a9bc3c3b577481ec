-- A step where no instruction stands, and where one does.
use Rattle.std.proofs.Common.{◌≡◌, ℕ, Bool, true, false, [], Option, Some, None, refl, sym, subst}
use Rattle.rv_image.specs.MemoryMap.{Profile, profile_of}
use Rattle.rv_word.specs.Memory.{read}
use Rattle.rv_instr.specs.declared.instr.Instr.{Instr}
use Rattle.rv_code.specs.Decode.{decoded}
use Rattle.rv_code.specs.Run.{stepped}
use Rattle.rv_code.specs.State.{Hart, Shared, last_exit}
use Rattle.rv_code.specs.Step.{can_fetch, exec_decoded, if_after, step, step_unless_ended, stops}
use Rattle.rv_code.specs.declared.turn.Turn.TheVariants.{FetchFault}
use Rattle.rv_machine.specs.Harts.{MachineParts, at_pc, harts_in, harts_share, resting_at}
use Rattle.rv_machine.specs.Parts.{IsFetched, IsNoFetch, hart_at, shared_in}
use Rattle.rv_machine.proofs.Harts.{with_same}

stands_after : (p : Profile) (h : Hart) (s : Shared) (can : Bool) (instr : Option Instr) → (IsNoFetch (if_after can (exec_decoded p instr h s) (stops h s (FetchFault h.pc))).turn → ⊥) → (can ≡ true) × ((i : Instr) × (instr ≡ Some i))
stands_after p h s true None some = absurd (some tt)
stands_after p h s true (Some i) some = (refl, (i, refl))
stands_after p h s false instr some = absurd (some tt)

-- an instruction stands where a step does not end for want of one
stands : (p : Profile) (h : Hart) (s : Shared) → last_exit s.events ≡ None → (IsNoFetch (step p h s).turn → ⊥) → (instr : Instr) × IsFetched s h.pc instr
unfolding step
stands p h s going some =
    let (can, found) = stands_after p h s (can_fetch h.pc) (decoded (read 4 s.memory h.pc)) (subst (λ (ended : Option ℕ). IsNoFetch (step_unless_ended p ended h s).turn → ⊥) going some) in
    (found.0, record { place = can; decodes = found.1 })

-- of the hart in the processor of a machine
no_fetch_of : (m : MachineParts) (pc : ℕ) → IsNoFetch (step (profile_of m.processor.memory.version) (hart_at m.processor pc) (shared_in m.processor)).turn
    → IsNoFetch (stepped (profile_of m.processor.memory.version) (harts_in (at_pc m pc)) (harts_share m) (record { hart = m.current; changes = [] })).turn
no_fetch_of m pc none =
    subst (λ (h : Hart). IsNoFetch (step (profile_of m.processor.memory.version) h (shared_in m.processor)).turn) (sym (with_same (resting_at m.resting) m.current (hart_at m.processor pc))) none

pub stands_of : (m : MachineParts) (pc : ℕ) → last_exit (harts_share m).events ≡ None
    → (IsNoFetch (stepped (profile_of m.processor.memory.version) (harts_in (at_pc m pc)) (harts_share m) (record { hart = m.current; changes = [] })).turn → ⊥) → (instr : Instr) × IsFetched (harts_share m) pc instr
stands_of m pc going some = stands (profile_of m.processor.memory.version) (hart_at m.processor pc) (shared_in m.processor) going (λ none. some (no_fetch_of m pc none))
