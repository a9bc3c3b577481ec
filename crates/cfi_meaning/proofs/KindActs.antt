-- The source machine's step of a kind is the own step of that kind, by addresses.
use Rattle.std.proofs.Common.{◌≡◌, ℕ, ◌+◌, ◌≤◌, Bool, true, false, List, [], ◌∷◌, Option, Some, refl, sym, ap, subst, ◌∙◌, if◌then◌else◌, unwrap_or}
use Rattle.std.proofs.lemmas.Bool.{cond_both}
use Rattle.cfi_meaning.proofs.Prelude.{Profile, can_load, can_store, Registers, get_reg, Instr, Lui, Auipc, branch_taken, load_size, store_size, After, Hart, Shared, address, exec, Turn, Ran, Exit, Break, LoadFault, StoreFault, FetchFault, Illegal, ItemKind, is_direct, suits, ProgramAtMap, gate, gate_to, word, Own, OwnAfter, goes, calls, returns, kind_step, own_of, sites_of, Source, StepTurn, acts, breaks, exits, if_taken, leaves, place_after, ran, returns_from, turn_at, untame, computed}
use Rattle.rv_instr.specs.declared.instr.Instr.TheVariants as I
use Rattle.rv_code.proofs.Calls.{AfterCall, after_call, answered, ended}
use Rattle.obj_input.specs.declared.item_kind.ItemKind.TheVariants as is
use Rattle.cfi_map.specs.SourceStep as source
use Rattle.cfi_meaning.proofs.Found.{place_found, some_found}
use Rattle.cfi_meaning.proofs.KindTame.{NoReason}

-- an own step is the source machine's
abbrev pub IsOwn : ProgramAtMap → OwnAfter → StepTurn → Source → Type 0
IsOwn g o ran st = o ≡ record { state = own_of g st; turn = Ran }
IsOwn g o (exits status) st = (o.turn ≡ Exit status) × (o.state.shared ≡ st.shared)
IsOwn g o (breaks k) st = (o.turn ≡ Break (word g k)) × (g.profile.units_from ≤ word g k) × (o.state.shared ≡ st.shared)
IsOwn g o (untame why k) st = Unit {0}

-- an instruction breaks at its own pc alone
module _ (p : Profile) (h : Hart) (s : Shared) (pc : ℕ) where
  abbrev BreaksHere : After → Type 0
  BreaksHere after = after.turn ≡ Break pc → pc ≡ h.pc

  call_breaks : (a : After) → AfterCall h s a → BreaksHere a
  call_breaks a (answered t next regs going same) e = let wrong : Ran ≡ Break pc = sym t ∙ e in absurd (cc)
  call_breaks a (ended status t same) e = let wrong : Exit status ≡ Break pc = sym t ∙ e in absurd (cc)

  pub exec_breaks : (i : Instr) → BreaksHere (exec p i h s)
  exec_breaks (I.Upper Lui rd imm) e = absurd (cc)
  exec_breaks (I.Upper Auipc rd imm) e = absurd (cc)
  exec_breaks (I.Jal rd imm) e = absurd (cc)
  exec_breaks (I.Jalr rd rs1 imm) e = absurd (cc)
  exec_breaks (I.Branch op rs1 rs2 imm) e =
      cond_both (branch_taken op (get_reg h.regs rs1) (get_reg h.regs rs2)) _ _ BreaksHere (λ yes' t. absurd (cc)) (λ no' t. absurd (cc)) e
  exec_breaks (I.Load op rd rs1 imm) e =
      cond_both (can_load p (address h rs1 imm) (load_size op)) _ _ BreaksHere (λ can t. absurd (cc)) (λ cannot t. absurd (cc)) e
  exec_breaks (I.Store op rs1 rs2 imm) e =
      cond_both (can_store p (address h rs1 imm) (store_size op)) _ _ BreaksHere (λ can t. absurd (cc)) (λ cannot t. absurd (cc)) e
  exec_breaks (I.Immediate op rd rs1 imm) e = absurd (cc)
  exec_breaks (I.Shift op rd rs1 amount) e = absurd (cc)
  exec_breaks (I.ShiftWord op rd rs1 amount) e = absurd (cc)
  exec_breaks (I.Register op rd rs1 rs2) e = absurd (cc)
  exec_breaks (I.Fence word) e = absurd (cc)
  exec_breaks I.Ecall e = call_breaks _ (after_call h s) e
  exec_breaks I.Ebreak e = cc

module _ (g : ProgramAtMap) (k : ℕ) (past : g.profile.units_from ≤ word g k) (r : Registers) (t : Shared) (pending : List ℕ) where
  -- at a place
  abbrev here : Source
  here = record { place = Some k; regs = r; shared = t; pending = pending }

  abbrev at : Own
  at = record { pc = word g k; regs = r; shared = t; pending = sites_of g pending }

  turn_is : (turn : Turn) (regs : Registers) (s : Shared) → ((pc : ℕ) → turn ≡ Break pc → pc ≡ word g k) →
      IsOwn g (record { state = record at { pc = gate g (k + 1); regs = regs; shared = s }; turn = turn }) (turn_at k turn)
      (record here { place = place_after k turn; regs = regs; shared = s })
  turn_is Ran regs s stays = refl
  turn_is (Exit status) regs s stays = (refl, refl)
  turn_is (Break pc) regs s stays = (ap Break (stays pc refl), past, refl)
  turn_is (LoadFault pc a) regs s stays = tt
  turn_is (StoreFault pc a) regs s stays = tt
  turn_is (FetchFault pc) regs s stays = tt
  turn_is (Illegal pc) regs s stays = tt

  -- an instruction's own effect
  abbrev does : Instr → After
  does i = exec g.profile i (record { pc = word g k; regs = r }) t

  executed : (i : Instr) →
      IsOwn g (record { state = record at { pc = gate g (k + 1); regs = (does i).hart.regs; shared = (does i).shared }; turn = (does i).turn })
      (leaves k here (does i)).turn (leaves k here (does i)).state
  executed i =
      turn_is (does i).turn (does i).hart.regs (does i).shared (λ pc e. exec_breaks g.profile (record { pc = word g k; regs = r }) t pc i e)

  either : (taken : Bool) (to : Option ℕ) → gate_to g to ≡ gate g (unwrap_or to 0) →
      (if taken then gate_to g to else gate g (k + 1)) ≡ gate g (if_taken taken (unwrap_or to 0) (k + 1))
  either true to aim = aim
  either false to aim = refl

  returned : (places : List ℕ) → IsOwn g (returns g.profile at (sites_of g places)) (returns_from places here).turn (returns_from places here).state
  returned [] = refl
  returned (k' ∷ places) = refl

  pub own_acts : (kind : ItemKind) (i : Instr) (to : Option ℕ) → suits kind i ≡ true → NoReason g k kind i here →
      (is_direct kind ≡ true → gate_to g to ≡ gate g (unwrap_or to 0)) →
      IsOwn g (kind_step g.profile kind i (gate_to g to) (gate g (k + 1)) at) (acts g k kind i (unwrap_or to 0) here).turn (acts g k kind i (unwrap_or to 0) here).state
  own_acts is.Gate i to suit no_reason aim = executed i
  own_acts is.Plain i to suit no_reason aim = executed i
  own_acts is.Store i to suit no_reason aim = executed i
  own_acts is.System i to suit no_reason aim = executed i
  own_acts is.Branch (I.Branch op rs1 rs2 imm) to suit no_reason aim =
      ap (goes g.profile at) (either (branch_taken op (get_reg r rs1) (get_reg r rs2)) to (aim refl))
  own_acts is.Jump i to suit no_reason aim = ap (goes g.profile at) (aim refl)
  own_acts is.Call i to suit no_reason aim = ap (λ (a : ℕ). calls g.profile at a (gate g (k + 1))) (aim refl)
  own_acts is.Return i to suit no_reason aim = returned pending
  own_acts is.Ijump (I.Jalr rd rs1 imm) to suit no_reason aim =
      let (t', some) = some_found g k (I.Jalr rd rs1 imm) r no_reason.graph in
      let found = place_found g k (I.Jalr rd rs1 imm) r t' some in
      subst (λ (o : Option ℕ). goes g.profile at (computed (I.Jalr rd rs1 imm) r) ≡ record { state = own_of g (record here { place = o }); turn = Ran }) (sym some)
      (ap (goes g.profile at) (sym found.gate_is))
  own_acts is.Icall (I.Jalr rd rs1 imm) to suit no_reason aim =
      let (t', some) = some_found g k (I.Jalr rd rs1 imm) r no_reason.graph in
      let found = place_found g k (I.Jalr rd rs1 imm) r t' some in
      subst (λ (o : Option ℕ). IsOwn g (calls g.profile at (computed (I.Jalr rd rs1 imm) r) (gate g (k + 1))) (source.calls g k (unwrap_or o 0) here).turn (source.calls g k (unwrap_or o 0) here).state) (sym some)
      (ap (λ (a : ℕ). calls g.profile at a (gate g (k + 1))) (sym found.gate_is))
  own_acts kind i to suit no_reason aim = let some = no_reason.no_end in absurd (cc)
