-- The own step of a place's unit is that of its instruction's kind, or, where callees save sites, ends as that does; a store in the
-- window of data goes on.
use Rattle.std.proofs.Common.{◌≡◌, ℕ, zero, suc, ◌+◌, ◌^◌, ◌<◌, ◌≤◌, ◌==◌, true, false, not, Bool, List, [], ◌∷◌, Option, Some, None, if◌then◌else◌, refl, sym, ap, subst, ◌∙◌, arith}
use Rattle.std.specs.Prelude.{nat_lt}
use Rattle.std.proofs.lemmas.Bool.{eqb-true}
use Rattle.cfi_meaning.proofs.Prelude.{GraphVersion, OneLabel, TwoLabels, CalleeSaves, Profile, write, get_reg, Instr, Lui, Auipc, StoreOp, Sb, Sh, Sw, Sd, BranchOp, Beq, Bne, Blt, Bge, Bltu, Bgeu, branch_taken, signed_less, store_size, Ran, ItemKind, is_end, item_of, suits, in_leaf, aim_of, entered_in, gate, gate_to, word, words_at, is_store, site_label, whole_at, TargetWord, after_unit, sum_of, with_memory, Own, OwnAfter, executes, goes, own_past, returns, touched, jump_word, IsAccepted, Choice, Group, call_unit, group_at, instr_of, inverse, lean_unit_of, unit_by, unit_here, unit_of, kind_step, IsPlace, at_unit, shown, at_word, place_step}
use Rattle.rv_instr.specs.declared.instr.Instr.TheVariants as I
use Rattle.obj_input.specs.declared.item_kind.ItemKind.TheVariants as is
use Rattle.obj_program.proofs.Kept.{kept}
use Rattle.cfi_unit.proofs.Regions.{can_store_data, store_size-small}
use Rattle.cfi_writer.proofs.GroupUnit.{IsStore}
use Rattle.cfi_writer.proofs.Standing.{instr_is, next_after}
use Rattle.cfi_meaning.specs.PlaceLaws as law
use Rattle.cfi_meaning.proofs.Places.{place_behind}

not_twice : (b : Bool) → not (not b) ≡ b
not_twice true = refl
not_twice false = refl

-- the inverse condition holds where the other does not
inverse_taken : (op : BranchOp) (a b : ℕ) → branch_taken (inverse op) a b ≡ not (branch_taken op a b)
inverse_taken Beq a b = refl
inverse_taken Bne a b = sym (not_twice (a == b))
inverse_taken Blt a b = refl
inverse_taken Bge a b = sym (not_twice (signed_less a b))
inverse_taken Bltu a b = refl
inverse_taken Bgeu a b = sym (not_twice (nat_lt a b))

turned : (taken : Bool) (target next : ℕ) → (if not taken then next else target) ≡ (if taken then target else next)
turned true target next = refl
turned false target next = refl

-- what a store of a register leaves at an address
abbrev wrote : Own → StoreOp → ℕ → ℕ → ℕ → OwnAfter
wrote o op rs2 next a = record {
  state = record o { pc = next; shared = with_memory o.shared (write (store_size op) o.shared.memory a (get_reg o.regs rs2)) };
  turn = Ran;
}

own_store : (p : Profile) (o : Own) (op : StoreOp) (rs1 rs2 imm next : ℕ) → sum_of o.regs rs1 imm < 2 ^ 28 →
    executes p o (I.Store op rs1 rs2 imm) o.regs next ≡ wrote o op rs2 next (sum_of o.regs rs1 imm)
own_store p o op rs1 rs2 imm next below =
    let can = can_store_data p (sum_of o.regs rs1 imm) (store_size op) below (store_size-small op) in rw can refl

-- a system call does the same behind tests of its number
own_call : (p : Profile) (calls : Option (List ℕ)) (o : Own) (next : ℕ) → own_past p o (call_unit calls) next ≡ executes p o I.Ecall o.regs next
own_call p None o next = refl
own_call p (Some numbers) o next = refl

-- a unit that does all of its instruction's step
pub own_of_kind : (p : Profile) (calls : Option (List ℕ)) (kind : ItemKind) (i : Instr) (whole : Bool) (target : ℕ) (which : TargetWord) (label next : ℕ) (group : Group) (o : Own) →
    is_end kind ≡ false → is_store kind ≡ false → suits kind i ≡ true →
    own_past p o (unit_of calls kind i whole target which label group) next ≡ kind_step p kind i target next o
own_of_kind p calls is.Gate (I.Upper Lui zero imm) whole target which label next group o some other suit = refl
own_of_kind p calls is.Gate (I.Upper Lui (suc rd) imm) whole target which label next group o some other suit = absurd (let none = eqb-true (suc rd) 0 suit in omega arith)
own_of_kind p calls is.Gate (I.Upper Auipc rd imm) whole target which label next group o some other suit = absurd (cc)
own_of_kind p calls is.Plain i whole target which label next group o some other suit = refl
own_of_kind p calls is.Store i whole target which label next group o some other suit = absurd (cc)
own_of_kind p calls is.System I.Ecall whole target which label next group o some other suit = own_call p calls o next
own_of_kind p calls is.System I.Ebreak whole target which label next group o some other suit = refl
own_of_kind p calls is.Branch (I.Branch op rs1 rs2 imm) true target which label next group o some other suit =
    let a = get_reg o.regs rs1 in
    let b = get_reg o.regs rs2 in
    ap (goes p o) (ap (λ (taken : Bool). if taken then next else target) (inverse_taken op a b) ∙ turned (branch_taken op a b) target next)
own_of_kind p calls is.Branch (I.Branch op rs1 rs2 imm) false target which label next group o some other suit = refl
own_of_kind p calls is.Jump i whole target which label next group o some other suit = refl
own_of_kind p calls is.Call i whole target which label next group o some other suit = refl
own_of_kind p calls is.Return i whole target which label next group o some other suit = refl
own_of_kind p calls is.Ijump (I.Jalr rd rs1 imm) whole target which label next group o some other suit = refl
own_of_kind p calls is.Icall (I.Jalr rd rs1 imm) whole target which label next group o some other suit = refl
own_of_kind p calls kind i whole target which label next group o some other suit = absurd (cc)

-- two steps end alike: with the same turn, and what is shared. The pending sites, and where they go, may differ
abbrev EndAlike : OwnAfter → OwnAfter → Type 0
EndAlike first second = (first.turn ≡ second.turn) × (first.state.shared ≡ second.state.shared)

returns_on : (p : Profile) (o : Own) (pending : List ℕ) → ((returns p o pending).turn ≡ Ran) × ((returns p o pending).state.shared ≡ o.shared)
returns_on p o [] = (refl, refl)
returns_on p o (site ∷ pending) = (refl, refl)

returns_alike : (p : Profile) (o : Own) (first second : List ℕ) → EndAlike (returns p (record o { pending = first }) first) (returns p o second)
returns_alike p o first second =
    let one = returns_on p (record o { pending = first }) first in
    let other = returns_on p o second in
    (one.0 ∙ sym other.0, one.1 ∙ sym other.1)

kinds_alike : (p : Profile) (kind : ItemKind) (i : Instr) (aim target next : ℕ) (o : Own) (pending : List ℕ) →
    EndAlike (kind_step p kind i aim next (record o { pending = pending })) (kind_step p kind i target next o)
kinds_alike p is.Return i aim target next o pending = returns_alike p o pending o.pending
kinds_alike p is.Branch (I.Branch op rs1 rs2 imm) aim target next o pending = (refl, refl)
kinds_alike p is.Ijump (I.Jalr rd rs1 imm) aim target next o pending = (refl, refl)
kinds_alike p is.Icall (I.Jalr rd rs1 imm) aim target next o pending = (refl, refl)
kinds_alike p kind i aim target next o pending = (refl, refl)

full_alike : (p : Profile) (calls : Option (List ℕ)) (kind : ItemKind) (i : Instr) (whole : Bool) (aim target : ℕ) (which : TargetWord) (label next : ℕ) (group : Group) (o : Own) (pending : List ℕ) →
    is_end kind ≡ false → is_store kind ≡ false → suits kind i ≡ true →
    EndAlike (own_past p (record o { pending = pending }) (unit_of calls kind i whole aim which label group) next) (kind_step p kind i target next o)
full_alike p calls kind i whole aim target which label next group o pending some other suit =
    let does = own_of_kind p calls kind i whole aim which label next group (record o { pending = pending }) some other suit in
    let same = kinds_alike p kind i aim target next o pending in
    (ap (λ (a : OwnAfter). a.turn) does ∙ same.0, ap (λ (a : OwnAfter). a.state.shared) does ∙ same.1)

lean_alike : (p : Profile) (calls : Option (List ℕ)) (inside : Bool) (kind : ItemKind) (i : Instr) (whole : Bool) (aim target label next : ℕ) (group : Group) (o : Own) (pending : List ℕ) →
    is_end kind ≡ false → is_store kind ≡ false → suits kind i ≡ true →
    EndAlike (own_past p (record o { pending = pending }) (lean_unit_of calls inside kind i whole aim label group) next) (kind_step p kind i target next o)
lean_alike p calls inside is.Call i whole aim target label next group o pending some other suit = (refl, refl)
lean_alike p calls true is.Return i whole aim target label next group o pending some other suit =
    let does = returns_on p o o.pending in (sym does.0, sym does.1)
lean_alike p calls false is.Return i whole aim target label next group o pending some other suit = returns_alike p o pending o.pending
lean_alike p calls inside is.Ijump (I.Jalr rd rs1 imm) whole aim target label next group o pending some other suit = (refl, refl)
lean_alike p calls inside is.Icall (I.Jalr rd rs1 imm) whole aim target label next group o pending some other suit = (refl, refl)
lean_alike p calls inside kind i whole aim target label next group o pending some other suit =
    full_alike p calls kind i whole aim target (jump_word CalleeSaves) label next group o pending some other suit

alike_by : (p : Profile) (version : GraphVersion) (calls : Option (List ℕ)) (inside : Bool) (kind : ItemKind) (i : Instr) (whole : Bool) (aim target label next : ℕ) (group : Group) (o : Own) (pending : List ℕ) →
    is_end kind ≡ false → is_store kind ≡ false → suits kind i ≡ true →
    EndAlike (own_past p (record o { pending = pending }) (unit_by version calls inside kind i whole aim label group) next) (kind_step p kind i target next o)
alike_by p OneLabel calls inside kind i whole aim target label next group o pending =
    full_alike p calls kind i whole aim target (jump_word OneLabel) label next group o pending
alike_by p TwoLabels calls inside kind i whole aim target label next group o pending =
    full_alike p calls kind i whole aim target (jump_word TwoLabels) label next group o pending
alike_by p CalleeSaves calls inside kind i whole aim target label next group o pending =
    lean_alike p calls inside kind i whole aim target label next group o pending

-- what is known of a place's instruction
pub suited : (m : Choice) (k : ℕ) → IsAccepted m → IsPlace m k → suits (item_of m.layout.program k).kind (instr_of m k) ≡ true
suited m k ok place =
    (kept m.layout.program m.layout.gates (words_at m.layout) k (instr_of m k) ok.sound place.below place.no_end (instr_is m ok k place.below place.no_end)).0

pub step_of_kind : law.StepOfKind
step_of_kind m image k o ok other now =
    let item = item_of m.layout.program k in
    let past : after_unit (unit_here m k) (word m.layout k) ≡ gate m.layout (k + 1) = sym (next_after m ok k other (place_behind m k ok now.place)) in
    subst (λ (next : ℕ). EndAlike (own_past m.layout.profile (at_unit m k o) (unit_here m k) next) (place_step m k o)) (sym past)
    (alike_by m.layout.profile m.layout.closed.version m.layout.closed.calls (in_leaf (entered_in m.layout) k) item.kind (instr_of m k) (whole_at m.whole k)
    (aim_of m.layout item) (gate_to m.layout item.target) (site_label m.labels m.layout.closed.sides k) (gate m.layout (k + 1)) (group_at m k) (at_word m k o)
    (shown m k o).pending now.place.no_end other (suited m k ok now.place))

size_some : (op : StoreOp) → 0 < store_size op
size_some Sb = omega arith
size_some Sh = omega arith
size_some Sw = omega arith
size_some Sd = omega arith

-- a store in the window of data
in_window : (op : StoreOp) (rs1 rs2 imm : ℕ) (o : Own) → touched (I.Store op rs1 rs2 imm) o.regs ≤ 2 ^ 28 → sum_of o.regs rs1 imm < 2 ^ 28
in_window op rs1 rs2 imm o inside = let some = size_some op in omega arith

-- it goes on, makes no system call, leaves the pending sites, and does the same at any pc
pub record StoresOn (p : Profile) (i : Instr) (next : ℕ) (o : Own) : Type 0 where
  pub turn : (executes p o i o.regs next).turn ≡ Ran
  pub events : (executes p o i o.regs next).state.shared.events ≡ o.shared.events
  pub pending : (executes p o i o.regs next).state.pending ≡ o.pending
  pub anywhere : (pc : ℕ) → executes p (record o { pc = pc }) i o.regs next ≡ executes p o i o.regs next

pub stores_on : (p : Profile) (i : Instr) (next : ℕ) (o : Own) → IsStore i → touched i o.regs ≤ 2 ^ 28 → StoresOn p i next o
stores_on p (I.Store op rs1 rs2 imm) next o store inside =
    let does = own_store p o op rs1 rs2 imm next (in_window op rs1 rs2 imm o inside) in
    record {
      turn = ap (λ (a : OwnAfter). a.turn) does;
      events = ap (λ (a : OwnAfter). a.state.shared.events) does;
      pending = ap (λ (a : OwnAfter). a.state.pending) does;
      anywhere = λ pc. own_store p (record o { pc = pc }) op rs1 rs2 imm next (in_window op rs1 rs2 imm o inside) ∙ sym does;
    }
stores_on p other next o store inside = let e = store.is in absurd (cc)

-- the step of a place with a store is that of the instruction
pub store_step : (p : Profile) (kind : ItemKind) (i : Instr) (target next : ℕ) (o : Own) → is_store kind ≡ true →
    kind_step p kind i target next o ≡ executes p o i o.regs next
store_step p is.Store i target next o store = refl
store_step p other i target next o store = absurd (cc)
