-- Where an executed instruction leads, and which calls are pending there: told by its word and the graph's
-- lines, from what is known of the word and of where the step went.
use Rattle.std.proofs.Common.{◌≡◌, ℕ, ◌+◌, ◌-◌, ◌*◌, ◌/◌, ◌^◌, ◌<◌, ◌≤◌, ◌⊎◌, inl, inr, Bool, true, false, List, [], ◌∷◌, refl, sym, ap, subst, ◌∙◌, Option, Some, arith}
use Rattle.std.specs.Prelude.{option_map, slice_get}
use Rattle.std.specs.List.{Contains}
use Rattle.std.proofs.lemmas.Bool.{cases_Bool, cond_both, eq-eqb, false≢true, ne_eqb}
use Rattle.cfi_confined.proofs.Prelude.{wrap, Contents, loaded, IsProfile, Profile, can_load, can_store, GraphVersion, OneLabel, TwoLabels, CalleeSaves, Registers, get_reg, Instr, Upper, Jal, Jalr, Branch, Load, Store, Immediate, Shift, ShiftWord, Register, Fence, Ecall, Ebreak, BranchOp, Lui, Auipc, branch_taken, load_size, store_size, After, Hart, Shared, address, exec, offset, Ran, GraphParts, IsGraph, has_leaves, Call, Edge, SiteKind, Place, TargetWord, First, Third, flow_of, HasLabel, Returns, destination, place_instrs, is_full, DEEP, GoesBack, stands_in, Start, StandsBy, fresh, may_stand, saved, OpeningLeads, PlaceLeads, AreBytes, jump_word, IsWellFormed, asks, call_of, edge_of, site_of, code_words, place_at, by_class, ComputedMoves, IsSiteTo, LeadsOver, Moves, NoSite, before_call, before_site, call_line, most_skip, past_target}
use Rattle.rv_image.proofs.Profiles.{laid_out}
use Rattle.rv_code.proofs.Calls.{AfterCall, after_call, answered, ended}
use Rattle.cfi_graph.specs.declared.line.SiteKind.TheVariants as K
use Rattle.cfi_unit.specs.declared.place.Place.TheVariants.{Handler as handler, Opening as opening, Closing as closing, Body as body}
use Rattle.cfi_unit.specs.declared.unit.Unit as U
use Rattle.cfi_unit.specs.declared.unit.Unit.TheVariants as V
use Rattle.cfi_rules.proofs.Moves.{SitesStand}
use Rattle.cfi_rules.proofs.Places.{at_start, at_unit, place_facts}
use Rattle.cfi_rules.proofs.RuleFacts.{call_starts, unit_reads, unit_stands_in}
use Rattle.cfi_rules.proofs.Served.{read_by}
use Rattle.cfi_confined.proofs.Lines.{call_listed, edge_listed, no_site, site_to, site_words}
use Rattle.cfi_confined.proofs.Sites.{SitesOf, Went, class_gate, inner, keeping, labelled, leads_to, low_sites, site_stands}
use Rattle.cfi_confined.proofs.Words.{AreNewest, BranchFact, CallFact, ComputedFact, Fact, JumpFact, caller_saves, keeps_by}

-- what is no branch and no jump goes on to the next instruction, if it runs
abbrev is_falling : Instr → Bool
is_falling (Branch op rs1 rs2 imm) = false
is_falling (Jal rd imm) = false
is_falling (Jalr rd rs1 imm) = false
is_falling other = true

module _ (p : Profile) (h : Hart) (s : Shared) where
  abbrev GoesNext : After → Type 0
  GoesNext a = a.turn ≡ Ran → a.hart.pc ≡ h.pc + 4

  called : (a : After) → AfterCall h s a → GoesNext a
  called a (answered t pc regs going same) ran = pc
  called a (ended status t same) ran = absurd (cc)

  falls : (i : Instr) → is_falling i ≡ true → GoesNext (exec p i h s)
  falls (Branch op rs1 rs2 imm) is ran = absurd (cc)
  falls (Jal rd imm) is ran = absurd (cc)
  falls (Jalr rd rs1 imm) is ran = absurd (cc)
  falls (Upper Lui rd imm) is ran = refl
  falls (Upper Auipc rd imm) is ran = refl
  falls (Load op rd rs1 imm) is ran =
      cond_both (can_load p (address h rs1 imm) (load_size op)) _ _ GoesNext (λ can ran. refl) (λ cannot ran. absurd (cc)) ran
  falls (Store op rs1 rs2 imm) is ran =
      cond_both (can_store p (address h rs1 imm) (store_size op)) _ _ GoesNext (λ can ran. refl) (λ cannot ran. absurd (cc)) ran
  falls (Immediate op rd rs1 imm) is ran = refl
  falls (Shift op rd rs1 amount) is ran = refl
  falls (ShiftWord op rd rs1 amount) is ran = refl
  falls (Register op rd rs1 rs2) is ran = refl
  falls (Fence word) is ran = refl
  falls Ecall is ran = called (exec p Ecall h s) (after_call h s) ran
  falls Ebreak is ran = absurd (cc)

-- the distances, by who saves sites
abbrev site_after : Bool → SiteKind → ℕ
site_after false K.Jump = 48
site_after false K.Call = 76
site_after true kind = 56

site_before : (version : GraphVersion) (kind : SiteKind) (callee_saves : Bool) → has_leaves version ≡ callee_saves → before_site version kind ≡ site_after callee_saves kind
site_before OneLabel K.Jump callee_saves e = ap (λ b. site_after b K.Jump) e
site_before OneLabel K.Call callee_saves e = ap (λ b. site_after b K.Call) e
site_before TwoLabels K.Jump callee_saves e = ap (λ b. site_after b K.Jump) e
site_before TwoLabels K.Call callee_saves e = ap (λ b. site_after b K.Call) e
site_before CalleeSaves K.Jump callee_saves e = ap (λ b. site_after b K.Jump) e
site_before CalleeSaves K.Call callee_saves e = ap (λ b. site_after b K.Call) e

abbrev call_after : Bool → ℕ
call_after false = 28
call_after true = 0

call_before : (version : GraphVersion) (callee_saves : Bool) → has_leaves version ≡ callee_saves → before_call version ≡ call_after callee_saves
call_before OneLabel callee_saves e = ap call_after e
call_before TwoLabels callee_saves e = ap call_after e
call_before CalleeSaves callee_saves e = ap call_after e

abbrev call_past : Bool → ℕ
call_past false = 0
call_past true = 8

target_past : (version : GraphVersion) (callee_saves : Bool) → has_leaves version ≡ callee_saves → past_target version K.Call ≡ call_past callee_saves
target_past OneLabel callee_saves e = ap call_past e
target_past TwoLabels callee_saves e = ap call_past e
target_past CalleeSaves callee_saves e = ap call_past e

jump_past : (version : GraphVersion) → past_target version K.Jump ≡ 0
jump_past OneLabel = refl
jump_past TwoLabels = refl
jump_past CalleeSaves = refl

skip_far : (version : GraphVersion) → most_skip version ≡ 64
skip_far OneLabel = refl
skip_far TwoLabels = refl
skip_far CalleeSaves = refl

-- where a unit stands that stands in lean code alone, callees save sites
callee_saves_there : (callee_saves : Bool) (unit : U.Unit) → is_full unit ≡ false → stands_in callee_saves unit ≡ true → callee_saves ≡ true
callee_saves_there true unit lean stands = refl
callee_saves_there false unit lean stands = absurd (cc)

module _ (p : Profile) (profile : IsProfile p) (image : Contents) (graph : GraphParts) (bytes : AreBytes image) (formed : IsWellFormed p image graph) where
  abbrev W : List ℕ
  W = code_words image.code

  under : (callee_saves : Bool) → p.callee_saves ≡ callee_saves → has_leaves graph.version ≡ callee_saves
  under callee_saves e = sym formed.saves ∙ e

  module _ (at : ℕ) (pending stacked : List ℕ) (r : Registers) (newer : List ℕ) (v : ℕ) where
    -- what is known of a unit's start
    pub record StandsHere (unit : U.Unit) : Type 0 where
      pub start : Start
      pub may : may_stand start unit ≡ true
      pub stands : StandsBy start r pending stacked
      pub sites : SitesStand p profile image graph bytes formed pending

    abbrev pub Standing : Place → Type 0
    Standing (body unit) = StandsHere unit
    Standing other = Unit {0}

    pub sites_of : (place : Place) → Standing place → SitesOf p profile image graph bytes formed at pending r newer v place
    sites_of (body unit) standing = standing.sites
    sites_of handler standing = tt
    sites_of (opening entry) standing = tt
    sites_of closing standing = tt

    abbrev WentFrom : Place → Type 0
    WentFrom place = Went p profile image graph bytes formed at pending r newer v place

    abbrev LeadsFrom : Place → Type 0
    LeadsFrom place = PlaceLeads p (by_class graph.lines) place at pending r newer v

    -- a call that is done goes to its target, and puts its site on top
    called_there : (place : Place) → place_at p W at ≡ Some place → (target site : ℕ) → call_of place ≡ Some target → target ≡ v →
        (LeadsFrom place → (newer ≡ site ∷ pending) ⊎ (v ≡ DEEP)) → WentFrom place → Contains graph.lines (Call at v) × (newer ≡ site ∷ pending)
    called_there place is target site call same calls went =
        let layout = laid_out p profile in
        let (unit, here, there) = at_start p profile image graph bytes formed target (call_starts p image graph formed at place target is call) in
        let high = here.low in
        elim (calls (leads_to p profile image graph bytes formed at pending r newer v place (body unit) (ap (place_at p W) (sym same) ∙ there) went)) [
          | inl new ↦ (subst (λ (t : ℕ). Contains graph.lines (Call at t)) same (call_listed p profile image graph bytes formed at place is target call), new)
          | inr deep ↦ absurd (omega arith)
        ]

    opening_calls : (callee_saves : Bool) (site entry : ℕ) → OpeningLeads callee_saves site entry pending newer v → (newer ≡ site ∷ pending) ⊎ (v ≡ DEEP)
    opening_calls false site entry (inl l) = inl l.1
    opening_calls false site entry (inr l) = inr l.2
    opening_calls true site entry l = inl l.1

    unit_calls : (target : ℕ) → LeadsFrom (body (V.Call target)) → (newer ≡ (at + 32) ∷ pending) ⊎ (v ≡ DEEP)
    unit_calls target (inl l) = inl l.1
    unit_calls target (inr l) = inr l.2

    -- so a `jal x1` goes by its line, and puts the address after it on top
    call_moves : (part : ℕ) (h : Hart) (place : Place) → place_at p W at ≡ Some place → (k to : ℕ) → h.pc ≡ at + 4 * k → v ≡ to →
        CallFact p part (loaded image) at stacked r h place k to → WentFrom place →
        Contains graph.lines (Call (call_line p graph.version h.pc) v) × (newer ≡ (h.pc + 4) ∷ pending)
    call_moves part h (opening entry) is k to here e fact went =
        let layout = laid_out p profile in
        let facts = place_facts p profile image graph bytes formed at (opening entry) is in
        let word = fact.1 in
        let next : p.closing ≡ h.pc + 4 = omega arith in
        let c = called_there (opening entry) is entry p.closing refl (fact.0 ∙ sym e) (opening_calls p.callee_saves p.closing entry) went in
        (rw (eq-eqb h.pc p.opening_call (omega arith)) (subst (λ (a : ℕ). Contains graph.lines (Call a v)) facts.0 c.0), c.1 ∙ ap (λ a. a ∷ pending) next)
    call_moves part h (body (V.Call target)) is k to here e fact went =
        let layout = laid_out p profile in
        let facts = place_facts p profile image graph bytes formed at (body (V.Call target)) is in
        let low = facts.low in
        let word = fact.1 in
        let saves = caller_saves p.callee_saves (V.Call target) refl (unit_stands_in p image graph formed at (V.Call target) facts.is) in
        let distance = call_before graph.version false (under false saves) in
        let before : at ≡ h.pc - before_call graph.version = (let z : at ≡ h.pc - 28 = omega arith in z) ∙ ap (λ d. h.pc - d) (sym distance) in
        let next : at + 32 ≡ h.pc + 4 = omega arith in
        let c = called_there (body (V.Call target)) is target (at + 32) refl (fact.0 ∙ sym e) (unit_calls target) went in
        (rw (ne_eqb h.pc p.opening_call (λ e. omega arith)) (subst (λ (a : ℕ). Contains graph.lines (Call a v)) before c.0), c.1 ∙ ap (λ a. a ∷ pending) next)
    call_moves part h (body (V.LinkCall target)) is k to here e fact went =
        let layout = laid_out p profile in
        let facts = place_facts p profile image graph bytes formed at (body (V.LinkCall target)) is in
        let low = facts.low in
        let word = fact.1 in
        let saves = callee_saves_there p.callee_saves (V.LinkCall target) refl (unit_stands_in p image graph formed at (V.LinkCall target) facts.is) in
        let distance = call_before graph.version true (under true saves) in
        let before : at ≡ h.pc - before_call graph.version = (let z : at ≡ h.pc - 0 = omega arith in z) ∙ ap (λ d. h.pc - d) (sym distance) in
        let next : at + 4 ≡ h.pc + 4 = omega arith in
        let c = called_there (body (V.LinkCall target)) is target (at + 4) refl (fact.0 ∙ sym e) (λ l. inl l.1) went in
        (rw (ne_eqb h.pc p.opening_call (λ e. omega arith)) (subst (λ (a : ℕ). Contains graph.lines (Call a v)) before c.0), c.1 ∙ ap (λ a. a ∷ pending) next)
    call_moves part h (body other) is k to here e fact went = absurd fact
    call_moves part h handler is k to here e fact went = absurd fact
    call_moves part h closing is k to here e fact went = absurd fact

    -- no site line stands where a return's would
    no_site_there : IsGraph graph → (unit : U.Unit) → place_at p W at ≡ Some (body unit) → (pc : ℕ) → (p.callee_saves ≡ false → (at + 16 ≡ pc)) →
        (p.callee_saves ≡ true → (at ≤ pc) × (pc ≤ at + 16)) → NoSite graph.lines (pc - before_site graph.version K.Jump)
    no_site_there ordered unit is pc full lean =
        let facts = place_facts p profile image graph bytes formed at (body unit) is in
        let low = facts.low in
        let layout = laid_out p profile in
        elim (cases_Bool p.callee_saves) [
          | inl saves ↦
              let distance = site_before graph.version K.Jump true (under true saves) in
              let far = ap site_words saves in
              let from = (lean saves).0 in let to = (lean saves).1 in
              no_site p profile image graph bytes formed ordered (pc - before_site graph.version K.Jump) at unit facts (omega arith) (omega arith)
          | inr saves ↦
              let distance = site_before graph.version K.Jump false (under false saves) in
              let far = ap site_words saves in
              let there = full saves in
              no_site p profile image graph bytes formed ordered (pc - before_site graph.version K.Jump) at unit facts (omega arith) (omega arith)
        ]

    -- a return goes to the newest site, and takes it off
    return_moves : (h : Hart) → place_at p W at ≡ Some (body V.Return) → IsGraph graph → h.pc ≡ at + 16 → v ≡ address h 31 0 / 2 * 2 →
        (sites : List ℕ) → sites ≡ pending → SitesStand p profile image graph bytes formed sites → AreNewest sites (r 1) (h.regs 31) → WentFrom (body V.Return) →
        ComputedMoves graph h.pc pending v newer
    return_moves h is ordered here e [] same stand newest went = absurd newest
    return_moves h is ordered here e (site ∷ older) same stand newest went =
        let there = site_stands p profile image graph bytes formed site older stand in
        let even = there.even in let small = there.small in let x31 = newest.1 in
        let to : v ≡ site = omega arith in
        let leads : Returns r (site ∷ older) newer v =
        subst (λ (l : List ℕ). Returns r l newer v) (sym same)
        (leads_to p profile image graph bytes formed at pending r newer v (body V.Return) there.place (ap (place_at p W) to ∙ there.is) went) in
        inl (
          no_site_there ordered V.Return is h.pc (λ full. sym here) (λ lean. (omega arith, omega arith)),
          elim leads [
            | inl l ↦ sym same ∙ ap (λ a. a ∷ older) (sym to) ∙ ap (λ (l : List ℕ). v ∷ l) (sym l.1.0)
            | inr l ↦ absurd (l.0 newest.0)
          ],
        )

    -- so does one from a function that calls nothing, where the newest site is in x1
    leaf_moves : (h : Hart) → place_at p W at ≡ Some (body V.LeafReturn) → IsGraph graph → h.pc ≡ at → v ≡ address h 1 0 / 2 * 2 → h.regs 1 ≡ r 1 →
        (sites : List ℕ) → sites ≡ pending → SitesStand p profile image graph bytes formed sites → StandsBy fresh r sites stacked → WentFrom (body V.LeafReturn) →
        ComputedMoves graph h.pc pending v newer
    leaf_moves h is ordered here e x1 [] same stand stands went = absurd stands
    leaf_moves h is ordered here e x1 (site ∷ older) same stand stands went =
        let facts = place_facts p profile image graph bytes formed at (body V.LeafReturn) is in
        let saves = callee_saves_there p.callee_saves V.LeafReturn refl (unit_stands_in p image graph formed at V.LeafReturn facts.is) in
        let there = site_stands p profile image graph bytes formed site older stand in
        let even = there.even in let small = there.small in let newest = stands.0 in
        let to : v ≡ site = omega arith in
        let leads : GoesBack (site ∷ older) newer v =
        subst (λ (l : List ℕ). GoesBack l newer v) (sym same)
        (leads_to p profile image graph bytes formed at pending r newer v (body V.LeafReturn) there.place (ap (place_at p W) to ∙ there.is) went) in
        inl (
          no_site_there ordered V.LeafReturn is h.pc (λ full. absurd (false≢true (sym full ∙ saves))) (λ lean. (omega arith, omega arith)),
          sym same ∙ ap (λ a. a ∷ older) (sym to) ∙ ap (λ (l : List ℕ). v ∷ l) (sym leads.0),
        )

    -- a `jalr` goes back, or by the lines of its site and class
    abbrev JalrMoves : Hart → ℕ → Type 0
    JalrMoves h rd =
        ((rd ≡ 0) × ComputedMoves graph h.pc pending v newer)
        ⊎ ((rd ≡ 1) × IsSiteTo graph.version graph.lines K.Call (h.pc - before_site graph.version K.Call) v × (newer ≡ (h.pc + 4) ∷ pending))

    -- to where a target of the class leads, by the site line a distance before
    site_moves : (unit : U.Unit) → place_at p W at ≡ Some (body unit) → (kind : SiteKind) (which : TargetWord) (rs1 imm label : ℕ) →
        site_of (body unit) ≡ Some (asks kind which label) → label < 2 ^ 20 → which ≡ read_by graph.version kind → HasLabel (loaded image) which label (destination r rs1 imm) →
        v ≡ destination r rs1 imm + past_target graph.version kind → (pc : ℕ) → at ≡ pc - before_site graph.version kind →
        IsSiteTo graph.version graph.lines kind (pc - before_site graph.version kind) v
    site_moves unit is kind which rs1 imm label site low reads has to pc before =
        let inside = labelled p profile image graph bytes formed kind which label (destination r rs1 imm) at (body unit) reads low is site has in
        subst (λ (a : ℕ). IsSiteTo graph.version graph.lines kind a v) before
        (site_to p profile image graph bytes formed at (body unit) is (asks kind which label) (destination r rs1 imm) v site inside to)

    jump_moves : (unit : U.Unit) → place_at p W at ≡ Some (body unit) → (which : TargetWord) (rs1 imm label : ℕ) →
        site_of (body unit) ≡ Some (asks K.Jump which label) → keeps_by (flow_of unit).sites (flow_of unit).exit ≡ true → label < 2 ^ 20 → which ≡ jump_word graph.version →
        HasLabel (loaded image) which label (destination r rs1 imm) → v ≡ destination r rs1 imm → (pc : ℕ) → at ≡ pc - before_site graph.version K.Jump → WentFrom (body unit) →
        ComputedMoves graph pc pending v newer
    jump_moves unit is which rs1 imm label site keeps low reads has to pc before went =
        let behind : destination r rs1 imm ≡ destination r rs1 imm + past_target graph.version K.Jump = let none = jump_past graph.version in omega arith in
        inr (
          site_moves unit is K.Jump which rs1 imm label site low reads has (to ∙ behind) pc before,
          keeping p profile image graph bytes formed at pending r newer v (body unit) keeps went,
        )

    -- the site line of a unit stands the distance of its version before its transfer
    site_distance : (kind : SiteKind) (callee_saves : Bool) → p.callee_saves ≡ callee_saves → (pc : ℕ) → at ≡ pc - site_after callee_saves kind →
        at ≡ pc - before_site graph.version kind
    site_distance kind callee_saves saves pc e = e ∙ ap (λ d. pc - d) (sym (site_before graph.version kind callee_saves (under callee_saves saves)))

    computed_moves : (part : ℕ) (h : Hart) → IsGraph graph → (place : Place) → place_at p W at ≡ Some place → Standing place → (k rd to : ℕ) → h.pc ≡ at + 4 * k →
        v ≡ to → ComputedFact p part (loaded image) at stacked r h place k rd to → WentFrom place → JalrMoves h rd
    computed_moves part h ordered (body (V.Ijump which rs1 imm label)) is standing k rd to here e fact went =
        let facts = place_facts p profile image graph bytes formed at (body (V.Ijump which rs1 imm label)) is in
        let low = facts.low in let layout = laid_out p profile in let word = fact.1 in
        let saves = caller_saves p.callee_saves (V.Ijump which rs1 imm label) refl (unit_stands_in p image graph formed at (V.Ijump which rs1 imm label) facts.is) in
        inl (
          fact.0,
          jump_moves (V.Ijump which rs1 imm label) is which rs1 imm label refl refl facts.begins.fits.2
              (unit_reads p image graph formed at (V.Ijump which rs1 imm label) facts.is) fact.2 (e ∙ fact.3) h.pc (site_distance K.Jump false saves h.pc (omega arith)) went,
        )
    computed_moves part h ordered (body (V.LeanIjump rs1 imm label)) is standing k rd to here e fact went =
        let facts = place_facts p profile image graph bytes formed at (body (V.LeanIjump rs1 imm label)) is in
        let low = facts.low in let layout = laid_out p profile in let word = fact.1 in
        let saves = callee_saves_there p.callee_saves (V.LeanIjump rs1 imm label) refl (unit_stands_in p image graph formed at (V.LeanIjump rs1 imm label) facts.is) in
        inl (
          fact.0,
          jump_moves (V.LeanIjump rs1 imm label) is First rs1 imm label refl refl facts.begins.fits.2
              (unit_reads p image graph formed at (V.LeanIjump rs1 imm label) facts.is) fact.2 (e ∙ fact.3) h.pc (site_distance K.Jump true saves h.pc (omega arith)) went,
        )
    computed_moves part h ordered (body (V.Icall rs1 imm label)) is standing k rd to here e fact went =
        let facts = place_facts p profile image graph bytes formed at (body (V.Icall rs1 imm label)) is in
        let low = facts.low in let layout = laid_out p profile in let word = fact.1 in
        let saves = caller_saves p.callee_saves (V.Icall rs1 imm label) refl (unit_stands_in p image graph formed at (V.Icall rs1 imm label) facts.is) in
        let reads = unit_reads p image graph formed at (V.Icall rs1 imm label) facts.is in
        let inside = labelled p profile image graph bytes formed K.Call First label (destination r rs1 imm) at (body (V.Icall rs1 imm label)) reads facts.begins.fits.0.2 is refl fact.2 in
        let gate = class_gate p profile image graph bytes formed K.Call First label (destination r rs1 imm) reads inside in
        let high = gate.low in
        let goes : v ≡ destination r rs1 imm + 0 = let same = e ∙ fact.3 in omega arith in
        let behind : v ≡ destination r rs1 imm + past_target graph.version K.Call =
        goes ∙ ap (λ d. destination r rs1 imm + d) (sym (target_past graph.version false (under false saves))) in
        let moved = site_moves (V.Icall rs1 imm label) is K.Call First rs1 imm label refl facts.begins.fits.0.2 reads fact.2 behind h.pc (site_distance K.Call false saves h.pc (omega arith)) in
        let there : place_at p W v ≡ Some (body (V.Gate label)) = ap (place_at p W) goes ∙ at_unit p profile image graph bytes formed (destination r rs1 imm + 0) gate.low ∙ ap (option_map body) gate.is in
        elim (leads_to p profile image graph bytes formed at pending r newer v (body (V.Icall rs1 imm label)) (body (V.Gate label)) there went) [
          | inl (legal, inl l) ↦ inr (fact.0, moved, l.1 ∙ ap (λ a. a ∷ pending) (let z : at + 80 ≡ h.pc + 4 = omega arith in z))
          | inl (legal, inr l) ↦ let deep = l.2 in absurd (omega arith)
          | inr l ↦ absurd (l.0 inside)
        ]
    computed_moves part h ordered (body (V.LeanIcall rs1 imm label)) is standing k rd to here e fact went =
        let facts = place_facts p profile image graph bytes formed at (body (V.LeanIcall rs1 imm label)) is in
        let low = facts.low in let layout = laid_out p profile in let word = fact.1 in
        let saves = callee_saves_there p.callee_saves (V.LeanIcall rs1 imm label) refl (unit_stands_in p image graph formed at (V.LeanIcall rs1 imm label) facts.is) in
        let reads = unit_reads p image graph formed at (V.LeanIcall rs1 imm label) facts.is in
        let inside = labelled p profile image graph bytes formed K.Call Third label (destination r rs1 imm) at (body (V.LeanIcall rs1 imm label)) reads facts.begins.fits.2 is refl fact.2 in
        let gate = class_gate p profile image graph bytes formed K.Call Third label (destination r rs1 imm) reads inside in
        let goes : v ≡ destination r rs1 imm + 8 = e ∙ fact.3 in
        let behind : v ≡ destination r rs1 imm + past_target graph.version K.Call =
        goes ∙ ap (λ d. destination r rs1 imm + d) (sym (target_past graph.version true (under true saves))) in
        let moved = site_moves (V.LeanIcall rs1 imm label) is K.Call Third rs1 imm label refl facts.begins.fits.2 reads fact.2 behind h.pc (site_distance K.Call true saves h.pc (omega arith)) in
        let there : place_at p W v ≡ Some (body (V.Gate label)) = ap (place_at p W) goes ∙ at_unit p profile image graph bytes formed (destination r rs1 imm + 8) gate.low ∙ ap (option_map body) gate.is in
        elim (leads_to p profile image graph bytes formed at pending r newer v (body (V.LeanIcall rs1 imm label)) (body (V.Gate label)) there went) [
          | inl (legal, l) ↦ inr (fact.0, moved, l.1 ∙ ap (λ a. a ∷ pending) (let z : at + 60 ≡ h.pc + 4 = omega arith in z))
          | inr l ↦ absurd (l.0 inside)
        ]
    computed_moves part h ordered (body V.Return) is standing k rd to here e fact went =
        let word = fact.1 in
        inl (fact.0, returned standing.start standing.may standing.stands)
      where
        returned : (start : Start) → may_stand start V.Return ≡ true → StandsBy start r pending stacked → ComputedMoves graph h.pc pending v newer
        returned saved may stands =
            let word = fact.1 in
            return_moves h is ordered (omega arith) (e ∙ fact.2) pending refl standing.sites (subst (λ (l : List ℕ). AreNewest l (r 1) (h.regs 31)) stands fact.3) went
        returned fresh may stands = absurd (cc)
    computed_moves part h ordered (body V.LeafReturn) is standing k rd to here e fact went =
        inl (fact.0, returned standing.start standing.may standing.stands)
      where
        returned : (start : Start) → may_stand start V.LeafReturn ≡ true → StandsBy start r pending stacked → ComputedMoves graph h.pc pending v newer
        returned fresh may stands = let word = fact.1 in leaf_moves h is ordered (omega arith) (e ∙ fact.2) fact.3 pending refl standing.sites stands went
        returned saved may stands = absurd (cc)
    computed_moves part h ordered (body other) is standing k rd to here e fact went = absurd fact
    computed_moves part h ordered (opening entry) is standing k rd to here e fact went = absurd fact
    computed_moves part h ordered handler is standing k rd to here e fact went = absurd fact
    computed_moves part h ordered closing is standing k rd to here e fact went = absurd fact

  -- one executed instruction, from where it is to where the step went
  module _ (ordered : IsGraph graph) (part at : ℕ) (pending stacked : List ℕ) (r : Registers) (place : Place) (is : place_at p W at ≡ Some place)
      (h : Hart) (s : Shared) (code : ℕ → Option Instr)
      (stands : (j : ℕ) (i : Instr) → slice_get (place_instrs p place at) j ≡ Some i → code (at + 4 * j) ≡ Some i) (k : ℕ) (here : h.pc ≡ at + 4 * k) (newer : List ℕ) where
    abbrev Moved : Instr → ℕ → Type 0
    Moved i v = Moves p graph code (Some i) h.pc pending v newer

    abbrev WentTo : ℕ → Type 0
    WentTo v = Went p profile image graph bytes formed at pending r newer v place

    abbrev StandingFor : ℕ → Type 0
    StandingFor v = Standing at pending stacked r newer v place

    same_edge : (v to : ℕ) → v ≡ to → (a : ℕ) → a ≡ at → edge_of place ≡ Some to → Contains graph.lines (Edge a v)
    same_edge v to e a same edge =
        subst (λ (b : ℕ). Contains graph.lines (Edge b v)) (sym same)
        (subst (λ (t : ℕ). Contains graph.lines (Edge at t)) (sym e) (edge_listed p profile image graph bytes formed at place is to edge))

    branched : (op : BranchOp) (rs1 rs2 imm v to : ℕ) → v ≡ to → BranchFact p part (loaded image) at stacked r h place k to → WentTo v → Moved (Branch op rs1 rs2 imm) v
    branched op rs1 rs2 imm v to e (next, inl (over, kept)) went =
        (inl (inr (inl (omega arith))), inner p profile image graph bytes formed at pending r newer v place is (k + 2) (omega arith) (e ∙ over) kept went)
    branched op rs1 rs2 imm v to e (next, inr (inl call, keeps)) went =
        let low = call.low in let high = call.high in let there = call.here in let far = skip_far graph.version in (
          inl (inr (inr (omega arith, omega arith, ap code (e ∙ there) ∙ stands call.word Ecall call.is))),
          keeping p profile image graph bytes formed at pending r newer v place keeps went,
        )
    branched op rs1 rs2 imm v to e (next, inr (inr edge, keeps)) went =
        let first = edge.0 in (inr (same_edge v to e h.pc (omega arith) edge.1), keeping p profile image graph bytes formed at pending r newer v place keeps went)

    jumped : (imm v to : ℕ) → v ≡ to → JumpFact p part (loaded image) at stacked r h place k to → StandingFor v → WentTo v → Moved (Jal 0 imm) v
    jumped imm v to e (inl low) standing went =
        let start = low.0 in let end = low.1 in
        inl (refl, inl (omega arith, omega arith), low_sites p profile image graph bytes formed at pending r newer v (omega arith) place is (sites_of at pending stacked r newer v place standing) went)
    jumped imm v to e (inr (inl first, edge, keeps)) standing went =
        inl (refl, inr (inl (same_edge v to e h.pc (omega arith) edge)), keeping p profile image graph bytes formed at pending r newer v place keeps went)
    jumped imm v to e (inr (inr (second, branch, is, over), edge, keeps)) standing went =
        let before : h.pc - 4 ≡ at + 4 * 0 = omega arith in
        let leads : LeadsOver (code (h.pc - 4)) = subst LeadsOver (sym (ap code before ∙ stands 0 branch is)) over in
        inl (refl, inr (inr (leads, same_edge v to e (h.pc - 4) (omega arith) edge)), keeping p profile image graph bytes formed at pending r newer v place keeps went)

    pub moves : (i : Instr) → Fact p part (loaded image) at stacked r h place k i → (exec p i h s).turn ≡ Ran → StandingFor (exec p i h s).hart.pc →
        WentTo (exec p i h s).hart.pc → Moved i (exec p i h s).hart.pc
    moves (Branch op rs1 rs2 imm) fact ran standing went =
        cond_both (branch_taken op (get_reg h.regs rs1) (get_reg h.regs rs2)) _ _ (λ (a : After). WentTo a.hart.pc → Moved (Branch op rs1 rs2 imm) a.hart.pc)
        (λ taken went. branched op rs1 rs2 imm (wrap (h.pc + offset 13 (imm * 2))) (wrap (at + 4 * k + offset 13 (imm * 2))) (ap (λ a. wrap (a + offset 13 (imm * 2))) here) fact went)
        (λ not_taken went. (inl (inl refl), inner p profile image graph bytes formed at pending r newer (h.pc + 4) place is (k + 1) (omega arith) (omega arith) fact.0 went)) went
    moves (Jal rd imm) (inl fact) ran standing went =
        subst (λ (d : ℕ). Moved (Jal d imm) (wrap (h.pc + offset 21 (imm * 2)))) (sym fact.0)
        (jumped imm (wrap (h.pc + offset 21 (imm * 2))) (wrap (at + 4 * k + offset 21 (imm * 2))) (ap (λ a. wrap (a + offset 21 (imm * 2))) here) fact.1 standing went)
    moves (Jal rd imm) (inr fact) ran standing went =
        let called = call_moves at pending stacked r newer (wrap (h.pc + offset 21 (imm * 2))) part h place is k (wrap (at + 4 * k + offset 21 (imm * 2))) here
        (ap (λ a. wrap (a + offset 21 (imm * 2))) here) fact.1 went in
        inr (fact.0, called.0, called.1)
    moves (Jalr rd rs1 imm) fact ran standing went =
        computed_moves at pending stacked r newer (address h rs1 imm / 2 * 2) part h ordered place is standing k rd (address h rs1 imm / 2 * 2) here refl fact went
    moves (Store op rs1 rs2 imm) fact ran standing went =
        let next = falls p h s (Store op rs1 rs2 imm) refl ran in
        (next, inner p profile image graph bytes formed at pending r newer (exec p (Store op rs1 rs2 imm) h s).hart.pc place is (k + 1) (omega arith) (next ∙ omega arith) fact.0 went)
    moves other fact ran standing went =
        let next = falls p h s other refl ran in
        (next, inner p profile image graph bytes formed at pending r newer (exec p other h s).hart.pc place is (k + 1) (omega arith) (next ∙ omega arith) fact went)
