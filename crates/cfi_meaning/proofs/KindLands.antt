-- Where callees save sites, by the kind of a place's instruction: what its unit leads to, and the path from there over the words before the
-- unit of the next place. What leaves the pending sites goes to a gate of its kind, in the same leaf if it is in one.
use Rattle.std.proofs.Common.{◌≡◌, ℕ, ◌+◌, ◌*◌, ◌/◌, ◌%◌, ◌^◌, ◌<◌, ◌≤◌, ◌==◌, inl, inr, Bool, true, false, List, [], ◌∷◌, length, Option, Some, None, if◌then◌else◌, refl, sym, ap, subst, ◌∙◌, arith}
use Rattle.std.proofs.lemmas.Bool.{cases_Bool, cases_lt, eq-eqb, false_from_ne_true, or_left, or_right, true≢false}
use Rattle.std.proofs.lemmas.List.Folds.{list_any_at}
use Rattle.cfi_meaning.proofs.Prelude.{GraphVersion, CalleeSaves, Contents, loaded, Registers, get_reg, set_reg, BranchOp, Instr, branch_taken, decoded, Turn, Ran, ItemKind, Item, count, is_end, item_of, no_item, is_direct, suits, has_leaves, SiteKind, is_target, site_kind, Entered, aims_at, call_target, if_kind, is_call, is_call_target, is_called, is_entry, edge_target, ends_before, head, in_leaf, is_edge, is_leaf, may_stand, aim_of, arrival, arrival_to, entered_in, gate, gate_to, word, is_store, site_label, whole_at, HasLabel, MOST_PENDING, Fits, word_count, Own, OwnAfter, own_past, returns, IsTame, ReturnTame, word_asked, Choice, behind, group_at, lean_unit_of, IsImageOf, kind_step, gate_of, is_outside, saved_by, shown_of, at_unit, shown, TamePlace, at_word, holds_store, makes_call}
use Rattle.rv_instr.specs.declared.instr.Instr.TheVariants as I
use Rattle.obj_input.specs.declared.item_kind.ItemKind.TheVariants as is
use Rattle.cfi_graph.specs.declared.line.SiteKind.TheVariants as K
use Rattle.cfi_unit.specs.declared.unit.Unit as U
use Rattle.cfi_unit.specs.declared.unit.Unit.TheVariants as V
use Rattle.cfi_runs.specs.Own.{computed}
use Rattle.cfi_writer.proofs.Entering.{in_leaf_untargeted}
use Rattle.cfi_writer.proofs.Grouping.{none_behind, other_first}
use Rattle.cfi_writer.proofs.Leading.{direct}
use Rattle.cfi_writer.proofs.LeanUnits.{lean_version}
use Rattle.cfi_writer.proofs.NextPlaces.{edge_inside, edge_outside, next_there}
use Rattle.cfi_writer.proofs.Pieces.{stands_there}
use Rattle.cfi_meaning.proofs.LeadRuns.{LeadsTo, arrives, arrives_beyond, lean_is, over_lead, stays_there}
use Rattle.cfi_meaning.proofs.NextPlace.{gate_fits, next_is, past_word}
use Rattle.cfi_meaning.proofs.Places.{place_behind}
use Rattle.cfi_meaning.proofs.ReachedPlaces.{place_reached}
use Rattle.cfi_meaning.proofs.LeanSteps.{keeps_sites, kept_sites, lean_step, lean_words, same_sites}

-- a tame return has a site to go back to, which x1 holds
return_parts : (pending : List ℕ) (r : Registers) → ReturnTame pending r → (site : ℕ) × (rest : List ℕ) × (pending ≡ site ∷ rest) × (r 1 ≡ site)
return_parts [] r tame = absurd tame
return_parts (site ∷ rest) r tame = (site, rest, refl, tame)

-- where x1 leads that holds an instruction's address
linked_there : (r : Registers) (site : ℕ) → r 1 ≡ site → site % 2 ≡ 0 → site < 2 ^ 64 → computed r 1 0 ≡ site
linked_there r site same even small =
    let sum : (r 1 + 0) % 2 ^ 64 ≡ r 1 = omega arith in
    let half : r 1 / 2 * 2 ≡ site = omega arith in
    ap (λ (n : ℕ). n / 2 * 2) sum ∙ half

-- what the unit of a place leads to, and the path from there
pub record Landing (m : Choice) (image : Contents) (k : ℕ) (o goal : Own) (u : U.Unit) : Type 0 where
  pub left : Own
  pub leads : own_past m.layout.profile (at_unit m k o) u (gate m.layout (k + 1)) ≡ record { state = left; turn = Ran }
  pub most : ℕ
  pub lands : LeadsTo m image most left goal
  pub few : word_count u + most ≤ 21

-- where callees save sites
module _ (m : Choice) (image : Contents) (of : IsImageOf m image) (lean : has_leaves m.layout.closed.version ≡ true) (k : ℕ) (o : Own) (now : TamePlace m image k o) where
  abbrev entered : Entered
  entered = entered_in m.layout

  abbrev item : Item
  item = item_of m.layout.program k

  abbrev site : ℕ
  site = gate m.layout (k + 1)

  abbrev label : ℕ
  label = site_label m.labels m.layout.closed.sides k

  -- the sites that are saved there
  abbrev sites : List ℕ
  sites = (shown m k o).pending

  -- the unit and the step of a kind of instruction
  abbrev unit_for : ItemKind → Instr → U.Unit
  unit_for kind i =
      lean_unit_of m.layout.closed.calls (in_leaf entered k) kind i (whole_at m.whole k) (aim_of m.layout item) label (group_at m k)

  abbrev step_for : ItemKind → Instr → OwnAfter
  step_for kind i = kind_step m.layout.profile kind i (gate_to m.layout item.target) site (at_word m k o)

  -- what is known where it goes on
  pub record Goes (kind : ItemKind) (i : Instr) (next : Option ℕ) : Type 0 where
    pub is_kind : item.kind ≡ kind
    pub some : is_end kind ≡ false
    pub other : is_store kind ≡ false
    pub suit : suits kind i ≡ true
    pub fits : Fits (unit_for kind i) (word m.layout k)
    pub tame : IsTame (loaded image) (unit_for kind i) sites o.regs
    pub turn : (step_for kind i).turn ≡ Ran
    pub on : (step_for kind i).state.pc ≡ gate_of m.layout next
    pub outside : kind ≡ is.Return → (j : ℕ) → next ≡ Some j → is_outside m.layout j

  abbrev pub Lands : ItemKind → Instr → Option ℕ → Type 0
  Lands kind i next = Landing m image k o (shown_of m.layout next (step_for kind i).state) (unit_for kind i)

  behind_it : k + 1 < count m.layout.program
  behind_it = place_behind m k of.accepted now.place

  site_fits : (site % 2 ≡ 0) × (site < 2 ^ 64)
  site_fits = gate_fits m of.accepted (Some (k + 1))

  -- no instruction of a kind that may not stand in a leaf is in one
  outside_of : ((instr : Option Instr) → may_stand item.kind instr ≡ false) → in_leaf entered k ≡ false
  outside_of none =
      false_from_ne_true (in_leaf entered k)
      (λ inside. true≢false (sym (stands_there entered (head entered k) inside k now.place.below refl) ∙ none (decoded item.word)))

  sites_are : sites ≡ saved_by CalleeSaves (in_leaf entered k) o.pending
  sites_are = ap (λ (s : Own). s.pending) (lean_is m.layout k o lean)

  sites_outside : in_leaf entered k ≡ false → sites ≡ o.pending
  sites_outside outside = sites_are ∙ ap (λ (b : Bool). saved_by CalleeSaves b o.pending) outside

  -- from the gate of a place of its kind to the state there
  pub alike_lands : (j : ℕ) (last : Own) → j < count m.layout.program → last.pc ≡ gate m.layout j → last.pending ≡ o.pending → in_leaf entered j ≡ in_leaf entered k →
      LeadsTo m image 2 (record last { pending = sites }) (shown_of m.layout (Some j) last)
  alike_lands j last below at same kind =
      let saved : saved_by CalleeSaves (in_leaf entered j) last.pending ≡ sites =
      ap (λ (b : Bool). saved_by CalleeSaves b last.pending) kind ∙ ap (saved_by CalleeSaves (in_leaf entered k)) same ∙ sym sites_are in
      let there : shown_of m.layout (Some j) last ≡ record last { pc = word m.layout j; pending = sites } =
      lean_is m.layout j last lean ∙ ap (λ (l : List ℕ). record last { pc = word m.layout j; pending = l }) saved in
      subst (LeadsTo m image 2 (record last { pending = sites })) (sym there) (over_lead m image of lean j (record last { pending = sites }) below at)

  -- what leaves the pending sites and goes to such a gate
  kept_lands : (kind : ItemKind) (i : Instr) (next : Option ℕ) (j : ℕ) → Goes kind i next → keeps_sites kind ≡ true → is_call kind ≡ false → j < count m.layout.program →
      (step_for kind i).state.pc ≡ gate m.layout j → in_leaf entered j ≡ in_leaf entered k → Lands kind i next
  kept_lands kind i next j now_goes keeps no_call below at alike =
      let last = (step_for kind i).state in
      let aim : aim_of m.layout item ≡ gate_to m.layout item.target =
      ap (λ (b : Bool). if b then arrival_to m.layout item.target else gate_to m.layout item.target) (ap is_call now_goes.is_kind ∙ no_call) in
      let words = lean_words m.layout.closed.calls (in_leaf entered k) kind i (whole_at m.whole k) (aim_of m.layout item) label (group_at m k) (word m.layout k) now_goes.other now_goes.fits in
      let same = same_sites m.layout.profile kind i (gate_to m.layout item.target) site (at_word m k o) keeps in
      record {
        left = record last { pending = sites };
        leads =
            lean_step m.layout.profile m.layout.closed.calls (in_leaf entered k) kind i (whole_at m.whole k) (aim_of m.layout item) label site (group_at m k) (at_unit m k o)
            now_goes.some now_goes.other now_goes.suit keeps
            ∙ ap (λ (a : ℕ). kind_step m.layout.profile kind i a site (at_unit m k o)) aim
            ∙ kept_sites m.layout.profile kind i (gate_to m.layout item.target) site (at_word m k o) sites keeps
            ∙ ap (λ (t : Turn). record { state = record last { pending = sites }; turn = t }) now_goes.turn;
        most = 2;
        lands =
            subst (λ (n : Option ℕ). LeadsTo m image 2 (record last { pending = sites }) (shown_of m.layout n last))
            (sym (next_is m of.accepted next j below (sym now_goes.on ∙ at))) (alike_lands j last below at same alike);
        few = omega arith;
      }

  -- to the next place
  next_lands : (kind : ItemKind) (i : Instr) (next : Option ℕ) → Goes kind i next → keeps_sites kind ≡ true → is_call kind ≡ false → ends_before kind ≡ false →
      (step_for kind i).state.pc ≡ site → Lands kind i next
  next_lands kind i next now_goes keeps no_call goes_on at =
      let other : holds_store m k ≡ false = ap is_store now_goes.is_kind ∙ now_goes.other in
      let there = next_there m of.accepted k now.place.below (other_first m k other) (ap ends_before now_goes.is_kind ∙ goes_on) in
      let none = none_behind m of.accepted.groups k other in
      let one : k + (behind m k + 1) ≡ k + 1 = omega arith in
      kept_lands kind i next (k + 1) now_goes keeps no_call behind_it at (ap (in_leaf entered) (sym one) ∙ there.kind)

  -- to the target of a branch or a jump
  edge_lands : (kind : ItemKind) (i : Instr) (next : Option ℕ) → Goes kind i next → keeps_sites kind ≡ true → is_call kind ≡ false → is_edge kind ≡ true → is_direct kind ≡ true →
      (step_for kind i).state.pc ≡ gate_to m.layout item.target → Lands kind i next
  edge_lands kind i next now_goes keeps no_call edge leads at =
      let (t, some, below) = direct m of.accepted k now.place.below (ap is_direct now_goes.is_kind ∙ leads) in
      let to : edge_target item ≡ Some t = ap (λ (b : Bool). if_kind b item.target) (ap is_edge now_goes.is_kind ∙ edge) ∙ some in
      let alike : in_leaf entered t ≡ in_leaf entered k =
      elim (cases_Bool (in_leaf entered k)) [
        | inl inside ↦ ap (is_leaf entered) (edge_inside m of.accepted k t now.place.below to inside)
        | inr outside ↦ edge_outside m of.accepted k t now.place.below to outside ∙ sym outside
      ] in
      kept_lands kind i next t now_goes keeps no_call below (at ∙ ap (gate_to m.layout) some) alike

  branch_lands : (op : BranchOp) (rs1 rs2 imm : ℕ) (next : Option ℕ) → Goes is.Branch (I.Branch op rs1 rs2 imm) next → Lands is.Branch (I.Branch op rs1 rs2 imm) next
  branch_lands op rs1 rs2 imm next now_goes =
      elim (cases_Bool (branch_taken op (get_reg o.regs rs1) (get_reg o.regs rs2))) [
        | inl taken ↦
            edge_lands is.Branch (I.Branch op rs1 rs2 imm) next now_goes refl refl refl refl
            (ap (λ (b : Bool). if b then gate_to m.layout item.target else site) taken)
        | inr passed ↦
            next_lands is.Branch (I.Branch op rs1 rs2 imm) next now_goes refl refl refl
            (ap (λ (b : Bool). if b then gate_to m.layout item.target else site) passed)
      ]

  -- a computed transfer goes to a target of its class
  abbrev Bears : SiteKind → ℕ → Type 0
  Bears kind a = HasLabel (loaded image) (word_asked m.layout.closed.version kind) label a

  bears : (kind : SiteKind) (a : ℕ) → HasLabel (loaded image) (word_asked CalleeSaves kind) label a → Bears kind a
  bears kind a = subst (λ (v : GraphVersion). HasLabel (loaded image) (word_asked v kind) label a) (sym (lean_version m.layout.closed.version lean))

  target_outside : (t : ℕ) → is_target m.layout.closed.sides t ≡ true → in_leaf entered t ≡ false
  target_outside t target = false_from_ne_true (in_leaf entered t) (λ inside. true≢false (sym target ∙ in_leaf_untargeted entered t inside))

  computed_lands : (rd rs1 imm : ℕ) (next : Option ℕ) → Goes is.Ijump (I.Jalr rd rs1 imm) next → Lands is.Ijump (I.Jalr rd rs1 imm) next
  computed_lands rd rs1 imm next now_goes =
      let there = place_reached m image of k K.Jump (computed o.regs rs1 imm) now.place.below (ap site_kind now_goes.is_kind) (bears K.Jump (computed o.regs rs1 imm) now_goes.tame) in
      let outside = outside_of (λ instr. ap (λ (kind : ItemKind). may_stand kind instr) now_goes.is_kind) in
      kept_lands is.Ijump (I.Jalr rd rs1 imm) next there.place now_goes refl refl there.below (sym there.gate_is) (target_outside there.place there.target ∙ sym outside)

  -- a call comes to its target with its site in x1
  abbrev linked : ℕ → Own
  linked a = record (at_unit m k o) { pc = a; regs = set_reg o.regs 1 site }

  abbrev called : ℕ → List ℕ → Own
  called a pending = record (at_unit m k o) { pc = a; regs = set_reg o.regs 1 site; pending = site ∷ pending }

  call_goal : (t a : ℕ) (next : Option ℕ) → in_leaf entered k ≡ false → t < count m.layout.program → gate m.layout t ≡ a → a ≡ gate_of m.layout next →
      shown_of m.layout (Some t) (called (gate m.layout t) sites) ≡ shown_of m.layout next (called a o.pending)
  call_goal t a next outside below at on =
      let there = next_is m of.accepted next t below (sym on ∙ sym at) in
      ap (λ (l : List ℕ). shown_of m.layout (Some t) (called (gate m.layout t) l)) (sites_outside outside)
      ∙ ap (λ (b : ℕ). shown_of m.layout (Some t) (called b o.pending)) at
      ∙ ap (λ (n : Option ℕ). shown_of m.layout n (called a o.pending)) (sym there)

  room_there : in_leaf entered k ≡ false → length o.pending < MOST_PENDING → length sites < MOST_PENDING
  room_there outside room = subst (λ (l : List ℕ). length l < MOST_PENDING) (sym (sites_outside outside)) room

  call_lands : (i : Instr) (next : Option ℕ) → Goes is.Call i next → length o.pending < MOST_PENDING → Lands is.Call i next
  call_lands i next now_goes room =
      let outside = outside_of (λ instr. ap (λ (kind : ItemKind). may_stand kind instr) now_goes.is_kind) in
      let (t, some, below) = direct m of.accepted k now.place.below (ap is_direct now_goes.is_kind) in
      let aim : aim_of m.layout item ≡ arrival m.layout t =
      ap (λ (b : Bool). if b then arrival_to m.layout item.target else gate_to m.layout item.target) (ap is_call now_goes.is_kind) ∙ ap (arrival_to m.layout) some in
      let to : call_target item ≡ Some t = ap (λ (kind : ItemKind). if_kind (is_call kind) item.target) now_goes.is_kind ∙ some in
      let aims : aims_at t (call_target item) ≡ true = ap (aims_at t) to ∙ eq-eqb t t refl in
      let reached : is_called m.layout.program t ≡ true =
      list_any_at (λ (x : Item). aims_at t (call_target x)) m.layout.program.items k no_item now.place.below aims in
      let entry : is_entry entered t ≡ true =
      or_right (t == m.layout.entry) _ (or_left (is_called m.layout.program t) (is_call_target m.layout.closed.sides t) reached) in
      record {
        left = linked (arrival m.layout t);
        leads = ap (λ (a : ℕ). record { state = linked a; turn = Ran }) aim;
        most = 5;
        lands =
            subst (LeadsTo m image 5 (linked (arrival m.layout t)))
            (call_goal t (gate_to m.layout item.target) next outside below (sym (ap (gate_to m.layout) some)) now_goes.on)
            (arrives m image of lean t (linked (arrival m.layout t)) below (room_there outside room) site_fits.0 site_fits.1 entry refl);
        few = omega arith;
      }

  computed_call_lands : (rd rs1 imm : ℕ) (next : Option ℕ) → Goes is.Icall (I.Jalr rd rs1 imm) next → length o.pending < MOST_PENDING →
      Lands is.Icall (I.Jalr rd rs1 imm) next
  computed_call_lands rd rs1 imm next now_goes room =
      let to = computed o.regs rs1 imm in
      let outside = outside_of (λ instr. ap (λ (kind : ItemKind). may_stand kind instr) now_goes.is_kind) in
      let there = place_reached m image of k K.Call to now.place.below (ap site_kind now_goes.is_kind) (bears K.Call to now_goes.tame) in
      record {
        left = linked (to + 8);
        leads = refl;
        most = 6;
        lands =
            subst (LeadsTo m image 6 (linked (to + 8))) (call_goal there.place to next outside there.below there.gate_is now_goes.on)
            (arrives_beyond m image of lean there.place (linked (to + 8)) there.below (room_there outside room) site_fits.0 site_fits.1 there.target (there.serves refl)
            (ap (λ (a : ℕ). a + 8) (sym there.gate_is)));
        few = omega arith;
      }

  -- a return comes back outside of leaves
  back_lands : (next : Option ℕ) (last : Own) → last.pc ≡ gate_of m.layout next → ((j : ℕ) → next ≡ Some j → in_leaf entered j ≡ false) →
      LeadsTo m image 2 last (shown_of m.layout next last)
  back_lands None last at outside = stays_there m image of 2 last (shown_of m.layout None last) (ap (λ (a : ℕ). record last { pc = a }) (sym at))
  back_lands (Some j) last at outside =
      let there : shown_of m.layout (Some j) last ≡ record last { pc = word m.layout j } =
      lean_is m.layout j last lean ∙ ap (λ (b : Bool). record last { pc = word m.layout j; pending = saved_by CalleeSaves b last.pending }) (outside j refl) in
      elim (cases_lt j (count m.layout.program)) [
        | inl below ↦ subst (LeadsTo m image 2 last) (sym there) (over_lead m image of lean j last below at)
        | inr past ↦
            stays_there m image of 2 last (shown_of m.layout (Some j) last)
            (there ∙ ap (λ (a : ℕ). record last { pc = a }) (past_word m of.accepted j past ∙ sym at))
      ]

  abbrev returned : ℕ → List ℕ → Own
  returned a pending = record (at_unit m k o) { pc = a; pending = pending }

  return_leads : (s : ℕ) (rest : List ℕ) → o.pending ≡ s ∷ rest → o.regs 1 ≡ s → s % 2 ≡ 0 → s < 2 ^ 64 → (i : Instr) →
      own_past m.layout.profile (at_unit m k o) (unit_for is.Return i) site ≡ record { state = returned s rest; turn = Ran }
  return_leads s rest pending held even small i =
      elim (cases_Bool (in_leaf entered k)) [
        | inl inside ↦
            let saved : sites ≡ rest = sites_are ∙ ap (λ (b : Bool). saved_by CalleeSaves b o.pending) inside ∙ ap (saved_by CalleeSaves true) pending in
            ap (λ (b : Bool). own_past m.layout.profile (at_unit m k o) (if b then V.LeafReturn else V.Return) site) inside
            ∙ ap (λ (a : ℕ). record { state = record (at_unit m k o) { pc = a }; turn = Ran }) (linked_there o.regs s held even small)
            ∙ ap (λ (l : List ℕ). record { state = returned s l; turn = Ran }) saved
        | inr outside ↦
            ap (λ (b : Bool). own_past m.layout.profile (at_unit m k o) (if b then V.LeafReturn else V.Return) site) outside
            ∙ ap (λ (l : List ℕ). returns m.layout.profile (at_unit m k o) l) (sites_outside outside ∙ pending)
      ]

  return_lands : (i : Instr) (next : Option ℕ) → Goes is.Return i next → ReturnTame o.pending o.regs → Lands is.Return i next
  return_lands i next now_goes back =
      let (s, rest, pending, held) = return_parts o.pending o.regs back in
      let last : (step_for is.Return i).state ≡ returned s rest =
      ap (λ (l : List ℕ). (returns m.layout.profile (at_word m k o) l).state) pending in
      let at : s ≡ gate_of m.layout next = sym (ap (λ (x : Own). x.pc) last) ∙ now_goes.on in
      let fits = gate_fits m of.accepted next in
      let words = lean_words m.layout.closed.calls (in_leaf entered k) is.Return i (whole_at m.whole k) (aim_of m.layout item) label (group_at m k) (word m.layout k) refl now_goes.fits in
      record {
        left = returned s rest;
        leads =
            return_leads s rest pending held (subst (λ (n : ℕ). n % 2 ≡ 0) (sym at) fits.0) (subst (λ (n : ℕ). n < 2 ^ 64) (sym at) fits.1) i;
        most = 2;
        lands =
            subst (λ (x : Own). LeadsTo m image 2 (returned s rest) (shown_of m.layout next x)) (sym last)
            (back_lands next (returned s rest) at (λ j there. now_goes.outside refl j there lean));
        few = omega arith;
      }

  pub by_kind : (kind : ItemKind) (i : Instr) (next : Option ℕ) → Goes kind i next → Lands kind i next
  by_kind is.Gate i next goes = next_lands is.Gate i next goes refl refl refl refl
  by_kind is.Plain i next goes = next_lands is.Plain i next goes refl refl refl refl
  by_kind is.System i next goes = next_lands is.System i next goes refl refl refl refl
  by_kind is.Branch (I.Branch op rs1 rs2 imm) next goes = branch_lands op rs1 rs2 imm next goes
  by_kind is.Jump i next goes = edge_lands is.Jump i next goes refl refl refl refl refl
  by_kind is.Call i next goes = call_lands i next goes (now.room (ap makes_call goes.is_kind))
  by_kind is.Return i next goes = return_lands i next goes (now.back goes.is_kind)
  by_kind is.Ijump (I.Jalr rd rs1 imm) next goes = computed_lands rd rs1 imm next goes
  by_kind is.Icall (I.Jalr rd rs1 imm) next goes = computed_call_lands rd rs1 imm next goes (now.room (ap makes_call goes.is_kind))
  by_kind kind i next goes = let some = goes.some in let other = goes.other in let suit = goes.suit in absurd (cc)
