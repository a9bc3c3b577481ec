-- Which starts are fresh, under graphs of version 3: the gate and the word of a place with a unit of its own are where the place is in a leaf.
-- Neither is what saves a site, nor a gate directly before that.
use Rattle.std.proofs.Common.{◌≡◌, ℕ, ◌+◌, ◌*◌, ◌<◌, inl, inr, Bool, true, false, List, Option, Some, None, refl, sym, ap, subst, ◌∙◌, arith}
use Rattle.std.specs.Prelude.{◌&&◌, ◌||◌, ◌==◌, not, is_some, slice_get}
use Rattle.std.specs.List.{list_any}
use Rattle.std.proofs.lemmas.Bool.{and_from, and_left, and_right, cases_Bool, eq-eqb, lt-ltb, or_left, or_right}
use Rattle.cfi_writer.proofs.Prelude.{ItemKind, count, is_end, item_of, has_leaves, Entered, is_entry, enters, in_leaf, is_leaf, leaf_end, aim_of, arrival, arrival_by, entered_in, gate, word, is_store, site_label, whole_at, GraphVersion, OneLabel, TwoLabels, CalleeSaves, word_count, begins_at, is_enter, is_fresh, is_gate_there, leaf_of, may_be_called, unit_in, IsAccepted, Choice, group_at, instr_of, is_later_at, lead, lead_unit, lean_unit_of, unit_by, unit_here, units}
use Rattle.obj_input.specs.declared.item_kind.ItemKind.TheVariants as is
use Rattle.cfi_leads.proofs.Ends.{entry_begins}
use Rattle.cfi_leads.proofs.Tables.{head_of_first}
use Rattle.cfi_unit.specs.declared.unit.Unit as U
use Rattle.cfi_unit.specs.declared.unit.Unit.TheVariants as V
use Rattle.cfi_pending.specs.Kinds.{is_gate}
use Rattle.cfi_writer.proofs.Entering.{in_leaf_passed}
use Rattle.cfi_writer.proofs.Grouping.{first_after}
use Rattle.cfi_writer.proofs.LeadWords.{lean_lead}
use Rattle.cfi_writer.proofs.LeafLines.{IsLeafPlace, leaf_at, leaves_of, to_leaf}
use Rattle.cfi_writer.proofs.LeafStarts.{leaf_some, leaf_there, next_below, word_from}
use Rattle.cfi_writer.proofs.LeanUnits.{lean_enters_none, lean_gate_kind, lean_version}
use Rattle.cfi_writer.proofs.LeanWords.{IsLeanWord, before_enter, before_jump, before_unit, jumps_over, lean_word, saves_site}
use Rattle.cfi_writer.proofs.SideLabels.{any_get}
use Rattle.cfi_writer.proofs.Standing.{at_gate, lead_there, next_after, saver_at, unit_there, word_is}
use Rattle.cfi_writer.proofs.Runs.{lead_cases}

lead_saves_none : (o : Option ℕ) → is_enter (Some (lead_unit o)) ≡ false
lead_saves_none None = refl
lead_saves_none (Some label) = refl

-- a first word is none that saves a site
first_saves_none : (us : List U.Unit) (word : ℕ) (u : U.Unit) → IsLeanWord us word 0 u → is_enter (Some u) ≡ false
first_saves_none us word u (before_unit o same words) = ap (λ (v : U.Unit). is_enter (Some v)) same ∙ lead_saves_none o
first_saves_none us word u (before_jump o same next) = ap (λ (v : U.Unit). is_enter (Some v)) same ∙ lead_saves_none o
first_saves_none us word u (jumps_over same) = ap (λ (v : U.Unit). is_enter (Some v)) same
first_saves_none us word u (before_enter label same behind next) = absurd (omega arith)
first_saves_none us word u (saves_site same behind words) = absurd (omega arith)

gate_goes_on : (kind : ItemKind) → kind ≡ is.Gate → (is_store kind ≡ false) × (is_end kind ≡ false)
gate_goes_on kind e = (ap is_store e, ap is_end e)

pub arrives_by : (version : GraphVersion) (saves : Bool) (from at : ℕ) → has_leaves version ≡ true → saves ≡ false → arrival_by version saves from at ≡ at
arrives_by OneLabel saves from at lean none = absurd (cc)
arrives_by TwoLabels saves from at lean none = absurd (cc)
arrives_by CalleeSaves saves from at lean none = rw none refl

-- what stands at an address
abbrev pub stands : Choice → ℕ → Option U.Unit
stands m = unit_in (units m) m.layout.profile.units_from

-- the unit of a place, where callees save sites
abbrev pub lean_here : Choice → ℕ → U.Unit
lean_here m k =
    lean_unit_of m.layout.closed.calls (in_leaf (entered_in m.layout) k) (item_of m.layout.program k).kind (instr_of m k) (whole_at m.whole k)
    (aim_of m.layout (item_of m.layout.program k)) (site_label m.labels m.layout.closed.sides k) (group_at m k)

pub here_is : (m : Choice) → has_leaves m.layout.closed.version ≡ true → (k : ℕ) → unit_here m k ≡ lean_here m k
here_is m lean k =
    ap (λ (v : GraphVersion).
    unit_by v m.layout.closed.calls (in_leaf (entered_in m.layout) k) (item_of m.layout.program k).kind (instr_of m k) (whole_at m.whole k)
    (aim_of m.layout (item_of m.layout.program k)) (site_label m.labels m.layout.closed.sides k) (group_at m k))
    (lean_version m.layout.closed.version lean)

module _ (m : Choice) (ok : IsAccepted m) (lean : has_leaves m.layout.closed.version ≡ true) where
  abbrev of : Entered
  of = entered_in m.layout

  own_saves_none : (k : ℕ) → is_enter (Some (unit_here m k)) ≡ false
  own_saves_none k =
      ap (λ (u : U.Unit). is_enter (Some u)) (here_is m lean k)
      ∙ lean_enters_none m.layout.closed.calls (in_leaf of k) (item_of m.layout.program k).kind (instr_of m k) (whole_at m.whole k) _ _ (group_at m k)

  -- a word before it
  pub word_there : (k j : ℕ) (u : U.Unit) → slice_get (lead m k) j ≡ Some u → IsLeanWord (lead m k) (word m.layout k) j u
  word_there k j u get =
      let shape = lean_lead m ok lean k in
      subst (λ (us : List U.Unit). IsLeanWord us (word m.layout k) j u) (sym shape.lead_is)
      (lean_word (word m.layout k) shape.jumps _ (enters of k) shape.calls j u (sym (ap (λ (us : List U.Unit). slice_get us j) shape.lead_is) ∙ get))

  -- neither saves a site at a place's word or gate
  word_saves_none : (n : ℕ) → n < count m.layout.program → is_later_at m n ≡ false → is_enter (stands m (word m.layout n)) ≡ false
  word_saves_none n below first = ap is_enter (unit_there m ok n below first) ∙ own_saves_none n

  gate_saves_none : (n : ℕ) → n < count m.layout.program → is_later_at m n ≡ false → is_enter (stands m (gate m.layout n)) ≡ false
  gate_saves_none n below first =
      elim (lead_cases m n) [
        | inl none ↦ ap (λ (a : ℕ). is_enter (stands m a)) (sym (at_gate m ok n none)) ∙ word_saves_none n below first
        | inr (u, some) ↦
            let start : gate m.layout n ≡ gate m.layout n + 4 * 0 = omega arith in
            ap (λ (a : ℕ). is_enter (stands m a)) start ∙ ap is_enter (lead_there m ok n 0 u below some)
            ∙ first_saves_none (lead m n) (word m.layout n) u (word_there n 0 u some)
      ]

  -- nor does a gate there stand directly before what saves one
  before_none : (a : ℕ) → is_enter (stands m (a + 4)) ≡ false → (is_gate_there (stands m a) && is_enter (stands m (a + 4))) ≡ false
  before_none a none = and_right (is_gate_there (stands m a)) (is_enter (stands m (a + 4))) none

  word_before_none : (n : ℕ) → n < count m.layout.program → is_later_at m n ≡ false →
      (is_gate_there (stands m (word m.layout n)) && is_enter (stands m (word m.layout n + 4))) ≡ false
  word_before_none n below first =
      elim (cases_Bool (is_gate (unit_here m n))) [
        | inr other ↦ and_left (is_gate_there (stands m (word m.layout n))) _ (ap is_gate_there (unit_there m ok n below first) ∙ other)
        | inl gated ↦
            let (kind, size) = lean_gate_kind m.layout.closed.calls (in_leaf of n) (item_of m.layout.program n).kind (instr_of m n) (whole_at m.whole n) _ _ (group_at m n)
            (sym (ap is_gate (here_is m lean n)) ∙ gated) in
            let (store, ends) = gate_goes_on (item_of m.layout.program n).kind kind in
            let more = next_below m ok n below ends in
            let one : word_count (unit_here m n) ≡ 1 = ap word_count (here_is m lean n) ∙ size in
            let next = next_after m ok n store more in
            let at : word m.layout n + 4 ≡ gate m.layout (n + 1) = omega arith in
            before_none (word m.layout n) (ap (λ (a : ℕ). is_enter (stands m a)) at ∙ gate_saves_none (n + 1) more (first_after m ok.groups n store))
      ]

  first_before_none : (n : ℕ) (u : U.Unit) → n < count m.layout.program → is_later_at m n ≡ false → slice_get (lead m n) 0 ≡ Some u →
      IsLeanWord (lead m n) (word m.layout n) 0 u → (is_gate_there (stands m (gate m.layout n)) && is_enter (stands m (gate m.layout n + 4))) ≡ false
  first_before_none n u below first some (before_unit o same words) =
      let behind = word_is m ok n in
      let at : gate m.layout n + 4 ≡ word m.layout n = omega arith in
      before_none (gate m.layout n) (ap (λ (a : ℕ). is_enter (stands m a)) at ∙ word_saves_none n below first)
  first_before_none n u below first some (before_jump o same next) =
      let at : gate m.layout n + 4 ≡ gate m.layout n + 4 * (0 + 1) = omega arith in
      before_none (gate m.layout n) (ap (λ (a : ℕ). is_enter (stands m a)) at ∙ ap is_enter (lead_there m ok n (0 + 1) (V.Jump (word m.layout n)) below next))
  first_before_none n u below first some (jumps_over same) =
      let start : gate m.layout n ≡ gate m.layout n + 4 * 0 = omega arith in
      let there = ap (stands m) start ∙ lead_there m ok n 0 u below some in
      and_left (is_gate_there (stands m (gate m.layout n))) _ (ap is_gate_there there ∙ ap is_gate same)
  first_before_none n u below first some (before_enter label same behind next) = absurd (omega arith)
  first_before_none n u below first some (saves_site same behind words) = absurd (omega arith)

  gate_before_none : (n : ℕ) → n < count m.layout.program → is_later_at m n ≡ false →
      (is_gate_there (stands m (gate m.layout n)) && is_enter (stands m (gate m.layout n + 4))) ≡ false
  gate_before_none n below first =
      elim (lead_cases m n) [
        | inl none ↦
            ap (λ (a : ℕ). is_gate_there (stands m a) && is_enter (stands m (a + 4))) (sym (at_gate m ok n none)) ∙ word_before_none n below first
        | inr (u, some) ↦ first_before_none n u below first some (word_there n 0 u some)
      ]

  -- so a start there is fresh in a leaf alone
  or_none : (a b c : Bool) → b ≡ false → c ≡ false → (a || (b || c)) ≡ a
  or_none true b c no_enter no_gate = refl
  or_none false b c no_enter no_gate = rw no_enter no_gate

  pub fresh_if : (a : ℕ) → is_enter (stands m a) ≡ false → (is_gate_there (stands m a) && is_enter (stands m (a + 4))) ≡ false →
      is_fresh (stands m) (leaves_of m) a ≡ is_some (leaf_of (leaves_of m) a)
  fresh_if a enter gated = or_none (is_some (leaf_of (leaves_of m) a)) (is_enter (stands m a)) (is_gate_there (stands m a) && is_enter (stands m (a + 4))) enter gated

  pub word_fresh : (n : ℕ) → n < count m.layout.program → is_later_at m n ≡ false → is_fresh (stands m) (leaves_of m) (word m.layout n) ≡ in_leaf of n
  word_fresh n below first =
      fresh_if (word m.layout n) (word_saves_none n below first) (word_before_none n below first)
      ∙ leaf_there m ok lean n (word m.layout n) below (word_from m ok n) (omega arith)

  pub gate_fresh : (n : ℕ) → n < count m.layout.program → is_later_at m n ≡ false → is_fresh (stands m) (leaves_of m) (gate m.layout n) ≡ in_leaf of n
  gate_fresh n below first =
      fresh_if (gate m.layout n) (gate_saves_none n below first) (gate_before_none n below first)
      ∙ leaf_there m ok lean n (gate m.layout n) below (omega arith) (word_from m ok n)

  -- what calls may reach is called: its leaf, or what saves a site before it
  pub callable : (t : ℕ) → t < count m.layout.program → is_entry of t ≡ true → may_be_called (stands m) (leaves_of m) (arrival m.layout t) ≡ true
  callable t below entry =
      elim (cases_Bool (is_leaf of t)) [
        | inl leaf ↦
            let inside : in_leaf of t ≡ true = ap (is_leaf of) (head_of_first of t (entry_begins of t entry)) ∙ leaf in
            let at : arrival m.layout t ≡ word m.layout t =
            arrives_by m.layout.closed.version (enters of t) (gate m.layout t) (word m.layout t) lean (in_leaf_passed of t inside) in
            let place : IsLeafPlace m.layout t = record { lean = lean; below = below; leaf = leaf } in
            let (i, get) = to_leaf m t place in
            let some = leaf_some m ok t below leaf in
            let begins : begins_at (word m.layout t) (leaf_at m.layout t) ≡ true =
            and_from (word m.layout t == word m.layout t) _ (eq-eqb (word m.layout t) (word m.layout t) refl)
            (lt-ltb (word m.layout t) (gate m.layout (leaf_end of t)) some) in
            or_right (is_enter (stands m (arrival m.layout t))) (list_any (begins_at (arrival m.layout t)) (leaves_of m))
            (ap (λ (a : ℕ). list_any (begins_at a) (leaves_of m)) at ∙ any_get (begins_at (word m.layout t)) (leaves_of m) i (leaf_at m.layout t) get begins)
        | inr other ↦
            let saves : enters of t ≡ true = and_from (is_entry of t) (not (is_leaf of t)) entry (ap not other) in
            or_left (is_enter (stands m (arrival m.layout t))) (list_any (begins_at (arrival m.layout t)) (leaves_of m))
            (ap is_enter (saver_at m ok t below lean saves))
      ]
