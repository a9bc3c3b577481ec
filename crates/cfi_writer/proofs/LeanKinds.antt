-- Under graphs of version 3 each unit that is written is of its kind: it may stand where it does, the unit behind it is of its kind where it
-- goes on, and so is where it leads.
use Rattle.std.proofs.Common.{◌≡◌, ℕ, zero, suc, ◌+◌, ◌<◌, ◌==◌, inl, inr, Bool, true, false, List, [], ◌∷◌, Option, Some, None, refl, sym, ap, ◌∙◌, arith}
use Rattle.std.specs.Prelude.{if◌then◌else◌, not, slice_get}
use Rattle.std.specs.List.{list_any}
use Rattle.std.proofs.lemmas.Bool.{cases_Bool, eq-eqb, false_from_ne_true, not-true, or_left, or_right, true≢false}
use Rattle.std.proofs.lemmas.Option.{same_Some, slice_get-get_or}
use Rattle.cfi_writer.proofs.Prelude.{written, Instr, decoded, ItemKind, Item, count, is_end, item_of, no_item, is_direct, has_leaves, Entered, aims_at, call_target, if_kind, is_call, is_call_target, is_called, is_entry, edge_target, ends_before, head, in_leaf, is_edge, may_stand, writes_link, aim_of, arrival, arrival_to, entered_in, gate, gate_to, word, words_at, site_label, whole_at, flow_of, IsOfItsKind, Leaf, goes_on, is_fresh, is_right_behind, is_right_target, leaf_of, may_be_called, may_be_reached, stands_by, is_link, IsAccepted, Choice, behind, group_at, instr_of, is_later_at, lean_unit_of, unit_here}
use Rattle.obj_input.specs.declared.item_kind.ItemKind.TheVariants as is
use Rattle.cfi_leads.proofs.Tables.{head_before}
use Rattle.cfi_unit.specs.declared.unit.Unit as U
use Rattle.cfi_pending.specs.Kinds as kinds
use Rattle.cfi_writer.proofs.FreshStarts.{callable, gate_fresh, here_is, lean_here, stands}
use Rattle.cfi_writer.proofs.Grouping.{entered_first, first_behind}
use Rattle.cfi_writer.proofs.LeadKinds.{behind_saved}
use Rattle.cfi_writer.proofs.Leading.{direct, target_is_entered}
use Rattle.cfi_writer.proofs.LeafLines.{leaf_at, leaves_of}
use Rattle.cfi_writer.proofs.LeafStarts.{no_leaf_at, range_has, the_leaf_at, word_from}
use Rattle.cfi_writer.proofs.LeanUnits.{lean_ends, lean_leads, lean_stands_inside, lean_stands_outside, link_kept}
use Rattle.cfi_writer.proofs.NextPlaces.{edge_inside, edge_outside, next_there}
use Rattle.cfi_writer.proofs.Pieces.{stands_there}
use Rattle.cfi_writer.proofs.Standing.{instr_is, no_lead_in_leaf}

-- a call's target is called
called_there : (items : List Item) (k t : ℕ) (item : Item) → slice_get items k ≡ Some item → call_target item ≡ Some t →
    list_any (λ (i : Item). aims_at t (call_target i)) items ≡ true
called_there [] k t item get some = absurd (cc)
called_there (x ∷ items) zero t item get some =
    let same : x ≡ item = same_Some x item get in
    or_left (aims_at t (call_target x)) _ (ap (λ (i : Item). aims_at t (call_target i)) same ∙ ap (aims_at t) some ∙ eq-eqb t t refl)
called_there (x ∷ items) (suc k) t item get some = or_right (aims_at t (call_target x)) _ (called_there items k t item get some)

called_kind : (item : Item) (t : ℕ) → item.kind ≡ is.Call → item.target ≡ Some t → call_target item ≡ Some t
called_kind item t kind some = ap (λ (k : ItemKind). if_kind (is_call k) item.target) kind ∙ some

edge_kind : (item : Item) (t : ℕ) → is_edge item.kind ≡ true → item.target ≡ Some t → edge_target item ≡ Some t
edge_kind item t edge some = ap (λ (b : Bool). if_kind b item.target) edge ∙ some

edge_direct : (kind : ItemKind) → is_edge kind ≡ true → (is_direct kind ≡ true) × (is_call kind ≡ false)
edge_direct is.Branch edge = (refl, refl)
edge_direct is.Jump edge = (refl, refl)
edge_direct other edge = absurd (cc)

call_direct : (kind : ItemKind) → kind ≡ is.Call → (is_direct kind ≡ true) × (is_call kind ≡ true)
call_direct kind e = (ap is_direct e, ap is_call e)

plain_quiet : (kind : ItemKind) (own : Option Instr) → may_stand kind own ≡ true → kind ≡ is.Plain → writes_link own ≡ false
plain_quiet kind own may plain = not-true (writes_link own) (sym (ap (λ (k : ItemKind). may_stand k own) plain) ∙ may)

module _ (m : Choice) (ok : IsAccepted m) (lean : has_leaves m.layout.closed.version ≡ true) where
  abbrev of : Entered
  of = entered_in m.layout

  abbrev kind_at : ℕ → ItemKind
  kind_at k = (item_of m.layout.program k).kind

  -- the unit of a place
  goes_by : (k : ℕ) → goes_on (unit_here m k) ≡ true → ends_before (kind_at k) ≡ false
  goes_by k on =
      false_from_ne_true (ends_before (kind_at k))
      (λ ends.
      true≢false
      (sym on ∙ ap goes_on (here_is m lean k) ∙ lean_ends m.layout.closed.calls (in_leaf of k) (kind_at k) (instr_of m k) (whole_at m.whole k) _ _ (group_at m k) ends))

  aim_call : (k t : ℕ) → kind_at k ≡ is.Call → (item_of m.layout.program k).target ≡ Some t → aim_of m.layout (item_of m.layout.program k) ≡ arrival m.layout t
  aim_call k t kind some =
      ap (λ (b : Bool). if b then arrival_to m.layout (item_of m.layout.program k).target else gate_to m.layout (item_of m.layout.program k).target)
      (call_direct (kind_at k) kind).1
      ∙ ap (arrival_to m.layout) some

  aim_edge : (k t : ℕ) → is_edge (kind_at k) ≡ true → (item_of m.layout.program k).target ≡ Some t → aim_of m.layout (item_of m.layout.program k) ≡ gate m.layout t
  aim_edge k t edge some =
      ap (λ (b : Bool). if b then arrival_to m.layout (item_of m.layout.program k).target else gate_to m.layout (item_of m.layout.program k).target)
      (edge_direct (kind_at k) edge).1
      ∙ ap (gate_to m.layout) some

  called_kinds : (k : ℕ) → k < count m.layout.program → kind_at k ≡ is.Call →
      may_be_called (stands m) (leaves_of m) (aim_of m.layout (item_of m.layout.program k)) ≡ true
  called_kinds k below kind =
      let (t, some, there) = direct m ok k below (call_direct (kind_at k) kind).0 in
      let called : is_called of.program t ≡ true =
      called_there m.layout.program.items k t (item_of m.layout.program k) (slice_get-get_or m.layout.program.items k no_item below)
      (called_kind (item_of m.layout.program k) t kind some) in
      let entry : is_entry of t ≡ true = or_right (t == of.entry) _ (or_left (is_called of.program t) (is_call_target of.closed.sides t) called) in
      ap (may_be_called (stands m) (leaves_of m)) (aim_call k t kind some) ∙ callable m ok lean t there entry

  reached_kinds : (k : ℕ) → k < count m.layout.program → is_edge (kind_at k) ≡ true →
      may_be_reached (stands m) (leaves_of m) (leaf_of (leaves_of m) (word m.layout k)) (aim_of m.layout (item_of m.layout.program k)) ≡ true
  reached_kinds k below edge =
      let (t, some, there) = direct m ok k below (edge_direct (kind_at k) edge).0 in
      let leads = edge_kind (item_of m.layout.program k) t edge some in
      let aim = aim_edge k t edge some in
      elim (cases_Bool (in_leaf of k)) [
        | inl inside ↦
            let before = head_before of k in
            let at : leaf_of (leaves_of m) (word m.layout k) ≡ Some (leaf_at m.layout (head of k)) =
            ap (leaf_of (leaves_of m)) (no_lead_in_leaf m ok k inside) ∙ the_leaf_at m ok lean k below inside in
            ap (λ (o : Option Leaf). may_be_reached (stands m) (leaves_of m) o (aim_of m.layout (item_of m.layout.program k))) at
            ∙ ap (λ (a : ℕ). kinds.in_leaf a (leaf_at m.layout (head of k))) aim
            ∙ range_has m ok (head of k) t (omega arith) inside there (edge_inside m ok k t below leads inside)
        | inr outside ↦
            let at = no_leaf_at m ok lean k (word m.layout k) below outside (word_from m ok k) (omega arith) in
            let first = entered_first m ok.groups t (target_is_entered m k t below some) in
            ap (λ (o : Option Leaf). may_be_reached (stands m) (leaves_of m) o (aim_of m.layout (item_of m.layout.program k))) at
            ∙ ap (λ (a : ℕ). not (is_fresh (stands m) (leaves_of m) a)) aim
            ∙ ap not (gate_fresh m ok lean t there first ∙ edge_outside m ok k t below leads outside)
      ]

  target_kind : (k : ℕ) → k < count m.layout.program →
      is_right_target (stands m) (leaves_of m) (word m.layout k) (flow_of (lean_here m k)).sites (flow_of (lean_here m k)).exit ≡ true
  target_kind k below =
      lean_leads m.layout.closed.calls (stands m) (leaves_of m) (word m.layout k) (in_leaf of k) (kind_at k) (instr_of m k) (whole_at m.whole k) _ _ (group_at m k)
      (called_kinds k below) (reached_kinds k below)

  quiet_there : (k : ℕ) → k < count m.layout.program → in_leaf of k ≡ true → kind_at k ≡ is.Plain → is_link (written (instr_of m k)) ≡ false
  quiet_there k below inside plain =
      let some : is_end (kind_at k) ≡ false = ap is_end plain in
      link_kept m.layout.program m.layout.gates (words_at m.layout) k (instr_of m k) (instr_is m ok k below some)
      (plain_quiet (kind_at k) (decoded (item_of m.layout.program k).word) (stands_there of (head of k) inside k below refl) plain)

  own_inside : (k : ℕ) → k < count m.layout.program → is_later_at m k ≡ false → in_leaf of k ≡ true → IsOfItsKind (stands m) (leaves_of m) (word m.layout k) (unit_here m k)
  own_inside k below first inside =
      let before = head_before of k in
      let at : leaf_of (leaves_of m) (word m.layout k) ≡ Some (leaf_at m.layout (head of k)) =
      ap (leaf_of (leaves_of m)) (no_lead_in_leaf m ok k inside) ∙ the_leaf_at m ok lean k below inside in
      record {
        stands =
            ap (λ (o : Option Leaf). stands_by o (unit_here m k)) at
            ∙ ap (stands_by (Some (leaf_at m.layout (head of k)))) (here_is m lean k)
            ∙ ap (λ (b : Bool).
            stands_by (Some (leaf_at m.layout (head of k)))
            (lean_unit_of m.layout.closed.calls b (kind_at k) (instr_of m k) (whole_at m.whole k) (aim_of m.layout (item_of m.layout.program k))
            (site_label m.labels m.layout.closed.sides k) (group_at m k))) inside
            ∙ lean_stands_inside m.layout.closed.calls (leaf_at m.layout (head of k)) (kind_at k) (instr_of m k) (whole_at m.whole k) _ _ (group_at m k)
            (decoded (item_of m.layout.program k).word) (stands_there of (head of k) inside k below refl) (quiet_there k below inside);
        behind = λ on.
            let next = next_there m ok k below first (goes_by k on) in
            ap (λ (o : Option Leaf). is_right_behind (stands m) (leaves_of m) o (word m.layout k) (unit_here m k)) at
            ∙ ap (λ (a : ℕ). kinds.in_leaf a (leaf_at m.layout (head of k))) next.after
            ∙ range_has m ok (head of k) (k + (behind m k + 1)) (omega arith) inside next.below (next.piece inside);
        target =
            ap (λ (u : U.Unit). is_right_target (stands m) (leaves_of m) (word m.layout k) (flow_of u).sites (flow_of u).exit) (here_is m lean k)
            ∙ target_kind k below;
      }

  own_outside : (k : ℕ) → k < count m.layout.program → is_later_at m k ≡ false → in_leaf of k ≡ false → IsOfItsKind (stands m) (leaves_of m) (word m.layout k) (unit_here m k)
  own_outside k below first outside =
      let at = no_leaf_at m ok lean k (word m.layout k) below outside (word_from m ok k) (omega arith) in
      record {
        stands =
            ap (λ (o : Option Leaf). stands_by o (unit_here m k)) at
            ∙ ap (stands_by None) (here_is m lean k)
            ∙ ap (λ (b : Bool).
            stands_by None
            (lean_unit_of m.layout.closed.calls b (kind_at k) (instr_of m k) (whole_at m.whole k) (aim_of m.layout (item_of m.layout.program k))
            (site_label m.labels m.layout.closed.sides k) (group_at m k))) outside
            ∙ lean_stands_outside m.layout.closed.calls (kind_at k) (instr_of m k) (whole_at m.whole k) _ _ (group_at m k);
        behind = λ on.
            let next = next_there m ok k below first (goes_by k on) in
            behind_saved (stands m) (leaves_of m) (word m.layout k) at (unit_here m k) (gate m.layout (k + (behind m k + 1))) next.after
            (gate_fresh m ok lean (k + (behind m k + 1)) next.below (first_behind m k) ∙ next.kind ∙ outside);
        target =
            ap (λ (u : U.Unit). is_right_target (stands m) (leaves_of m) (word m.layout k) (flow_of u).sites (flow_of u).exit) (here_is m lean k)
            ∙ target_kind k below;
      }

  pub own_kind : (k : ℕ) → k < count m.layout.program → is_later_at m k ≡ false → IsOfItsKind (stands m) (leaves_of m) (word m.layout k) (unit_here m k)
  own_kind k below first =
      elim (cases_Bool (in_leaf of k)) [
        | inl inside ↦ own_inside k below first inside
        | inr outside ↦ own_outside k below first outside
      ]
