-- The unit of a place under each version, from what is computed of it.
use Rattle.std.specs.Prelude.{if◌then◌else◌}
use Rattle.std.proofs.Common.{◌≡◌, ◌⊎◌, inl, inr, ℕ, Bool, true, false, List, Option, Some, None, refl, sym, ap, ◌∙◌}
use Rattle.std.proofs.lemmas.Option.{same_Some}
use Rattle.cfi_writer.proofs.Prelude.{GraphVersion, OneLabel, TwoLabels, CalleeSaves, Instr, ItemKind, Item, is_end, item_of, has_leaves, ClosedGraph, is_call, enters, in_leaf, ProgramAtMap, aim_of, arrival_by, arrival_to, entered_in, gate, gate_to, word, is_short, is_store, site_label, whole_at, Shifts, TargetWord, jump_word, instr_if, Choice, Group, group_at, instr_of, lean_unit_of, mask_at, mask_by, unit_by, unit_here, unit_of}
use Rattle.obj_input.specs.declared.item_kind.ItemKind.TheVariants as is
use Rattle.cfi_unit.specs.declared.unit.Unit as U
use Rattle.cfi_unit.specs.declared.unit.Unit.TheVariants as V
use Rattle.cfi_writer.proofs.GroupLoops.{some_instr}

-- under graphs of versions 1 and 2 a group's mask is one of shifts
pub full_mask : (m : Choice) (k : ℕ) → has_leaves m.layout.closed.version ≡ false → Shifts ≡ mask_at m k
full_mask m k full = by_version m.layout.closed.version (is_short (item_of m.layout.program k)) full
  where
    by_version : (version : GraphVersion) (short : Bool) → has_leaves version ≡ false → Shifts ≡ mask_by version short
    by_version OneLabel short full = refl
    by_version TwoLabels short full = refl
    by_version CalleeSaves short full = absurd (cc)

-- and a direct transfer leads to a gate
pub full_arrival : (version : GraphVersion) (saves : Bool) (at behind : ℕ) → has_leaves version ≡ false → arrival_by version saves at behind ≡ at
full_arrival OneLabel saves at behind full = refl
full_arrival TwoLabels saves at behind full = refl
full_arrival CalleeSaves saves at behind full = absurd (cc)

pub full_arrival_to : (layout : ProgramAtMap) (target : Option ℕ) → has_leaves layout.closed.version ≡ false → arrival_to layout target ≡ gate_to layout target
full_arrival_to layout None full = refl
full_arrival_to layout (Some t) full = full_arrival layout.closed.version (enters (entered_in layout) t) (gate layout t) (word layout t) full

aim_if : (layout : ProgramAtMap) (target : Option ℕ) (call : Bool) → has_leaves layout.closed.version ≡ false →
    (if call then arrival_to layout target else gate_to layout target) ≡ gate_to layout target
aim_if layout target true full = full_arrival_to layout target full
aim_if layout target false full = refl

pub full_aim : (layout : ProgramAtMap) (item : Item) → has_leaves layout.closed.version ≡ false → aim_of layout item ≡ gate_to layout item.target
full_aim layout item full = aim_if layout item.target (is_call item.kind) full

-- at a section's end stands a stop
stop_by : (version : GraphVersion) (calls : Option (List ℕ)) (inside : Bool) (kind : ItemKind) (i : Instr) (whole : Bool) (target label : ℕ) (group : Group) →
    is_end kind ≡ true → V.Stop ≡ unit_by version calls inside kind i whole target label group
stop_by OneLabel calls inside is.End i whole target label group end = refl
stop_by TwoLabels calls inside is.End i whole target label group end = refl
stop_by CalleeSaves calls inside is.End i whole target label group end = refl
stop_by version calls inside other i whole target label group end = absurd (cc)

no_instr : (last : Bool) (i : Instr) → None ≡ (if last then None else Some i) → last ≡ true
no_instr true i none = refl
no_instr false i none = absurd (cc)

pub end_unit : (m : Choice) (k : ℕ) → None ≡ instr_if m k → V.Stop ≡ unit_here m k
end_unit m k none =
    stop_by m.layout.closed.version m.layout.closed.calls (in_leaf (entered_in m.layout) k) (item_of m.layout.program k).kind (instr_of m k)
    (whole_at m.whole k) _ _ (group_at m k) (no_instr (is_end (item_of m.layout.program k).kind) (instr_of m k) none)

stores_by : (version : GraphVersion) (calls : Option (List ℕ)) (inside : Bool) (kind : ItemKind) (i : Instr) (whole : Bool) (target label : ℕ) (group : Group) →
    is_store kind ≡ true →
    unit_of calls is.Store i whole target (jump_word version) label group ≡ unit_by version calls inside kind i whole target label group
stores_by OneLabel calls inside is.Store i whole target label group store = refl
stores_by TwoLabels calls inside is.Store i whole target label group store = refl
stores_by CalleeSaves calls inside is.Store i whole target label group store = refl
stores_by version calls inside other i whole target label group store = absurd (cc)

pub store_unit : (m : Choice) (k : ℕ) (u : U.Unit) (i : Instr) → is_store (item_of m.layout.program k).kind ≡ true → Some i ≡ instr_if m k →
    ((whole : Bool) (target : ℕ) (which : TargetWord) (label : ℕ) → u ≡ unit_of m.layout.closed.calls is.Store i whole target which label (group_at m k)) → u ≡ unit_here m k
store_unit m k u i store there all =
    let item = item_of m.layout.program k in
    let whole = whole_at m.whole k in
    let target = aim_of m.layout item in
    let which = jump_word m.layout.closed.version in
    let label = site_label m.labels m.layout.closed.sides k in
    all whole target which label
    ∙ ap (λ (x : Instr). unit_of m.layout.closed.calls is.Store x whole target which label (group_at m k))
    (same_Some i (instr_of m k) (there ∙ some_instr m k store))
    ∙ stores_by m.layout.closed.version m.layout.closed.calls (in_leaf (entered_in m.layout) k) item.kind (instr_of m k) whole target label (group_at m k) store

-- and so is that of another place, by its parts
instr_there : (last : Bool) (i j : Instr) → Some i ≡ (if last then None else Some j) → i ≡ j
instr_there true i j there = absurd (cc)
instr_there false i j there = same_Some i j there

-- what is computed of a place: its instruction, its kind, its closed graph, whether it has its whole size, and the label that it asks for
pub record AreParts (m : Choice) (k : ℕ) (i : Instr) (kind : ItemKind) (closed : ClosedGraph) (whole : Bool) (label : ℕ) : Type 0 where
  pub instr : Some i ≡ instr_if m k
  pub kind_is : kind ≡ (item_of m.layout.program k).kind
  pub closed_is : closed ≡ m.layout.closed
  pub whole_is : whole ≡ whole_at m.whole k
  pub label_is : label ≡ site_label m.labels m.layout.closed.sides k

full_by : (version : GraphVersion) (calls : Option (List ℕ)) (inside : Bool) (kind : ItemKind) (i : Instr) (whole : Bool) (target label : ℕ) (group : Group) →
    has_leaves version ≡ false →
    unit_of calls kind i whole target (jump_word version) label group ≡ unit_by version calls inside kind i whole target label group
full_by OneLabel calls inside kind i whole target label group full = refl
full_by TwoLabels calls inside kind i whole target label group full = refl
full_by CalleeSaves calls inside kind i whole target label group full = absurd (cc)

lean_by : (version : GraphVersion) (calls : Option (List ℕ)) (inside : Bool) (kind : ItemKind) (i : Instr) (whole : Bool) (target label : ℕ) (group : Group) →
    has_leaves version ≡ true → lean_unit_of calls inside kind i whole target label group ≡ unit_by version calls inside kind i whole target label group
lean_by OneLabel calls inside kind i whole target label group lean = absurd (cc)
lean_by TwoLabels calls inside kind i whole target label group lean = absurd (cc)
lean_by CalleeSaves calls inside kind i whole target label group lean = refl

-- where callees save the sites of calls, units of these kinds are others; those of the other kinds are the same
abbrev pub is_lean_kind : ItemKind → Bool
is_lean_kind is.Call = true
is_lean_kind is.Return = true
is_lean_kind is.Ijump = true
is_lean_kind is.Icall = true
is_lean_kind other = false

pub no_lean_kind : (kind : ItemKind) →
    (kind ≡ is.Gate) ⊎ (kind ≡ is.Plain) ⊎ (kind ≡ is.Store) ⊎ (kind ≡ is.System) ⊎ (kind ≡ is.Branch) ⊎ (kind ≡ is.Jump) ⊎ (kind ≡ is.End) →
    is_lean_kind kind ≡ false
no_lean_kind kind (inl e) = ap is_lean_kind e
no_lean_kind kind (inr (inl e)) = ap is_lean_kind e
no_lean_kind kind (inr (inr (inl e))) = ap is_lean_kind e
no_lean_kind kind (inr (inr (inr (inl e)))) = ap is_lean_kind e
no_lean_kind kind (inr (inr (inr (inr (inl e))))) = ap is_lean_kind e
no_lean_kind kind (inr (inr (inr (inr (inr (inl e)))))) = ap is_lean_kind e
no_lean_kind kind (inr (inr (inr (inr (inr (inr e)))))) = ap is_lean_kind e

same_kind : (calls : Option (List ℕ)) (inside : Bool) (kind : ItemKind) (i : Instr) (whole : Bool) (target label : ℕ) (group : Group) → is_lean_kind kind ≡ false →
    unit_of calls kind i whole target (jump_word CalleeSaves) label group ≡ lean_unit_of calls inside kind i whole target label group
same_kind calls inside is.Call i whole target label group other = absurd (cc)
same_kind calls inside is.Return i whole target label group other = absurd (cc)
same_kind calls inside is.Ijump i whole target label group other = absurd (cc)
same_kind calls inside is.Icall i whole target label group other = absurd (cc)
same_kind calls inside kind i whole target label group other = refl

pub lean_as_full : (version : GraphVersion) (calls : Option (List ℕ)) (inside : Bool) (kind : ItemKind) (i : Instr) (whole : Bool) (target label : ℕ) (group : Group) →
    version ≡ CalleeSaves → is_lean_kind kind ≡ false →
    unit_of calls kind i whole target (jump_word version) label group ≡ lean_unit_of calls inside kind i whole target label group
lean_as_full version calls inside kind i whole target label group lean other =
    ap (λ (v : GraphVersion). unit_of calls kind i whole target (jump_word v) label group) lean ∙ same_kind calls inside kind i whole target label group other

module _ (m : Choice) (k : ℕ) (i : Instr) (kind : ItemKind) (closed : ClosedGraph) (whole : Bool) (label : ℕ) (are : AreParts m k i kind closed whole label) where
  abbrev item : Item
  item = item_of m.layout.program k

  abbrev inside : Bool
  inside = in_leaf (entered_in m.layout) k

  -- a unit that is computed of these parts is that of the parts of the place
  of_parts : (f : ClosedGraph → ItemKind → Instr → Bool → ℕ → U.Unit) →
      f closed kind i whole label ≡ f m.layout.closed item.kind (instr_of m k) (whole_at m.whole k) (site_label m.labels m.layout.closed.sides k)
  of_parts f =
      ap (λ (x : ClosedGraph). f x kind i whole label) are.closed_is
      ∙ ap (λ (x : ItemKind). f m.layout.closed x i whole label) are.kind_is
      ∙ ap (λ (x : Instr). f m.layout.closed item.kind x whole label) (instr_there (is_end item.kind) i (instr_of m k) are.instr)
      ∙ ap (λ (x : Bool). f m.layout.closed item.kind (instr_of m k) x label) are.whole_is
      ∙ ap (λ (x : ℕ). f m.layout.closed item.kind (instr_of m k) (whole_at m.whole k) x) are.label_is

  pub full_unit : (u : U.Unit) (target : ℕ) → has_leaves m.layout.closed.version ≡ false → target ≡ gate_to m.layout item.target →
      u ≡ unit_of closed.calls kind i whole target (jump_word closed.version) label (group_at m k) → u ≡ unit_here m k
  full_unit u target full target_is is =
      is
      ∙ of_parts (λ g x j b l. unit_of g.calls x j b target (jump_word g.version) l (group_at m k))
      ∙ full_by m.layout.closed.version m.layout.closed.calls inside item.kind (instr_of m k) (whole_at m.whole k) target
      (site_label m.labels m.layout.closed.sides k) (group_at m k) full
      ∙ ap (λ (t : ℕ). unit_by m.layout.closed.version m.layout.closed.calls inside item.kind (instr_of m k) (whole_at m.whole k) t
      (site_label m.labels m.layout.closed.sides k) (group_at m k)) (target_is ∙ sym (full_aim m.layout item full))

  pub lean_unit : (u : U.Unit) (in_one : Bool) (target : ℕ) → has_leaves m.layout.closed.version ≡ true → in_one ≡ inside → target ≡ aim_of m.layout item →
      u ≡ lean_unit_of closed.calls in_one kind i whole target label (group_at m k) → u ≡ unit_here m k
  lean_unit u in_one target lean inside_is target_is is =
      is
      ∙ of_parts (λ g x j b l. lean_unit_of g.calls in_one x j b target l (group_at m k))
      ∙ ap (λ (b : Bool). lean_unit_of m.layout.closed.calls b item.kind (instr_of m k) (whole_at m.whole k) target
      (site_label m.labels m.layout.closed.sides k) (group_at m k)) inside_is
      ∙ ap (λ (t : ℕ). lean_unit_of m.layout.closed.calls inside item.kind (instr_of m k) (whole_at m.whole k) t
      (site_label m.labels m.layout.closed.sides k) (group_at m k)) target_is
      ∙ lean_by m.layout.closed.version m.layout.closed.calls inside item.kind (instr_of m k) (whole_at m.whole k) (aim_of m.layout item)
      (site_label m.labels m.layout.closed.sides k) (group_at m k) lean
