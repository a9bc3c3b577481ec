-- What the unit of an instruction is where callees save sites, by the kind of its place: it saves no site, and is a gate only of `lui x0`; what
-- may stand in a leaf is a unit that may, and elsewhere none returns unchecked; what ends a piece does not go on; a call leads to its target
-- as a call, and a branch or a jump as an edge.
use Rattle.std.proofs.Common.{◌≡◌, ℕ, inl, inr, Bool, true, false, List, Option, Some, None, refl, sym, ap, ◌∙◌}
use Rattle.std.proofs.lemmas.Bool.{true≢false}
use Rattle.rv_word.proofs.Cases.{cases_Option}
use Rattle.cfi_writer.proofs.Prelude.{GraphVersion, OneLabel, TwoLabels, CalleeSaves, written, Instr, decoded, ItemKind, instr_at, Program, is_end, item_of, has_leaves, ends_before, ends_leaf, is_edge, may_stand, writes_link, is_store, flow_of, word_count, Leaf, goes_on, is_enter, is_right_target, leaf_of, may_be_called, may_be_reached, stands_by, is_link, Group, call_unit, lean_unit_of}
use Rattle.rv_instr.specs.declared.instr.Instr.TheVariants as I
use Rattle.obj_input.specs.declared.item_kind.ItemKind.TheVariants as is
use Rattle.cfi_leads.specs.Leaves as leads
use Rattle.cfi_unit.specs.declared.unit.Unit as U
use Rattle.cfi_unit.specs.declared.unit.Unit.TheVariants as V
use Rattle.cfi_pending.specs.Kinds.{is_gate}
use Rattle.cfi_writer.proofs.InstrAt.{instr_written}

-- graphs with leaves are of version 3
pub lean_version : (version : GraphVersion) → has_leaves version ≡ true → version ≡ CalleeSaves
lean_version OneLabel lean = absurd (cc)
lean_version TwoLabels lean = absurd (cc)
lean_version CalleeSaves lean = refl

same_link : (o : Option ℕ) → leads.is_link o ≡ false → is_link o ≡ false
same_link None none = refl
same_link (Some rd) none = none

-- what leaves x1 alone does at the map
pub link_kept : (program : Program) (gates words : List ℕ) (k : ℕ) (j : Instr) → instr_at program gates words k ≡ Some j →
    writes_link (decoded (item_of program k).word) ≡ false → is_link (written j) ≡ false
unfolding instr_at
link_kept program gates words k j gives quiet =
    elim (cases_Option (decoded (item_of program k).word)) [
      | inl none ↦ let wrong : None ≡ Some j = rw none at gives in absurd (cc)
      | inr (i, e) ↦
          same_link (written j) (ap leads.is_link (instr_written program gates words k i j e gives) ∙ sym (ap writes_link e) ∙ quiet)
    ]

-- a system call's unit saves no site, is no gate, leads nowhere and may stand in a leaf and elsewhere
call_enters_none : (calls : Option (List ℕ)) → is_enter (Some (call_unit calls)) ≡ false
call_enters_none None = refl
call_enters_none (Some numbers) = refl

call_no_gate : (calls : Option (List ℕ)) → is_gate (call_unit calls) ≡ false
call_no_gate None = refl
call_no_gate (Some numbers) = refl

call_stands : (calls : Option (List ℕ)) (o : Option Leaf) → stands_by o (call_unit calls) ≡ true
call_stands None None = refl
call_stands None (Some leaf) = refl
call_stands (Some numbers) None = refl
call_stands (Some numbers) (Some leaf) = refl

-- what ends a piece goes nowhere of itself; so does what may end a leaf
pub ends_both : (kind : ItemKind) → ends_leaf kind ≡ true → ends_before kind ≡ true
ends_both is.Jump ends = refl
ends_both is.Return ends = refl
ends_both other ends = absurd (cc)

pub stores_go_on : (kind : ItemKind) → is_store kind ≡ true → ends_before kind ≡ false
stores_go_on is.Store store = refl
stores_go_on other store = absurd (cc)

pub ends_end : (kind : ItemKind) → ends_before kind ≡ false → is_end kind ≡ false
ends_end is.End on = absurd (cc)
ends_end other on = refl

module _ (calls : Option (List ℕ)) where
  abbrev unit_for : Bool → ItemKind → Instr → Bool → ℕ → ℕ → Group → U.Unit
  unit_for inside kind i whole target label group = lean_unit_of calls inside kind i whole target label group

  pub lean_enters_none : (inside : Bool) (kind : ItemKind) (i : Instr) (whole : Bool) (target label : ℕ) (group : Group) →
      is_enter (Some (unit_for inside kind i whole target label group)) ≡ false
  lean_enters_none inside is.Call i whole target label group = refl
  lean_enters_none true is.Return i whole target label group = refl
  lean_enters_none false is.Return i whole target label group = refl
  lean_enters_none inside is.System I.Ecall whole target label group = call_enters_none calls
  lean_enters_none inside is.Branch (I.Branch op rs1 rs2 imm) true target label group = refl
  lean_enters_none inside is.Branch (I.Branch op rs1 rs2 imm) false target label group = refl
  lean_enters_none inside is.Gate (I.Upper op rd imm) whole target label group = refl
  lean_enters_none inside is.Store (I.Store op rs1 rs2 imm) whole target label group = refl
  lean_enters_none inside is.Ijump (I.Jalr rd rs1 imm) whole target label group = refl
  lean_enters_none inside is.Icall (I.Jalr rd rs1 imm) whole target label group = refl
  lean_enters_none inside kind i whole target label group = refl

  pub lean_gate_kind : (inside : Bool) (kind : ItemKind) (i : Instr) (whole : Bool) (target label : ℕ) (group : Group) →
      is_gate (unit_for inside kind i whole target label group) ≡ true →
      (kind ≡ is.Gate) × (word_count (unit_for inside kind i whole target label group) ≡ 1)
  lean_gate_kind inside is.Gate (I.Upper op rd imm) whole target label group gate = (refl, refl)
  lean_gate_kind inside is.Call i whole target label group gate = absurd (cc)
  lean_gate_kind true is.Return i whole target label group gate = absurd (cc)
  lean_gate_kind false is.Return i whole target label group gate = absurd (cc)
  lean_gate_kind inside is.System I.Ecall whole target label group gate = absurd (true≢false (sym gate ∙ call_no_gate calls))
  lean_gate_kind inside is.Branch (I.Branch op rs1 rs2 imm) true target label group gate = absurd (cc)
  lean_gate_kind inside is.Branch (I.Branch op rs1 rs2 imm) false target label group gate = absurd (cc)
  lean_gate_kind inside is.Store (I.Store op rs1 rs2 imm) whole target label group gate = absurd (cc)
  lean_gate_kind inside is.Ijump (I.Jalr rd rs1 imm) whole target label group gate = absurd (cc)
  lean_gate_kind inside is.Icall (I.Jalr rd rs1 imm) whole target label group gate = absurd (cc)
  lean_gate_kind inside kind i whole target label group gate = absurd (cc)

  -- in a leaf
  plain_stands : (leaf : Leaf) (i : Instr) → is_link (written i) ≡ false → stands_by (Some leaf) (V.Plain i) ≡ true
  plain_stands leaf i quiet = rw quiet refl

  pub lean_stands_inside : (leaf : Leaf) (kind : ItemKind) (i : Instr) (whole : Bool) (target label : ℕ) (group : Group) (own : Option Instr) →
      may_stand kind own ≡ true → (kind ≡ is.Plain → is_link (written i) ≡ false) →
      stands_by (Some leaf) (unit_for true kind i whole target label group) ≡ true
  lean_stands_inside leaf is.Plain i whole target label group own may quiet = plain_stands leaf i (quiet refl)
  lean_stands_inside leaf is.Store (I.Store op rs1 rs2 imm) whole target label group own may quiet = refl
  lean_stands_inside leaf is.System I.Ecall whole target label group own may quiet = call_stands calls (Some leaf)
  lean_stands_inside leaf is.System I.Ebreak whole target label group own may quiet = refl
  lean_stands_inside leaf is.Branch (I.Branch op rs1 rs2 imm) true target label group own may quiet = refl
  lean_stands_inside leaf is.Branch (I.Branch op rs1 rs2 imm) false target label group own may quiet = refl
  lean_stands_inside leaf is.Jump i whole target label group own may quiet = refl
  lean_stands_inside leaf is.Return i whole target label group own may quiet = refl
  lean_stands_inside leaf is.Gate i whole target label group own may quiet = absurd (cc)
  lean_stands_inside leaf is.Call i whole target label group own may quiet = absurd (cc)
  lean_stands_inside leaf is.Ijump i whole target label group own may quiet = absurd (cc)
  lean_stands_inside leaf is.Icall i whole target label group own may quiet = absurd (cc)
  lean_stands_inside leaf is.End i whole target label group own may quiet = absurd (cc)
  lean_stands_inside leaf kind i whole target label group own may quiet = refl

  -- and elsewhere
  pub lean_stands_outside : (kind : ItemKind) (i : Instr) (whole : Bool) (target label : ℕ) (group : Group) →
      stands_by None (unit_for false kind i whole target label group) ≡ true
  lean_stands_outside is.Call i whole target label group = refl
  lean_stands_outside is.System I.Ecall whole target label group = call_stands calls None
  lean_stands_outside is.Branch (I.Branch op rs1 rs2 imm) true target label group = refl
  lean_stands_outside is.Branch (I.Branch op rs1 rs2 imm) false target label group = refl
  lean_stands_outside is.Gate (I.Upper op rd imm) whole target label group = refl
  lean_stands_outside is.Store (I.Store op rs1 rs2 imm) whole target label group = refl
  lean_stands_outside is.Ijump (I.Jalr rd rs1 imm) whole target label group = refl
  lean_stands_outside is.Icall (I.Jalr rd rs1 imm) whole target label group = refl
  lean_stands_outside kind i whole target label group = refl

  pub lean_ends : (inside : Bool) (kind : ItemKind) (i : Instr) (whole : Bool) (target label : ℕ) (group : Group) → ends_before kind ≡ true →
      goes_on (unit_for inside kind i whole target label group) ≡ false
  lean_ends inside is.Jump i whole target label group ends = refl
  lean_ends true is.Return i whole target label group ends = refl
  lean_ends false is.Return i whole target label group ends = refl
  lean_ends inside is.Ijump (I.Jalr rd rs1 imm) whole target label group ends = refl
  lean_ends inside is.Ijump i whole target label group ends = refl
  lean_ends inside is.End i whole target label group ends = refl
  lean_ends inside kind i whole target label group ends = absurd (cc)

  -- where it leads
  module _ (unit_at : ℕ → Option U.Unit) (leaves : List Leaf) (a : ℕ) where
    call_leads : is_right_target unit_at leaves a (flow_of (call_unit calls)).sites (flow_of (call_unit calls)).exit ≡ true
    call_leads = by_calls calls
      where
        by_calls : (o : Option (List ℕ)) → is_right_target unit_at leaves a (flow_of (call_unit o)).sites (flow_of (call_unit o)).exit ≡ true
        by_calls None = refl
        by_calls (Some numbers) = refl

    pub lean_leads : (inside : Bool) (kind : ItemKind) (i : Instr) (whole : Bool) (target label : ℕ) (group : Group) →
        (kind ≡ is.Call → may_be_called unit_at leaves target ≡ true) → (is_edge kind ≡ true → may_be_reached unit_at leaves (leaf_of leaves a) target ≡ true) →
        is_right_target unit_at leaves a (flow_of (unit_for inside kind i whole target label group)).sites (flow_of (unit_for inside kind i whole target label group)).exit ≡ true
    lean_leads inside is.Call i whole target label group called reached = called refl
    lean_leads inside is.Jump i whole target label group called reached = reached refl
    lean_leads inside is.Branch (I.Branch op rs1 rs2 imm) true target label group called reached = reached refl
    lean_leads inside is.Branch (I.Branch op rs1 rs2 imm) false target label group called reached = reached refl
    lean_leads true is.Return i whole target label group called reached = refl
    lean_leads false is.Return i whole target label group called reached = refl
    lean_leads inside is.System I.Ecall whole target label group called reached = call_leads
    lean_leads inside is.Gate (I.Upper op rd imm) whole target label group called reached = refl
    lean_leads inside is.Store (I.Store op rs1 rs2 imm) whole target label group called reached = refl
    lean_leads inside is.Ijump (I.Jalr rd rs1 imm) whole target label group called reached = refl
    lean_leads inside is.Icall (I.Jalr rd rs1 imm) whole target label group called reached = refl
    lean_leads inside kind i whole target label group called reached = refl
