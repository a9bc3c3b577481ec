-- The units that are written for a program at a map: at each place its unit, behind the words before it; the stores of a group have one
-- unit, at the place of the first. Under graphs of versions 1 and 2 a target has a word for each side of the closed graph before its unit.
-- Under version 3 calls leave their site in x1, a place that is entered by calls has before its unit what saves it, and leaves return by
-- x1 alone.
use Rattle.std.specs.Prelude.{ℕ, zero, suc, ◌+◌, ◌-◌, Bool, true, false, Option, Some, None, if◌then◌else◌, List, [], ◌∷◌, ◌++◌, map, not}
use Rattle.std.specs.List.{filter, range_with_len}
use Rattle.rv_image.specs.declared.version.GraphVersion.{GraphVersion}
use Rattle.rv_image.specs.declared.version.GraphVersion.TheVariants.{OneLabel, TwoLabels, CalleeSaves}
use Rattle.rv_instr.specs.declared.instr.BranchOp.{BranchOp}
use Rattle.rv_instr.specs.declared.instr.BranchOp.TheVariants.{Beq, Bne, Blt, Bge, Bltu, Bgeu}
use Rattle.rv_instr.specs.declared.instr.ImmediateOp.TheVariants.{Addi}
use Rattle.rv_instr.specs.declared.instr.Instr.{Instr}
use Rattle.rv_instr.specs.declared.instr.Instr.TheVariants as I
use Rattle.obj_input.specs.declared.item_kind.ItemKind.{ItemKind}
use Rattle.obj_input.specs.declared.item_kind.ItemKind.TheVariants as is
use Rattle.obj_program.specs.declared.item.Item.{Item}
use Rattle.obj_program.specs.Program.{count, item_of}
use Rattle.cfi_leads.specs.Leads.{enters}
use Rattle.cfi_leads.specs.Leaves.{in_leaf}
use Rattle.cfi_map.specs.GraphAtMap.{ProgramAtMap, aim_of, arrival, entered_in, word}
use Rattle.cfi_map.specs.Groups.{Bounds, bounds_in, is_later, is_short}
use Rattle.cfi_map.specs.LabelOf.{labels_of, site_label}
use Rattle.cfi_map.specs.Placement.{whole_at}
use Rattle.cfi_map.specs.Source.{instr_here}
use Rattle.cfi_closed.specs.Closed.{is_target}
use Rattle.cfi_unit.specs.declared.mask.Mask.{Mask}
use Rattle.cfi_unit.specs.declared.mask.Mask.TheVariants.{Shifts, Short, Long}
use Rattle.cfi_unit.specs.declared.members.Member.{Member}
use Rattle.cfi_unit.specs.declared.target_word.TargetWord.{TargetWord}
use Rattle.cfi_unit.specs.declared.unit.Unit as U
use Rattle.cfi_unit.specs.declared.unit.Unit.TheVariants as V
use Rattle.cfi_unit.specs.declared.unit.SystemOp.TheVariants as S
use Rattle.cfi_unit.specs.Members.{FILLER}
use Rattle.cfi_rules.specs.Lines.{jump_word}
use Rattle.cfi_runs.specs.Distances.{field, level, lowest}
use Rattle.cfi_runs.specs.GroupStores.{members_from}

-- a program at a map with what is chosen for it: which units have their whole size, and the labels of all classes
pub record Choice : Type 0 where
  pub layout : ProgramAtMap
  pub whole : List Bool
  pub labels : List ℕ

-- the instruction of a place at the map
abbrev pub instr_of : Choice → ℕ → Instr
instr_of m k = instr_here m.layout k

-- the condition that holds where another does not
abbrev pub inverse : BranchOp → BranchOp
inverse Beq = Bne
inverse Bne = Beq
inverse Blt = Bge
inverse Bge = Blt
inverse Bltu = Bgeu
inverse Bgeu = Bltu

-- a long branch leads over a jump where its condition does not hold
abbrev pub branch_of : Bool → BranchOp → ℕ → ℕ → ℕ → U.Unit
branch_of true op rs1 rs2 target = V.Branch (inverse op) rs1 rs2 target
branch_of false op rs1 rs2 target = V.Near op rs1 rs2 target

-- what bounds its groups of stores, and which places hold a later store of one
abbrev pub bounds_at : Choice → Bounds
bounds_at m = bounds_in (entered_in m.layout)

abbrev pub is_later_at : Choice → ℕ → Bool
is_later_at m k = is_later (item_of m.layout.program) (whole_at m.whole) k

-- how many of so many places from one on are later stores, up to the first that is none
unfoldable pub followers : Choice → ℕ → ℕ → ℕ
followers m k zero = 0
followers m k (suc n) = if is_later_at m k then suc (followers m (k + 1) n) else 0

abbrev pub later_from : Choice → ℕ → ℕ
later_from m k = followers m k (count m.layout.program - k)

-- how many stores stand behind the one of a place in its group
abbrev pub behind : Choice → ℕ → ℕ
behind m k = later_from m (k + 1)

-- the field of a store's offset at the map
abbrev pub offset_of : Instr → ℕ
offset_of (I.Store op rs1 rs2 imm) = imm
offset_of other = 0

abbrev pub offset_at : Choice → ℕ → ℕ
offset_at m k = offset_of (instr_of m k)

-- the store of a place as a member of its unit, behind a mask for an offset of this level
abbrev pub member_for : ℕ → Instr → Member
member_for low (I.Store op rs1 rs2 imm) = record { op = op; value = rs2; distance = level imm - low }
member_for low other = FILLER

abbrev pub member_at : Choice → ℕ → ℕ → Member
member_at m low k = member_for low (instr_of m k)

-- the stores of a group: how they are masked, for which offset, and what each member is
pub record Group : Type 0 where
  pub mask : Mask
  pub offset : ℕ
  pub members : List Member

-- how the group is masked that begins with this store
abbrev pub mask_by : GraphVersion → Bool → Mask
mask_by OneLabel short = Shifts
mask_by TwoLabels short = Shifts
mask_by CalleeSaves short = if short then Short else Long

abbrev pub mask_at : Choice → ℕ → Mask
mask_at m k = mask_by m.layout.closed.version (is_short (item_of m.layout.program k))

-- the level of the mask's offset: that of the least one in the group that begins at a place; behind a short mask that of 0
abbrev pub least_at : Choice → ℕ → ℕ
least_at m k = lowest (λ (j : ℕ). level (offset_at m j)) k (behind m k)

abbrev pub low_by : Mask → ℕ → ℕ
low_by Short least = level 0
low_by other least = least

abbrev pub low_at : Choice → ℕ → ℕ
low_at m k = low_by (mask_at m k) (least_at m k)

abbrev pub group_at : Choice → ℕ → Group
group_at m k =
    record { mask = mask_at m k; offset = field (low_at m k); members = members_from (member_at m (low_at m k)) k (suc (behind m k)) }

-- the unit of an `ecall`: under a list of system calls its number is tested
abbrev pub call_unit : Option (List ℕ) → U.Unit
call_unit None = V.System S.Ecall
call_unit (Some calls) = V.Guarded calls

-- the unit of an instruction of a kind under a list of system calls or none, with where it leads, and, of a computed transfer, its
-- class's label and the word that a jump's check reads; of a store, the unit of its group
abbrev pub unit_of : Option (List ℕ) → ItemKind → Instr → Bool → ℕ → TargetWord → ℕ → Group → U.Unit
unit_of calls is.Gate (I.Upper op rd imm) whole target which label group = V.Gate imm
unit_of calls is.Plain instr whole target which label group = V.Plain instr
unit_of calls is.Store (I.Store op rs1 rs2 imm) whole target which label group = V.Stores group.mask rs1 group.offset group.members
unit_of calls is.System I.Ecall whole target which label group = call_unit calls
unit_of calls is.System I.Ebreak whole target which label group = V.System S.Ebreak
unit_of calls is.Branch (I.Branch op rs1 rs2 imm) whole target which label group = branch_of whole op rs1 rs2 target
unit_of calls is.Jump instr whole target which label group = V.Jump target
unit_of calls is.Call instr whole target which label group = V.Call target
unit_of calls is.Return instr whole target which label group = V.Return
unit_of calls is.Ijump (I.Jalr rd rs1 imm) whole target which label group = V.Ijump which rs1 imm label
unit_of calls is.Icall (I.Jalr rd rs1 imm) whole target which label group = V.Icall rs1 imm label
unit_of calls kind instr whole target which label group = V.Stop

-- where callees save the sites of calls, in a leaf or in none
abbrev pub lean_unit_of : Option (List ℕ) → Bool → ItemKind → Instr → Bool → ℕ → ℕ → Group → U.Unit
lean_unit_of calls inside is.Call instr whole target label group = V.LinkCall target
lean_unit_of calls inside is.Return instr whole target label group = if inside then V.LeafReturn else V.Return
lean_unit_of calls inside is.Ijump (I.Jalr rd rs1 imm) whole target label group = V.LeanIjump rs1 imm label
lean_unit_of calls inside is.Icall (I.Jalr rd rs1 imm) whole target label group = V.LeanIcall rs1 imm label
lean_unit_of calls inside kind instr whole target label group = unit_of calls kind instr whole target (jump_word CalleeSaves) label group

abbrev pub unit_by : GraphVersion → Option (List ℕ) → Bool → ItemKind → Instr → Bool → ℕ → ℕ → Group → U.Unit
unit_by OneLabel calls inside kind instr whole target label group = unit_of calls kind instr whole target (jump_word OneLabel) label group
unit_by TwoLabels calls inside kind instr whole target label group = unit_of calls kind instr whole target (jump_word TwoLabels) label group
unit_by CalleeSaves calls inside kind instr whole target label group = lean_unit_of calls inside kind instr whole target label group

-- the unit of a place
abbrev pub unit_for : Choice → ℕ → Item → U.Unit
unit_for m k item =
    unit_by m.layout.closed.version m.layout.closed.calls (in_leaf (entered_in m.layout) k) item.kind (instr_of m k) (whole_at m.whole k)
    (aim_of m.layout item) (site_label m.labels m.layout.closed.sides k) (group_at m k)

abbrev pub unit_here : Choice → ℕ → U.Unit
unit_here m k = unit_for m k (item_of m.layout.program k)

-- a word of a target before its unit: a gate word with the label of the class that it is of, or what does nothing
abbrev pub lead_unit : Option ℕ → U.Unit
lead_unit None = V.Plain (I.Immediate Addi 0 0 0)
lead_unit (Some label) = V.Gate label

-- the words before a place's unit, one for each side where it is a target
abbrev pub lead_of_sides : Bool → List (Option ℕ) → List U.Unit
lead_of_sides target labels = if target then map lead_unit labels else []

-- under version 3 by its label among computed calls and that among computed jumps: one for jumps where it is a target; and where calls
-- enter it, a jump to the unit, the gate of computed calls if they may arrive, and what saves a site
abbrev pub gate_unit : Option ℕ → List U.Unit
gate_unit None = []
gate_unit (Some label) = V.Gate label ∷ []

abbrev pub lead_of_entry : Bool → Bool → ℕ → List (Option ℕ) → List U.Unit
lead_of_entry target saves word (calls ∷ jumps ∷ []) =
    (if target then lead_unit jumps ∷ [] else []) ++ (if saves then V.Jump word ∷ (gate_unit calls ++ V.Enter ∷ []) else [])
lead_of_entry target saves word labels = []

abbrev pub lead_by : GraphVersion → Bool → Bool → ℕ → List (Option ℕ) → List U.Unit
lead_by OneLabel target saves word labels = lead_of_sides target labels
lead_by TwoLabels target saves word labels = lead_of_sides target labels
lead_by CalleeSaves target saves word labels = lead_of_entry target saves word labels

abbrev pub lead : Choice → ℕ → List U.Unit
lead m k =
    lead_by m.layout.closed.version (is_target m.layout.closed.sides k) (enters (entered_in m.layout) k) (word m.layout k)
    (labels_of m.labels m.layout.closed.sides k)

-- the units of these places, each behind the words before it
unfoldable pub units_of : Choice → List ℕ → List U.Unit
units_of m [] = []
units_of m (k ∷ places) = lead m k ++ (unit_here m k ∷ units_of m places)

-- of so many places from one on those that have a unit of their own: all but those of later stores
abbrev pub unit_places : Choice → ℕ → ℕ → List ℕ
unit_places m k n = filter (λ j. not (is_later_at m j)) (range_with_len k n)

abbrev pub units : Choice → List U.Unit
units m = units_of m (unit_places m 0 (count m.layout.program))

-- where the opening's call enters the program
abbrev pub entry_arrival : Choice → ℕ
entry_arrival m = arrival m.layout m.layout.entry
