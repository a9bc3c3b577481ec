-- The unit of an instruction that is of its kind: its size, its line, where it leads. What holds of the units of graphs of versions 1
-- and 2 is said first, then what holds where callees save the sites of calls, and then what holds under each version.
use Rattle.std.proofs.Common.{◌≡◌, ℕ, suc, ◌+◌, ◌*◌, Bool, true, false, List, length, Option, Some, None, refl, sym, ap, ◌∙◌, arith}
use Rattle.std.specs.Prelude.{◌&&◌, ◌||◌, not}
use Rattle.std.proofs.lemmas.Bool.{and_from}
use Rattle.std.proofs.lemmas.Option.{same_Some}
use Rattle.cfi_writer.proofs.Prelude.{GraphVersion, OneLabel, TwoLabels, CalleeSaves, UpperOp, Instr, ItemKind, Item, is_end, is_direct, names_reserved, suits, has_leaves, SiteKind, line_of_kind, is_short, is_store, call_size, is_ecall, is_ecall_instr, kind_size, lean_size, size_by, site_kind, Mask, Shifts, TargetWord, First, Second, Third, flow_of, mask_words, word_count, stands_in, jump_word, line_of, admits, asks, gate_of, is_of_version, may_call, same_word, site_of, test_is_of_version, target_of, Asks, word_asked, Group, call_unit, inverse, lean_unit_of, mask_by, unit_by, unit_of}
use Rattle.rv_word.proofs.SameNumbers.{same_itself}
use Rattle.rv_instr.specs.declared.instr.Instr.TheVariants as I
use Rattle.obj_input.specs.declared.item_kind.ItemKind.TheVariants as is
use Rattle.cfi_graph.specs.declared.line.SiteKind.TheVariants as K
use Rattle.cfi_unit.specs.declared.place.Place.TheVariants.{Body as body}
use Rattle.cfi_unit.specs.declared.unit.Unit as U
use Rattle.cfi_unit.specs.declared.unit.Unit.TheVariants as V
use Rattle.cfi_unit.specs.declared.unit.SystemOp.TheVariants as S

-- what is known of the instruction of a place: it is of the place's kind and names no reserved register, or the place is an end
abbrev pub is_right : ItemKind → Instr → Bool
is_right kind i = is_end kind || (suits kind i && not (names_reserved i))

-- the unit of an `ecall` has the size that there is for it
call_words : (calls : Option (List ℕ)) → call_size calls ≡ 4 * word_count (call_unit calls)
call_words None = refl
call_words (Some numbers) = omega arith

-- it has the size of its kind; a store's with the words of n stores that follow it
of_size : (calls : Option (List ℕ)) (kind : ItemKind) (i : Instr) (ecall whole : Bool) (target : ℕ) (which : TargetWord) (label : ℕ) (group : Group) (n : ℕ) →
    is_right kind i ≡ true → (kind ≡ is.System → ecall ≡ is_ecall_instr (Some i)) →
    (is_store kind ≡ true → (whole ≡ true) × (length group.members ≡ suc n)) → group.mask ≡ Shifts → (is_store kind ≡ false → n ≡ 0) →
    kind_size calls kind ecall whole + 4 * n ≡ 4 * word_count (unit_of calls kind i whole target which label group)
of_size calls is.Store (I.Store op rs1 rs2 imm) ecall whole target which label group n right told store shifts other =
    let (is_whole, many) = store refl in
    let three : mask_words group.mask ≡ 3 = ap mask_words shifts in
    rw is_whole (omega arith)
of_size calls is.Gate (I.Upper op rd imm) ecall whole target which label group n right told store shifts other = let none = other refl in omega arith
of_size calls is.Plain i ecall whole target which label group n right told store shifts other = let none = other refl in omega arith
of_size calls is.System I.Ecall ecall whole target which label group n right told store shifts other =
    let none = other refl in
    let size = call_words calls in
    let is : ecall ≡ true = told refl in
    rw is (omega arith)
of_size calls is.System I.Ebreak ecall whole target which label group n right told store shifts other =
    let none = other refl in
    let is : ecall ≡ false = told refl in
    rw is (omega arith)
of_size calls is.Branch (I.Branch op rs1 rs2 imm) ecall true target which label group n right told store shifts other = let none = other refl in omega arith
of_size calls is.Branch (I.Branch op rs1 rs2 imm) ecall false target which label group n right told store shifts other = let none = other refl in omega arith
of_size calls is.Jump i ecall whole target which label group n right told store shifts other = let none = other refl in omega arith
of_size calls is.Call i ecall whole target which label group n right told store shifts other = let none = other refl in omega arith
of_size calls is.Return i ecall whole target which label group n right told store shifts other = let none = other refl in omega arith
of_size calls is.Ijump (I.Jalr rd rs1 imm) ecall whole target which label group n right told store shifts other = let none = other refl in omega arith
of_size calls is.Icall (I.Jalr rd rs1 imm) ecall whole target which label group n right told store shifts other = let none = other refl in omega arith
of_size calls is.End i ecall whole target which label group n right told store shifts other = let none = other refl in omega arith
of_size calls kind i ecall whole target which label group n right told store shifts other = absurd (cc)

lean_sized : (calls : Option (List ℕ)) (inside : Bool) (kind : ItemKind) (i : Instr) (ecall short whole : Bool) (target label : ℕ) (group : Group) (n : ℕ) →
    is_right kind i ≡ true → (kind ≡ is.System → ecall ≡ is_ecall_instr (Some i)) →
    (is_store kind ≡ true → (whole ≡ true) × (length group.members ≡ suc n)) → group.mask ≡ mask_by CalleeSaves short → (is_store kind ≡ false → n ≡ 0) →
    lean_size calls kind ecall short inside whole + 4 * n ≡ 4 * word_count (lean_unit_of calls inside kind i whole target label group)
lean_sized calls inside is.Store (I.Store op rs1 rs2 imm) ecall true whole target label group n right told store masks other =
    let (is_whole, many) = store refl in
    let words : mask_words group.mask ≡ 1 = ap mask_words masks in
    rw is_whole (omega arith)
lean_sized calls inside is.Store (I.Store op rs1 rs2 imm) ecall false whole target label group n right told store masks other =
    let (is_whole, many) = store refl in
    let words : mask_words group.mask ≡ 2 = ap mask_words masks in
    rw is_whole (omega arith)
lean_sized calls inside is.Gate (I.Upper op rd imm) ecall short whole target label group n right told store masks other = let none = other refl in omega arith
lean_sized calls inside is.Plain i ecall short whole target label group n right told store masks other = let none = other refl in omega arith
lean_sized calls inside is.System I.Ecall ecall short whole target label group n right told store masks other =
    let none = other refl in
    let size = call_words calls in
    let is : ecall ≡ true = told refl in
    rw is (omega arith)
lean_sized calls inside is.System I.Ebreak ecall short whole target label group n right told store masks other =
    let none = other refl in
    let is : ecall ≡ false = told refl in
    rw is (omega arith)
lean_sized calls inside is.Branch (I.Branch op rs1 rs2 imm) ecall short true target label group n right told store masks other = let none = other refl in omega arith
lean_sized calls inside is.Branch (I.Branch op rs1 rs2 imm) ecall short false target label group n right told store masks other = let none = other refl in omega arith
lean_sized calls inside is.Jump i ecall short whole target label group n right told store masks other = let none = other refl in omega arith
lean_sized calls inside is.Call i ecall short whole target label group n right told store masks other = let none = other refl in omega arith
lean_sized calls true is.Return i ecall short whole target label group n right told store masks other = let none = other refl in omega arith
lean_sized calls false is.Return i ecall short whole target label group n right told store masks other = let none = other refl in omega arith
lean_sized calls inside is.Ijump (I.Jalr rd rs1 imm) ecall short whole target label group n right told store masks other = let none = other refl in omega arith
lean_sized calls inside is.Icall (I.Jalr rd rs1 imm) ecall short whole target label group n right told store masks other = let none = other refl in omega arith
lean_sized calls inside is.End i ecall short whole target label group n right told store masks other = let none = other refl in omega arith
lean_sized calls inside kind i ecall short whole target label group n right told store masks other = absurd (cc)

pub unit_size : (version : GraphVersion) (calls : Option (List ℕ)) (inside : Bool) (item : Item) (i : Instr) (whole : Bool) (target label : ℕ) (group : Group) (n : ℕ) →
    is_right item.kind i ≡ true → (item.kind ≡ is.System → is_ecall item ≡ is_ecall_instr (Some i)) →
    (is_store item.kind ≡ true → (whole ≡ true) × (length group.members ≡ suc n)) → group.mask ≡ mask_by version (is_short item) → (is_store item.kind ≡ false → n ≡ 0) →
    size_by version calls inside item whole + 4 * n ≡ 4 * word_count (unit_by version calls inside item.kind i whole target label group)
unit_size OneLabel calls inside item i whole target label group n right told store masks other =
    of_size calls item.kind i (is_ecall item) whole target (jump_word OneLabel) label group n right told store masks other
unit_size TwoLabels calls inside item i whole target label group n right told store masks other =
    of_size calls item.kind i (is_ecall item) whole target (jump_word TwoLabels) label group n right told store masks other
unit_size CalleeSaves calls inside item i whole target label group n right told store masks other =
    lean_sized calls inside item.kind i (is_ecall item) (is_short item) whole target label group n right told store masks other

call_line : (calls : Option (List ℕ)) (at : ℕ) → line_of at (call_unit calls) ≡ None
call_line None at = refl
call_line (Some numbers) at = refl

call_target : (calls : Option (List ℕ)) → target_of (call_unit calls) ≡ None
call_target None = refl
call_target (Some numbers) = refl

call_site : (calls : Option (List ℕ)) → site_of (body (call_unit calls)) ≡ None
call_site None = refl
call_site (Some numbers) = refl

call_gate : (calls : Option (List ℕ)) → gate_of (call_unit calls) ≡ None
call_gate None = refl
call_gate (Some numbers) = refl

-- and the line of its kind
of_line : (calls : Option (List ℕ)) (kind : ItemKind) (i : Instr) (whole : Bool) (at target : ℕ) (which : TargetWord) (label : ℕ) (group : Group) →
    is_right kind i ≡ true →
    line_of at (unit_of calls kind i whole target which label group) ≡ line_of_kind kind at target label
of_line calls is.Gate (I.Upper op rd imm) whole at target which label group right = refl
of_line calls is.Plain i whole at target which label group right = refl
of_line calls is.Store (I.Store op rs1 rs2 imm) whole at target which label group right = refl
of_line calls is.System I.Ecall whole at target which label group right = call_line calls at
of_line calls is.System I.Ebreak whole at target which label group right = refl
of_line calls is.Branch (I.Branch op rs1 rs2 imm) true at target which label group right = refl
of_line calls is.Branch (I.Branch op rs1 rs2 imm) false at target which label group right = refl
of_line calls is.Jump i whole at target which label group right = refl
of_line calls is.Call i whole at target which label group right = refl
of_line calls is.Return i whole at target which label group right = refl
of_line calls is.Ijump (I.Jalr rd rs1 imm) whole at target which label group right = refl
of_line calls is.Icall (I.Jalr rd rs1 imm) whole at target which label group right = refl
of_line calls is.End i whole at target which label group right = refl
of_line calls kind i whole at target which label group right = absurd (cc)

lean_line : (calls : Option (List ℕ)) (inside : Bool) (kind : ItemKind) (i : Instr) (whole : Bool) (at target label : ℕ) (group : Group) → is_right kind i ≡ true →
    line_of at (lean_unit_of calls inside kind i whole target label group) ≡ line_of_kind kind at target label
lean_line calls inside is.Call i whole at target label group right = refl
lean_line calls true is.Return i whole at target label group right = refl
lean_line calls false is.Return i whole at target label group right = refl
lean_line calls inside is.Ijump (I.Jalr rd rs1 imm) whole at target label group right = refl
lean_line calls inside is.Icall (I.Jalr rd rs1 imm) whole at target label group right = refl
lean_line calls inside kind i whole at target label group right = of_line calls kind i whole at target (jump_word CalleeSaves) label group right

pub unit_line : (version : GraphVersion) (calls : Option (List ℕ)) (inside : Bool) (kind : ItemKind) (i : Instr) (whole : Bool) (at target label : ℕ) (group : Group) →
    is_right kind i ≡ true → line_of at (unit_by version calls inside kind i whole target label group) ≡ line_of_kind kind at target label
unit_line OneLabel calls inside kind i whole at target label group right = of_line calls kind i whole at target (jump_word OneLabel) label group right
unit_line TwoLabels calls inside kind i whole at target label group right = of_line calls kind i whole at target (jump_word TwoLabels) label group right
unit_line CalleeSaves calls inside kind i whole at target label group right = lean_line calls inside kind i whole at target label group right

-- it leads to its target, where its kind has one
of_target : (calls : Option (List ℕ)) (kind : ItemKind) (i : Instr) (whole : Bool) (target : ℕ) (which : TargetWord) (label : ℕ) (group : Group) (t : ℕ) →
    is_right kind i ≡ true →
    target_of (unit_of calls kind i whole target which label group) ≡ Some t → (is_direct kind ≡ true) × (target ≡ t)
of_target calls is.Branch (I.Branch op rs1 rs2 imm) true target which label group t right e = (refl, cc)
of_target calls is.Branch (I.Branch op rs1 rs2 imm) false target which label group t right e = (refl, cc)
of_target calls is.Jump i whole target which label group t right e = (refl, cc)
of_target calls is.Call i whole target which label group t right e = (refl, cc)
of_target calls is.Gate (I.Upper op rd imm) whole target which label group t right e = absurd (cc)
of_target calls is.Plain i whole target which label group t right e = absurd (cc)
of_target calls is.Store (I.Store op rs1 rs2 imm) whole target which label group t right e = absurd (cc)
of_target calls is.System I.Ecall whole target which label group t right e = let none = call_target calls in absurd (cc)
of_target calls is.System I.Ebreak whole target which label group t right e = absurd (cc)
of_target calls is.Return i whole target which label group t right e = absurd (cc)
of_target calls is.Ijump (I.Jalr rd rs1 imm) whole target which label group t right e = absurd (cc)
of_target calls is.Icall (I.Jalr rd rs1 imm) whole target which label group t right e = absurd (cc)
of_target calls is.End i whole target which label group t right e = absurd (cc)
of_target calls kind i whole target which label group t right e = absurd (cc)

lean_target : (calls : Option (List ℕ)) (inside : Bool) (kind : ItemKind) (i : Instr) (whole : Bool) (target label : ℕ) (group : Group) (t : ℕ) →
    is_right kind i ≡ true →
    target_of (lean_unit_of calls inside kind i whole target label group) ≡ Some t → (is_direct kind ≡ true) × (target ≡ t)
lean_target calls inside is.Call i whole target label group t right e = (refl, cc)
lean_target calls true is.Return i whole target label group t right e = absurd (cc)
lean_target calls false is.Return i whole target label group t right e = absurd (cc)
lean_target calls inside is.Ijump (I.Jalr rd rs1 imm) whole target label group t right e = absurd (cc)
lean_target calls inside is.Icall (I.Jalr rd rs1 imm) whole target label group t right e = absurd (cc)
lean_target calls inside kind i whole target label group t right e = of_target calls kind i whole target (jump_word CalleeSaves) label group t right e

pub unit_target : (version : GraphVersion) (calls : Option (List ℕ)) (inside : Bool) (kind : ItemKind) (i : Instr) (whole : Bool) (target label : ℕ) (group : Group) (t : ℕ) →
    is_right kind i ≡ true → target_of (unit_by version calls inside kind i whole target label group) ≡ Some t → (is_direct kind ≡ true) × (target ≡ t)
unit_target OneLabel calls inside kind i whole target label group t right e = of_target calls kind i whole target (jump_word OneLabel) label group t right e
unit_target TwoLabels calls inside kind i whole target label group t right e = of_target calls kind i whole target (jump_word TwoLabels) label group t right e
unit_target CalleeSaves calls inside kind i whole target label group t right e = lean_target calls inside kind i whole target label group t right e

-- it asks for its label, where its kind is a computed transfer's
abbrev read_by : TargetWord → SiteKind → TargetWord
read_by which K.Call = First
read_by which K.Jump = which

of_site : (calls : Option (List ℕ)) (kind : ItemKind) (i : Instr) (whole : Bool) (target : ℕ) (which : TargetWord) (label : ℕ) (group : Group) (asked : Asks) →
    is_right kind i ≡ true →
    site_of (body (unit_of calls kind i whole target which label group)) ≡ Some asked → (site : SiteKind) × (site_kind kind ≡ Some site) × (asks site (read_by which site) label ≡ asked)
of_site calls is.Ijump (I.Jalr rd rs1 imm) whole target which label group asked right e = (K.Jump, refl, same_Some (asks K.Jump which label) asked e)
of_site calls is.Icall (I.Jalr rd rs1 imm) whole target which label group asked right e = (K.Call, refl, same_Some (asks K.Call First label) asked e)
of_site calls is.Branch (I.Branch op rs1 rs2 imm) true target which label group asked right e = absurd (cc)
of_site calls is.Branch (I.Branch op rs1 rs2 imm) false target which label group asked right e = absurd (cc)
of_site calls is.Jump i whole target which label group asked right e = absurd (cc)
of_site calls is.Call i whole target which label group asked right e = absurd (cc)
of_site calls is.Gate (I.Upper op rd imm) whole target which label group asked right e = absurd (cc)
of_site calls is.Plain i whole target which label group asked right e = absurd (cc)
of_site calls is.Store (I.Store op rs1 rs2 imm) whole target which label group asked right e = absurd (cc)
of_site calls is.System I.Ecall whole target which label group asked right e = let none = call_site calls in absurd (cc)
of_site calls is.System I.Ebreak whole target which label group asked right e = absurd (cc)
of_site calls is.Return i whole target which label group asked right e = absurd (cc)
of_site calls is.End i whole target which label group asked right e = absurd (cc)
of_site calls kind i whole target which label group asked right e = absurd (cc)

-- which is the word that is asked for
read_asked : (version : GraphVersion) (site : SiteKind) → has_leaves version ≡ false → read_by (jump_word version) site ≡ word_asked version site
read_asked OneLabel K.Call full = refl
read_asked OneLabel K.Jump full = refl
read_asked TwoLabels K.Call full = refl
read_asked TwoLabels K.Jump full = refl
read_asked CalleeSaves site full = absurd (cc)

full_site : (version : GraphVersion) (calls : Option (List ℕ)) (kind : ItemKind) (i : Instr) (whole : Bool) (target label : ℕ) (group : Group) (asked : Asks) →
    has_leaves version ≡ false → is_right kind i ≡ true → site_of (body (unit_of calls kind i whole target (jump_word version) label group)) ≡ Some asked →
    (site : SiteKind) × (site_kind kind ≡ Some site) × (asks site (word_asked version site) label ≡ asked)
full_site version calls kind i whole target label group asked full right e =
    let (site, some, same) = of_site calls kind i whole target (jump_word version) label group asked right e in
    (site, some, ap (λ (which : TargetWord). asks site which label) (sym (read_asked version site full)) ∙ same)

lean_site : (calls : Option (List ℕ)) (inside : Bool) (kind : ItemKind) (i : Instr) (whole : Bool) (target label : ℕ) (group : Group) (asked : Asks) →
    is_right kind i ≡ true →
    site_of (body (lean_unit_of calls inside kind i whole target label group)) ≡ Some asked →
    (site : SiteKind) × (site_kind kind ≡ Some site) × (asks site (word_asked CalleeSaves site) label ≡ asked)
lean_site calls inside is.Ijump (I.Jalr rd rs1 imm) whole target label group asked right e = (K.Jump, refl, same_Some (asks K.Jump First label) asked e)
lean_site calls inside is.Icall (I.Jalr rd rs1 imm) whole target label group asked right e = (K.Call, refl, same_Some (asks K.Call Third label) asked e)
lean_site calls inside is.Branch (I.Branch op rs1 rs2 imm) true target label group asked right e = absurd (cc)
lean_site calls inside is.Branch (I.Branch op rs1 rs2 imm) false target label group asked right e = absurd (cc)
lean_site calls inside is.Jump i whole target label group asked right e = absurd (cc)
lean_site calls inside is.Call i whole target label group asked right e = absurd (cc)
lean_site calls inside is.Gate (I.Upper op rd imm) whole target label group asked right e = absurd (cc)
lean_site calls inside is.Plain i whole target label group asked right e = absurd (cc)
lean_site calls inside is.Store (I.Store op rs1 rs2 imm) whole target label group asked right e = absurd (cc)
lean_site calls inside is.System I.Ecall whole target label group asked right e = let none = call_site calls in absurd (cc)
lean_site calls inside is.System I.Ebreak whole target label group asked right e = absurd (cc)
lean_site calls true is.Return i whole target label group asked right e = absurd (cc)
lean_site calls false is.Return i whole target label group asked right e = absurd (cc)
lean_site calls inside is.End i whole target label group asked right e = absurd (cc)
lean_site calls inside kind i whole target label group asked right e = absurd (cc)

pub unit_site : (version : GraphVersion) (calls : Option (List ℕ)) (inside : Bool) (kind : ItemKind) (i : Instr) (whole : Bool) (target label : ℕ) (group : Group) (asked : Asks) →
    is_right kind i ≡ true → site_of (body (unit_by version calls inside kind i whole target label group)) ≡ Some asked →
    (site : SiteKind) × (site_kind kind ≡ Some site) × (asks site (word_asked version site) label ≡ asked)
unit_site OneLabel calls inside kind i whole target label group asked right e = full_site OneLabel calls kind i whole target label group asked refl right e
unit_site TwoLabels calls inside kind i whole target label group asked right e = full_site TwoLabels calls kind i whole target label group asked refl right e
unit_site CalleeSaves calls inside kind i whole target label group asked right e = lean_site calls inside kind i whole target label group asked right e

-- a gate word is that of `lui x0`
of_gate : (calls : Option (List ℕ)) (kind : ItemKind) (i : Instr) (whole : Bool) (target : ℕ) (which : TargetWord) (label : ℕ) (group : Group) (l : ℕ) →
    is_right kind i ≡ true →
    unit_of calls kind i whole target which label group ≡ V.Gate l → (kind ≡ is.Gate) × ((op : UpperOp) × (rd : ℕ) × (i ≡ I.Upper op rd l))
of_gate calls is.Gate (I.Upper op rd imm) whole target which label group l right e = (refl, (op, rd, let same : imm ≡ l = cc in ap (I.Upper op rd) same))
of_gate calls is.Ijump (I.Jalr rd rs1 imm) whole target which label group l right e = absurd (cc)
of_gate calls is.Icall (I.Jalr rd rs1 imm) whole target which label group l right e = absurd (cc)
of_gate calls is.Branch (I.Branch op rs1 rs2 imm) true target which label group l right e = absurd (cc)
of_gate calls is.Branch (I.Branch op rs1 rs2 imm) false target which label group l right e = absurd (cc)
of_gate calls is.Jump i whole target which label group l right e = absurd (cc)
of_gate calls is.Call i whole target which label group l right e = absurd (cc)
of_gate calls is.Plain i whole target which label group l right e = absurd (cc)
of_gate calls is.Store (I.Store op rs1 rs2 imm) whole target which label group l right e = absurd (cc)
of_gate calls is.System I.Ecall whole target which label group l right e =
    let wrong : None ≡ Some l = sym (call_gate calls) ∙ ap gate_of e in
    absurd (cc)
of_gate calls is.System I.Ebreak whole target which label group l right e = absurd (cc)
of_gate calls is.Return i whole target which label group l right e = absurd (cc)
of_gate calls is.End i whole target which label group l right e = absurd (cc)
of_gate calls kind i whole target which label group l right e = absurd (cc)

lean_gate : (calls : Option (List ℕ)) (inside : Bool) (kind : ItemKind) (i : Instr) (whole : Bool) (target label : ℕ) (group : Group) (l : ℕ) →
    is_right kind i ≡ true →
    lean_unit_of calls inside kind i whole target label group ≡ V.Gate l → (kind ≡ is.Gate) × ((op : UpperOp) × (rd : ℕ) × (i ≡ I.Upper op rd l))
lean_gate calls inside is.Call i whole target label group l right e = absurd (cc)
lean_gate calls true is.Return i whole target label group l right e = absurd (cc)
lean_gate calls false is.Return i whole target label group l right e = absurd (cc)
lean_gate calls inside is.Ijump (I.Jalr rd rs1 imm) whole target label group l right e = absurd (cc)
lean_gate calls inside is.Icall (I.Jalr rd rs1 imm) whole target label group l right e = absurd (cc)
lean_gate calls inside kind i whole target label group l right e = of_gate calls kind i whole target (jump_word CalleeSaves) label group l right e

pub unit_gate : (version : GraphVersion) (calls : Option (List ℕ)) (inside : Bool) (kind : ItemKind) (i : Instr) (whole : Bool) (target label : ℕ) (group : Group) (l : ℕ) →
    is_right kind i ≡ true → unit_by version calls inside kind i whole target label group ≡ V.Gate l →
    (kind ≡ is.Gate) × ((op : UpperOp) × (rd : ℕ) × (i ≡ I.Upper op rd l))
unit_gate OneLabel calls inside kind i whole target label group l right e = of_gate calls kind i whole target (jump_word OneLabel) label group l right e
unit_gate TwoLabels calls inside kind i whole target label group l right e = of_gate calls kind i whole target (jump_word TwoLabels) label group l right e
unit_gate CalleeSaves calls inside kind i whole target label group l right e = lean_gate calls inside kind i whole target label group l right e

-- it is of the version whose jumps read that word
same_read : (which : TargetWord) → same_word which which ≡ true
same_read First = refl
same_read Second = refl
same_read Third = refl

of_version : (version : GraphVersion) (unit : U.Unit) → stands_in (has_leaves version) unit ≡ true →
    test_is_of_version version (flow_of unit).test (flow_of unit).sites ≡ true → is_of_version version unit ≡ true
of_version version unit stands reads =
    and_from (stands_in (has_leaves version) unit) (test_is_of_version version (flow_of unit).test (flow_of unit).sites) stands reads

-- and what is no system call may stand with any list
pub is_free : (version : GraphVersion) (calls : Option (List ℕ)) (unit : U.Unit) → may_call None unit ≡ true → ((numbers : List ℕ) → may_call (Some numbers) unit ≡ true) →
    stands_in (has_leaves version) unit ≡ true → test_is_of_version version (flow_of unit).test (flow_of unit).sites ≡ true → admits version calls unit ≡ true
is_free version None unit none some stands reads = and_from (is_of_version version unit) (may_call None unit) (of_version version unit stands reads) none
is_free version (Some numbers) unit none some stands reads =
    and_from (is_of_version version unit) (may_call (Some numbers) unit) (of_version version unit stands reads) (some numbers)

call_admitted : (version : GraphVersion) (calls : Option (List ℕ)) → admits version calls (call_unit calls) ≡ true
call_admitted OneLabel None = refl
call_admitted TwoLabels None = refl
call_admitted CalleeSaves None = refl
call_admitted OneLabel (Some numbers) = same_itself numbers
call_admitted TwoLabels (Some numbers) = same_itself numbers
call_admitted CalleeSaves (Some numbers) = same_itself numbers

-- stores stand where their mask is of the version
masks_stand : (version : GraphVersion) (short : Bool) (mask : Mask) (rs1 imm : ℕ) (group : Group) → mask ≡ mask_by version short →
    stands_in (has_leaves version) (V.Stores mask rs1 imm group.members) ≡ true
masks_stand OneLabel short mask rs1 imm group masks = ap (λ (how : Mask). stands_in false (V.Stores how rs1 imm group.members)) masks
masks_stand TwoLabels short mask rs1 imm group masks = ap (λ (how : Mask). stands_in false (V.Stores how rs1 imm group.members)) masks
masks_stand CalleeSaves true mask rs1 imm group masks = ap (λ (how : Mask). stands_in true (V.Stores how rs1 imm group.members)) masks
masks_stand CalleeSaves false mask rs1 imm group masks = ap (λ (how : Mask). stands_in true (V.Stores how rs1 imm group.members)) masks

full_admitted : (version : GraphVersion) (calls : Option (List ℕ)) (kind : ItemKind) (i : Instr) (whole : Bool) (target label : ℕ) (group : Group) (short : Bool) →
    has_leaves version ≡ false →
    is_right kind i ≡ true → group.mask ≡ mask_by version short → admits version calls (unit_of calls kind i whole target (jump_word version) label group) ≡ true
full_admitted version calls is.Ijump (I.Jalr rd rs1 imm) whole target label group short full right masks =
    is_free version calls (V.Ijump (jump_word version) rs1 imm label) refl (λ numbers. refl)
    (ap (λ (saves : Bool). stands_in saves (V.Ijump (jump_word version) rs1 imm label)) full) (same_read (jump_word version))
full_admitted version calls is.Icall (I.Jalr rd rs1 imm) whole target label group short full right masks =
    is_free version calls (V.Icall rs1 imm label) refl (λ numbers. refl) (ap (λ (saves : Bool). stands_in saves (V.Icall rs1 imm label)) full) refl
full_admitted version calls is.Branch (I.Branch op rs1 rs2 imm) true target label group short full right masks =
    is_free version calls (V.Branch (inverse op) rs1 rs2 target) refl (λ numbers. refl) (ap (λ (saves : Bool). stands_in saves (V.Branch (inverse op) rs1 rs2 target)) full) refl
full_admitted version calls is.Branch (I.Branch op rs1 rs2 imm) false target label group short full right masks =
    is_free version calls (V.Near op rs1 rs2 target) refl (λ numbers. refl) (ap (λ (saves : Bool). stands_in saves (V.Near op rs1 rs2 target)) full) refl
full_admitted version calls is.Jump i whole target label group short full right masks =
    is_free version calls (V.Jump target) refl (λ numbers. refl) (ap (λ (saves : Bool). stands_in saves (V.Jump target)) full) refl
full_admitted version calls is.Call i whole target label group short full right masks =
    is_free version calls (V.Call target) refl (λ numbers. refl) (ap (λ (saves : Bool). stands_in saves (V.Call target)) full) refl
full_admitted version calls is.Gate (I.Upper op rd imm) whole target label group short full right masks =
    is_free version calls (V.Gate imm) refl (λ numbers. refl) (ap (λ (saves : Bool). stands_in saves (V.Gate imm)) full) refl
full_admitted version calls is.Plain i whole target label group short full right masks =
    is_free version calls (V.Plain i) refl (λ numbers. refl) (ap (λ (saves : Bool). stands_in saves (V.Plain i)) full) refl
full_admitted version calls is.Store (I.Store op rs1 rs2 imm) whole target label group short full right masks =
    is_free version calls (V.Stores group.mask rs1 group.offset group.members) refl (λ numbers. refl) (masks_stand version short group.mask rs1 group.offset group masks) refl
full_admitted version calls is.System I.Ecall whole target label group short full right masks = call_admitted version calls
full_admitted version calls is.System I.Ebreak whole target label group short full right masks =
    is_free version calls (V.System S.Ebreak) refl (λ numbers. refl) (ap (λ (saves : Bool). stands_in saves (V.System S.Ebreak)) full) refl
full_admitted version calls is.Return i whole target label group short full right masks =
    is_free version calls V.Return refl (λ numbers. refl) (ap (λ (saves : Bool). stands_in saves V.Return) full) refl
full_admitted version calls is.End i whole target label group short full right masks =
    is_free version calls V.Stop refl (λ numbers. refl) (ap (λ (saves : Bool). stands_in saves V.Stop) full) refl
full_admitted version calls kind i whole target label group short full right masks = absurd (cc)

lean_admitted : (calls : Option (List ℕ)) (inside : Bool) (kind : ItemKind) (i : Instr) (whole : Bool) (target label : ℕ) (group : Group) (short : Bool) →
    is_right kind i ≡ true → group.mask ≡ mask_by CalleeSaves short → admits CalleeSaves calls (lean_unit_of calls inside kind i whole target label group) ≡ true
lean_admitted calls inside is.Ijump (I.Jalr rd rs1 imm) whole target label group short right masks =
    is_free CalleeSaves calls (V.LeanIjump rs1 imm label) refl (λ numbers. refl) refl refl
lean_admitted calls inside is.Icall (I.Jalr rd rs1 imm) whole target label group short right masks =
    is_free CalleeSaves calls (V.LeanIcall rs1 imm label) refl (λ numbers. refl) refl refl
lean_admitted calls inside is.Branch (I.Branch op rs1 rs2 imm) true target label group short right masks =
    is_free CalleeSaves calls (V.Branch (inverse op) rs1 rs2 target) refl (λ numbers. refl) refl refl
lean_admitted calls inside is.Branch (I.Branch op rs1 rs2 imm) false target label group short right masks =
    is_free CalleeSaves calls (V.Near op rs1 rs2 target) refl (λ numbers. refl) refl refl
lean_admitted calls inside is.Jump i whole target label group short right masks = is_free CalleeSaves calls (V.Jump target) refl (λ numbers. refl) refl refl
lean_admitted calls inside is.Call i whole target label group short right masks = is_free CalleeSaves calls (V.LinkCall target) refl (λ numbers. refl) refl refl
lean_admitted calls inside is.Gate (I.Upper op rd imm) whole target label group short right masks =
    is_free CalleeSaves calls (V.Gate imm) refl (λ numbers. refl) refl refl
lean_admitted calls inside is.Plain i whole target label group short right masks = is_free CalleeSaves calls (V.Plain i) refl (λ numbers. refl) refl refl
lean_admitted calls inside is.Store (I.Store op rs1 rs2 imm) whole target label group short right masks =
    is_free CalleeSaves calls (V.Stores group.mask rs1 group.offset group.members) refl (λ numbers. refl) (masks_stand CalleeSaves short group.mask rs1 group.offset group masks) refl
lean_admitted calls inside is.System I.Ecall whole target label group short right masks = call_admitted CalleeSaves calls
lean_admitted calls inside is.System I.Ebreak whole target label group short right masks =
    is_free CalleeSaves calls (V.System S.Ebreak) refl (λ numbers. refl) refl refl
lean_admitted calls true is.Return i whole target label group short right masks = is_free CalleeSaves calls V.LeafReturn refl (λ numbers. refl) refl refl
lean_admitted calls false is.Return i whole target label group short right masks = is_free CalleeSaves calls V.Return refl (λ numbers. refl) refl refl
lean_admitted calls inside is.End i whole target label group short right masks = is_free CalleeSaves calls V.Stop refl (λ numbers. refl) refl refl
lean_admitted calls inside kind i whole target label group short right masks = absurd (cc)

-- the unit of each version is admitted under it
pub unit_admitted : (version : GraphVersion) (calls : Option (List ℕ)) (inside : Bool) (kind : ItemKind) (i : Instr) (whole : Bool) (target label : ℕ) (group : Group) (short : Bool) →
    is_right kind i ≡ true → group.mask ≡ mask_by version short → admits version calls (unit_by version calls inside kind i whole target label group) ≡ true
unit_admitted OneLabel calls inside kind i whole target label group short right masks =
    full_admitted OneLabel calls kind i whole target label group short refl right masks
unit_admitted TwoLabels calls inside kind i whole target label group short right masks =
    full_admitted TwoLabels calls kind i whole target label group short refl right masks
unit_admitted CalleeSaves calls inside kind i whole target label group short right masks = lean_admitted calls inside kind i whole target label group short right masks
