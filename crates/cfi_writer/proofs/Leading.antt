-- Where direct transfers lead; each unit fits, and no short branch leads over just a jump or a stop.
use Rattle.std.proofs.Common.{◌≡◌, ◌⊎◌, ℕ, zero, suc, ◌+◌, ◌*◌, ◌^◌, ◌≤◌, ◌<◌, ◌==◌, inl, inr, Bool, true, false, List, [], ◌∷◌, length, Option, Some, None, refl, sym, ap, subst, ◌∙◌, lit<, arith}
use Rattle.std.specs.Prelude.{◌&&◌, not, nat_lt, if◌then◌else◌, slice_get, slice_index}
use Rattle.std.specs.List.{list_any}
use Rattle.std.proofs.lemmas.Bool.{and_from, and_parts, cases_Bool, cases_lt, cases_order, eq-eqb, ltb-true, or_left, or_right}
use Rattle.std.proofs.lemmas.List.{get_or_past}
use Rattle.std.proofs.lemmas.Option.{get_or_from_slice_get, same_Some, slice_get-get_or}
use Rattle.cfi_writer.proofs.Prelude.{wrap, START, GraphVersion, OneLabel, TwoLabels, CalleeSaves, Instr, offset, ItemKind, Item, Program, count, is_end, item_of, no_item, aims, is_direct, has_leaves, ProgramAtMap, aim_of, arrival, arrival_by, arrival_to, entered_in, gate, gate_to, word, labels_of, site_label, whole_at, aims_at, is_call, enters, lead_size, in_leaf, TargetWord, Fits, IsNear, near_offset, skip_offset, word_count, jump_word, AllAhead, AllFit, unit_in, IsAccepted, is_direct_target, is_store, is_branch, is_kept, is_skipped, Choice, Group, bounds_at, call_unit, group_at, instr_of, is_later_at, lead_unit, lean_unit_of, unit_by, unit_here, unit_of, units}
use Rattle.rv_instr.specs.declared.instr.Instr.TheVariants as I
use Rattle.obj_input.specs.declared.item_kind.ItemKind.TheVariants as is
use Rattle.cfi_unit.specs.declared.unit.Unit as U
use Rattle.cfi_unit.specs.declared.unit.Unit.TheVariants as V
use Rattle.cfi_unit.proofs.Counts.{some_word}
use Rattle.cfi_rules.proofs.Ahead.{IsShortSkip, all_ahead, all_fit, is_jump_unit}
use Rattle.cfi_map.proofs.Placements.{no_store}
use Rattle.cfi_writer.proofs.Grouping.{entered_first, first_after, other_first}
use Rattle.cfi_writer.proofs.GroupUnit.{fits_mask}
use Rattle.cfi_writer.proofs.Fitting.{IsThere, enter_fits, jump_fits, near_target, unit_fits}
use Rattle.cfi_writer.proofs.Runs.{IsLeadWord, IsUnit, enters_bytes, from_lead, labels_there, lead_cases, lead_word, over, own, saver, side_word}
use Rattle.cfi_writer.proofs.SideLabels.{label_in, site_small}
use Rattle.cfi_writer.proofs.Standing.{IsIn, at_gate, found, gate_lies, gates_rise, instr_in_range, laid, lead_there, next_after, next_gate, right, saver_at, unit_lies, unit_there, word_is}
use Rattle.cfi_writer.proofs.UnitOf.{is_right}

aims_there : (program : Program) (kind : ItemKind) (o : Option ℕ) → is_direct kind ≡ true → aims program kind o ≡ true →
    (t : ℕ) × (o ≡ Some t) × (t < count program)
aims_there program kind None direct aim = let wrong : false ≡ true = rw direct at aim in absurd (cc)
aims_there program kind (Some t) direct aim =
    let parts = and_parts (is_direct kind && nat_lt t (count program)) (not (is_end (item_of program t).kind)) aim in
    let two = and_parts (is_direct kind) (nat_lt t (count program)) parts.0 in
    (t, refl, ltb-true t (count program) two.1)

branch_leads : (kind : ItemKind) → is_branch kind ≡ true → is_direct kind ≡ true
branch_leads is.Branch e = refl
branch_leads other e = absurd (cc)

branch_calls_none : (kind : ItemKind) → is_branch kind ≡ true → is_call kind ≡ false
branch_calls_none is.Branch e = refl
branch_calls_none other e = absurd (cc)

branch_goes_on : (kind : ItemKind) → is_branch kind ≡ true → is_end kind ≡ true → ⊥
branch_goes_on is.Branch e last = absurd (cc)
branch_goes_on other e last = absurd (cc)

skipped_stores_none : (kind : ItemKind) → is_skipped kind 0 ≡ true → is_store kind ≡ false
skipped_stores_none is.Jump e = refl
skipped_stores_none is.End e = refl
skipped_stores_none other e = absurd (cc)

-- a system call is no short branch and no jump
no_call_skip : (calls : Option (List ℕ)) (a : ℕ) → IsShortSkip (call_unit calls) a → ⊥
no_call_skip None a skip = skip
no_call_skip (Some numbers) a skip = skip

no_call_jump : (calls : Option (List ℕ)) → is_jump_unit (call_unit calls) ≡ false
no_call_jump None = refl
no_call_jump (Some numbers) = refl

-- only a short branch over one word is a short skip
of_skip : (calls : Option (List ℕ)) (kind : ItemKind) (i : Instr) (whole : Bool) (target : ℕ) (which : TargetWord) (label : ℕ) (group : Group) (a : ℕ) →
    is_right kind i ≡ true → IsShortSkip (unit_of calls kind i whole target which label group) a →
    (is_branch kind ≡ true) × (whole ≡ false) × (near_offset a target ≡ skip_offset) × (word_count (unit_of calls kind i whole target which label group) ≡ 1)
of_skip calls is.Branch (I.Branch op rs1 rs2 imm) false target which label group a right skip = (refl, refl, skip, refl)
of_skip calls is.Branch (I.Branch op rs1 rs2 imm) true target which label group a right skip = absurd skip
of_skip calls is.Gate (I.Upper op rd imm) whole target which label group a right skip = absurd skip
of_skip calls is.Plain i whole target which label group a right skip = absurd skip
of_skip calls is.Store (I.Store op rs1 rs2 imm) whole target which label group a right skip = absurd skip
of_skip calls is.System I.Ecall whole target which label group a right skip = absurd (no_call_skip calls a skip)
of_skip calls is.System I.Ebreak whole target which label group a right skip = absurd skip
of_skip calls is.Jump i whole target which label group a right skip = absurd skip
of_skip calls is.Call i whole target which label group a right skip = absurd skip
of_skip calls is.Return i whole target which label group a right skip = absurd skip
of_skip calls is.Ijump (I.Jalr rd rs1 imm) whole target which label group a right skip = absurd skip
of_skip calls is.Icall (I.Jalr rd rs1 imm) whole target which label group a right skip = absurd skip
of_skip calls is.End i whole target which label group a right skip = absurd skip
of_skip calls kind i whole target which label group a right skip = absurd (cc)

lean_skip : (calls : Option (List ℕ)) (inside : Bool) (kind : ItemKind) (i : Instr) (whole : Bool) (target label : ℕ) (group : Group) (a : ℕ) →
    is_right kind i ≡ true → IsShortSkip (lean_unit_of calls inside kind i whole target label group) a →
    (is_branch kind ≡ true) × (whole ≡ false) × (near_offset a target ≡ skip_offset) × (word_count (lean_unit_of calls inside kind i whole target label group) ≡ 1)
lean_skip calls inside is.Call i whole target label group a right skip = absurd skip
lean_skip calls true is.Return i whole target label group a right skip = absurd skip
lean_skip calls false is.Return i whole target label group a right skip = absurd skip
lean_skip calls inside is.Ijump (I.Jalr rd rs1 imm) whole target label group a right skip = absurd skip
lean_skip calls inside is.Icall (I.Jalr rd rs1 imm) whole target label group a right skip = absurd skip
lean_skip calls inside kind i whole target label group a right skip = of_skip calls kind i whole target (jump_word CalleeSaves) label group a right skip

skip_kind : (version : GraphVersion) (calls : Option (List ℕ)) (inside : Bool) (kind : ItemKind) (i : Instr) (whole : Bool) (target label : ℕ) (group : Group) (a : ℕ) →
    is_right kind i ≡ true →
    IsShortSkip (unit_by version calls inside kind i whole target label group) a →
    (is_branch kind ≡ true) × (whole ≡ false) × (near_offset a target ≡ skip_offset) × (word_count (unit_by version calls inside kind i whole target label group) ≡ 1)
skip_kind OneLabel calls inside kind i whole target label group a right skip = of_skip calls kind i whole target (jump_word OneLabel) label group a right skip
skip_kind TwoLabels calls inside kind i whole target label group a right skip = of_skip calls kind i whole target (jump_word TwoLabels) label group a right skip
skip_kind CalleeSaves calls inside kind i whole target label group a right skip = lean_skip calls inside kind i whole target label group a right skip

-- what begins with a jump is a jump or a stop
of_jump : (calls : Option (List ℕ)) (kind : ItemKind) (i : Instr) (whole : Bool) (target : ℕ) (which : TargetWord) (label : ℕ) (group : Group) →
    is_right kind i ≡ true → is_jump_unit (unit_of calls kind i whole target which label group) ≡ true →
    is_skipped kind 0 ≡ true
of_jump calls is.Jump i whole target which label group right jump = refl
of_jump calls is.End i whole target which label group right jump = refl
of_jump calls is.Branch (I.Branch op rs1 rs2 imm) false target which label group right jump = absurd (cc)
of_jump calls is.Branch (I.Branch op rs1 rs2 imm) true target which label group right jump = absurd (cc)
of_jump calls is.Gate (I.Upper op rd imm) whole target which label group right jump = absurd (cc)
of_jump calls is.Plain i whole target which label group right jump = absurd (cc)
of_jump calls is.Store (I.Store op rs1 rs2 imm) whole target which label group right jump = absurd (cc)
of_jump calls is.System I.Ecall whole target which label group right jump = let none = no_call_jump calls in absurd (cc)
of_jump calls is.System I.Ebreak whole target which label group right jump = absurd (cc)
of_jump calls is.Call i whole target which label group right jump = absurd (cc)
of_jump calls is.Return i whole target which label group right jump = absurd (cc)
of_jump calls is.Ijump (I.Jalr rd rs1 imm) whole target which label group right jump = absurd (cc)
of_jump calls is.Icall (I.Jalr rd rs1 imm) whole target which label group right jump = absurd (cc)
of_jump calls kind i whole target which label group right jump = absurd (cc)

lean_jump : (calls : Option (List ℕ)) (inside : Bool) (kind : ItemKind) (i : Instr) (whole : Bool) (target label : ℕ) (group : Group) → is_right kind i ≡ true →
    is_jump_unit (lean_unit_of calls inside kind i whole target label group) ≡ true → is_skipped kind 0 ≡ true
lean_jump calls inside is.Call i whole target label group right jump = absurd (cc)
lean_jump calls true is.Return i whole target label group right jump = absurd (cc)
lean_jump calls false is.Return i whole target label group right jump = absurd (cc)
lean_jump calls inside is.Ijump (I.Jalr rd rs1 imm) whole target label group right jump = absurd (cc)
lean_jump calls inside is.Icall (I.Jalr rd rs1 imm) whole target label group right jump = absurd (cc)
lean_jump calls inside kind i whole target label group right jump = of_jump calls kind i whole target (jump_word CalleeSaves) label group right jump

jump_kind : (version : GraphVersion) (calls : Option (List ℕ)) (inside : Bool) (kind : ItemKind) (i : Instr) (whole : Bool) (target label : ℕ) (group : Group) →
    is_right kind i ≡ true →
    is_jump_unit (unit_by version calls inside kind i whole target label group) ≡ true → is_skipped kind 0 ≡ true
jump_kind OneLabel calls inside kind i whole target label group right jump = of_jump calls kind i whole target (jump_word OneLabel) label group right jump
jump_kind TwoLabels calls inside kind i whole target label group right jump = of_jump calls kind i whole target (jump_word TwoLabels) label group right jump
jump_kind CalleeSaves calls inside kind i whole target label group right jump = lean_jump calls inside kind i whole target label group right jump

jump_size : (u : U.Unit) → is_jump_unit u ≡ true → word_count u ≡ 1
jump_size (V.Jump target) e = refl
jump_size V.Stop e = refl
jump_size other e = absurd (cc)

skips_to : (at target : ℕ) → at < 2 ^ 63 → IsNear at target → near_offset at target ≡ skip_offset → target ≡ at + 8
skips_to at target low near skip =
    let here : wrap (at + offset 13 (skip_offset * 2)) ≡ target = ap (λ n. wrap (at + offset 13 (n * 2))) (sym skip) ∙ near in
    omega arith

-- a word of a target before its unit fits, is no jump and no short branch
lead_fits : (o : Option ℕ) (a : ℕ) → ((label : ℕ) → o ≡ Some label → label < 2 ^ 20) → Fits (lead_unit o) a
lead_fits None a small = ((lit< tt, lit< tt, lit< tt), refl)
lead_fits (Some label) a small = small label refl

no_lead_jump : (o : Option ℕ) → is_jump_unit (lead_unit o) ≡ false
no_lead_jump None = refl
no_lead_jump (Some label) = refl

no_lead_skip : (o : Option ℕ) (a : ℕ) → IsShortSkip (lead_unit o) a → ⊥
no_lead_skip None a skip = skip
no_lead_skip (Some label) a skip = skip

-- where calls arrive: at the gate, at what saves a site, or at the unit
arrival_cases : (version : GraphVersion) (saves : Bool) (at past : ℕ) →
    (arrival_by version saves at past ≡ at) ⊎ (((has_leaves version ≡ true) × (saves ≡ true)) ⊎ (arrival_by version saves at past ≡ past))
arrival_cases OneLabel saves at past = inl refl
arrival_cases TwoLabels saves at past = inl refl
arrival_cases CalleeSaves true at past = inr (inl (refl, refl))
arrival_cases CalleeSaves false at past = inr (inr refl)

-- where a transfer leads, a call or another one
abbrev aim_if : ProgramAtMap → Option ℕ → Bool → ℕ
aim_if layout target call = if call then arrival_to layout target else gate_to layout target

-- what a direct transfer leads to may be entered
aimed : (items : List Item) (k t : ℕ) (item : Item) → slice_get items k ≡ Some item → item.target ≡ Some t → list_any (λ (i : Item). aims_at t i.target) items ≡ true
aimed [] k t item get some = absurd (cc)
aimed (x ∷ items) zero t item get some =
    let same : x ≡ item = same_Some x item get in
    or_left (aims_at t x.target) _ (ap (λ (i : Item). aims_at t i.target) same ∙ ap (aims_at t) some ∙ eq-eqb t t refl)
aimed (x ∷ items) (suc k) t item get some = or_right (aims_at t x.target) _ (aimed items k t item get some)

pub target_is_entered : (m : Choice) (k t : ℕ) → k < count m.layout.program → (item_of m.layout.program k).target ≡ Some t → (bounds_at m).entered t ≡ true
target_is_entered m k t below some =
    or_right (t == m.layout.entry) _
    (or_left (is_direct_target m.layout.program t) _
    (aimed m.layout.program.items k t (item_of m.layout.program k) (slice_get-get_or m.layout.program.items k no_item below) some))

module _ (m : Choice) (ok : IsAccepted m) where
  pub direct : (k : ℕ) → k < count m.layout.program → is_direct (item_of m.layout.program k).kind ≡ true →
      (t : ℕ) × ((item_of m.layout.program k).target ≡ Some t) × (t < count m.layout.program)
  direct k below leads = aims_there m.layout.program (item_of m.layout.program k).kind (item_of m.layout.program k).target leads (ok.sound.targets k below)

  -- what stands in the code stands past the handlers
  past_handlers : (a : ℕ) → m.layout.profile.units_from ≤ a → START ≤ a
  past_handlers a from = let low = (laid m ok).low in omega arith

  gate_in : (t : ℕ) → t < count m.layout.program → IsThere (gate m.layout t)
  gate_in t below = let (from, to, round) = gate_lies m ok t below in record { from = past_handlers (gate m.layout t) from; to = to; round = round }

  -- what stands in the code lies there
  lies_there : (a : ℕ) (u : U.Unit) → IsIn m.layout.profile.units_from a u → IsThere a
  lies_there a u at =
      let to = at.to in
      let some = some_word u in
      record { from = past_handlers a at.from; to = omega arith; round = at.round }

  unit_in_code : (a : ℕ) (u : U.Unit) → unit_in (units m) m.layout.profile.units_from a ≡ Some u → IsThere a
  unit_in_code a u e = lies_there a u (unit_lies m ok a u e)

  word_in : (k : ℕ) → k < count m.layout.program → is_later_at m k ≡ false → IsThere (word m.layout k)
  word_in k below first = unit_in_code (word m.layout k) (unit_here m k) (unit_there m ok k below first)

  pub arrival_in : (t : ℕ) → t < count m.layout.program → is_later_at m t ≡ false → IsThere (arrival m.layout t)
  arrival_in t below first =
      elim (arrival_cases m.layout.closed.version (enters (entered_in m.layout) t) (gate m.layout t) (word m.layout t)) [
        | inl at_gate_is ↦ subst IsThere (sym at_gate_is) (gate_in t below)
        | inr other ↦ elim other [
          | inl (leaves, saves) ↦ unit_in_code (arrival m.layout t) V.Enter (saver_at m ok t below leaves saves)
          | inr at_word ↦ subst IsThere (sym at_word) (word_in t below first)
        ]
      ]

  aim_in : (k : ℕ) → k < count m.layout.program → is_direct (item_of m.layout.program k).kind ≡ true → IsThere (aim_of m.layout (item_of m.layout.program k))
  aim_in k below leads =
      let (t, some, there) = direct k below leads in
      elim (cases_Bool (is_call (item_of m.layout.program k).kind)) [
        | inl call ↦
            let first = entered_first m ok.groups t (target_is_entered m k t below some) in
            subst (λ (b : Bool). IsThere (aim_if m.layout (item_of m.layout.program k).target b)) (sym call)
            (subst (λ (o : Option ℕ). IsThere (arrival_to m.layout o)) (sym some) (arrival_in t there first))
        | inr other ↦
            subst (λ (b : Bool). IsThere (aim_if m.layout (item_of m.layout.program k).target b)) (sym other)
            (subst (λ (o : Option ℕ). IsThere (gate_to m.layout o)) (sym some) (gate_in t there))
      ]

  pub label_small : (n : ℕ) → slice_index m.labels n < 2 ^ 20
  label_small n =
      elim (cases_lt n (length m.labels)) [
        | inl there ↦ ok.labels_small n 0 there
        | inr past ↦ let none = get_or_past m.labels n 0 past in rw none (lit< tt)
      ]

  pub asked_small : (k : ℕ) → site_label m.labels m.layout.closed.sides k < 2 ^ 20
  asked_small k = site_small m.labels m.layout.closed.sides k (2 ^ 20) (lit< tt) label_small

  -- a branch leads to a gate
  pub branch_aim : (k : ℕ) → is_branch (item_of m.layout.program k).kind ≡ true →
      aim_of m.layout (item_of m.layout.program k) ≡ gate_to m.layout (item_of m.layout.program k).target
  branch_aim k branch =
      ap (aim_if m.layout (item_of m.layout.program k).target) (branch_calls_none (item_of m.layout.program k).kind branch)

  short_near : (k : ℕ) → k < count m.layout.program → is_branch (item_of m.layout.program k).kind ≡ true → whole_at m.whole k ≡ false →
      (word m.layout k ≤ aim_of m.layout (item_of m.layout.program k) + 4096) × (aim_of m.layout (item_of m.layout.program k) ≤ word m.layout k + 4092)
  short_near k below branch short =
      let (t, some, there) = direct k below (branch_leads (item_of m.layout.program k).kind branch) in
      let at = ok.shorts k t below branch short some in
      let aim : aim_of m.layout (item_of m.layout.program k) ≡ gate m.layout t = branch_aim k branch ∙ ap (gate_to m.layout) some in
      subst (λ (n : ℕ). (word m.layout k ≤ n + 4096) × (n ≤ word m.layout k + 4092)) (sym aim) (at.back, at.ahead)

  own_fits : (k : ℕ) → k < count m.layout.program → is_later_at m k ≡ false → Fits (unit_here m k) (word m.layout k)
  own_fits k below first =
      let at = unit_lies m ok (word m.layout k) (unit_here m k) (unit_there m ok k below first) in
      unit_fits m.layout.closed.version m.layout.closed.calls (in_leaf (entered_in m.layout) k) (item_of m.layout.program k).kind (instr_of m k)
      (whole_at m.whole k) _ _ (group_at m k) (word m.layout k) (right m ok k below) (instr_in_range m ok k below) (asked_small k)
      (past_handlers (word m.layout k) at.from) at.to at.round (aim_in k below) (short_near k below) (λ store. fits_mask m ok k below store first) ok.calls

  small_label : (k j label : ℕ) → slice_get (labels_of m.labels m.layout.closed.sides k) j ≡ Some (Some label) → label < 2 ^ 20
  small_label k j label e =
      let (n, is) = label_in m.labels m.layout.closed.sides k j label e in
      subst (λ (x : ℕ). x < 2 ^ 20) (get_or_from_slice_get m.labels n label 0 is) (label_small n)

  lead_fit : (k j a : ℕ) (u : U.Unit) → k < count m.layout.program → is_later_at m k ≡ false → unit_in (units m) m.layout.profile.units_from a ≡ Some u →
      IsLeadWord m k j u → Fits u a
  lead_fit k j a u below first e (side_word i o at place target same) =
      subst (λ (v : U.Unit). Fits v a) (sym same) (lead_fits o a (λ label some. small_label k i label (at ∙ ap Some some)))
  lead_fit k j a u below first e (over leaves saves place same) =
      let at = unit_in_code a u e in
      subst (λ (v : U.Unit). Fits v a) (sym same) (jump_fits a (word m.layout k) at.from at.to at.round (word_in k below first))
  lead_fit k j a u below first e (saver leaves saves place same) =
      let at = unit_lies m ok a V.Enter (e ∙ ap Some same) in
      subst (λ (v : U.Unit). Fits v a) (sym same) (enter_fits a (past_handlers a at.from) at.to at.round)

  is_fit : (k a : ℕ) (u : U.Unit) → k < count m.layout.program → is_later_at m k ≡ false → unit_in (units m) m.layout.profile.units_from a ≡ Some u →
      IsUnit m k a u → Fits u a
  is_fit k a u below first e (lead_word j get here) = lead_fit k j a u below first e (from_lead m k j u get)
  is_fit k a u below first e (own here unit_is) =
      subst (λ (v : U.Unit). Fits v a) (sym unit_is) (subst (λ (b : ℕ). Fits (unit_here m k) b) (sym here) (own_fits k below first))

  pub units_fit : AllFit m.layout.profile.units_from (units m)
  units_fit = all_fit (units m) m.layout.profile.units_from (λ a u e. let at = found m ok a u e in is_fit at.index a u at.below at.first e at.unit)

  -- the place after a branch
  goes_on : (k : ℕ) → k < count m.layout.program → is_branch (item_of m.layout.program k).kind ≡ true → k + 1 < count m.layout.program
  goes_on k below branch =
      elim (cases_lt (k + 1) (count m.layout.program)) [
        | inl more ↦ more
        | inr last ↦
            let (n, counted, ends) = ok.last in
            let same : n ≡ k = omega arith in
            absurd (branch_goes_on (item_of m.layout.program k).kind branch (ap (λ j. is_end (item_of m.layout.program j).kind) (sym same) ∙ ends))
      ]

  -- two places after a jump without words before it at the next one
  second_after : (k t : ℕ) → k + 1 < count m.layout.program → t < count m.layout.program → gate m.layout t ≡ gate m.layout (k + 1) + 4 → word m.layout (k + 1) ≡ gate m.layout (k + 1) →
      is_store (item_of m.layout.program (k + 1)).kind ≡ false → word_count (unit_here m (k + 1)) ≡ 1 → t ≡ k + 2
  second_after k t more there four at other one =
      elim (cases_order t (k + 2)) [
        | inl same ↦ same
        | inr unlike ↦ elim unlike [
          | inl before ↦ elim (cases_order t (k + 1)) [
            | inl same ↦ let e : gate m.layout t ≡ gate m.layout (k + 1) = ap (gate m.layout) same in absurd (omega arith)
            | inr apart ↦ elim apart [
              | inl less ↦ let rise = gates_rise m ok t (k + 1) less more in absurd (omega arith)
              | inr past ↦ absurd (omega arith)
            ]
          ]
          | inr past ↦
              let after = next_after m ok (k + 1) other (omega arith) in
              let two : k + 1 + 1 ≡ k + 2 = omega arith in
              let next : gate m.layout (k + 1 + 1) ≡ gate m.layout (k + 2) = ap (gate m.layout) two in
              let rise = gates_rise m ok (k + 2) t past there in
              absurd (omega arith)
        ]
      ]

  -- no place has a gate four bytes past one behind which a jump leads over what saves a site: the words there are more
  wide_lead : (k t : ℕ) → k < count m.layout.program → t < count m.layout.program → has_leaves m.layout.closed.version ≡ true → enters (entered_in m.layout) k ≡ true →
      gate m.layout t ≡ gate m.layout k + 4 → ⊥
  wide_lead k t below there leaves saves four =
      elim (cases_order t k) [
        | inl same ↦ let e : gate m.layout t ≡ gate m.layout k = ap (gate m.layout) same in absurd (omega arith)
        | inr apart ↦ elim apart [
          | inl before ↦ let rise = gates_rise m ok t k before below in absurd (omega arith)
          | inr past ↦
              let wide = enters_bytes m (labels_there m ok) leaves k saves in
              let behind = word_is m ok k in
              let next = next_gate m ok k (omega arith) in
              elim (cases_order t (k + 1)) [
                | inl same ↦ let e : gate m.layout t ≡ gate m.layout (k + 1) = ap (gate m.layout) same in absurd (omega arith)
                | inr more ↦ elim more [
                  | inl less ↦ absurd (omega arith)
                  | inr later ↦ let rise = gates_rise m ok (k + 1) t later there in absurd (omega arith)
                ]
              ]
        ]
      ]

  -- so no short branch leads over one word to another place behind words of a lead
  lead_skipped : (k t j : ℕ) (v : U.Unit) → k < count m.layout.program → t < count m.layout.program → IsLeadWord m k j v → is_jump_unit v ≡ true →
      gate m.layout t ≡ gate m.layout k + 4 → ⊥
  lead_skipped k t j v below there (side_word i o at place target same) jump four =
      let wrong : false ≡ true = sym (no_lead_jump o) ∙ sym (ap is_jump_unit same) ∙ jump in
      absurd (cc)
  lead_skipped k t j v below there (over leaves saves place same) jump four = wide_lead k t below there leaves saves four
  lead_skipped k t j v below there (saver leaves saves place same) jump four =
      let wrong : false ≡ true = sym (ap is_jump_unit same) ∙ jump in
      absurd (cc)

  skip_own : (k : ℕ) (v : U.Unit) → k < count m.layout.program →
      unit_in (units m) m.layout.profile.units_from (word m.layout k + 4 * word_count (unit_here m k)) ≡ Some v → is_jump_unit v ≡ true →
      IsShortSkip (unit_here m k) (word m.layout k) → ⊥
  skip_own k v below next jump skip =
      let s =
      skip_kind m.layout.closed.version m.layout.closed.calls (in_leaf (entered_in m.layout) k) (item_of m.layout.program k).kind (instr_of m k)
      (whole_at m.whole k) _ _ (group_at m k) (word m.layout k) (right m ok k below) skip in
      let other = no_store (item_of m.layout.program k).kind s.0 in
      let (t, some, there) = direct k below (branch_leads (item_of m.layout.program k).kind s.0) in
      let short = ok.shorts k t below s.0 s.1 some in
      let back = short.back in
      let ahead = short.ahead in
      let more = goes_on k below s.0 in
      let after = next_after m ok k other more in
      let at = unit_lies m ok (word m.layout k) (unit_here m k) (unit_there m ok k below (other_first m k other)) in
      let from = at.from in
      let to = at.to in
      let one = s.3 in
      let near : IsNear (word m.layout k) (gate m.layout t) = near_target (word m.layout k) (gate m.layout t) (past_handlers (word m.layout k) from) (omega arith) at.round (gate_in t there) back ahead in
      let aim : gate m.layout t ≡ aim_of m.layout (item_of m.layout.program k) = sym (branch_aim k s.0 ∙ ap (gate_to m.layout) some) in
      let to_gate : near_offset (word m.layout k) (gate m.layout t) ≡ skip_offset = ap (near_offset (word m.layout k)) aim ∙ s.2 in
      let two : gate m.layout t ≡ word m.layout k + 8 = skips_to (word m.layout k) (gate m.layout t) (omega arith) near to_gate in
      let here : unit_in (units m) m.layout.profile.units_from (gate m.layout (k + 1)) ≡ Some v = ap (unit_in (units m) m.layout.profile.units_from) after ∙ next in
      elim (lead_cases m (k + 1)) [
        | inr (u, first) ↦
            let start : gate m.layout (k + 1) ≡ gate m.layout (k + 1) + 4 * 0 = omega arith in
            let same : u ≡ v =
            same_Some u v (sym (lead_there m ok (k + 1) 0 u more first) ∙ ap (unit_in (units m) m.layout.profile.units_from) (sym start) ∙ here) in
            lead_skipped (k + 1) t 0 u more there (from_lead m (k + 1) 0 u first) (ap is_jump_unit same ∙ jump) (omega arith)
        | inl none ↦
            let stands = at_gate m ok (k + 1) none in
            let no_lead : lead_size (entered_in m.layout) (k + 1) ≡ 0 = omega arith in
            let same : unit_here m (k + 1) ≡ v =
            same_Some _ v (sym (unit_there m ok (k + 1) more (first_after m ok.groups k other)) ∙ ap (unit_in (units m) m.layout.profile.units_from) stands ∙ here) in
            let jumps = ap is_jump_unit same ∙ jump in
            let skipped : is_skipped (item_of m.layout.program (k + 1)).kind 0 ≡ true =
            jump_kind m.layout.closed.version m.layout.closed.calls (in_leaf (entered_in m.layout) (k + 1)) (item_of m.layout.program (k + 1)).kind (instr_of m (k + 1))
            (whole_at m.whole (k + 1)) _ _ (group_at m (k + 1)) (right m ok (k + 1) more) jumps in
            let second : t ≡ k + 2 = second_after k t more there (omega arith) stands (skipped_stores_none (item_of m.layout.program (k + 1)).kind skipped) (jump_size _ jumps) in
            let held : is_kept (entered_in m.layout) k t ≡ true =
            and_from (t == k + 2) (is_skipped (item_of m.layout.program (k + 1)).kind (lead_size (entered_in m.layout) (k + 1))) (eq-eqb t (k + 2) second)
            (ap (is_skipped (item_of m.layout.program (k + 1)).kind) no_lead ∙ skipped) in
            let wrong : true ≡ false = sym held ∙ short.free in
            absurd (cc)
      ]

  no_lead_word_skips : (k j a : ℕ) (u : U.Unit) → IsLeadWord m k j u → IsShortSkip u a → ⊥
  no_lead_word_skips k j a u (side_word i o at place target same) skip = no_lead_skip o a (subst (λ (w : U.Unit). IsShortSkip w a) same skip)
  no_lead_word_skips k j a u (over leaves saves place same) skip = subst (λ (w : U.Unit). IsShortSkip w a) same skip
  no_lead_word_skips k j a u (saver leaves saves place same) skip = subst (λ (w : U.Unit). IsShortSkip w a) same skip

  no_skip : (k a : ℕ) (u v : U.Unit) → k < count m.layout.program → IsUnit m k a u → unit_in (units m) m.layout.profile.units_from (a + 4 * word_count u) ≡ Some v →
      is_jump_unit v ≡ true → IsShortSkip u a → ⊥
  no_skip k a u v below (lead_word j get here) next jump skip = no_lead_word_skips k j a u (from_lead m k j u get) skip
  no_skip k a u v below (own here unit_is) next jump skip =
      let own_skip : IsShortSkip (unit_here m k) (word m.layout k) =
      subst (λ (b : ℕ). IsShortSkip (unit_here m k) b) here (subst (λ (w : U.Unit). IsShortSkip w a) unit_is skip) in
      let own_next : unit_in (units m) m.layout.profile.units_from (word m.layout k + 4 * word_count (unit_here m k)) ≡ Some v =
      subst (λ (b : ℕ). unit_in (units m) m.layout.profile.units_from (b + 4 * word_count (unit_here m k)) ≡ Some v) here
      (subst (λ (w : U.Unit). unit_in (units m) m.layout.profile.units_from (a + 4 * word_count w) ≡ Some v) unit_is next) in
      skip_own k v below own_next jump own_skip

  pub units_ahead : AllAhead m.layout.profile.units_from (units m)
  units_ahead =
      all_ahead (units m) m.layout.profile.units_from units_fit
      (λ a u v e next jump skip. let at = found m ok a u e in no_skip at.index a u v at.below at.unit next jump skip)
