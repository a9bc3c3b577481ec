-- Each target of a class bears its label at the word that the class's checks read, and each word with a class's label is that of one of its
-- targets.
use Rattle.std.proofs.Common.{◌≡◌, ℕ, zero, suc, ◌+◌, ◌-◌, ◌*◌, ◌/◌, ◌^◌, ◌<◌, inl, Bool, true, false, List, Option, Some, None, refl, sym, ap, subst, ◌∙◌, arith, Contains}
use Rattle.std.specs.Prelude.{IsTrue, is_some, nat_le, not, option_and_then, slice_get, slice_index}
use Rattle.std.proofs.lemmas.Bool.{and_from, le-leb}
use Rattle.std.proofs.lemmas.Option.{get_or_from_slice_get, same_Some, slice_get_within, slice_get-get_or}
use Rattle.cfi_writer.proofs.Prelude.{GraphVersion, OneLabel, TwoLabels, CalleeSaves, Profile, decoded, ItemKind, count, is_end, item_of, no_item, has, ClassLine, class_in, has_leaves, Sort, is_target, is_target_of, is_gate, used_labels, enters, in_leaf, aim_of, entered_in, gate, word, words_at, Tagged, labels_of, site_label, tagged, whole_at, TargetWord, First, Second, Third, past, Leaf, is_enter, is_fresh, class_with, is_among, is_word_of, leaves_in, read_of, Bears, StartsIn, unit_in, IsAccepted, written_classes, written_heads, word_of_side, Choice, group_at, instr_of, is_later_at, lead, lead_unit, unit_here, units}
use Rattle.obj_input.specs.declared.item_kind.ItemKind.TheVariants as is
use Rattle.obj_program.specs.Sound.{is_of}
use Rattle.obj_program.proofs.Read.{read_there}
use Rattle.cfi_graph.specs.declared.line.Sort.TheVariants as sorts
use Rattle.cfi_unit.specs.declared.unit.Unit as U
use Rattle.cfi_unit.specs.declared.unit.Unit.TheVariants as V
use Rattle.cfi_writer.proofs.ClassLines.{targets_of}
use Rattle.cfi_writer.proofs.CodeRoom.{target_entered}
use Rattle.cfi_writer.proofs.FreshStarts.{stands}
use Rattle.cfi_writer.proofs.Grouping.{entered_first}
use Rattle.cfi_writer.proofs.InstrAt.{gate_number}
use Rattle.cfi_writer.proofs.Labelled.{used_in}
use Rattle.cfi_writer.proofs.LeadWords.{IsLeadWord, calls_saved, from_lead, lean_lead, over, saver, side_word, to_lead}
use Rattle.cfi_writer.proofs.LeanWords.{lean_third}
use Rattle.cfi_writer.proofs.Runs.{IsUnit, lead_word, own}
use Rattle.cfi_writer.proofs.SideLabels.{any_get, gates_listed, in_classes, in_side, is_in, targets_bear}
use Rattle.cfi_writer.proofs.Standing.{instr_is, lead_there, right, starts}
use Rattle.cfi_writer.proofs.UnitKinds.{target_saved}
use Rattle.cfi_writer.proofs.UnitOf.{unit_gate}
use Rattle.cfi_writer.proofs.UnitsAdmitted.{labelled_sides}

gate_is : (kind : ItemKind) → kind ≡ is.Gate → is_gate kind ≡ true
gate_is kind e = ap is_gate e

no_end : (kind : ItemKind) → kind ≡ is.Gate → is_end kind ≡ false
no_end kind e = ap is_end e

-- a word with a label is a gate word
gate_of : U.Unit → Option ℕ
gate_of (V.Gate label) = Some label
gate_of other = None

lead_label : (o : Option ℕ) (label : ℕ) → lead_unit o ≡ V.Gate label → o ≡ Some label
unfolding gate_of
lead_label None label e = ap gate_of e
lead_label (Some l) label e = ap gate_of e

-- what is at the word that a check reads
abbrev is_third : TargetWord → Bool
is_third Third = true
is_third other = false

bears : (p : Profile) (us : List U.Unit) (leaves : List Leaf) (which : TargetWord) (a label : ℕ) →
    not (is_fresh (unit_in us p.units_from) leaves a) ≡ true → StartsIn p us a → unit_in us p.units_from (a + past which) ≡ Some (V.Gate label) →
    (is_third which ≡ true → is_enter (unit_in us p.units_from (a + 12)) ≡ true) → Bears p us leaves which a label
bears p us leaves First a label saved starts e enter = let same : a ≡ a + 0 = omega arith in (ap (unit_in us p.units_from) same ∙ e, saved)
bears p us leaves Second a label saved starts e enter = (starts, e)
bears p us leaves Third a label saved starts e enter = (e, enter refl)

-- a third word is read of the side of computed calls alone, where callees save sites
third_side : (version : GraphVersion) (sort : Sort) (index : ℕ) → past (read_of version sort) ≡ 4 * word_of_side version index → is_third (read_of version sort) ≡ true →
    (has_leaves version ≡ true) × (index ≡ 0)
third_side OneLabel sorts.Both index word third = absurd (cc)
third_side OneLabel sorts.Calls index word third = absurd (cc)
third_side OneLabel sorts.Jumps index word third = absurd (cc)
third_side TwoLabels sorts.Both index word third = absurd (cc)
third_side TwoLabels sorts.Calls index word third = absurd (cc)
third_side TwoLabels sorts.Jumps index word third = absurd (cc)
third_side CalleeSaves sorts.Both index word third = absurd (cc)
third_side CalleeSaves sorts.Jumps index word third = absurd (cc)
third_side CalleeSaves sorts.Calls zero word third = (refl, refl)
third_side CalleeSaves sorts.Calls (suc index) word third = absurd (omega arith)

word_listed : (which : TargetWord) (a : ℕ) (targets : List ℕ) → is_among a targets ≡ true → is_word_of which (a + past which) targets ≡ true
word_listed First a targets among = let same : a + 0 ≡ a = omega arith in ap (λ (b : ℕ). is_among b targets) same ∙ among
word_listed Second a targets among =
    let same : a + 4 - 4 ≡ a = omega arith in
    and_from (nat_le 4 (a + 4)) (is_among (a + 4 - 4) targets) (le-leb 4 (a + 4) (omega arith)) (ap (λ (b : ℕ). is_among b targets) same ∙ among)
word_listed Third a targets among =
    let same : a + 8 - 8 ≡ a = omega arith in
    and_from (nat_le 8 (a + 8)) (is_among (a + 8 - 8) targets) (le-leb 8 (a + 8) (omega arith)) (ap (λ (b : ℕ). is_among b targets) same ∙ among)

module _ (m : Choice) (ok : IsAccepted m) where
  abbrev leaves : List Leaf
  leaves = leaves_in (written_heads m)

  -- a member of a class is a place
  pub member_there : (j k : ℕ) (t : Tagged) → slice_get (tagged m.layout.closed.sides) j ≡ Some t → has k t.class ≡ true → k < count m.layout.program
  member_there j k t get there =
      let of = in_side m.layout.closed.sides j t get in
      ok.members of.index of.number k of.side of.there
      (is_in of.side.classes of.number k t.class (in_classes of.side.classes of.side.sites of.number k t.class of.class_is there) there)

  -- with a unit of its own, since it is a target
  pub member_at : (j k : ℕ) (t : Tagged) → slice_get (tagged m.layout.closed.sides) j ≡ Some t → has k t.class ≡ true →
      (k < count m.layout.program) × (is_later_at m k ≡ false)
  member_at j k t get there =
      let of = in_side m.layout.closed.sides j t get in
      let class_there = in_classes of.side.classes of.side.sites of.number k t.class of.class_is there in
      let target = any_get (is_target_of k) m.layout.closed.sides of.index of.side of.there (any_get (has k) of.side.classes of.number t.class class_there there) in
      (member_there j k t get there, entered_first m ok.groups k (target_entered m k target))

  -- behind its gate of computed calls stands what saves their sites
  lean_enters : has_leaves m.layout.closed.version ≡ true → (k label : ℕ) → k < count m.layout.program → is_target m.layout.closed.sides k ≡ true →
      slice_get (labels_of m.labels m.layout.closed.sides k) 0 ≡ Some (Some label) → is_enter (stands m (gate m.layout k + 12)) ≡ true
  lean_enters lean k label below target some =
      let shape = lean_lead m ok lean k in
      let calls : shape.calls ≡ Some label = same_Some shape.calls (Some label) (sym (ap (λ (os : List (Option ℕ)). slice_get os 0) shape.labels_are) ∙ some) in
      let saves = calls_saved m k shape (ap is_some calls) in
      let third : slice_get (lead m k) 3 ≡ Some V.Enter =
      ap (λ (us : List U.Unit). slice_get us 3) shape.lead_is
      ∙ lean_third (word m.layout k) shape.jumps (is_target m.layout.closed.sides k) (enters (entered_in m.layout) k) shape.calls label target saves calls in
      let at : gate m.layout k + 12 ≡ gate m.layout k + 4 * 3 = omega arith in
      ap (λ (a : ℕ). is_enter (stands m a)) at ∙ ap is_enter (lead_there m ok k 3 V.Enter below third)

  -- each target of a class bears its label
  pub gated : (j a : ℕ) (class : ClassLine) → option_and_then class_in (slice_get (written_classes m) j) ≡ Some class → IsTrue (is_among a class.targets) →
      Bears m.layout.profile (units m) leaves (read_of m.layout.closed.version class.sort) a class.label
  gated j a class e among =
      let at = targets_bear m.layout.closed.version m.layout.gates m.labels m.layout.closed.sides (labelled_sides m ok) j a class e among in
      let below = ok.members at.index at.class at.place at.side at.there at.inside in
      let first = entered_first m ok.groups at.place (target_entered m at.place at.target) in
      let word_is : gate m.layout at.place + 4 * word_of_side m.layout.closed.version at.index ≡ a + past (read_of m.layout.closed.version class.sort) =
      ap (λ (n : ℕ). n + 4 * word_of_side m.layout.closed.version at.index) at.gate_is ∙ ap (λ (n : ℕ). a + n) (sym at.word) in
      bears m.layout.profile (units m) leaves (read_of m.layout.closed.version class.sort) a class.label
      (subst (λ (b : ℕ). not (is_fresh (stands m) leaves b) ≡ true) at.gate_is (target_saved m ok at.place below at.target))
      (subst (StartsIn m.layout.profile (units m)) at.gate_is (starts m ok at.place below first))
      (ap (stands m) (sym word_is)
      ∙ lead_there m ok at.place (word_of_side m.layout.closed.version at.index) (V.Gate class.label) below
      (to_lead m ok at.place at.index (Some class.label) at.target at.label (λ lean none. refl)))
      (λ third.
      let (lean, none) = third_side m.layout.closed.version class.sort at.index at.word third in
      subst (λ (b : ℕ). is_enter (stands m (b + 12)) ≡ true) at.gate_is
      (lean_enters lean at.place class.label below at.target (ap (slice_get (labels_of m.labels m.layout.closed.sides at.place)) (sym none) ∙ at.label)))

  -- a word with a class's label is that of one of its targets
  astray_gate : (k i label : ℕ) (line : ClassLine) → slice_get (labels_of m.labels m.layout.closed.sides k) i ≡ Some (Some label) →
      class_with (written_classes m) label ≡ Some line →
      is_word_of (read_of m.layout.closed.version line.sort) (gate m.layout k + 4 * word_of_side m.layout.closed.version i) line.targets ≡ true
  astray_gate k i label line some e =
      let (word_is, among) = gates_listed m.layout.closed.version m.layout.gates m.labels m.layout.closed.sides (labelled_sides m ok) k i label line some e in
      ap (λ (n : ℕ). is_word_of (read_of m.layout.closed.version line.sort) (gate m.layout k + n) line.targets) (sym word_is)
      ∙ word_listed (read_of m.layout.closed.version line.sort) (gate m.layout k) line.targets among

  -- and no `lui x0` of the program has a class's label
  no_own : (k label : ℕ) (line : ClassLine) → k < count m.layout.program → unit_here m k ≡ V.Gate label →
      class_with (written_classes m) label ≡ Some line → ⊥
  no_own k label line below e asked =
      let (kind, (op, rd, instr)) = unit_gate m.layout.closed.version m.layout.closed.calls (in_leaf (entered_in m.layout) k) (item_of m.layout.program k).kind (instr_of m k) (whole_at m.whole k)
      (aim_of m.layout (item_of m.layout.program k)) (site_label m.labels m.layout.closed.sides k) (group_at m k) label (right m ok k below) e in
      let some = no_end (item_of m.layout.program k).kind kind in
      let read = subst (λ (x : ItemKind). is_of x (item_of m.layout.program k).patch (decoded (item_of m.layout.program k).word) ≡ true) kind (read_there m.layout.program k ok.sound below some) in
      let number = gate_number m.layout.program m.layout.gates (words_at m.layout) k op rd label (ok.words k below) read
      (instr_is m ok k below some ∙ ap Some instr) in
      let used : Contains (used_labels m.layout.program) ((item_of m.layout.program k).word / 2 ^ 12) =
      used_in m.layout.program.items k (item_of m.layout.program k) (slice_get-get_or m.layout.program.items k no_item below) (gate_is (item_of m.layout.program k).kind kind) in
      let (index, t, label_at, class_is, line_is) = targets_of m.layout.gates m.labels (tagged m.layout.closed.sides) label line asked in
      let there = slice_get_within m.labels index label label_at in
      let label_is : slice_index m.labels index ≡ label = get_or_from_slice_get m.labels index label 0 label_at in
      (ok.labels index there).free (inl (subst (λ (n : ℕ). Contains (used_labels m.layout.program) n) (sym number ∙ sym label_is) used))

  strays_led : (k label j : ℕ) (line : ClassLine) → IsLeadWord m k j (V.Gate label) → class_with (written_classes m) label ≡ Some line →
      is_word_of (read_of m.layout.closed.version line.sort) (gate m.layout k + 4 * j) line.targets ≡ true
  unfolding gate_of
  strays_led k label j line (side_word i o there at is same) asked =
      ap (λ (n : ℕ). is_word_of (read_of m.layout.closed.version line.sort) (gate m.layout k + 4 * n) line.targets) at
      ∙ astray_gate k i label line (there ∙ ap Some (lead_label o label (sym same))) asked
  strays_led k label j line (over lean saves at same) asked = let wrong : Some label ≡ None = ap gate_of same in absurd (cc)
  strays_led k label j line (saver lean saves last same) asked = let wrong : Some label ≡ None = ap gate_of same in absurd (cc)

  pub strays : (k label a : ℕ) (line : ClassLine) → k < count m.layout.program → IsUnit m k a (V.Gate label) → class_with (written_classes m) label ≡ Some line →
      IsTrue (is_word_of (read_of m.layout.closed.version line.sort) a line.targets)
  strays k label a line below (lead_word j get here) asked =
      ap (λ (b : ℕ). is_word_of (read_of m.layout.closed.version line.sort) b line.targets) here
      ∙ strays_led k label j line (from_lead m k j (V.Gate label) get) asked
  strays k label a line below (own here unit_is) asked = absurd (no_own k label line below (sym unit_is) asked)
