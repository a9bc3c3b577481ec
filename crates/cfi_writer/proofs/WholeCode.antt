-- What is written is a graph's and well formed with it, and its units stand in its words.
use Rattle.std.proofs.Common.{◌≡◌, ℕ, ◌+◌, ◌-◌, ◌*◌, ◌%◌, ◌^◌, ◌<◌, ◌==◌, true, List, [], ◌∷◌, length, Some, refl, sym, ap, subst, ◌∙◌, arith}
use Rattle.std.specs.Prelude.{◌&&◌, nat_le, nat_lt, slice_get, slice_index}
use Rattle.std.specs.List.Sorted.{IsStrictlyIncreasing}
use Rattle.std.proofs.lemmas.Bool.{and_from, and_parts, eq-eqb, le-leb, lt-ltb, ltb-true, or_left}
use Rattle.std.proofs.lemmas.Option.{get_or_from_slice_get, slice_get_within}
use Rattle.cfi_writer.proofs.Prelude.{GraphVersion, CODE_SIZE, CODE_START, count, IsGraph, is_code_address, is_code_end, is_code_length, is_label, is_sort_of, GraphLine, Side, has, leaf_end, entered_in, gate, graph_lines, word, Tagged, all_classes, tagged, mask_words, unit_at, unit_in, IsAccepted, WrittenEntry, WrittenIsGraph, WrittenIsWellFormed, WrittenUnits, written_classes, written_code, written_heads, Choice, entry_arrival, mask_at, unit_places, units}
use Rattle.cfi_rules.specs.Sound.{IsSound}
use Rattle.cfi_rules.proofs.PlacedCode.{placed_entry, placed_units, placed_well_formed}
use Rattle.cfi_rules.proofs.PlacedGraph.{placed_is_graph}
use Rattle.cfi_rules.proofs.UnitIn.{length-placed_code}
use Rattle.cfi_writer.proofs.ClassLines.{lines_of_version, lines_order, lines_range, lines_targets}
use Rattle.cfi_writer.proofs.CodeRoom.{run_bytes}
use Rattle.cfi_writer.proofs.GateSteps.{within}
use Rattle.cfi_writer.proofs.Grouping.{later_below}
use Rattle.cfi_writer.proofs.HeadLines.{AreLeavesIn, heads_graph}
use Rattle.cfi_writer.proofs.Leading.{label_small, units_ahead, units_fit}
use Rattle.cfi_writer.proofs.LeafLines.{IsLeafPlace}
use Rattle.cfi_writer.proofs.LeafStarts.{ends_last, gates_up, leaf_some, leaf_word}
use Rattle.cfi_writer.proofs.Pieces.{end_before, end_inside, leaf_begins}
use Rattle.cfi_writer.proofs.SideLabels.{in_classes, in_side, sort_fits, sort_get}
use Rattle.cfi_writer.proofs.SoundCode.{member_there, written_sound}
use Rattle.cfi_writer.proofs.Standing.{gates_rise, group_gate, laid, later_word, lead_there, leader, the_run, unit_there}
use Rattle.cfi_writer.proofs.WholeLines.{lines_are}

-- what is an address of the code may be the end of a leaf
end_of : (size a : ℕ) → is_code_address size a ≡ true → is_code_end size a ≡ true
end_of size a inside =
    let parts = and_parts (a % 4 == 0 && nat_le CODE_START a) (nat_lt a (CODE_START + size)) inside in
    let less = ltb-true a (CODE_START + size) parts.1 in
    and_from (a % 4 == 0 && nat_le CODE_START a) (nat_le a (CODE_START + size)) parts.0 (le-leb a (CODE_START + size) (omega arith))

module _ (m : Choice) (ok : IsAccepted m) where
  abbrev size : ℕ
  size = 4 * length (written_code m)

  length_right : is_code_length size ≡ true
  length_right =
      let words = length-placed_code m.layout.profile ok.profile (entry_arrival m) (units m) in
      let low = (laid m ok).low in
      let room = ok.room in
      and_from (size % 4 == 0 && nat_le 4 size) (nat_le size CODE_SIZE)
      (and_from (size % 4 == 0) (nat_le 4 size) (eq-eqb (size % 4) 0 (omega arith)) (le-leb 4 size (omega arith))) (le-leb size CODE_SIZE room)

  label_right : (j label : ℕ) → slice_get m.labels j ≡ Some label → is_label label ≡ true
  label_right j label get =
      let below = slice_get_within m.labels j label get in
      let same : slice_index m.labels j ≡ label = get_or_from_slice_get m.labels j label 0 get in
      let small = label_small m ok j in
      let one = (ok.labels j below).from_one in
      and_from (nat_lt 0 label) (nat_lt label (2 ^ 20)) (lt-ltb 0 label (omega arith)) (lt-ltb label (2 ^ 20) (subst (λ (n : ℕ). n < 2 ^ 20) same small))

  -- each gate lies in the code
  gate_inside : (k : ℕ) → k < count m.layout.program → is_code_address size (gate m.layout k) ≡ true
  gate_inside k below =
      let at = within (entered_in m.layout) m.whole 0 m.layout.profile.units_from m.layout.program.items m.layout.gates ok.legal k below in
      let from = at.low in
      let to = at.high in
      let round = at.round (laid m ok).round in
      let all = run_bytes m m.layout.profile.units_from _ (unit_places m 0 (count m.layout.program)) (the_run m ok) in
      let words = length-placed_code m.layout.profile ok.profile (entry_arrival m) (units m) in
      let low = (laid m ok).low in
      and_from (gate m.layout k % 4 == 0 && nat_le CODE_START (gate m.layout k)) (nat_lt (gate m.layout k) (CODE_START + size))
      (and_from (gate m.layout k % 4 == 0) (nat_le CODE_START (gate m.layout k)) (eq-eqb (gate m.layout k % 4) 0 round) (le-leb CODE_START (gate m.layout k) (omega arith)))
      (lt-ltb (gate m.layout k) (CODE_START + size) (omega arith))

  gate_right : (j k : ℕ) (t : Tagged) → slice_get (tagged m.layout.closed.sides) j ≡ Some t → has k t.class ≡ true → is_code_address size (gate m.layout k) ≡ true
  gate_right j k t get there = gate_inside k (member_there m ok j k t get there)

  all_rise : (side : Side) (j : ℕ) (i : ℕ) (class : List ℕ) → slice_get m.layout.closed.sides j ≡ Some side → slice_get (all_classes side) i ≡ Some class → IsStrictlyIncreasing class
  all_rise side j i [] there get = λ k inside. absurd (omega arith)
  all_rise side j i (x ∷ class) there get =
      let first = in_classes side.classes side.sites i x (x ∷ class) get (or_left (x == x) (has x class) (eq-eqb x x refl)) in
      subst IsStrictlyIncreasing (get_or_from_slice_get side.classes i (x ∷ class) [] first)
      (ok.rising j side there i [] (slice_get_within side.classes i (x ∷ class) first))

  class_rises : (j : ℕ) (t : Tagged) → slice_get (tagged m.layout.closed.sides) j ≡ Some t → IsStrictlyIncreasing t.class
  class_rises j t get = let of = in_side m.layout.closed.sides j t get in all_rise of.side of.index of.number t.class of.there of.class_is

  -- each class is of a sort of the version
  sorts_right : (j : ℕ) (t : Tagged) → slice_get (tagged m.layout.closed.sides) j ≡ Some t → is_sort_of m.layout.closed.version t.sort ≡ true
  sorts_right j t get =
      let of = in_side m.layout.closed.sides j t get in
      ap (is_sort_of m.layout.closed.version) (sym of.sort_is)
      ∙ sort_fits m.layout.closed.version of.index of.side.sort (sort_get m.layout.closed.version m.layout.closed.sides ok.sorts of.index of.side of.there)

  class_graph : IsGraph (record { version = m.layout.closed.version; code = size; lines = written_classes m })
  class_graph = record {
    sorts = lines_of_version m.layout.closed.version m.layout.gates m.labels (tagged m.layout.closed.sides) sorts_right;
    length = length_right;
    range = lines_range size m.layout.gates m.labels (tagged m.layout.closed.sides) label_right gate_right;
    targets =
        lines_targets m.layout.gates m.labels (count m.layout.program) (tagged m.layout.closed.sides) class_rises
        (λ j k class get there. member_there m ok j k class get there) (gates_rise m ok);
    order = lines_order m.layout.gates m.labels (tagged m.layout.closed.sides) ok.labels_rise;
  }

  -- so do the leaves, one behind another: from the word of a place, which is its gate, to the gate of a later one
  leaf_inside : (e : ℕ) → IsLeafPlace m.layout e → leaf_end (entered_in m.layout) e < count m.layout.program
  leaf_inside e is = end_inside (entered_in m.layout) e is.leaf is.below (ends_last m ok)

  leaves_right : AreLeavesIn m.layout size
  leaves_right = record {
    from = λ e is. ap (is_code_address size) (leaf_word m ok e is.leaf) ∙ gate_inside e is.below;
    to = λ e is. end_of size (gate m.layout (leaf_end (entered_in m.layout) e)) (gate_inside (leaf_end (entered_in m.layout) e) (leaf_inside e is));
    some = λ e is. leaf_some m ok e is.below is.leaf;
    apart = λ e f first second less.
        let here = leaf_word m ok f second.leaf in
        let most = end_before (entered_in m.layout) e f less second.below (leaf_begins (entered_in m.layout) f second.leaf) in
        let rise = gates_up m ok (leaf_end (entered_in m.layout) e) f most second.below in
        omega arith;
  }

  graph_is : IsGraph (record { version = m.layout.closed.version; code = size; lines = graph_lines m.layout m.labels })
  graph_is =
      subst (λ (lines : List GraphLine). IsGraph (record { version = m.layout.closed.version; code = size; lines = lines })) (sym (lines_are m ok))
      (placed_is_graph m.layout.profile m.layout.closed.version (entry_arrival m) (units m) (written_heads m) (written_sound m ok)
      (heads_graph m size ok.calls leaves_right class_graph))

  units_at : (a : ℕ) → unit_at m.layout.profile (written_code m) a ≡ unit_in (units m) m.layout.profile.units_from a
  units_at = placed_units m.layout.profile (entry_arrival m) (units m) ok.profile (units_fit m ok) (units_ahead m ok)

pub written_graph : WrittenIsGraph
written_graph = graph_is

pub written_well_formed : WrittenIsWellFormed
written_well_formed m image graph ok words version lines same_length =
    placed_well_formed m.layout.profile (entry_arrival m) (units m) (written_heads m) image graph
    (subst (λ (v : GraphVersion). IsSound m.layout.profile v (entry_arrival m) (units m) (written_heads m)) (sym version) (written_sound m ok)) words (lines ∙ lines_are m ok) same_length

pub written_units : WrittenUnits
written_units m ok = record {
  own = λ k below first. units_at m ok (word m.layout k) ∙ unit_there m ok k below first;
  led = λ k j u below some. units_at m ok (gate m.layout k + 4 * j) ∙ lead_there m ok k j u below some;
  member = λ k later.
      let at = leader m ok k later in
      let place = at.place in
      let some = at.some in
      let below = later_below m k later in
      let unit = unit_there m ok at.first (omega arith) at.is_first in
      let next : at.first + (at.index - 1 + 1) ≡ k = omega arith in
      let gate_is = group_gate m ok at.first (at.index - 1) at.store at.is_first (let few = at.inside in omega arith) (omega arith) in
      let here : gate m.layout k ≡ word m.layout at.first + 4 * (mask_words (mask_at m at.first) + (at.index - 1 + 1)) = ap (gate m.layout) (sym next) ∙ gate_is in
      record {
        first = at.first;
        index = at.index;
        place = at.place;
        inside = at.inside;
        stands = units_at m ok (word m.layout at.first) ∙ unit;
        at = let own = later_word m ok k later in omega arith;
      };
}

pub written_entry : WrittenEntry
written_entry m ok = placed_entry m.layout.profile (entry_arrival m) (units m) ok.profile (written_sound m ok).entry_reached
