-- A map is legal where none of its lines is wrong, and the first wrong line is no legal placement's.
use Rattle.std.proofs.Common.{◌≡◌, ◌==◌, ℕ, zero, suc, ◌+◌, ◌-◌, ◌<◌, ◌≤◌, nat_le, nat_lt, Bool, true, false, List, length, map, take, get_or, Option, Some, None, inl, inr, refl, sym, ap, subst, ◌∙◌, arith}
use Rattle.std.specs.Prelude.{◌&&◌, not, slice_index}
use Rattle.std.proofs.lemmas.Bool.{and_from, and_parts, cases_lt, eqb-true, eq-eqb, false_from_ne_true, lt-ltb, ltb-true, le-ltb, lt-leb, ltb-false, not-false, not-true}
use Rattle.std.proofs.lemmas.List.{ext_get_or, get_or-map, get_or-take, length-map, length-take, length-take-le, take_all}
use Rattle.src_machine.proofs.Prelude.{first_below, profile_for, Form, MapParts, MapLine, Item, Program, count, item_of, no_item, ClosedGraph, Entered, entered_at, lead_size, AreGroups, Bounds, bounds_in, is_store, joins_in, AreLegal, IsLegalMap, gates_of, AreGates, size_of, whole_at, BeginsLegal, IsWrongLine, follows, follows_at, has_whole, is_named, is_past_whole, is_right, is_wrong, line_at, no_line, stands, stores_before}
use Rattle.least.proofs.Firsts.{first_none, found_parts}
use Rattle.cfi_map.proofs.GroupFacts.{later_if, later_parts}
use Rattle.cfi_map.proofs.GroupsAgree.{join_moved}
use Rattle.src_machine.proofs.LegalGates.{are_gates, first_gate, flag_here, flag_past, flags_to, follows_by, joined_by, kind_in, led_by, next_gate, whole_by}

-- a member of what a function gives for the first members
mapped : {A B : Type 0} (f : A → B) (xs : List A) (n i : ℕ) (d : A) (e : B) → i < n → n ≤ length xs → get_or (map f (take n xs)) i e ≡ f (get_or xs i d)
mapped f xs n i d e below within =
    let size = length-take-le n xs within in
    get_or-map f (take n xs) i d e (omega arith) ∙ ap f (get_or-take n xs i d below)

map_size : {A B : Type 0} (f : A → B) (xs : List A) (n : ℕ) → n ≤ length xs → length (map f (take n xs)) ≡ n
map_size f xs n within = length-map (take n xs) f ∙ length-take-le n xs within

module _ (form : Form) (program : Program) (closed : ClosedGraph) (entry : ℕ) (lines : List MapLine) where
  -- the map of these lines
  abbrev map_here : MapParts
  map_here = record { form = form; lines = lines }

  -- the program entered at its place, and what bounds its groups
  abbrev of_here : Entered
  of_here = entered_at program closed entry

  abbrev bounds_here : Bounds
  bounds_here = bounds_in of_here

  gate_in : (n i : ℕ) → i < n → n ≤ length lines → slice_index (gates_of (take n lines)) i ≡ (line_at lines i).gate
  gate_in n i below within = mapped (λ (l : MapLine). l.gate) lines n i no_line 0 below within

  stands_next : (i : ℕ) → stands form of_here lines (suc i)
      ≡ follows of_here (item_of program i) i (stores_before of_here lines i) (line_at lines i).gate (line_at lines (suc i)).gate
  stands_next i =
      let apart : (suc i == 0) ≡ false = false_from_ne_true (suc i == 0) (λ e. let same = eqb-true (suc i) 0 e in absurd (omega arith)) in
      let index : suc i - 1 ≡ i = omega arith in
      let next : i + 1 ≡ suc i = omega arith in
      let here : stands form of_here lines (suc i) ≡ follows_at of_here lines (suc i - 1) (stores_before of_here lines (suc i - 1)) = rw apart refl in
      here ∙ ap (λ (k : ℕ). follows_at of_here lines k (stores_before of_here lines k)) index
      ∙ ap (λ (m : ℕ). follows of_here (item_of program i) i (stores_before of_here lines i) (line_at lines i).gate (line_at lines m).gate) next

  -- the next line's gate tells whether a unit has its whole size
  whole_read : (i : ℕ) → suc i < length lines
      → has_whole of_here lines i ≡ is_past_whole of_here (item_of program i) i (line_at lines i).gate (line_at lines (suc i)).gate
  whole_read i below =
      let more : nat_le (length lines) (i + 1) ≡ false = lt-leb (length lines) (i + 1) (omega arith) in
      let next : i + 1 ≡ suc i = omega arith in
      let here : has_whole of_here lines i ≡ is_past_whole of_here (item_of program i) i (line_at lines i).gate (line_at lines (i + 1)).gate =
      rw more refl in
      here ∙ ap (λ (m : ℕ). is_past_whole of_here (item_of program i) i (line_at lines i).gate (line_at lines m).gate) next

  item_taken : (n i : ℕ) → i < n → item_of program i ≡ get_or (take n program.items) i no_item
  item_taken n i below = sym (get_or-take n program.items i no_item below)

  kind_taken : (n i : ℕ) → i < n → kind_in (take n program.items) i ≡ (item_of program i).kind
  kind_taken n i below = ap (λ (item : Item). item.kind) (get_or-take n program.items i no_item below)

  module _ (n : ℕ) (in_lines : n ≤ length lines) (in_items : n ≤ count program) (right : (j : ℕ) → j < n → is_right form of_here lines j ≡ true) where
    spots : (j : ℕ) → j < n → ((item_of program j).section ≡ (line_at lines j).section) × ((item_of program j).offset ≡ (line_at lines j).offset)
    spots j below =
        let item = item_of program j in
        let line = line_at lines j in
        let parts = and_parts (is_named of_here lines j) (stands form of_here lines j) (right j below) in
        let both = and_parts (item.section == line.section) (item.offset == line.offset) parts.0 in
        (eqb-true _ _ both.0, eqb-true _ _ both.1)

    stood : (j : ℕ) → j < n → stands form of_here lines j ≡ true
    stood j below = (and_parts (is_named of_here lines j) (stands form of_here lines j) (right j below)).1

    followed : (i : ℕ) → suc i < n
        → follows of_here (item_of program i) i (stores_before of_here lines i) (line_at lines i).gate (line_at lines (suc i)).gate ≡ true
    followed i below = sym (stands_next i) ∙ stood (suc i) below

    same_sections : map (λ (l : MapLine). l.section) (take n lines) ≡ map (λ (i : Item). i.section) (take n program.items)
    same_sections =
        let one = map_size (λ (l : MapLine). l.section) lines n in_lines in
        let two = map_size (λ (i : Item). i.section) program.items n in_items in
        ext_get_or 0 _ _ (omega arith)
        (λ i below. mapped (λ (l : MapLine). l.section) lines n i no_line 0 (omega arith) in_lines
        ∙ sym (spots i (omega arith)).0 ∙ sym (mapped (λ (i : Item). i.section) program.items n i no_item 0 (omega arith) in_items))

    same_offsets : map (λ (l : MapLine). l.offset) (take n lines) ≡ map (λ (i : Item). i.offset) (take n program.items)
    same_offsets =
        let one = map_size (λ (l : MapLine). l.offset) lines n in_lines in
        let two = map_size (λ (i : Item). i.offset) program.items n in_items in
        ext_get_or 0 _ _ (omega arith)
        (λ i below. mapped (λ (l : MapLine). l.offset) lines n i no_line 0 (omega arith) in_lines
        ∙ sym (spots i (omega arith)).1 ∙ sym (mapped (λ (i : Item). i.offset) program.items n i no_item 0 (omega arith) in_items))

    -- the flags of these places, as the gates tell them
    abbrev flags : List Bool
    flags = flags_to (has_whole of_here lines) n

    legal_gates : AreGates of_here flags 0 (profile_for form).units_from (take n program.items) (gates_of (take n lines))
    legal_gates =
        let size : length (gates_of (take n lines)) ≡ n = map_size (λ (l : MapLine). l.gate) lines n in_lines in
        let places : length (take n program.items) ≡ n = length-take-le n program.items in_items in
        are_gates of_here flags 0 (profile_for form).units_from (take n program.items) (gates_of (take n lines)) (omega arith)
        (λ some. gate_in n 0 (omega arith) in_lines ∙ eqb-true _ _ (stood 0 (omega arith)))
        (λ i below.
        let less : suc i < n = omega arith in
        let plus : 0 + i ≡ i = omega arith in
        let flag = whole_read i (omega arith) in
        let told : is_past_whole of_here (item_of program i) i (line_at lines i).gate (line_at lines (suc i)).gate ≡ whole_at flags i =
        sym flag ∙ sym (flag_here (has_whole of_here lines) n i less) in
        let at : (line_at lines (suc i)).gate ≡ (line_at lines i).gate + (lead_size of_here i + size_of of_here i (item_of program i) (whole_at flags i)) =
        led_by of_here (item_of program i) i (stores_before of_here lines i) (line_at lines i).gate (line_at lines (suc i)).gate (whole_at flags i) told (followed i less) in
        let item = sym (item_taken n i (omega arith)) in
        let here = gate_in n i (omega arith) in_lines in
        let there = gate_in n (suc i) less in_lines in
        rw (plus, item, here, there) at)

    legal_groups : AreGroups (λ k. get_or (take n program.items) k no_item) bounds_here (whole_at flags)
    legal_groups k later =
        let taken : ℕ → Item = λ j. get_or (take n program.items) j no_item in
        let parts = later_parts taken bounds_here (whole_at flags) k later in
        elim (cases_lt (suc k) n) [
          | inl less ↦
              let kind = kind_taken n k (omega arith) in
              let store : is_store (item_of program k).kind ≡ true = ap is_store (sym kind) ∙ parts.0 in
              let short : is_past_whole of_here (item_of program k) k (line_at lines k).gate (line_at lines (suc k)).gate ≡ false =
              sym (whole_read k (omega arith)) ∙ sym (flag_here (has_whole of_here lines) n k less) ∙ parts.1 in
              join_moved (item_of program) taken bounds_here (has_whole of_here lines) (whole_at flags) k
              (λ j below. item_taken n j (omega arith))
              (λ j below is. sym (flag_here (has_whole of_here lines) n j (omega arith)))
              (joined_by of_here (item_of program k) k (stores_before of_here lines k) (line_at lines k).gate (line_at lines (suc k)).gate store short (followed k less))
          | inr past ↦
              let wrong : true ≡ false = sym (flag_past (has_whole of_here lines) n k past) ∙ parts.1 in
              absurd (cc)
        ]

    begins : BeginsLegal program closed entry map_here n
    begins = record { sections = same_sections; offsets = same_offsets; gates = (flags, legal_gates, legal_groups) }

  -- a line of a legal map is right
  module _ (j : ℕ) (legal : BeginsLegal program closed entry map_here (j + 1)) (in_lines : j < length lines) (in_items : j < count program) where
    spot_right : is_named of_here lines j ≡ true
    spot_right =
        let sections : (line_at lines j).section ≡ (item_of program j).section =
        sym (mapped (λ (l : MapLine). l.section) lines (j + 1) j no_line 0 (omega arith) (omega arith)) ∙ ap (λ (ns : List ℕ). get_or ns j 0) legal.sections
        ∙ mapped (λ (i : Item). i.section) program.items (j + 1) j no_item 0 (omega arith) (omega arith) in
        let offsets : (line_at lines j).offset ≡ (item_of program j).offset =
        sym (mapped (λ (l : MapLine). l.offset) lines (j + 1) j no_line 0 (omega arith) (omega arith)) ∙ ap (λ (ns : List ℕ). get_or ns j 0) legal.offsets
        ∙ mapped (λ (i : Item). i.offset) program.items (j + 1) j no_item 0 (omega arith) (omega arith) in
        and_from _ _ (eq-eqb _ _ (sym sections)) (eq-eqb _ _ (sym offsets))

  -- the gates of a legal beginning
  gate_next : (n : ℕ) (legal : BeginsLegal program closed entry map_here n) → n ≤ length lines → (i : ℕ) → suc i < n
      → (line_at lines (suc i)).gate ≡ (line_at lines i).gate + (lead_size of_here i + size_of of_here i (item_of program i) (whole_at legal.gates.0 i))
  gate_next n legal within i below =
      let size = map_size (λ (l : MapLine). l.gate) lines n within in
      let zero_plus : 0 + i ≡ i = omega arith in
      let step = next_gate of_here legal.gates.0 0 (profile_for form).units_from (take n program.items) (gates_of (take n lines)) legal.gates.1 i (omega arith) in
      let item = sym (item_taken n i (omega arith)) in
      let here = gate_in n i (omega arith) within in
      let there = gate_in n (suc i) below within in
      rw (item, here, there, zero_plus) at step

  -- a store of a legal beginning that has one word may join the group before it
  joins_next : (n : ℕ) (legal : BeginsLegal program closed entry map_here n) → n ≤ length lines → (i : ℕ) → suc i < n
      → is_store (item_of program i).kind ≡ true → whole_at legal.gates.0 i ≡ false → joins_in of_here i (stores_before of_here lines i) ≡ true
  joins_next n legal within i below store short =
      let taken : ℕ → Item = λ j. get_or (take n program.items) j no_item in
      let whole : List Bool = legal.gates.0 in
      join_moved taken (item_of program) bounds_here (whole_at whole) (has_whole of_here lines) i
      (λ j less. sym (item_taken n j (omega arith)))
      (λ j less is.
      let kind = kind_taken n j (omega arith) in
      sym (whole_read j (omega arith)
      ∙ whole_by of_here (item_of program j) j (line_at lines j).gate (line_at lines (suc j)).gate (whole_at whole j) (ap is_store (sym kind) ∙ is) (gate_next n legal within j (omega arith))))
      (legal.gates.2 i (later_if taken bounds_here (whole_at whole) i (ap is_store (kind_taken n i (omega arith)) ∙ store) short))

  stands_right : (j : ℕ) → BeginsLegal program closed entry map_here (j + 1) → j < length lines → j < count program → stands form of_here lines j ≡ true
  stands_right zero legal in_lines in_items =
      let size = map_size (λ (l : MapLine). l.gate) lines 1 (omega arith) in
      eq-eqb _ _ (sym (gate_in 1 0 (omega arith) (omega arith)) ∙ first_gate of_here legal.gates.0 0 (profile_for form).units_from (take 1 program.items) (gates_of (take 1 lines)) legal.gates.1 (omega arith))
  stands_right (suc i) legal in_lines in_items =
      let n : ℕ = suc i + 1 in
      stands_next i
      ∙ follows_by of_here (item_of program i) i (stores_before of_here lines i) (line_at lines i).gate (line_at lines (suc i)).gate (whole_at legal.gates.0 i)
      (gate_next n legal (omega arith) i (omega arith))
      (λ store short. joins_next n legal (omega arith) i (omega arith) store short)

  line_right : (j : ℕ) → BeginsLegal program closed entry map_here (j + 1) → j < length lines → j < count program → is_right form of_here lines j ≡ true
  line_right j legal in_lines in_items = and_from _ _ (spot_right j legal in_lines in_items) (stands_right j legal in_lines in_items)

  -- what no wrong line says
  not_wrong : (j : ℕ) → j < length lines → is_wrong form of_here lines j ≡ false → (j < count program) × (is_right form of_here lines j ≡ true)
  not_wrong j in_lines wrong =
      let inside = lt-ltb j (length lines) in_lines in
      let e : not (nat_lt j (count program) && is_right form of_here lines j) ≡ false = rw inside at wrong in
      let both = and_parts (nat_lt j (count program)) (is_right form of_here lines j) (not-false _ e) in
      (ltb-true _ _ both.0, both.1)

  begins_before : (n : ℕ) → n ≤ length lines → ((j : ℕ) → j < n → is_wrong form of_here lines j ≡ false) → BeginsLegal program closed entry map_here n
  begins_before zero within none = begins 0 (omega arith) (omega arith) (λ j below. absurd (omega arith))
  begins_before (suc m) within none =
      let last = not_wrong m (omega arith) (none m (omega arith)) in
      let below = last.0 in
      begins (suc m) within (omega arith) (λ j less. (not_wrong j (omega arith) (none j less)).1)

  pub legal_whole : first_below (is_wrong form of_here lines) (length lines + 1) ≡ None → IsLegalMap program closed entry map_here
  legal_whole none =
      let each = begins_before (length lines) (omega arith) (λ j below. first_none (is_wrong form of_here lines) (length lines + 1) j none (omega arith)) in
      let over = first_none (is_wrong form of_here lines) (length lines + 1) (length lines) none (omega arith) in
      let past = le-ltb (length lines) (length lines) (omega arith) in
      let missing : nat_lt (length lines) (count program) ≡ false = rw past at over in
      let few : count program ≤ length lines = ltb-false _ _ missing in
      let all_lines : take (length lines) lines ≡ lines = take_all (length lines) lines (omega arith) in
      let all_items : take (length lines) program.items ≡ program.items = take_all (length lines) program.items few in
      subst (λ (items : List Item). AreLegal of_here items map_here) all_items
      (subst (λ (ls : List MapLine). AreLegal of_here (take (length lines) program.items) (record { form = form; lines = ls })) all_lines each)

  sizes_same : (n : ℕ) → BeginsLegal program closed entry map_here n → length (take n lines) ≡ length (take n program.items)
  sizes_same n legal =
      let one = length-map (take n lines) (λ (l : MapLine). l.section) in
      let two = length-map (take n program.items) (λ (i : Item). i.section) in
      sym one ∙ ap length legal.sections ∙ two

  is_no_legal : (j : ℕ) → j ≤ length lines → is_wrong form of_here lines j ≡ true → BeginsLegal program closed entry map_here (j + 1) → ⊥
  is_no_legal j within wrong legal =
      let same = sizes_same (j + 1) legal in
      let lines_taken = length-take (j + 1) lines in
      let items_taken = length-take (j + 1) program.items in
      elim (cases_lt j (length lines)) [
        | inl inside ↦
            let in_lines = lt-ltb j (length lines) inside in
            let e : not (nat_lt j (count program) && is_right form of_here lines j) ≡ true = rw in_lines at wrong in
            elim (cases_lt j (count program)) [
              | inl there ↦
                  let both : (nat_lt j (count program) && is_right form of_here lines j) ≡ true =
                  and_from _ _ (lt-ltb j (count program) there) (line_right j legal inside there) in
                  let no = not-true _ e in
                  let clash : true ≡ false = sym both ∙ no in
                  absurd (cc)
              | inr past ↦ absurd (omega arith)
            ]
        | inr past ↦
            let out = le-ltb j (length lines) past in
            let e : nat_lt j (count program) ≡ true = rw out at wrong in
            let more = ltb-true _ _ e in
            absurd (omega arith)
      ]

  pub first_wrong : (j : ℕ) → first_below (is_wrong form of_here lines) (length lines + 1) ≡ Some j → IsWrongLine program closed entry map_here (j + 2)
  first_wrong j found =
      let parts = found_parts (is_wrong form of_here lines) (length lines + 1) j found in
      let within : j < length lines + 1 = parts.0 in
      record {
        index = j;
        numbered = refl;
        before = begins_before j (omega arith) (λ k below. first_none (is_wrong form of_here lines) j k parts.2 below);
        wrong = is_no_legal j (omega arith) parts.1;
      }

-- the first wrong line of a map, as it is found among its lines
pub first_as : (map : MapParts) (of : Entered) {form : Form} {from : Entered} {lines : List MapLine} {found : Option ℕ} → form ≡ map.form → from ≡ of →
    lines ≡ map.lines → found ≡ first_below (is_wrong form from lines) (length lines + 1) → first_below (is_wrong map.form of map.lines) (length map.lines + 1) ≡ found
first_as map of {form = form} {from = from} {lines = lines} same_form same_entries same_lines is =
    ap (λ (f : Form). first_below (is_wrong f of map.lines) (length map.lines + 1)) (sym same_form)
    ∙ ap (λ (ls : List MapLine). first_below (is_wrong form of ls) (length ls + 1)) (sym same_lines)
    ∙ ap (λ (o : Entered). first_below (is_wrong form o lines) (length lines + 1)) (sym same_entries) ∙ sym is
