-- The lines of what is written are those of its units: of each place the line of the jump over what saves a site, if there is one, and
-- then its own.
use Rattle.std.proofs.Common.{◌≡◌, ℕ, suc, ◌+◌, ◌*◌, ◌<◌, inl, inr, Bool, true, false, List, [], ◌∷◌, ◌++◌, length, map, get_or, Option, Some, None, refl, sym, ap, ◌∙◌, arith}
use Rattle.std.specs.Prelude.{slice_get}
use Rattle.std.proofs.lemmas.Bool.{cases_Bool}
use Rattle.cfi_writer.proofs.Prelude.{START, GraphVersion, OneLabel, TwoLabels, CalleeSaves, ItemKind, Item, count, item_of, no_item, has_leaves, GraphLine, Call, Edge, is_target, enters, in_leaf, aim_of, entered_in, gate, graph_lines, jump_line, jump_line_by, line_for, line_of_kind, place_lines, with_line, word, is_store, labels_of, site_label, whole_at, word_count, line_of, IsAccepted, WrittenLines, written_heads, Choice, entry_arrival, group_at, instr_of, is_later_at, lead, lead_by, lead_of_entry, lead_of_sides, lead_unit, unit_here, unit_places, units, units_of}
use Rattle.obj_input.specs.declared.item_kind.ItemKind.TheVariants as is
use Rattle.cfi_unit.specs.declared.unit.Unit as U
use Rattle.cfi_rules.specs.Placed.{lines_from}
use Rattle.cfi_writer.proofs.Grouping.{later_store}
use Rattle.cfi_writer.proofs.Runs.{IsLabelled, Run, enters_bytes, labels_there, lead_bytes, lean_lead_if, place_there, places_more, places_skip, words_in}
use Rattle.cfi_writer.proofs.Standing.{right, sizes, the_run}
use Rattle.cfi_writer.proofs.UnitOf.{is_right, unit_line}

-- a word of a side before a unit has no line
lines_led : (os : List (Option ℕ)) (us : List U.Unit) (at : ℕ) → lines_from at (map lead_unit os ++ us) ≡ lines_from (at + 4 * words_in (map lead_unit os)) us
unfolding lines_from
lines_led [] us at = let same : at ≡ at + 4 * 0 = omega arith in ap (λ (b : ℕ). lines_from b us) same
lines_led (None ∷ os) us at =
    let same : at + 4 + 4 * words_in (map lead_unit os) ≡ at + 4 * words_in (map lead_unit (None ∷ os)) = omega arith in
    lines_led os us (at + 4) ∙ ap (λ (b : ℕ). lines_from b us) same
lines_led (Some label ∷ os) us at =
    let same : at + 4 + 4 * words_in (map lead_unit os) ≡ at + 4 * words_in (map lead_unit (Some label ∷ os)) = omega arith in
    lines_led os us (at + 4) ∙ ap (λ (b : ℕ). lines_from b us) same

sides_led : (target : Bool) (os : List (Option ℕ)) (us : List U.Unit) (at : ℕ) →
    lines_from at (lead_of_sides target os ++ us) ≡ lines_from (at + 4 * words_in (lead_of_sides target os)) us
sides_led true os us at = lines_led os us at
sides_led false os us at = let same : at ≡ at + 4 * 0 = omega arith in ap (λ (b : ℕ). lines_from b us) same

-- the jump over what saves a site has one
entry_led : (target saves : Bool) (to : ℕ) (calls jumps : Option ℕ) (us : List U.Unit) (at : ℕ) →
    lines_from at (lead_of_entry target saves to (calls ∷ jumps ∷ []) ++ us)
    ≡ with_line (jump_line_by CalleeSaves saves target at to) (lines_from (at + 4 * words_in (lead_of_entry target saves to (calls ∷ jumps ∷ []))) us)
unfolding lines_from
entry_led true true to (Some label) None us at = ap (λ (b : ℕ). Edge (at + 4) to ∷ lines_from b us) (omega arith)
entry_led true true to (Some label) (Some other) us at = ap (λ (b : ℕ). Edge (at + 4) to ∷ lines_from b us) (omega arith)
entry_led true true to None None us at = ap (λ (b : ℕ). Edge (at + 4) to ∷ lines_from b us) (omega arith)
entry_led true true to None (Some other) us at = ap (λ (b : ℕ). Edge (at + 4) to ∷ lines_from b us) (omega arith)
entry_led true false to calls None us at = ap (λ (b : ℕ). lines_from b us) (omega arith)
entry_led true false to calls (Some other) us at = ap (λ (b : ℕ). lines_from b us) (omega arith)
entry_led false true to (Some label) jumps us at = ap (λ (b : ℕ). Edge at to ∷ lines_from b us) (omega arith)
entry_led false true to None jumps us at = ap (λ (b : ℕ). Edge at to ∷ lines_from b us) (omega arith)
entry_led false false to calls jumps us at = ap (λ (b : ℕ). lines_from b us) (omega arith)

led_by : (version : GraphVersion) (target saves : Bool) (to : ℕ) (labels : List (Option ℕ)) (us : List U.Unit) (at : ℕ) →
    (has_leaves version ≡ true → (calls : Option ℕ) × (jumps : Option ℕ) × (labels ≡ calls ∷ jumps ∷ [])) →
    lines_from at (lead_by version target saves to labels ++ us)
    ≡ with_line (jump_line_by version saves target at to) (lines_from (at + 4 * words_in (lead_by version target saves to labels)) us)
led_by OneLabel target saves to labels us at two = sides_led target labels us at
led_by TwoLabels target saves to labels us at two = sides_led target labels us at
led_by CalleeSaves target saves to labels us at two =
    let (calls, jumps, same) = two refl in
    ap (λ (ls : List (Option ℕ)). lines_from at (lead_of_entry target saves to ls ++ us)) same
    ∙ entry_led target saves to calls jumps us at
    ∙ ap (λ (ls : List (Option ℕ)). with_line (jump_line_by CalleeSaves saves target at to) (lines_from (at + 4 * words_in (lead_of_entry target saves to ls)) us)) (sym same)

lines_behind : (m : Choice) → IsLabelled m → (k : ℕ) (us : List U.Unit) →
    lines_from (gate m.layout k) (lead m k ++ us) ≡ with_line (jump_line m.layout k) (lines_from (gate m.layout k + lead_bytes m k) us)
lines_behind m are k us =
    led_by m.layout.closed.version (is_target m.layout.closed.sides k) (enters (entered_in m.layout) k) (word m.layout k)
    (labels_of m.labels m.layout.closed.sides k) us (gate m.layout k)
    (λ leaves. let lean = lean_lead_if m are leaves k in (lean.calls, lean.jumps, lean.labels_are))

-- the lines of these places
abbrev own_line : Choice → ℕ → Option GraphLine
own_line m k = line_for m.layout m.labels k (item_of m.layout.program k)

unfoldable listed : Choice → List ℕ → List GraphLine
listed m [] = []
listed m (k ∷ places) = with_line (jump_line m.layout k) (with_line (own_line m k) (listed m places))

unit_lines : (m : Choice) (k at : ℕ) (us : List U.Unit) → word m.layout k ≡ at → is_right (item_of m.layout.program k).kind (instr_of m k) ≡ true →
    lines_from at (unit_here m k ∷ us) ≡ with_line (own_line m k) (lines_from (at + 4 * word_count (unit_here m k)) us)
unfolding lines_from
unit_lines m k at us here right =
    let line : line_of at (unit_here m k) ≡ own_line m k =
    ap (λ a. line_of a (unit_here m k)) (sym here)
    ∙ unit_line m.layout.closed.version m.layout.closed.calls (in_leaf (entered_in m.layout) k) (item_of m.layout.program k).kind (instr_of m k) (whole_at m.whole k) (word m.layout k)
    (aim_of m.layout (item_of m.layout.program k)) (site_label m.labels m.layout.closed.sides k) (group_at m k) right in
    rw line refl

run_lines : (m : Choice) → IsLabelled m → (at last : ℕ) (places : List ℕ) → Run m at places last →
    ((i k : ℕ) → slice_get places i ≡ Some k → is_right (item_of m.layout.program k).kind (instr_of m k) ≡ true) →
    lines_from at (units_of m places) ≡ listed m places
unfolding Run units_of lines_from listed
run_lines m are at last [] run right = refl
run_lines m are at last (k ∷ places) run right =
    ap (λ (b : ℕ). lines_from b (lead m k ++ (unit_here m k ∷ units_of m places))) (sym run.0)
    ∙ lines_behind m are k (unit_here m k ∷ units_of m places)
    ∙ ap (λ (b : ℕ). with_line (jump_line m.layout k) (lines_from (b + lead_bytes m k) (unit_here m k ∷ units_of m places))) run.0
    ∙ ap (with_line (jump_line m.layout k)) (
    unit_lines m k (at + lead_bytes m k) (units_of m places) run.1 (right 0 k refl)
    ∙ ap (with_line (own_line m k)) (run_lines m are (at + lead_bytes m k + 4 * word_count (unit_here m k)) last places run.2 (λ i j get. right (suc i) j get))
    )

-- a store has no line
store_line : (kind : ItemKind) (at target label : ℕ) → is_store kind ≡ true → line_of_kind kind at target label ≡ None
store_line is.Store at target label store = refl
store_line other at target label store = absurd (cc)

all_listed : (m : Choice) → ((k : ℕ) → is_later_at m k ≡ true → jump_line m.layout k ≡ None) → (k : ℕ) (items : List Item) →
    ((i : ℕ) → i < length items → item_of m.layout.program (k + i) ≡ get_or items i no_item) →
    place_lines m.layout m.labels k items ≡ listed m (unit_places m k (length items))
unfolding place_lines listed
all_listed m unled k [] are = refl
all_listed m unled k (item ∷ items) are =
    let start : k + 0 ≡ k = omega arith in
    let next : (i : ℕ) → k + 1 + i ≡ k + suc i = λ i. omega arith in
    let item_is : item_of m.layout.program k ≡ item = ap (item_of m.layout.program) (sym start) ∙ are 0 (omega arith) in
    let rest = all_listed m unled (k + 1) items (λ i less. ap (item_of m.layout.program) (next i) ∙ are (suc i) (omega arith)) in
    let more = place_lines m.layout m.labels (k + 1) items in
    elim (cases_Bool (is_later_at m k)) [
      | inl later ↦
          let none : line_for m.layout m.labels k item ≡ None =
          ap (λ (x : Item). line_for m.layout m.labels k x) (sym item_is)
          ∙ store_line (item_of m.layout.program k).kind _ _ _ (later_store m k later).0 in
          ap (λ (line : Option GraphLine). with_line line (with_line (line_for m.layout m.labels k item) more)) (unled k later)
          ∙ ap (λ (line : Option GraphLine). with_line line more) none ∙ rest
          ∙ ap (listed m) (sym (places_skip m k (length items) later))
      | inr first ↦
          ap (λ (x : Item). with_line (jump_line m.layout k) (with_line (line_for m.layout m.labels k x) more)) (sym item_is)
          ∙ ap (λ (lines : List GraphLine). with_line (jump_line m.layout k) (with_line (own_line m k) lines)) rest
          ∙ ap (listed m) (sym (places_more m k (length items) first))
    ]

-- no jump stands before a later store
no_jump : (version : GraphVersion) (saves target : Bool) (gate word : ℕ) → (has_leaves version ≡ true → saves ≡ true → ⊥) →
    jump_line_by version saves target gate word ≡ None
no_jump OneLabel saves target gate word none = refl
no_jump TwoLabels saves target gate word none = refl
no_jump CalleeSaves true target gate word none = absurd (none refl refl)
no_jump CalleeSaves false target gate word none = refl

module _ (m : Choice) (ok : IsAccepted m) where
  later_unled : (k : ℕ) → is_later_at m k ≡ true → jump_line m.layout k ≡ None
  later_unled k later =
      no_jump m.layout.closed.version (enters (entered_in m.layout) k) (is_target m.layout.closed.sides k) (gate m.layout k) (word m.layout k)
      (λ leaves saves.
      let some = enters_bytes m (labels_there m ok) leaves k saves in
      let bytes = (sizes m ok).led k in
      let none = (sizes m ok).later k later in
      absurd (omega arith))

  right_there : (i k : ℕ) → slice_get (unit_places m 0 (count m.layout.program)) i ≡ Some k → is_right (item_of m.layout.program k).kind (instr_of m k) ≡ true
  right_there i k get =
      let (from, to, first) = place_there m 0 (count m.layout.program) i k get in
      right m ok k (omega arith)

  all_lines : lines_from m.layout.profile.units_from (units m) ≡ place_lines m.layout m.labels 0 m.layout.program.items
  all_lines =
      let zero_more : (i : ℕ) → 0 + i ≡ i = λ i. omega arith in
      run_lines m (labels_there m ok) m.layout.profile.units_from _ (unit_places m 0 (count m.layout.program)) (the_run m ok) right_there
      ∙ sym (all_listed m later_unled 0 m.layout.program.items (λ i less. ap (item_of m.layout.program) (zero_more i)))

  pub lines_are : graph_lines m.layout m.labels ≡ written_heads m ++ (Call START (entry_arrival m) ∷ lines_from m.layout.profile.units_from (units m))
  lines_are = ap (λ (lines : List GraphLine). written_heads m ++ (Call START (entry_arrival m) ∷ lines)) (sym all_lines)

pub written_lines : WrittenLines
written_lines = lines_are
