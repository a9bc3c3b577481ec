-- The lines of system calls and of leaves before those of classes: what is asked of classes is asked behind both, they tell the list and
-- the leaves, and they are a graph's.
use Rattle.std.proofs.Common.{◌≡◌, ℕ, zero, suc, ◌+◌, ◌≤◌, ◌<◌, Bool, true, false, List, [], ◌∷◌, ◌++◌, Option, Some, None, map, refl, ap, ◌∙◌, arith}
use Rattle.std.specs.Prelude.{if◌then◌else◌, nat_le, nat_lt, option_and_then, slice_get}
use Rattle.std.specs.List.{list_all}
use Rattle.std.proofs.lemmas.Bool.{and_from, and_parts, le-leb, lt-ltb}
use Rattle.std.proofs.lemmas.List.Folds.{list_all-append}
use Rattle.cfi_writer.proofs.Prelude.{GraphVersion, OneLabel, TwoLabels, CalleeSaves, count, may_be_calls, GraphLine, Class, Key, Head, Range, SiteKind, ClassLine, IsGraph, are_calls, calls_in, class_in, fits_version, has_leaves, is_class, is_code_address, is_code_end, is_rising, key_below, key_of, line_in_range, targets_rise, is_leaf, leaf_end, ProgramAtMap, call_lines, class_lines, entered_in, gate, leaf_lines_by, leaf_lines_from, with_line, word, Tagged, tagged, TargetWord, class_with, if_serves, leaves_in, targets_for, is_head, written_classes, written_heads, Choice}
use Rattle.cfi_graph.specs.declared.line.GraphLine.TheVariants.{Calls, Leaf}
use Rattle.cfi_rules.proofs.PlacedLines.{leaves_before}
use Rattle.cfi_writer.proofs.ClassLines.{all_classes_lines}
use Rattle.cfi_writer.proofs.LeafLines.{IsLeafPlace, behind_leaves_class, behind_leaves_with, leaf_at, leaf_lines_all, leaf_lines_are, leaf_lines_tell, leaf_places_by, leaves_of, leaves_tell}

-- the lines of leaves, and those of classes behind them
abbrev written_leaves : Choice → List GraphLine
written_leaves m = leaf_lines_by m.layout.closed.version m.layout

-- the class with a label
call_with : (calls : Option (List ℕ)) (lines : List GraphLine) (label : ℕ) → class_with (call_lines calls ++ lines) label ≡ class_with lines label
unfolding class_with
call_with None lines label = refl
call_with (Some numbers) lines label = refl

pub heads_with : (m : Choice) (label : ℕ) → class_with (written_heads m) label ≡ class_with (written_classes m) label
heads_with m label =
    call_with m.layout.closed.calls (written_leaves m ++ written_classes m) label
    ∙ behind_leaves_with (written_leaves m) (written_classes m) label (leaf_lines_are m.layout m.layout.closed.version)

-- the class that serves a site
pub heads_serve : (m : Choice) (kind : SiteKind) (which : TargetWord) (label : ℕ) →
    targets_for (written_heads m) kind which label ≡ targets_for (written_classes m) kind which label
unfolding targets_for
heads_serve m kind which label = ap (option_and_then (if_serves kind which)) (heads_with m label)

-- the class of a line
call_class : (calls : Option (List ℕ)) (lines : List GraphLine) (j : ℕ) (class : ClassLine) →
    option_and_then class_in (slice_get (call_lines calls ++ lines) j) ≡ Some class → (i : ℕ) × (option_and_then class_in (slice_get lines i) ≡ Some class)
call_class None lines j class e = (j, e)
call_class (Some numbers) lines zero class e = absurd (cc)
call_class (Some numbers) lines (suc j) class e = (j, e)

pub heads_class : (m : Choice) (j : ℕ) (class : ClassLine) → option_and_then class_in (slice_get (written_heads m) j) ≡ Some class →
    (i : ℕ) × (option_and_then class_in (slice_get (written_classes m) i) ≡ Some class)
heads_class m j class e =
    let (i, is) = call_class m.layout.closed.calls (written_leaves m ++ written_classes m) j class e in
    behind_leaves_class (written_leaves m) (written_classes m) i class (leaf_lines_are m.layout m.layout.closed.version) is

-- lines of classes, leaves and system calls are heads
all_behind : (p : GraphLine → Bool) (first lines : List GraphLine) → list_all p first ≡ true → list_all p lines ≡ true → list_all p (first ++ lines) ≡ true
all_behind p first lines all rest = list_all-append p first lines ∙ and_from (list_all p first) (list_all p lines) all rest

class_head : (line : GraphLine) → is_class line ≡ true → is_head line ≡ true
class_head (Calls numbers) e = refl
class_head (Leaf from to) e = refl
class_head other e = e

classes_head : (lines : List GraphLine) → list_all is_class lines ≡ true → list_all is_head lines ≡ true
classes_head [] all = refl
classes_head (line ∷ lines) all =
    let parts = and_parts (is_class line) (list_all is_class lines) all in
    and_from (is_head line) (list_all is_head lines) (class_head line parts.0) (classes_head lines parts.1)

call_heads : (calls : Option (List ℕ)) (lines : List GraphLine) → list_all is_head lines ≡ true → list_all is_head (call_lines calls ++ lines) ≡ true
call_heads None lines all = all
call_heads (Some numbers) lines all = all

are_classes : (m : Choice) → list_all is_class (written_classes m) ≡ true
are_classes m = all_classes_lines m.layout.gates m.labels (tagged m.layout.closed.sides)

pub heads_all : (m : Choice) → list_all is_head (written_heads m) ≡ true
heads_all m =
    call_heads m.layout.closed.calls (written_leaves m ++ written_classes m)
    (all_behind is_head (written_leaves m) (written_classes m) (leaf_lines_all is_head m.layout m.layout.closed.version (λ e lean below leaf. refl))
    (classes_head (written_classes m) (are_classes m)))

-- the list is told by the first line alone
classes_tell : (gates labels : List ℕ) (ts : List Tagged) → calls_in (class_lines gates labels ts) ≡ None
unfolding class_lines
classes_tell gates [] [] = refl
classes_tell gates (l ∷ labels) [] = refl
classes_tell gates [] (t ∷ ts) = refl
classes_tell gates (l ∷ labels) (t ∷ ts) = refl

call_told : (calls : Option (List ℕ)) (lines : List GraphLine) → calls_in lines ≡ None → calls_in (call_lines calls ++ lines) ≡ calls
call_told None lines none = none
call_told (Some numbers) lines none = refl

pub heads_told : (m : Choice) → calls_in (written_heads m) ≡ m.layout.closed.calls
heads_told m =
    call_told m.layout.closed.calls (written_leaves m ++ written_classes m)
    (leaves_tell (written_leaves m) (written_classes m) (leaf_lines_are m.layout m.layout.closed.version)
    (classes_tell m.layout.gates m.labels (tagged m.layout.closed.sides)))

-- and the leaves by theirs
no_leaves : (gates labels : List ℕ) (ts : List Tagged) → leaves_in (class_lines gates labels ts) ≡ []
unfolding class_lines leaves_in
no_leaves gates [] [] = refl
no_leaves gates (l ∷ labels) [] = refl
no_leaves gates [] (t ∷ ts) = refl
no_leaves gates (l ∷ labels) (t ∷ ts) = no_leaves gates labels ts

call_no_leaves : (calls : Option (List ℕ)) (lines : List GraphLine) → leaves_in (call_lines calls ++ lines) ≡ leaves_in lines
unfolding leaves_in
call_no_leaves None lines = refl
call_no_leaves (Some numbers) lines = refl

pub heads_leaves : (m : Choice) → leaves_in (written_heads m) ≡ leaves_of m
heads_leaves m =
    call_no_leaves m.layout.closed.calls (written_leaves m ++ written_classes m)
    ∙ leaves_before (written_leaves m) (written_classes m) (no_leaves m.layout.gates m.labels (tagged m.layout.closed.sides))
    ∙ leaf_lines_tell m.layout m.layout.closed.version

-- under versions 1 and 2 there are none
pub no_leaves_of : (m : Choice) → has_leaves m.layout.closed.version ≡ false → leaves_of m ≡ []
no_leaves_of m full = none_by m.layout.closed.version full
  where
    none_by : (version : GraphVersion) → has_leaves version ≡ false → map (leaf_at m.layout) (leaf_places_by version (entered_in m.layout)) ≡ []
    none_by OneLabel full = refl
    none_by TwoLabels full = refl
    none_by CalleeSaves full = absurd (cc)

pub heads_no_leaves : (m : Choice) → has_leaves m.layout.closed.version ≡ false → leaves_in (written_heads m) ≡ []
heads_no_leaves m full = heads_leaves m ∙ no_leaves_of m full

-- keys rise behind one that is below all of them
rises_behind : (key : Key) (lines : List GraphLine) → list_all (λ (line : GraphLine). key_below key (key_of line)) lines ≡ true →
    is_rising key_below (map key_of lines) ≡ true → is_rising key_below (key ∷ map key_of lines) ≡ true
rises_behind key [] all order = refl
rises_behind key (line ∷ lines) all order =
    and_from (key_below key (key_of line)) (is_rising key_below (map key_of (line ∷ lines)))
    (and_parts (key_below key (key_of line)) (list_all (λ (one : GraphLine). key_below key (key_of one)) lines) all).0 order

-- as those of system calls and of leaves are below those of classes
class_behind_head : (line : GraphLine) → is_class line ≡ true → key_below Head (key_of line) ≡ true
class_behind_head (Class sort label targets) class = refl
class_behind_head other class = absurd (cc)

class_behind_range : (from to : ℕ) (line : GraphLine) → is_class line ≡ true → key_below (Range from to) (key_of line) ≡ true
class_behind_range from to (Class sort label targets) class = refl
class_behind_range from to other class = absurd (cc)

classes_behind : (key : Key) (lines : List GraphLine) → ((line : GraphLine) → is_class line ≡ true → key_below key (key_of line) ≡ true) → list_all is_class lines ≡ true →
    list_all (λ (line : GraphLine). key_below key (key_of line)) lines ≡ true
classes_behind key [] behind all = refl
classes_behind key (line ∷ lines) behind all =
    let parts = and_parts (is_class line) (list_all is_class lines) all in
    and_from (key_below key (key_of line)) (list_all (λ (one : GraphLine). key_below key (key_of one)) lines) (behind line parts.0)
    (classes_behind key lines behind parts.1)

-- leaves lie in code of a size, each behind those before it
pub record AreLeavesIn (layout : ProgramAtMap) (size : ℕ) : Type 0 where
  pub from : (e : ℕ) → IsLeafPlace layout e → is_code_address size (word layout e) ≡ true
  pub to : (e : ℕ) → IsLeafPlace layout e → is_code_end size (gate layout (leaf_end (entered_in layout) e)) ≡ true
  pub some : (e : ℕ) → IsLeafPlace layout e → word layout e < gate layout (leaf_end (entered_in layout) e)
  pub apart : (e f : ℕ) → IsLeafPlace layout e → IsLeafPlace layout f → e < f → gate layout (leaf_end (entered_in layout) e) ≤ word layout f

abbrev leaf_key : ProgramAtMap → ℕ → Key
leaf_key layout e = Range (word layout e) (gate layout (leaf_end (entered_in layout) e))

abbrev leaf_of : ProgramAtMap → ℕ → GraphLine
leaf_of layout e = Leaf (word layout e) (gate layout (leaf_end (entered_in layout) e))

-- the order of lines with one more, if it is there
order_with : (b : Bool) (one : GraphLine) (lines classes : List GraphLine) → (b ≡ true → is_rising key_below (key_of one ∷ map key_of (lines ++ classes)) ≡ true) →
    is_rising key_below (map key_of (lines ++ classes)) ≡ true →
    is_rising key_below (map key_of (with_line (if b then Some one else None) lines ++ classes)) ≡ true
order_with true one lines classes more order = more refl
order_with false one lines classes more order = order

order_past : (key : Key) (b : Bool) (one : GraphLine) (lines classes : List GraphLine) → (b ≡ true → key_below key (key_of one) ≡ true) →
    (b ≡ true → is_rising key_below (key_of one ∷ map key_of (lines ++ classes)) ≡ true) → is_rising key_below (key ∷ map key_of (lines ++ classes)) ≡ true →
    is_rising key_below (key ∷ map key_of (with_line (if b then Some one else None) lines ++ classes)) ≡ true
order_past key true one lines classes below more order =
    and_from (key_below key (key_of one)) (is_rising key_below (key_of one ∷ map key_of (lines ++ classes))) (below refl) (more refl)
order_past key false one lines classes below more order = order

module _ (layout : ProgramAtMap) (size : ℕ) (lean : has_leaves layout.closed.version ≡ true) (are : AreLeavesIn layout size) (classes : List GraphLine)
    (all : list_all is_class classes ≡ true) (order : is_rising key_below (map key_of classes) ≡ true) where
  leaf_below : (e f : ℕ) → IsLeafPlace layout e → IsLeafPlace layout f → e < f → key_below (leaf_key layout e) (leaf_key layout f) ≡ true
  leaf_below e f first second less =
      and_from (nat_le (gate layout (leaf_end (entered_in layout) e)) (word layout f)) (nat_lt (word layout f) (gate layout (leaf_end (entered_in layout) f)))
      (le-leb (gate layout (leaf_end (entered_in layout) e)) (word layout f) (are.apart e f first second less))
      (lt-ltb (word layout f) (gate layout (leaf_end (entered_in layout) f)) (are.some f second))

  here : (k n : ℕ) → k + suc n ≤ count layout.program → is_leaf (entered_in layout) k ≡ true → IsLeafPlace layout k
  here k n most leaf = record { lean = lean; below = omega arith; leaf = leaf }

  order_after : (e k n : ℕ) → IsLeafPlace layout e → e < k → k + n ≤ count layout.program →
      is_rising key_below (leaf_key layout e ∷ map key_of (leaf_lines_from layout k n ++ classes)) ≡ true
  unfolding leaf_lines_from
  order_after e k zero is less most =
      rises_behind (leaf_key layout e) classes
      (classes_behind (leaf_key layout e) classes (λ line class. class_behind_range (word layout e) (gate layout (leaf_end (entered_in layout) e)) line class) all) order
  order_after e k (suc n) is less most =
      order_past (leaf_key layout e) (is_leaf (entered_in layout) k) (leaf_of layout k) (leaf_lines_from layout (k + 1) n) classes
      (λ leaf. leaf_below e k is (here k n most leaf) less)
      (λ leaf. order_after k (k + 1) n (here k n most leaf) (omega arith) (omega arith))
      (order_after e (k + 1) n is (omega arith) (omega arith))

  order_from : (k n : ℕ) → k + n ≤ count layout.program → is_rising key_below (map key_of (leaf_lines_from layout k n ++ classes)) ≡ true
  unfolding leaf_lines_from
  order_from k zero most = order
  order_from k (suc n) most =
      order_with (is_leaf (entered_in layout) k) (leaf_of layout k) (leaf_lines_from layout (k + 1) n) classes
      (λ leaf. order_after k (k + 1) n (here k n most leaf) (omega arith) (omega arith))
      (order_from (k + 1) n (omega arith))

leaves_order : (layout : ProgramAtMap) (size : ℕ) (version : GraphVersion) → layout.closed.version ≡ version → AreLeavesIn layout size → (classes : List GraphLine) →
    list_all is_class classes ≡ true → is_rising key_below (map key_of classes) ≡ true → is_rising key_below (map key_of (leaf_lines_by version layout ++ classes)) ≡ true
leaves_order layout size OneLabel is are classes all order = order
leaves_order layout size TwoLabels is are classes all order = order
leaves_order layout size CalleeSaves is are classes all order = order_from layout size (ap has_leaves is) are classes all order 0 (count layout.program) (omega arith)

-- with leaves they are a graph's
leaves_graph : (layout : ProgramAtMap) (size : ℕ) (classes : List GraphLine) → AreLeavesIn layout size → list_all is_class classes ≡ true →
    IsGraph (record { version = layout.closed.version; code = size; lines = classes }) →
    IsGraph (record { version = layout.closed.version; code = size; lines = leaf_lines_by layout.closed.version layout ++ classes })
leaves_graph layout size classes are all graph =
    let leaves = leaf_lines_by layout.closed.version layout in
    let is : (e : ℕ) → has_leaves layout.closed.version ≡ true → e < count layout.program → is_leaf (entered_in layout) e ≡ true → IsLeafPlace layout e =
    λ e lean below leaf. record { lean = lean; below = below; leaf = leaf } in
    record {
      sorts =
          all_behind (fits_version layout.closed.version) leaves classes
          (leaf_lines_all (fits_version layout.closed.version) layout layout.closed.version (λ e lean below leaf. lean)) graph.sorts;
      length = graph.length;
      range =
          all_behind (line_in_range size) leaves classes
          (leaf_lines_all (line_in_range size) layout layout.closed.version
          (λ e lean below leaf.
          and_from (is_code_address size (word layout e)) (is_code_end size (gate layout (leaf_end (entered_in layout) e)))
          (are.from e (is e lean below leaf)) (are.to e (is e lean below leaf))))
          graph.range;
      targets =
          all_behind targets_rise leaves classes
          (leaf_lines_all targets_rise layout layout.closed.version
          (λ e lean below leaf. lt-ltb (word layout e) (gate layout (leaf_end (entered_in layout) e)) (are.some e (is e lean below leaf))))
          graph.targets;
      order = leaves_order layout size layout.closed.version refl are classes all graph.order;
    }

-- and with a list of system calls
call_graph : (calls : Option (List ℕ)) (version : GraphVersion) (size : ℕ) (lines : List GraphLine) → may_be_calls calls ≡ true →
    list_all (λ (line : GraphLine). key_below Head (key_of line)) lines ≡ true →
    IsGraph (record { version = version; code = size; lines = lines }) → IsGraph (record { version = version; code = size; lines = call_lines calls ++ lines })
call_graph None version size lines may all graph = graph
call_graph (Some numbers) version size lines may all graph =
    let parts = and_parts (are_calls numbers) (is_rising nat_lt numbers) may in
    record {
      sorts = graph.sorts;
      length = graph.length;
      range = and_from (are_calls numbers) (list_all (line_in_range size) lines) parts.0 graph.range;
      targets = and_from (is_rising nat_lt numbers) (list_all targets_rise lines) parts.1 graph.targets;
      order = rises_behind Head lines all graph.order;
    }

pub heads_graph : (m : Choice) (size : ℕ) → may_be_calls m.layout.closed.calls ≡ true → AreLeavesIn m.layout size →
    IsGraph (record { version = m.layout.closed.version; code = size; lines = written_classes m }) →
    IsGraph (record { version = m.layout.closed.version; code = size; lines = written_heads m })
heads_graph m size may are graph =
    call_graph m.layout.closed.calls m.layout.closed.version size (written_leaves m ++ written_classes m) may
    (all_behind (λ (line : GraphLine). key_below Head (key_of line)) (written_leaves m) (written_classes m)
    (leaf_lines_all (λ (line : GraphLine). key_below Head (key_of line)) m.layout m.layout.closed.version (λ e lean below leaf. refl))
    (classes_behind Head (written_classes m) class_behind_head (are_classes m)))
    (leaves_graph m.layout size (written_classes m) are (are_classes m) graph)
