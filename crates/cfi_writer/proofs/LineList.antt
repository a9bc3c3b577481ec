-- The lines of leaves, of classes and of places, one after another.
use Rattle.std.proofs.Common.{◌≡◌, ℕ, zero, suc, ◌+◌, ◌<◌, ◌≤◌, ◌-◌, Option, Some, None, List, [], ◌∷◌, ◌++◌, refl, length, map, take, drop, arith, ap, ◌∙◌, sym, subst, append_assoc, append-nil, get_or, Contains}
use Rattle.std.specs.Prelude.{Bool, true, false, if◌then◌else◌, slice_get, slice_index, slice_index_or}
use Rattle.std.specs.List.{All}
use Rattle.std.proofs.Math.ListN.{drop_of_length-le}
use Rattle.std.proofs.Math.Seq.{drop-cons, take-suc}
use Rattle.std.proofs.lemmas.List.{get_or_append_left, get_or-append-add, drop_more, get_or_default, length-drop, length-map, map-append, take_all}
use Rattle.std.proofs.lemmas.Option.{get_or_from_slice_get, slice_get_within}
use Rattle.cfi_writer.proofs.Prelude.{START, GraphVersion, OneLabel, TwoLabels, CalleeSaves, ItemKind, Item, EndsLast, count, is_end, item_of, no_item, GraphLine, Sort, IsIn, Site, has_leaves, Side, is_target, is_call, enters, ProgramAtMap, arrival, arrival_to, class_lines, entered_in, gate, gate_to, graph_lines, head_lines, jump_line, jump_line_by, leaf_line, leaf_lines_from, line_for, line_of_kind, place_lines, with_line, word, Tagged, all_classes, empty_classes, site_label, tag, tagged, with_empty, IsAccepted, labels_before, Choice}
use Rattle.obj_input.specs.declared.item_kind.ItemKind.TheVariants as is
use Rattle.cfi_graph.specs.declared.line.GraphLine.TheVariants as line
use Rattle.cfi_writer.proofs.PlaceUnits.{full_aim}
use Rattle.cfi_writer.proofs.SideLabels.{drop_more as drop_twice}
use Rattle.cfi_writer.proofs.Starts.{before_first, before_next, counted_at}

-- these are lines before those of the places from index k on
abbrev pub AreLines : ProgramAtMap → List ℕ → ℕ → List GraphLine → List GraphLine → Type 0
AreLines layout labels k first whole = first ++ place_lines layout labels k (drop k layout.program.items) ≡ whole

split_line : (one : Option GraphLine) (rest : List GraphLine) → with_line one [] ++ rest ≡ with_line one rest
split_line None rest = refl
split_line (Some one) rest = refl

pub next_lines : (layout : ProgramAtMap) (labels : List ℕ) (k : ℕ) (first jumped more whole : List GraphLine) → k < count layout.program
    → AreLines layout labels k first whole → jumped ≡ first ++ with_line (jump_line layout k) []
    → more ≡ jumped ++ with_line (line_for layout labels k (item_of layout.program k)) [] → AreLines layout labels (k + 1) more whole
unfolding place_lines
next_lines layout labels k first jumped more whole below are jumped_is is =
    let jump = jump_line layout k in
    let one = line_for layout labels k (item_of layout.program k) in
    let rest = place_lines layout labels (k + 1) (drop (suc k) layout.program.items) in
    let next : k + 1 ≡ suc k = omega arith in
    let left : drop k layout.program.items ≡ item_of layout.program k ∷ drop (suc k) layout.program.items =
    drop-cons layout.program.items k no_item below in
    let all : first ++ place_lines layout labels k (item_of layout.program k ∷ drop (suc k) layout.program.items) ≡ whole =
    subst (λ (items : List Item). first ++ place_lines layout labels k items ≡ whole) left are in
    subst (λ (j : ℕ). more ++ place_lines layout labels (k + 1) (drop j layout.program.items) ≡ whole) (sym next)
    (ap (λ (ls : List GraphLine). ls ++ rest) is ∙ append_assoc jumped (with_line one []) rest
    ∙ ap (λ (ls : List GraphLine). jumped ++ ls) (split_line one rest)
    ∙ ap (λ (ls : List GraphLine). ls ++ with_line one rest) jumped_is ∙ append_assoc first (with_line jump []) (with_line one rest)
    ∙ ap (λ (ls : List GraphLine). first ++ ls) (split_line jump (with_line one rest)) ∙ all)

-- under graphs of versions 1 and 2 there is no jump before a unit, and each direct transfer leads to a gate
no_jump : (version : GraphVersion) (saves target : Bool) (at behind : ℕ) → has_leaves version ≡ false → jump_line_by version saves target at behind ≡ None
no_jump OneLabel saves target at behind full = refl
no_jump TwoLabels saves target at behind full = refl
no_jump CalleeSaves saves target at behind full = absurd (cc)

pub next_full : (layout : ProgramAtMap) (labels : List ℕ) (k : ℕ) (first more whole : List GraphLine) → k < count layout.program
    → has_leaves layout.closed.version ≡ false → AreLines layout labels k first whole
    → more ≡ first ++ with_line (line_of_kind (item_of layout.program k).kind (word layout k) (gate_to layout (item_of layout.program k).target)
    (site_label labels layout.closed.sides k)) [] → AreLines layout labels (k + 1) more whole
next_full layout labels k first more whole below full are is =
    let item = item_of layout.program k in
    let none = no_jump layout.closed.version (enters (entered_in layout) k) (is_target layout.closed.sides k) (gate layout k) (word layout k) full in
    next_lines layout labels k first first more whole below are
    (sym (append-nil first) ∙ ap (λ (one : Option GraphLine). first ++ with_line one []) (sym none))
    (is ∙ ap (λ (target : ℕ). first ++ with_line (line_of_kind item.kind (word layout k) target (site_label labels layout.closed.sides k)) []) (sym (full_aim layout item full)))

-- where callees save the sites of calls, the line of a call, and that of another place
pub call_line : (layout : ProgramAtMap) (labels : List ℕ) (k : ℕ) (item : Item) → is_call item.kind ≡ true →
    Some (line.Call (word layout k) (arrival_to layout item.target)) ≡ line_for layout labels k item
call_line layout labels k item call = by_kind item.kind call
  where
    by_kind : (kind : ItemKind) → is_call kind ≡ true →
        Some (line.Call (word layout k) (arrival_to layout item.target))
        ≡ line_of_kind kind (word layout k) (if is_call kind then arrival_to layout item.target else gate_to layout item.target) (site_label labels layout.closed.sides k)
    by_kind is.Call call = refl
    by_kind other call = absurd (cc)

pub other_line : (layout : ProgramAtMap) (labels : List ℕ) (k : ℕ) (item : Item) → is_call item.kind ≡ false →
    line_of_kind item.kind (word layout k) (gate_to layout item.target) (site_label labels layout.closed.sides k) ≡ line_for layout labels k item
other_line layout labels k item other =
    ap (λ (call : Bool). line_of_kind item.kind (word layout k) (if call then arrival_to layout item.target else gate_to layout item.target)
    (site_label labels layout.closed.sides k)) (sym other)

-- and that of the jump before a unit
pub jump_line_is : (layout : ProgramAtMap) (k : ℕ) → has_leaves layout.closed.version ≡ true →
    jump_line layout k
    ≡ (if enters (entered_in layout) k then Some (line.Edge (if is_target layout.closed.sides k then gate layout k + 4 else gate layout k) (word layout k)) else None)
jump_line_is layout k lean = by_version layout.closed.version (enters (entered_in layout) k) (is_target layout.closed.sides k) lean
  where
    by_version : (version : GraphVersion) (saves target : Bool) → has_leaves version ≡ true →
        jump_line_by version saves target (gate layout k) (word layout k)
        ≡ (if saves then Some (line.Edge (if target then gate layout k + 4 else gate layout k) (word layout k)) else None)
    by_version OneLabel saves target lean = absurd (cc)
    by_version TwoLabels saves target lean = absurd (cc)
    by_version CalleeSaves saves target lean = refl

-- these are lines before those of the leaves that begin from index k on
abbrev pub AreLeafLines : ProgramAtMap → ℕ → List GraphLine → List GraphLine → Type 0
AreLeafLines layout k first whole = first ++ leaf_lines_from layout k (count layout.program - k) ≡ whole

pub next_leaf : (layout : ProgramAtMap) (k : ℕ) (first more whole : List GraphLine) → k < count layout.program → AreLeafLines layout k first whole →
    more ≡ first ++ with_line (leaf_line layout k) [] → AreLeafLines layout (k + 1) more whole
unfolding leaf_lines_from
next_leaf layout k first more whole below are is =
    let rest = leaf_lines_from layout (k + 1) (count layout.program - (k + 1)) in
    let left : count layout.program - k ≡ suc (count layout.program - (k + 1)) = omega arith in
    ap (λ (ls : List GraphLine). ls ++ rest) is ∙ append_assoc first (with_line (leaf_line layout k) []) rest
    ∙ ap (λ (ls : List GraphLine). first ++ ls) (split_line (leaf_line layout k) rest)
    ∙ ap (λ (n : ℕ). first ++ leaf_lines_from layout k n) (sym left) ∙ are

pub all_leaves : (layout : ProgramAtMap) (k : ℕ) (first whole : List GraphLine) → count layout.program ≤ k → AreLeafLines layout k first whole → first ≡ whole
unfolding leaf_lines_from
all_leaves layout k first whole past are =
    let none : count layout.program - k ≡ 0 = omega arith in
    sym (append-nil first) ∙ subst (λ (n : ℕ). first ++ leaf_lines_from layout k n ≡ whole) none are

-- a leaf ends at a place
pub leaf_ends : (m : Choice) → IsAccepted m → EndsLast m.layout.program
leaf_ends m ok some =
    let (k, counted, ends) = ok.last in
    let last : k ≡ count m.layout.program - 1 = omega arith in
    subst (λ (j : ℕ). is_end (item_of m.layout.program j).kind ≡ true) last ends

pub all_lines : (layout : ProgramAtMap) (labels : List ℕ) (k : ℕ) (first whole : List GraphLine) → count layout.program ≤ k
    → AreLines layout labels k first whole → first ≡ whole
unfolding place_lines
all_lines layout labels k first whole past are =
    let none : drop k layout.program.items ≡ [] = drop_of_length-le layout.program.items past in
    sym (append-nil first) ∙ subst (λ (items : List Item). first ++ place_lines layout labels k items ≡ whole) none are

-- these are lines before those of the classes of a side from index k on
abbrev pub AreClassLines : List ℕ → List ℕ → Sort → List (List ℕ) → ℕ → List GraphLine → List GraphLine → Type 0
AreClassLines gates labels sort classes k first whole = first ++ class_lines gates (drop k labels) (map (tag sort) (drop k classes)) ≡ whole

pub next_class : (gates labels : List ℕ) (sort : Sort) (classes : List (List ℕ)) (k label : ℕ) (class : List ℕ) (first more whole : List GraphLine)
    → k < length classes → length classes ≤ length labels → AreClassLines gates labels sort classes k first whole
    → label ≡ slice_index labels k → class ≡ map (slice_index gates) (slice_index_or classes k [])
    → more ≡ first ++ line.Class sort label class ∷ [] → AreClassLines gates labels sort classes (k + 1) more whole
unfolding class_lines
next_class gates labels sort classes k label class first more whole here enough are label_is class_is is =
    let next : k + 1 ≡ suc k = omega arith in
    let below : k < length labels = omega arith in
    let ls = drop-cons labels k 0 below in
    let cs = drop-cons classes k [] here in
    let rest = class_lines gates (drop (suc k) labels) (map (tag sort) (drop (suc k) classes)) in
    let all : first ++ class_lines gates (slice_index labels k ∷ drop (suc k) labels) (map (tag sort) (slice_index_or classes k [] ∷ drop (suc k) classes)) ≡ whole =
    subst (λ (c : List (List ℕ)). first ++ class_lines gates (slice_index labels k ∷ drop (suc k) labels) (map (tag sort) c) ≡ whole) cs
    (subst (λ (l : List ℕ). first ++ class_lines gates l (map (tag sort) (drop k classes)) ≡ whole) ls are) in
    subst (λ (j : ℕ). more ++ class_lines gates (drop j labels) (map (tag sort) (drop j classes)) ≡ whole) (sym next)
    (ap (λ (lines : List GraphLine). lines ++ rest) is ∙ append_assoc first (line.Class sort label class ∷ []) rest
    ∙ ap (λ l. first ++ (line.Class sort l class ∷ rest)) label_is
    ∙ ap (λ (c : List ℕ). first ++ (line.Class sort (slice_index labels k) c ∷ rest)) class_is ∙ all)

no_lines : (gates labels : List ℕ) → class_lines gates labels [] ≡ []
unfolding class_lines
no_lines gates [] = refl
no_lines gates (l ∷ labels) = refl

pub all_class_lines : (gates labels : List ℕ) (sort : Sort) (classes : List (List ℕ)) (k : ℕ) (first whole : List GraphLine) → length classes ≤ k
    → AreClassLines gates labels sort classes k first whole → first ≡ whole
all_class_lines gates labels sort classes k first whole past are =
    let none : drop k classes ≡ [] = drop_of_length-le classes past in
    sym (append-nil first) ∙ ap (λ (ls : List GraphLine). first ++ ls) (sym (no_lines gates (drop k labels)))
    ∙ subst (λ (cs : List (List ℕ)). first ++ class_lines gates (drop k labels) (map (tag sort) cs) ≡ whole) none are

-- those of some classes and of others behind them
lines_behind : (gates labels : List ℕ) (ts us : List Tagged) → length ts ≤ length labels →
    class_lines gates labels (ts ++ us) ≡ class_lines gates labels ts ++ class_lines gates (drop (length ts) labels) us
unfolding class_lines
lines_behind gates labels [] us enough = ap (λ (ls : List GraphLine). ls ++ class_lines gates labels us) (sym (no_lines gates labels))
lines_behind gates [] (t ∷ ts) us enough = absurd (omega arith)
lines_behind gates (l ∷ labels) (t ∷ ts) us enough =
    ap (λ (ls : List GraphLine). line.Class t.sort l (map (slice_index gates) t.class) ∷ ls) (lines_behind gates labels ts us (omega arith))

-- these are lines before those of the sides from index j on
abbrev pub AreSideLines : List ℕ → List ℕ → List Side → ℕ → List GraphLine → List GraphLine → Type 0
AreSideLines gates labels sides j first whole =
    first ++ class_lines gates (drop (labels_before sides j) labels) (tagged (drop j sides)) ≡ whole

pub first_side_lines : (gates labels : List ℕ) (sides : List Side) (first before : List GraphLine) → first ≡ before →
    AreSideLines gates labels sides 0 first (before ++ class_lines gates labels (tagged sides))
first_side_lines gates labels sides first before is =
    ap (λ (ls : List GraphLine). ls ++ class_lines gates (drop (labels_before sides 0) labels) (tagged sides)) is
    ∙ ap (λ (n : ℕ). before ++ class_lines gates (drop n labels) (tagged sides)) (before_first sides)

pub next_side : (gates labels : List ℕ) (sides : List Side) (j : ℕ) (side : Side) (first more whole : List GraphLine) → slice_get sides j ≡ Some side
    → length labels ≡ length (tagged sides) → AreSideLines gates labels sides j first whole
    → more ≡ first ++ class_lines gates (drop (labels_before sides j) labels) (map (tag side.sort) (all_classes side)) → AreSideLines gates labels sides (j + 1) more whole
unfolding tagged
next_side gates labels sides j side first more whole there counted are is =
    let own = drop (labels_before sides j) labels in
    let ts = map (tag side.sort) (all_classes side) in
    let us = tagged (drop (j + 1) sides) in
    let many = length-map (all_classes side) (tag side.sort) in
    let room = counted_at sides j side there in
    let left = length-drop (labels_before sides j) labels in
    let split : drop j sides ≡ side ∷ drop (j + 1) sides =
    drop_more sides j side (slice_get_within sides j side there) ∙ ap (λ (s : Side). s ∷ drop (j + 1) sides) (get_or_from_slice_get sides j side side there) in
    let behind : drop (labels_before sides (j + 1)) labels ≡ drop (length ts) own =
    ap (λ (n : ℕ). drop n labels) (before_next sides j side there ∙ ap (λ (n : ℕ). labels_before sides j + n) (sym many))
    ∙ sym (drop_twice labels (labels_before sides j) (length ts)) in
    let joined = lines_behind gates own ts us (omega (arith, room, left, many, counted)) in
    ap (λ (ls : List ℕ). more ++ class_lines gates ls us) behind
    ∙ ap (λ (lines : List GraphLine). lines ++ class_lines gates (drop (length ts) own) us) is
    ∙ append_assoc first (class_lines gates own ts) (class_lines gates (drop (length ts) own) us)
    ∙ ap (λ (lines : List GraphLine). first ++ lines) (sym joined)
    ∙ ap (λ (ss : List Side). first ++ class_lines gates own (tagged ss)) (sym split) ∙ are

pub all_side_lines : (gates labels : List ℕ) (sides : List Side) (j : ℕ) (first whole : List GraphLine) → length sides ≤ j → AreSideLines gates labels sides j first whole
    → first ≡ whole
unfolding tagged
all_side_lines gates labels sides j first whole past are =
    let none : drop j sides ≡ [] = drop_of_length-le sides past in
    sym (append-nil first) ∙ ap (λ (ls : List GraphLine). first ++ ls) (sym (no_lines gates (drop (labels_before sides j) labels)))
    ∙ ap (λ (ss : List Side). first ++ class_lines gates (drop (labels_before sides j) labels) (tagged ss)) (sym none) ∙ are

-- the classes of sites without targets have none
empty_with : (class : Option ℕ) (rest : List (List ℕ)) (i : ℕ) → ((j : ℕ) → slice_index_or rest j [] ≡ []) → slice_index_or (with_empty class rest) i [] ≡ []
empty_with (Some c) rest i none = none i
empty_with None rest zero none = refl
empty_with None rest (suc i) none = none i

empty_at : (sites : List Site) (i : ℕ) → slice_index_or (empty_classes sites) i [] ≡ []
unfolding empty_classes
empty_at [] i = refl
empty_at (site ∷ sites) i = empty_with site.class (empty_classes sites) i (empty_at sites)

pub class_within : (side : Side) (k : ℕ) → k < length side.classes
    → slice_index_or side.classes k [] ≡ slice_index_or (all_classes side) k []
class_within side k below = sym (get_or_append_left side.classes (empty_classes side.sites) [] k below)

pub class_past : (side : Side) (k : ℕ) → length side.classes ≤ k → slice_index_or (all_classes side) k [] ≡ []
class_past side k past =
    let same : length side.classes + (k - length side.classes) ≡ k = omega arith in
    ap (λ j. slice_index_or (all_classes side) j []) (sym same)
    ∙ get_or-append-add side.classes (empty_classes side.sites) (k - length side.classes) [] ∙ empty_at side.sites (k - length side.classes)

-- the members of the classes of a side are places
pub members_there : (m : Choice) (j : ℕ) (side : Side) → IsAccepted m → slice_get m.layout.closed.sides j ≡ Some side
    → All (All (λ t. t < count m.layout.program)) side.classes
members_there m j side accepted there c d inside i e within =
    accepted.members j c (get_or (get_or side.classes c d) i e) side there
    (get_or_in side.classes c d i e inside within)
  where
    get_or_in : (classes : List (List ℕ)) (c : ℕ) (d : List ℕ) (i e : ℕ) → c < length classes → i < length (get_or classes c d) → IsIn classes c (get_or (get_or classes c d) i e)
    get_or_in classes c d i e inside within =
        subst (λ (class : List ℕ). Contains class (get_or (get_or classes c d) i e)) (get_or_default classes c d [] inside)
        (i, within, get_or_default (get_or classes c d) i (get_or (get_or classes c d) i e) e within)

pub joined : (layout : ProgramAtMap) (labels : List ℕ) (entry : ℕ) (first second third : List GraphLine)
    → entry ≡ arrival layout layout.entry → first ≡ head_lines layout labels
    → second ≡ first ++ line.Call START entry ∷ [] → third ≡ second ++ place_lines layout labels 0 layout.program.items
    → third ≡ graph_lines layout labels
joined layout labels entry first second third entry_is first_is second_is third_is =
    let heads = head_lines layout labels in
    let places = place_lines layout labels 0 layout.program.items in
    third_is ∙ ap (λ (ls : List GraphLine). ls ++ places) second_is ∙ append_assoc first (line.Call START entry ∷ []) places
    ∙ ap (λ (ls : List GraphLine). ls ++ (line.Call START entry ∷ places)) first_is
    ∙ ap (λ (a : ℕ). heads ++ (line.Call START a ∷ places)) entry_is

-- a list that is made of the members of another, one after another
pub next_mapped : (f : ℕ → ℕ) (xs first more : List ℕ) (k y : ℕ) → k < length xs → first ≡ map f (take k xs)
    → y ≡ f (get_or xs k 0) → more ≡ first ++ y ∷ [] → more ≡ map f (take (k + 1) xs)
next_mapped f xs first more k y below first_is y_is is =
    let next : k + 1 ≡ suc k = omega arith in
    is ∙ ap (λ (ys : List ℕ). ys ++ y ∷ []) first_is ∙ ap (λ z. map f (take k xs) ++ z ∷ []) y_is
    ∙ sym (map-append f (take k xs) (get_or xs k 0 ∷ []))
    ∙ ap (λ (ys : List ℕ). map f ys) (sym (take-suc xs k 0 below)) ∙ ap (λ n. map f (take n xs)) (sym next)

pub all_mapped : (f : ℕ → ℕ) (xs first : List ℕ) (k : ℕ) → length xs ≤ k → first ≡ map f (take k xs) → first ≡ map f xs
all_mapped f xs first k past is = is ∙ ap (λ (ys : List ℕ). map f ys) (take_all k xs past)
