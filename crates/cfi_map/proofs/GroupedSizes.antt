-- Sizes of a program's parts whose branches are long and whose stores are grouped: each later member of a group saves its mask.
use Rattle.std.proofs.Common.{◌≡◌, ℕ, zero, suc, ◌+◌, ◌-◌, ◌<◌, ◌≤◌, Bool, true, false, Option, List, [], ◌∷◌, ◌++◌, length, get_or, drop, refl, sym, ap, ◌∙◌, arith, append_assoc, if◌then◌else◌}
use Rattle.std.specs.Prelude.{◌&&◌, ◌||◌, not, sum}
use Rattle.std.proofs.lemmas.List.{append-nil, drop_all}
use Rattle.std.proofs.lemmas.List.Sums.{sum_by-cons}
use Rattle.cfi_map.proofs.Prelude.{profile_for, CODE_SIZE, Form, ItemKind, Item, no_item, code_size, GraphVersion, OneLabel, TwoLabels, CalleeSaves, Entered, lead_size, in_leaf, is_short, is_store, is_ecall, kind_size, lean_size, size_by, size_of, whole_at, grouped_size, saved_bytes, grouped_parts, grouped_sizes, part_sizes, whole_size, whole_sizes}
use Rattle.obj_input.specs.declared.item_kind.ItemKind.TheVariants as is
use Rattle.cfi_map.proofs.Placing.{drop_step}

pub length_grouped : (of : Entered) (whole : List Bool) (k : ℕ) (items : List Item) → length (grouped_sizes of whole k items) ≡ length items
unfolding grouped_sizes
length_grouped of whole k [] = refl
length_grouped of whole k (item ∷ items) = let e = length_grouped of whole (k + 1) items in omega arith

pub grouped_at : (of : Entered) (whole : List Bool) (k : ℕ) (items : List Item) (i : ℕ) → i < length items →
    get_or (grouped_sizes of whole k items) i 0
    ≡ lead_size of (k + i) + size_of of (k + i) (get_or items i no_item) (whole_at whole (k + i) || not (is_store (get_or items i no_item).kind))
unfolding grouped_sizes
grouped_at of whole k [] i lt = absurd (omega arith)
grouped_at of whole k (item ∷ items) zero lt = let e : k + 0 ≡ k = omega arith in rw e refl
grouped_at of whole k (item ∷ items) (suc i) lt =
    let e : k + 1 + i ≡ k + suc i = omega arith in
    grouped_at of whole (k + 1) items i (omega arith) ∙ rw e refl

-- while a loop makes them
pub grouped_more : (of : Entered) (whole : List Bool) (k : ℕ) (items : List Item) (made all : List ℕ) (size : ℕ) → k < length items →
    size ≡ lead_size of k + size_of of k (get_or items k no_item) (whole_at whole k || not (is_store (get_or items k no_item).kind)) →
    made ++ grouped_sizes of whole k (drop k items) ≡ all → (made ++ size ∷ []) ++ grouped_sizes of whole (k + 1) (drop (k + 1) items) ≡ all
unfolding grouped_sizes
grouped_more of whole k items made all size lt is so_far = rw (append_assoc, is) (rw (drop_step items k no_item lt) at so_far)

pub grouped_end : (of : Entered) (whole : List Bool) (k : ℕ) (items : List Item) (made all : List ℕ) → length items ≤ k →
    made ++ grouped_sizes of whole k (drop k items) ≡ all → made ≡ all
unfolding grouped_sizes
grouped_end of whole k items made all past so_far = sym (append-nil made) ∙ (rw (drop_all k items past) at so_far)

-- with no flags each store has its whole size
pub none_grouped : (of : Entered) (k : ℕ) (items : List Item) → grouped_sizes of [] k items ≡ part_sizes of [] k items
unfolding grouped_sizes part_sizes
none_grouped of k [] = refl
none_grouped of k (item ∷ items) = ap (λ (sizes : List ℕ). (lead_size of k + size_of of k item true) ∷ sizes) (none_grouped of (k + 1) items)

-- flags of other places do not matter
one_kind : (calls : Option (List ℕ)) (kind : ItemKind) (ecall a b : Bool) → (is_store kind ≡ true → a ≡ b) →
    kind_size calls kind ecall (a || not (is_store kind)) ≡ kind_size calls kind ecall (b || not (is_store kind))
one_kind calls is.Store ecall a b same = ap (λ (w : Bool). kind_size calls is.Store ecall (w || false)) (same refl)
one_kind calls other ecall true true same = refl
one_kind calls other ecall true false same = refl
one_kind calls other ecall false true same = refl
one_kind calls other ecall false false same = refl

one_lean : (calls : Option (List ℕ)) (kind : ItemKind) (ecall short inside a b : Bool) → (is_store kind ≡ true → a ≡ b) →
    lean_size calls kind ecall short inside (a || not (is_store kind)) ≡ lean_size calls kind ecall short inside (b || not (is_store kind))
one_lean calls is.Store ecall short inside a b same = ap (λ (w : Bool). lean_size calls is.Store ecall short inside (w || false)) (same refl)
one_lean calls other ecall short inside true true same = refl
one_lean calls other ecall short inside true false same = refl
one_lean calls other ecall short inside false true same = refl
one_lean calls other ecall short inside false false same = refl

one_same : (version : GraphVersion) (calls : Option (List ℕ)) (inside : Bool) (item : Item) (a b : Bool) → (is_store item.kind ≡ true → a ≡ b) →
    size_by version calls inside item (a || not (is_store item.kind)) ≡ size_by version calls inside item (b || not (is_store item.kind))
one_same OneLabel calls inside item a b same = one_kind calls item.kind (is_ecall item) a b same
one_same TwoLabels calls inside item a b same = one_kind calls item.kind (is_ecall item) a b same
one_same CalleeSaves calls inside item a b same = one_lean calls item.kind (is_ecall item) (is_short item) inside a b same

pub grouped_same : (of : Entered) (whole other : List Bool) (k : ℕ) (items : List Item) →
    ((i : ℕ) → i < length items → is_store (get_or items i no_item).kind ≡ true → whole_at whole (k + i) ≡ whole_at other (k + i)) →
    grouped_sizes of whole k items ≡ grouped_sizes of other k items
unfolding grouped_sizes
grouped_same of whole other k [] same = refl
grouped_same of whole other k (item ∷ items) same =
    let start : k + 0 ≡ k = omega arith in
    let here = one_same of.closed.version of.closed.calls (in_leaf of k) item (whole_at whole k) (whole_at other k) (λ store. rw start at (same 0 (omega arith) store)) in
    let rest = grouped_same of whole other (k + 1) items
    (λ i lt store. let e : k + 1 + i ≡ k + suc i = omega arith in rw e (same (suc i) (omega arith) store)) in
    ap (λ (n : ℕ). (lead_size of k + n) ∷ grouped_sizes of whole (k + 1) items) here
    ∙ ap (λ (sizes : List ℕ). (lead_size of k + size_of of k item (whole_at other k || not (is_store item.kind))) ∷ sizes) rest

-- what a later member saves: all but its one word
one_later : (calls : Option (List ℕ)) (kind : ItemKind) (ecall whole : Bool) →
    kind_size calls kind ecall (whole || not (is_store kind)) + (if is_store kind && not whole then kind_size calls kind ecall true - 4 else 0)
    ≡ kind_size calls kind ecall true
one_later calls is.Store ecall true = refl
one_later calls is.Store ecall false = refl
one_later calls is.System ecall true = omega arith
one_later calls is.System ecall false = omega arith
one_later calls other ecall true = refl
one_later calls other ecall false = refl

lean_later : (calls : Option (List ℕ)) (kind : ItemKind) (ecall short inside whole : Bool) →
    lean_size calls kind ecall short inside (whole || not (is_store kind))
    + (if is_store kind && not whole then lean_size calls kind ecall short inside true - 4 else 0)
    ≡ lean_size calls kind ecall short inside true
lean_later calls is.Store ecall short inside true = omega arith
lean_later calls is.Store ecall true inside false = refl
lean_later calls is.Store ecall false inside false = refl
lean_later calls other ecall short inside true = omega arith
lean_later calls other ecall short inside false = omega arith

one_shorter : (version : GraphVersion) (calls : Option (List ℕ)) (inside : Bool) (item : Item) (whole : Bool) →
    size_by version calls inside item (whole || not (is_store item.kind))
    + (if is_store item.kind && not whole then size_by version calls inside item true - 4 else 0)
    ≡ size_by version calls inside item true
one_shorter OneLabel calls inside item whole = one_later calls item.kind (is_ecall item) whole
one_shorter TwoLabels calls inside item whole = one_later calls item.kind (is_ecall item) whole
one_shorter CalleeSaves calls inside item whole = lean_later calls item.kind (is_ecall item) (is_short item) inside whole

pub sum_shorter : (of : Entered) (whole : List Bool) (k : ℕ) (items : List Item) →
    sum (grouped_sizes of whole k items) + saved_bytes of whole k items ≡ sum (part_sizes of [] k items)
unfolding grouped_sizes part_sizes saved_bytes
sum_shorter of whole k [] = refl
sum_shorter of whole k (item ∷ items) =
    let grouped = size_of of k item (whole_at whole k || not (is_store item.kind)) in
    let saved = if is_store item.kind && not (whole_at whole k) then size_of of k item true - 4 else 0 in
    let here : grouped + saved ≡ size_of of k item true = one_shorter of.closed.version of.closed.calls (in_leaf of k) item (whole_at whole k) in
    let rest = sum_shorter of whole (k + 1) items in
    let one = sum_by-cons (λ (x : ℕ). x) (lead_size of k + grouped) (grouped_sizes of whole (k + 1) items) in
    let other = sum_by-cons (λ (x : ℕ). x) (lead_size of k + size_of of k item true) (part_sizes of [] (k + 1) items) in
    omega (arith, here, rest, one, other)

-- with every branch long the code is shorter by just that
pub code_shorter : (form : Form) (of : Entered) (whole : List Bool) →
    grouped_size form of whole + saved_bytes of whole 0 of.program.items ≡ whole_size form of
code_shorter form of whole = let sums = sum_shorter of whole 0 of.program.items in omega (arith, sums)

pub grouped_less : (of : Entered) (whole : List Bool) → sum (grouped_parts of whole) ≤ sum (whole_sizes of)
grouped_less of whole = let sums = sum_shorter of whole 0 of.program.items in omega (arith, sums)

-- while a program is placed
none_parts : (of : Entered) (slice sizes : List ℕ) → slice ≡ sizes → sizes ≡ grouped_parts of [] → slice ≡ whole_sizes of
none_parts of slice sizes same is = same ∙ is ∙ none_grouped of 0 of.program.items

pub none_size : (form : Form) (of : Entered) (slice sizes : List ℕ) (bytes : ℕ) →
    bytes ≡ code_size (profile_for form).units_from slice → slice ≡ sizes → sizes ≡ grouped_parts of [] → bytes ≡ whole_size form of
none_size form of slice sizes bytes counted same is =
    counted ∙ ap (code_size (profile_for form).units_from) (none_parts of slice sizes same is)

pub grouped_room : (form : Form) (of : Entered) (firsts : List Bool) (slice sizes : List ℕ) →
    whole_size form of ≤ CODE_SIZE → slice ≡ sizes → sizes ≡ grouped_parts of firsts → code_size (profile_for form).units_from slice ≤ CODE_SIZE
grouped_room form of firsts slice sizes room same is =
    let bytes = ap (code_size (profile_for form).units_from) (same ∙ is) in
    let shorter = code_shorter form of firsts in
    omega (arith, bytes, shorter, room)
