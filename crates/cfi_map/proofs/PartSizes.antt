-- Sizes of a program's parts, and the gates of parts that stand one after another.
use Rattle.std.proofs.Common.{◌≡◌, ℕ, zero, suc, ◌+◌, ◌*◌, ◌<◌, ◌≤◌, Bool, true, false, Option, Some, None, List, [], ◌∷◌, length, get_or, take, refl, ap, subst, ◌∙◌, arith}
use Rattle.std.specs.Prelude.{sum}
use Rattle.std.proofs.lemmas.List.Sums.{sum_by-cons}
use Rattle.cfi_map.proofs.Prelude.{ItemKind, Item, no_item, starts_from, GraphVersion, OneLabel, TwoLabels, CalleeSaves, Entered, lead_size, in_leaf, is_short, AreGates, is_ecall, kind_size, lean_size, size_by, size_of, whole_at, part_sizes}
use Rattle.obj_input.specs.declared.item_kind.ItemKind.TheVariants as is

pub length_sizes : (of : Entered) (whole : List Bool) (k : ℕ) (items : List Item) → length (part_sizes of whole k items) ≡ length items
unfolding part_sizes
length_sizes of whole k [] = refl
length_sizes of whole k (item ∷ items) = let e = length_sizes of whole (k + 1) items in omega arith

pub size_at : (of : Entered) (whole : List Bool) (k : ℕ) (items : List Item) (i : ℕ) → i < length items →
    get_or (part_sizes of whole k items) i 0 ≡ lead_size of (k + i) + size_of of (k + i) (get_or items i no_item) (whole_at whole (k + i))
unfolding part_sizes
size_at of whole k [] i lt = absurd (omega arith)
size_at of whole k (item ∷ items) zero lt = let e : k + 0 ≡ k = omega arith in rw e refl
size_at of whole k (item ∷ items) (suc i) lt =
    let e : k + 1 + i ≡ k + suc i = omega arith in
    size_at of whole (k + 1) items i (omega arith) ∙ rw e refl

-- a unit has one word at least
kind_many : (calls : Option (List ℕ)) (kind : ItemKind) (ecall whole : Bool) → 4 ≤ kind_size calls kind ecall whole
kind_many calls is.Store ecall true = omega arith
kind_many calls is.Store ecall false = omega arith
kind_many (Some ns) is.System true whole = omega arith
kind_many None is.System true whole = omega arith
kind_many calls is.System false whole = omega arith
kind_many calls is.Branch ecall true = omega arith
kind_many calls is.Branch ecall false = omega arith
kind_many calls is.Call ecall whole = omega arith
kind_many calls is.Return ecall whole = omega arith
kind_many calls is.Ijump ecall whole = omega arith
kind_many calls is.Icall ecall whole = omega arith
kind_many calls other ecall whole = omega arith

lean_many : (calls : Option (List ℕ)) (kind : ItemKind) (ecall short inside whole : Bool) → 4 ≤ lean_size calls kind ecall short inside whole
lean_many calls is.Store ecall true inside true = omega arith
lean_many calls is.Store ecall false inside true = omega arith
lean_many calls is.Store ecall short inside false = omega arith
lean_many calls is.Call ecall short inside whole = omega arith
lean_many calls is.Return ecall short true whole = omega arith
lean_many calls is.Return ecall short false whole = omega arith
lean_many calls is.Ijump ecall short inside whole = omega arith
lean_many calls is.Icall ecall short inside whole = omega arith
lean_many calls other ecall short inside whole = kind_many calls other ecall whole

size_many : (version : GraphVersion) (calls : Option (List ℕ)) (inside : Bool) (item : Item) (whole : Bool) → 4 ≤ size_by version calls inside item whole
size_many OneLabel calls inside item whole = kind_many calls item.kind (is_ecall item) whole
size_many TwoLabels calls inside item whole = kind_many calls item.kind (is_ecall item) whole
size_many CalleeSaves calls inside item whole = lean_many calls item.kind (is_ecall item) (is_short item) inside whole

pub unit_many : (of : Entered) (k : ℕ) (item : Item) (whole : Bool) → 4 ≤ size_of of k item whole
unit_many of k item whole = size_many of.closed.version of.closed.calls (in_leaf of k) item whole

-- so gates rise
pub gates_rise : (of : Entered) (whole : List Bool) (k at : ℕ) (items : List Item) (gates : List ℕ) → AreGates of whole k at items gates →
    (i : ℕ) → i + 1 < length gates → get_or gates i 0 < get_or gates (i + 1) 0
unfolding AreGates
gates_rise of whole k at items [] are i below = absurd (omega arith)
gates_rise of whole k at items (gate ∷ []) are i below = absurd (omega arith)
gates_rise of whole k at [] (gate ∷ next ∷ gates) are i below = absurd are
gates_rise of whole k at (item ∷ []) (gate ∷ next ∷ gates) are i below = absurd are.1
gates_rise of whole k at (item ∷ other ∷ items) (gate ∷ next ∷ gates) are zero below =
    let here = are.0 in
    let there = are.1.0 in
    let some = unit_many of k item (whole_at whole k) in
    omega arith
gates_rise of whole k at (item ∷ other ∷ items) (gate ∷ next ∷ gates) are (suc i) below =
    let same : suc (i + 1) ≡ suc i + 1 = omega arith in
    let step = gates_rise of whole (k + 1) (at + lead_size of k + size_of of k item (whole_at whole k)) (other ∷ items) (next ∷ gates) are.1 i (omega arith) in
    subst (λ (n : ℕ). get_or (next ∷ gates) i 0 < get_or (gate ∷ next ∷ gates) n 0) same step

-- so parts are few
pub parts_many : (of : Entered) (whole : List Bool) (k : ℕ) (items : List Item) → 4 * length items ≤ sum (part_sizes of whole k items)
unfolding part_sizes
parts_many of whole k [] = omega arith
parts_many of whole k (item ∷ items) =
    let size = lead_size of k + size_of of k item (whole_at whole k) in
    omega (arith, parts_many of whole (k + 1) items, unit_many of k item (whole_at whole k), sum_by-cons (λ (x : ℕ). x) size (part_sizes of whole (k + 1) items))

-- gates of parts one after another are their starts
pub gates_told : (of : Entered) (whole : List Bool) (k at : ℕ) (items : List Item) (gates : List ℕ) → AreGates of whole k at items gates →
    gates ≡ take (length items) (starts_from at (part_sizes of whole k items))
unfolding part_sizes starts_from AreGates
gates_told of whole k at [] [] are = refl
gates_told of whole k at [] (gate ∷ gates) are = absurd are
gates_told of whole k at (item ∷ items) [] are = absurd are
gates_told of whole k at (item ∷ items) (gate ∷ gates) are =
    let size = size_of of k item (whole_at whole k) in
    let e : at + lead_size of k + size ≡ at + (lead_size of k + size) = omega arith in
    let rest = gates_told of whole (k + 1) (at + lead_size of k + size) items gates are.1 in
    ap (λ (g : ℕ). g ∷ gates) are.0
    ∙ ap (λ (gs : List ℕ). at ∷ gs) (rest ∙ ap (λ (n : ℕ). take (length items) (starts_from n (part_sizes of whole (k + 1) items))) e)

-- parts one after another have their starts as gates
pub gates_are : (of : Entered) (whole : List Bool) (k at : ℕ) (items : List Item) →
    AreGates of whole k at items (take (length items) (starts_from at (part_sizes of whole k items)))
unfolding part_sizes starts_from AreGates
gates_are of whole k at [] = tt
gates_are of whole k at (item ∷ items) =
    let e : at + (lead_size of k + size_of of k item (whole_at whole k)) ≡ at + lead_size of k + size_of of k item (whole_at whole k) = omega arith in
    (refl, rw e (gates_are of whole (k + 1) (at + lead_size of k + size_of of k item (whole_at whole k)) items))
