-- Branches of a program that are written short: its parts then have the sizes of their units, and each reaches.
use Rattle.std.proofs.Common.{◌≡◌, ℕ, suc, ◌+◌, ◌-◌, ◌<◌, ◌≤◌, ◌^◌, Bool, true, false, not, Option, List, [], ◌∷◌, length, get_or, take, Some, refl, sym, ap, subst, ◌∙◌, arith, if◌then◌else◌, inl, inr}
use Rattle.std.specs.Prelude.{◌||◌, nat_le, slice_get, sum}
use Rattle.std.proofs.lemmas.Bool.{cases_Bool, leb-true, and_parts, or_parts, not-false}
use Rattle.std.proofs.lemmas.List.{get_or-take}
use Rattle.std.proofs.lemmas.Option.{slice_get_within, get_or_from_slice_get, slice_get-get_or}
use Rattle.cfi_map.proofs.Prelude.{profile_for, CODE_SIZE, Form, ItemKind, Item, count, item_of, no_item, IsSound, Short, AreShorts, HoldsAllForced, IsShort, is_forced, is_whole, is_in_reach, sizes_under, sizes_where, starts_under, starts_from, GraphVersion, OneLabel, TwoLabels, CalleeSaves, Entered, lead_size, in_leaf, is_ecall, kind_size, lean_size, size_by, size_of, whole_at, IsShortAt, short_to, shorts_of, is_branch, program_at, is_short, is_store, grouped_parts, grouped_sizes, part_sizes, whole_sizes}
use Rattle.obj_input.specs.declared.item_kind.ItemKind.TheVariants as is
use Rattle.cfi_layout.specs.LongSet.{word}
use Rattle.cfi_map.proofs.GroupedSizes.{grouped_at, length_grouped}
use Rattle.cfi_map.proofs.PartSizes.{parts_many}
use Rattle.cfi_map.proofs.ShortList.{branch_aims, branch_listed, parts_are, short_is, told}

-- a program whose code has room has few places
pub few_places : (of : Entered) → sum (whole_sizes of) ≤ CODE_SIZE → count of.program < 2 ^ 32
few_places of room = omega (arith, parts_many of [] 0 of.program.items)

branch_kind : (calls : Option (List ℕ)) (kind : ItemKind) (ecall whole : Bool) → is_branch kind ≡ true →
    kind_size calls kind ecall (whole || not (is_store kind)) ≡ 8
branch_kind calls is.Branch ecall true yes_branch = refl
branch_kind calls is.Branch ecall false yes_branch = refl
branch_kind calls other ecall whole yes_branch = absurd (cc)

branch_lean : (calls : Option (List ℕ)) (kind : ItemKind) (ecall short inside whole : Bool) → is_branch kind ≡ true →
    lean_size calls kind ecall short inside (whole || not (is_store kind)) ≡ 8
branch_lean calls is.Branch ecall short inside true yes_branch = refl
branch_lean calls is.Branch ecall short inside false yes_branch = refl
branch_lean calls other ecall short inside whole yes_branch = absurd (cc)

branch_size : (version : GraphVersion) (calls : Option (List ℕ)) (inside : Bool) (item : Item) (whole : Bool) → is_branch item.kind ≡ true →
    size_by version calls inside item (whole || not (is_store item.kind)) ≡ 8
branch_size OneLabel calls inside item whole yes_branch = branch_kind calls item.kind (is_ecall item) whole yes_branch
branch_size TwoLabels calls inside item whole yes_branch = branch_kind calls item.kind (is_ecall item) whole yes_branch
branch_size CalleeSaves calls inside item whole yes_branch = branch_lean calls item.kind (is_ecall item) (is_short item) inside whole yes_branch

-- the branches may be placed in parts of these sizes
pub branches_fit : (of : Entered) (firsts : List Bool) → IsSound of.program →
    AreShorts (shorts_of of) (grouped_parts of firsts)
branches_fit of firsts sound = record {
  each = λ i b is.
      let shorts = shorts_of of in
      let at = told of (count of.program) b (i, slice_get_within shorts i b is, get_or_from_slice_get shorts i b b is) in
      let its = short_is of at.0 b at.2 in
      let aim = branch_aims of.program at.0 sound at.1 its.1 in
      let same : Some its.0 ≡ Some aim.0 = sym its.2 ∙ aim.1 in
      let target : its.0 ≡ aim.0 = cc in
      let start : 0 + at.0 ≡ at.0 = omega arith in
      let size = rw start at (grouped_at of firsts 0 of.program.items at.0 at.1) in
      subst (IsShort (grouped_parts of firsts)) its.3 (record {
        at_is = omega (arith, at.1, length_grouped of firsts 0 of.program.items);
        target_is = omega (arith, target, aim.2, length_grouped of firsts 0 of.program.items);
        size = size ∙ ap (λ (n : ℕ). lead_size of at.0 + n) (branch_size of.closed.version of.closed.calls (in_leaf of at.0) (item_of of.program at.0) (whole_at firsts at.0) its.1);
      });
}

one_kind : (calls : Option (List ℕ)) (gate : ℕ) (kind : ItemKind) (ecall whole full : Bool) → full ≡ (whole || not (is_branch kind)) →
    (if full then gate + kind_size calls kind ecall (whole || not (is_store kind)) else gate + kind_size calls kind ecall (whole || not (is_store kind)) - 4)
    ≡ gate + kind_size calls kind ecall whole
one_kind calls gate kind ecall true full is = rw is refl
one_kind calls gate is.Branch ecall false full is = rw is (omega arith)
one_kind calls gate is.Store ecall false full is = rw is refl
one_kind calls gate other ecall false full is = rw is refl

one_lean : (calls : Option (List ℕ)) (gate : ℕ) (kind : ItemKind) (ecall short inside whole full : Bool) → full ≡ (whole || not (is_branch kind)) →
    (if full then gate + lean_size calls kind ecall short inside (whole || not (is_store kind))
    else gate + lean_size calls kind ecall short inside (whole || not (is_store kind)) - 4)
    ≡ gate + lean_size calls kind ecall short inside whole
one_lean calls gate kind ecall short inside true full is = rw is refl
one_lean calls gate is.Branch ecall short inside false full is = rw is (omega arith)
one_lean calls gate is.Store ecall short inside false full is = rw is refl
one_lean calls gate other ecall short inside false full is = rw is refl

one_size : (version : GraphVersion) (calls : Option (List ℕ)) (inside : Bool) (gate : ℕ) (item : Item) (whole full : Bool) →
    full ≡ (whole || not (is_branch item.kind)) →
    (if full then gate + size_by version calls inside item (whole || not (is_store item.kind))
    else gate + size_by version calls inside item (whole || not (is_store item.kind)) - 4)
    ≡ gate + size_by version calls inside item whole
one_size OneLabel calls inside gate item whole full is = one_kind calls gate item.kind (is_ecall item) whole full is
one_size TwoLabels calls inside gate item whole full is = one_kind calls gate item.kind (is_ecall item) whole full is
one_size CalleeSaves calls inside gate item whole full is = one_lean calls gate item.kind (is_ecall item) (is_short item) inside whole full is

-- where the branches that are not long have a word less, each part has the size of its words and its unit
sizes_from : (of : Entered) (whole : List Bool) (full : ℕ → Bool) (k : ℕ) (items : List Item) →
    ((i : ℕ) → i < length items → full (k + i) ≡ (whole_at whole (k + i) || not (is_branch (get_or items i no_item).kind))) →
    sizes_where full k (grouped_sizes of whole k items) ≡ part_sizes of whole k items
unfolding grouped_sizes part_sizes sizes_where
sizes_from of whole full k [] are = refl
sizes_from of whole full k (item ∷ items) are =
    let start : k + 0 ≡ k = omega arith in
    let here = one_size of.closed.version of.closed.calls (in_leaf of k) (lead_size of k) item (whole_at whole k) (full k) (rw start at (are 0 (omega arith))) in
    let later : (i : ℕ) → i < length items → full (k + 1 + i) ≡ (whole_at whole (k + 1 + i) || not (is_branch (get_or items i no_item).kind)) =
    λ i lt. let e : k + 1 + i ≡ k + suc i = omega arith in rw e (are (suc i) (omega arith)) in
    let rest = sizes_from of whole full (k + 1) items later in
    ap (λ (n : ℕ). n ∷ sizes_where full (k + 1) (grouped_sizes of whole (k + 1) items)) here
    ∙ ap (λ (xs : List ℕ). (lead_size of k + size_of of k item (whole_at whole k)) ∷ xs) rest

pub sizes_are : (of : Entered) (whole : List Bool) → IsSound of.program →
    sizes_under (whole_at whole) (shorts_of of) (grouped_parts of whole) ≡ part_sizes of whole 0 of.program.items
sizes_are of whole sound =
    sizes_from of whole (is_whole (shorts_of of) (whole_at whole)) 0 of.program.items (λ i lt.
    let start : 0 + i ≡ i = omega arith in
    rw start (ap (λ (b : Bool). whole_at whole i || not b) (parts_are of i sound lt)))

pub starts_are : (form : Form) (of : Entered) (whole : List Bool) → IsSound of.program →
    starts_under (profile_for form).units_from (whole_at whole) (shorts_of of) (grouped_parts of whole) ≡ starts_from (profile_for form).units_from (part_sizes of whole 0 of.program.items)
starts_are form of whole sound = ap (starts_from (profile_for form).units_from) (sizes_are of whole sound)

-- a branch that is not long reaches, where the long ones are closed
pub branch_reaches : (form : Form) (of : Entered) (whole : List Bool) → IsSound of.program →
    HoldsAllForced (profile_for form).units_from (shorts_of of) (grouped_parts of whole) (whole_at whole) →
    (k target : ℕ) → k < count of.program → is_branch (item_of of.program k).kind ≡ true → whole_at whole k ≡ false →
    (item_of of.program k).target ≡ Some target →
    IsShortAt (program_at form of.program of.closed (take (count of.program) (starts_from (profile_for form).units_from (part_sizes of whole 0 of.program.items))) of.entry) k target
branch_reaches form of whole sound set k target lt yes_branch short aim =
    let shorts = shorts_of of in
    let starts = starts_from (profile_for form).units_from (part_sizes of whole 0 of.program.items) in
    let b = short_to of k target in
    let has = branch_listed of (count of.program) k target lt yes_branch aim in
    let at : slice_get shorts has.0 ≡ Some b = slice_get-get_or shorts has.0 b has.1 ∙ ap (λ (x : Short). Some x) has.2 in
    let there = branch_aims of.program k sound lt yes_branch in
    let same : Some target ≡ Some there.0 = sym aim ∙ there.1 in
    let inside : target ≡ there.0 = cc in
    let free : is_forced (starts_under (profile_for form).units_from (whole_at whole) shorts (grouped_parts of whole)) b ≡ false =
    elim (cases_Bool (is_forced (starts_under (profile_for form).units_from (whole_at whole) shorts (grouped_parts of whole)) b)) [
      | inl forced ↦ let no : true ≡ false = sym (set has.0 b at forced) ∙ short in absurd (cc)
      | inr free ↦ free
    ] in
    let forced = subst (λ (xs : List ℕ). is_forced xs b ≡ false) (starts_are form of whole sound) free in
    let parts = or_parts b.keep (not (is_in_reach starts b)) forced in
    let both = and_parts (nat_le (word starts b) (get_or starts target 0 + 4096)) (nat_le (get_or starts target 0) (word starts b + 4092)) (not-false (is_in_reach starts b) parts.1) in
    let back : word starts b ≤ get_or starts target 0 + 4096 = leb-true _ _ both.0 in
    let ahead : get_or starts target 0 ≤ word starts b + 4092 = leb-true _ _ both.1 in
    let gate = get_or-take (count of.program) starts k 0 lt in
    let to = get_or-take (count of.program) starts target 0 (omega (arith, inside, there.2)) in
    record {
      back = omega (arith, back, gate, to);
      ahead = omega (arith, ahead, gate, to);
      free = parts.0;
    }
