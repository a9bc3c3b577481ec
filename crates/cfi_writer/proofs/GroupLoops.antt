-- How a group of stores is masked, and what the loops over its stores come to.
use Rattle.std.specs.Prelude.{if◌then◌else◌}
use Rattle.std.proofs.Common.{◌≡◌, ℕ, suc, ◌+◌, ◌-◌, ◌^◌, ◌<◌, ◌≤◌, Bool, true, false, List, [], ◌∷◌, ◌++◌, length, Some, refl, sym, ap, subst, ◌∙◌, arith, inl, inr, min}
use Rattle.std.proofs.lemmas.Bool.{cases_Bool}
use Rattle.std.proofs.lemmas.List.FromFn.{length-map-range_with_len, map-range_with_len_more}
use Rattle.cfi_writer.proofs.Prelude.{GraphVersion, OneLabel, TwoLabels, CalleeSaves, count, item_of, has_leaves, is_short, is_store, Short, Long, MOST_MEMBERS, Member, level, lowest, members_from, IsAccepted, instr_if, Choice, behind, group_at, instr_of, is_later_at, later_from, low_at, mask_at, mask_by, member_at, offset_at}
use Rattle.obj_input.specs.declared.item_kind.ItemKind.TheVariants as is
use Rattle.cfi_map.proofs.LaterRuns.{store_no_end}
use Rattle.cfi_writer.proofs.Grouping.{later_below, none_later, one_later}
use Rattle.cfi_writer.proofs.GroupUnit.{inside, masked, most_members}

-- a store's place has an instruction
pub some_instr : (m : Choice) (k : ℕ) → is_store (item_of m.layout.program k).kind ≡ true → instr_if m k ≡ Some (instr_of m k)
some_instr m k store = let on = store_no_end (item_of m.layout.program k).kind store in rw on refl

-- the first place behind that is no later store ends the group
pub none_left : (m : Choice) (k j : ℕ) → k + 1 ≤ j → later_from m (k + 1) ≡ (j - (k + 1)) + later_from m j → is_later_at m j ≡ false → j - k - 1 ≡ behind m k
none_left m k j past left first = let none = none_later m j first in omega arith

pub one_more : (m : Choice) (k j : ℕ) → k + 1 ≤ j → later_from m (k + 1) ≡ (j - (k + 1)) + later_from m j → is_later_at m j ≡ true →
    later_from m (k + 1) ≡ (j + 1 - (k + 1)) + later_from m (j + 1)
one_more m k j past left later = let one = one_later m j later in omega arith

pub low_small : (m : Choice) (k : ℕ) → IsAccepted m → k < count m.layout.program → is_store (item_of m.layout.program k).kind ≡ true → is_later_at m k ≡ false →
    low_at m k < 2 ^ 12
low_small m k ok below store first = (masked m ok k below store first).small

-- how a group is masked where callees save the sites of calls
pub mask_is : (m : Choice) (k : ℕ) → has_leaves m.layout.closed.version ≡ true →
    mask_at m k ≡ (if is_short (item_of m.layout.program k) then Short else Long)
mask_is m k lean = by_version m.layout.closed.version (is_short (item_of m.layout.program k)) lean
  where
    by_version : (version : GraphVersion) (short : Bool) → has_leaves version ≡ true → mask_by version short ≡ (if short then Short else Long)
    by_version OneLabel short lean = absurd (cc)
    by_version TwoLabels short lean = absurd (cc)
    by_version CalleeSaves short lean = refl

-- at the last place all are later stores
pub all_left : (m : Choice) (k j : ℕ) → k + 1 ≤ j → count m.layout.program ≤ j → later_from m (k + 1) ≡ (j - (k + 1)) + later_from m j → j - k - 1 ≡ behind m k
all_left m k j past last left =
    elim (cases_Bool (is_later_at m j)) [
      | inr first ↦ none_left m k j past left first
      | inl later ↦ let below = later_below m j later in absurd (omega arith)
    ]

-- the least level with one more
pub next_low : (m : Choice) (k i low more : ℕ) → low ≡ lowest (λ (j : ℕ). level (offset_at m j)) k i → more ≡ level (offset_at m (k + 1 + i)) →
    min low more ≡ lowest (λ (j : ℕ). level (offset_at m j)) k (i + 1)
next_low m k i low more is more_is =
    let next : i + 1 ≡ suc i = omega arith in
    let there : k + 1 + i ≡ k + suc i = omega arith in
    ap (λ (n : ℕ). min n more) is
    ∙ ap (min (lowest (λ (j : ℕ). level (offset_at m j)) k i)) (more_is ∙ ap (λ (n : ℕ). level (offset_at m n)) there)
    ∙ sym (ap (lowest (λ (j : ℕ). level (offset_at m j)) k) next)

-- one member more
pub next_member : (m : Choice) (low k i : ℕ) (old more : List Member) (one : Member) → old ≡ members_from (member_at m low) k i → one ≡ member_at m low (k + i) →
    more ≡ old ++ one ∷ [] → more ≡ members_from (member_at m low) k (i + 1)
next_member m low k i old more one are one_is is =
    is ∙ ap (λ (x : Member). old ++ x ∷ []) one_is ∙ ap (λ (xs : List Member). xs ++ member_at m low (k + i) ∷ []) are
    ∙ sym (map-range_with_len_more (member_at m low) k i (k + i) refl)

module _ (m : Choice) (ok : IsAccepted m) (k : ℕ) (below : k < count m.layout.program) (store : is_store (item_of m.layout.program k).kind ≡ true)
    (first : is_later_at m k ≡ false) where
  pub inside_group : (i : ℕ) → i ≤ behind m k → (k + i < count m.layout.program) × (is_store (item_of m.layout.program (k + i)).kind ≡ true)
  inside_group i few = inside m ok k below store first i few

  pub inside_behind : (i : ℕ) → i < behind m k → (k + 1 + i < count m.layout.program) × (is_store (item_of m.layout.program (k + 1 + i)).kind ≡ true)
  inside_behind i few =
      let next : k + (i + 1) ≡ k + 1 + i = omega arith in
      let there = inside_group (i + 1) (omega arith) in
      (omega arith, subst (λ (n : ℕ). is_store (item_of m.layout.program n).kind ≡ true) next there.1)

  -- each level lies past the least, and near
  pub past_low : (i : ℕ) → i ≤ behind m k → (low_at m k ≤ level (offset_at m (k + i))) × (level (offset_at m (k + i)) - low_at m k < 2 ^ 11)
  past_low i few = ((masked m ok k below store first).least i few, ((masked m ok k below store first).past i few).low)

  pub few_members : (i : ℕ) → i ≤ behind m k → i < MOST_MEMBERS
  few_members i few = let most = most_members m ok k below store first in omega arith

  -- at the end they are all the members
  pub all_members : (i : ℕ) (members : List Member) → members ≡ members_from (member_at m (low_at m k)) k i → i ≤ behind m k + 1 → behind m k + 1 ≤ i →
      members ≡ (group_at m k).members
  all_members i members are few most =
      let all : i ≡ suc (behind m k) = omega arith in
      are ∙ ap (members_from (member_at m (low_at m k)) k) all

pub length_members : (m : Choice) (low k i : ℕ) (members : List Member) → members ≡ members_from (member_at m low) k i → length members ≡ i
length_members m low k i members are = ap length are ∙ length-map-range_with_len (member_at m low) k i
