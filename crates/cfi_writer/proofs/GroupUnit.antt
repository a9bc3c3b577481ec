-- The unit of a group: what its stores are as members, how they are masked, and that they are in range.
use Rattle.std.proofs.Common.{◌≡◌, ◌⊎◌, ℕ, zero, suc, ◌+◌, ◌-◌, ◌^◌, ◌<◌, ◌≤◌, Bool, true, false, inl, inr, List, length, Option, Some, None, refl, sym, subst, ap, ◌∙◌, arith, lit<}
use Rattle.std.specs.Prelude.{option_and_then}
use Rattle.std.specs.List.{AllByRecursion}
use Rattle.std.proofs.lemmas.Bool.{and_parts, cases_lt, leb-true}
use Rattle.std.proofs.lemmas.List.FromFn.{length-map-range_with_len}
use Rattle.cfi_writer.proofs.Prelude.{GraphVersion, OneLabel, TwoLabels, CalleeSaves, IsInstr, Instr, StoreOp, decoded, ItemKind, Patch, instr_at, patched_instr, Program, count, item_of, is_own, has_leaves, words_at, base, base_of, is_forward, is_short, is_store, level_of, whole_at, Mask, Shifts, Short, Long, IsMember, MOST_MEMBERS, Member, MaskFits, field, level, IsMasked, IsPast, members_from, IsAccepted, Choice, behind, bounds_at, group_at, instr_of, is_later_at, least_at, low_at, low_by, mask_at, mask_by, member_at, member_for, offset_at, offset_of}
use Rattle.rv_instr.specs.declared.instr.Instr.TheVariants as I
use Rattle.obj_input.specs.declared.item_kind.ItemKind.TheVariants as is
use Rattle.obj_program.specs.declared.item.Patch.TheVariants as put
use Rattle.cfi_map.specs.Groups as groups
use Rattle.cfi_map.proofs.GroupFacts.{Grouped, grouped}
use Rattle.cfi_map.proofs.LaterRuns.{store_no_end}
use Rattle.cfi_runs.proofs.Distances.{groups_are_masked, lowest_least, offsets_are_past}
use Rattle.cfi_writer.proofs.Fitting.{FitsMask}
use Rattle.cfi_writer.proofs.Grouping.{group_there, later_below, later_behind, later_store}
use Rattle.cfi_writer.proofs.Standing.{instr_in_range, instr_is, right}
use Rattle.cfi_writer.proofs.UnitOf.{is_right}

-- a store's instruction
pub record IsStore (i : Instr) : Type 0 where
  pub op : StoreOp
  pub base : ℕ
  pub value : ℕ
  pub offset : ℕ
  pub is : i ≡ I.Store op base value offset

store_is : (kind : ItemKind) (i : Instr) → is_store kind ≡ true → is_right kind i ≡ true → IsStore i
store_is is.Store (I.Store op rs1 rs2 imm) store right = record { op = op; base = rs1; value = rs2; offset = imm; is = refl }
store_is kind i store right = absurd (cc)

-- an instruction without a relocation is what its word says
own_kept : (program : Program) (gates words : List ℕ) (k : ℕ) (patch : Patch) (o : Option Instr) (i : Instr) → is_own patch ≡ true →
    option_and_then (λ (x : Instr). patched_instr program gates words k x patch) o ≡ Some i → o ≡ Some i
own_kept program gates words k put.Own None i own e = absurd (cc)
own_kept program gates words k put.Own (Some x) i own e = e
own_kept program gates words k other o i own e = absurd (cc)

own_decoded : (program : Program) (gates words : List ℕ) (k : ℕ) (i : Instr) → is_own (item_of program k).patch ≡ true →
    instr_at program gates words k ≡ Some i → decoded (item_of program k).word ≡ Some i
unfolding instr_at
own_decoded program gates words k i own e = own_kept program gates words k (item_of program k).patch (decoded (item_of program k).word) i own e

offset_small : (i : Instr) → IsInstr i → offset_of i < 2 ^ 12
offset_small (I.Store op rs1 rs2 imm) range = range.2
offset_small other range = lit< tt

member_in_range : (low : ℕ) (i : Instr) → IsInstr i → IsStore i → level (offset_of i) - low < 2 ^ 11 → IsMember (member_for low i)
member_in_range low (I.Store op rs1 rs2 imm) range store near = (range.1, near)
member_in_range low other range store near = let is = store.is in absurd (cc)

each_member : (member : ℕ → Member) (k n : ℕ) → ((i : ℕ) → i < n → IsMember (member (k + i))) → AllByRecursion IsMember (members_from member k n)
each_member member k zero each = tt
each_member member k (suc n) each =
    let start : k + 0 ≡ k = omega arith in (
      subst (λ (j : ℕ). IsMember (member j)) start (each 0 (omega arith)),
      each_member member (k + 1) n
          (λ i less. let next : k + suc i ≡ k + 1 + i = omega arith in subst (λ (j : ℕ). IsMember (member j)) next (each (suc i) (omega arith))),
    )

-- a short mask is one of version 3, for a first store with an offset of its own that is not negative
pub short_by : (version : GraphVersion) (short : Bool) → mask_by version short ≡ Short → (has_leaves version ≡ true) × (short ≡ true)
short_by OneLabel short e = absurd (cc)
short_by TwoLabels short e = absurd (cc)
short_by CalleeSaves true e = (refl, refl)
short_by CalleeSaves false e = absurd (cc)

-- another one is for the least offset
mask_cases : (mask : Mask) → (mask ≡ Short) ⊎ ((least : ℕ) → low_by mask least ≡ least)
mask_cases Shifts = inr (λ least. refl)
mask_cases Short = inl refl
mask_cases Long = inr (λ least. refl)

mask_fits : (mask : Mask) (least : ℕ) → MaskFits mask (field (low_by mask least))
mask_fits Shifts least = tt
mask_fits Short least = refl
mask_fits Long least = tt

-- an offset at such a level is not negative, and lies its own distance past none
past_none : (imm : ℕ) → imm < 2 ^ 12 → 2048 ≤ level imm → IsPast 0 imm (level imm - level 0)
past_none imm small forward =
    let own : imm ≡ level imm - level 0 = omega arith in
    subst (IsPast 0 imm) own (offsets_are_past imm (omega arith))

-- how the stores of a group are masked that begins at a place: each lies past the mask's offset; one of them just there, or the mask is
-- short and has no offset
pub record AreMasked (m : Choice) (k : ℕ) : Type 0 where
  pub small : low_at m k < 2 ^ 12
  pub least : (i : ℕ) → i ≤ behind m k → low_at m k ≤ level (offset_at m (k + i))
  pub past : (i : ℕ) → i ≤ behind m k → IsPast (field (low_at m k)) (offset_at m (k + i)) (level (offset_at m (k + i)) - low_at m k)
  pub told : ((index : ℕ) × (index ≤ behind m k) × (level (offset_at m (k + index)) - low_at m k ≡ 0))
      ⊎ ((mask_at m k ≡ Short) × (field (low_at m k) ≡ 0))

module _ (m : Choice) (ok : IsAccepted m) where
  pub store_at : (k : ℕ) → k < count m.layout.program → is_store (item_of m.layout.program k).kind ≡ true → IsStore (instr_of m k)
  store_at k below store = store_is (item_of m.layout.program k).kind (instr_of m k) store (right m ok k below)

  -- what an own store's word says is the store
  own_word : (k : ℕ) → k < count m.layout.program → is_store (item_of m.layout.program k).kind ≡ true → is_own (item_of m.layout.program k).patch ≡ true →
      decoded (item_of m.layout.program k).word ≡ Some (instr_of m k)
  own_word k below store own =
      own_decoded m.layout.program m.layout.gates (words_at m.layout) k (instr_of m k) own
      (instr_is m ok k below (store_no_end (item_of m.layout.program k).kind store))

  level_is : (i : Instr) → IsStore i → level_of (Some i) ≡ level (offset_of i)
  level_is (I.Store op rs1 rs2 imm) store = refl
  level_is other store = let is = store.is in absurd (cc)

  -- the level of an own store's offset
  own_level : (k : ℕ) → k < count m.layout.program → is_store (item_of m.layout.program k).kind ≡ true → is_own (item_of m.layout.program k).patch ≡ true →
      level_of (decoded (item_of m.layout.program k).word) ≡ level (offset_at m k)
  own_level k below store own = ap level_of (own_word k below store own) ∙ level_is (instr_of m k) (store_at k below store)

  own_forward : (k : ℕ) → k < count m.layout.program → is_store (item_of m.layout.program k).kind ≡ true → is_own (item_of m.layout.program k).patch ≡ true →
      is_forward (item_of m.layout.program k) ≡ true → 2048 ≤ level (offset_at m k)
  own_forward k below store own forward =
      subst (λ (n : ℕ). 2048 ≤ n) (own_level k below store own) (leb-true 2048 (level_of (decoded (item_of m.layout.program k).word)) forward)

  -- the stores of the group that begins at a place
  module _ (k : ℕ) (below : k < count m.layout.program) (store : is_store (item_of m.layout.program k).kind ≡ true) (first : is_later_at m k ≡ false) where
    pub inside : (i : ℕ) → i ≤ behind m k → (k + i < count m.layout.program) × (is_store (item_of m.layout.program (k + i)).kind ≡ true)
    inside i few =
        elim (cases_lt 0 i) [
          | inl some ↦
              let later = later_behind m k i (omega arith) few in
              (later_below m (k + i) later, (later_store m (k + i) later).0)
          | inr start ↦
              let here : k ≡ k + i = omega arith in
              (omega arith, subst (λ (j : ℕ). is_store (item_of m.layout.program j).kind ≡ true) here store)
        ]

    -- with others there they are a group
    of_group : 1 ≤ behind m k → Grouped (item_of m.layout.program) (bounds_at m) k (behind m k + 1)
    of_group some = grouped (item_of m.layout.program) (bounds_at m) (whole_at m.whole) ok.groups k (behind m k + 1) (group_there m k store first) (omega arith)

    word_says : 1 ≤ behind m k → (i : ℕ) → i ≤ behind m k → decoded (item_of m.layout.program (k + i)).word ≡ Some (instr_of m (k + i))
    word_says some i few =
        let there = inside i few in
        own_word (k + i) there.0 there.1 ((of_group some).own i (omega arith))

    level_here : 1 ≤ behind m k → (i : ℕ) → i ≤ behind m k →
        groups.level (item_of m.layout.program) (k + i) ≡ level (offset_at m (k + i))
    level_here some i few =
        let there = inside i few in
        own_level (k + i) there.0 there.1 ((of_group some).own i (omega arith))

    pub near : (i j : ℕ) → i ≤ behind m k → j ≤ behind m k → level (offset_at m (k + i)) ≤ level (offset_at m (k + j)) + 2047
    near i j one two =
        elim (cases_lt 0 (behind m k)) [
          | inr none ↦
              let same : k + i ≡ k + j = omega arith in
              subst (λ (n : ℕ). level (offset_at m (k + i)) ≤ level (offset_at m n) + 2047) same (omega arith)
          | inl some ↦
              let all = (of_group (omega arith)).near i j (omega arith) (omega arith) in
              let a = level_here (omega arith) i one in
              let b = level_here (omega arith) j two in
              omega arith
        ]

    pub small : (i : ℕ) → i ≤ behind m k → offset_at m (k + i) < 2 ^ 12
    small i few = let there = inside i few in offset_small (instr_of m (k + i)) (instr_in_range m ok (k + i) there.0)

    -- the least offset masks them all
    least_masks : IsMasked (offset_at m) k (behind m k) (least_at m k)
    least_masks = groups_are_masked (offset_at m) k (behind m k) small near

    -- behind a short mask no offset is negative
    forward : has_leaves m.layout.closed.version ≡ true → is_short (item_of m.layout.program k) ≡ true → (i : ℕ) → i ≤ behind m k →
        2048 ≤ level (offset_at m (k + i))
    forward saves short i few =
        let parts = and_parts (is_own (item_of m.layout.program k).patch) (is_forward (item_of m.layout.program k)) short in
        let there = inside i few in
        elim (cases_lt 0 i) [
          | inr none ↦
              let here : k ≡ k + i = omega arith in
              subst (λ (n : ℕ). 2048 ≤ level (offset_at m n)) here (own_forward k below store parts.0 parts.1)
          | inl some ↦
              let group = of_group (omega arith) in
              let fits = group.mask i (omega arith) (omega arith) in
              let goes : is_forward (item_of m.layout.program (k + i)) ≡ true = rw (saves, short) at fits in
              own_forward (k + i) there.0 there.1 (group.own i (omega arith)) goes
        ]

    pub masked : AreMasked m k
    masked =
        elim (mask_cases (mask_at m k)) [
          | inr plain ↦
              let low : low_at m k ≡ least_at m k = plain (least_at m k) in
              let of = least_masks in
              record {
                small = subst (λ (n : ℕ). n < 2 ^ 12) (sym low) of.small;
                least = λ i few. subst (λ (n : ℕ). n ≤ level (offset_at m (k + i))) (sym low) (lowest_least (λ (j : ℕ). level (offset_at m j)) k (behind m k) i few);
                past = λ i few. subst (λ (n : ℕ). IsPast (field n) (offset_at m (k + i)) (level (offset_at m (k + i)) - n)) (sym low) (of.past i few);
                told = inl (of.index, of.inside, subst (λ (n : ℕ). level (offset_at m (k + of.index)) - n ≡ 0) (sym low) of.none);
              }
          | inl short ↦
              let by = short_by m.layout.closed.version (is_short (item_of m.layout.program k)) short in
              let low : low_at m k ≡ level 0 = ap (λ (mask : Mask). low_by mask (least_at m k)) short in
              record {
                small = subst (λ (n : ℕ). n < 2 ^ 12) (sym low) (lit< tt);
                least = λ i few. subst (λ (n : ℕ). n ≤ level (offset_at m (k + i))) (sym low) (forward by.0 by.1 i few);
                past = λ i few.
                    subst (λ (n : ℕ). IsPast (field n) (offset_at m (k + i)) (level (offset_at m (k + i)) - n)) (sym low)
                    (past_none (offset_at m (k + i)) (small i few) (forward by.0 by.1 i few));
                told = inr (short, ap field low);
              }
        ]

    pub most_members : behind m k + 1 ≤ MOST_MEMBERS
    most_members =
        elim (cases_lt 0 (behind m k)) [
          | inr none ↦ omega arith
          | inl some ↦ (of_group (omega arith)).most
        ]

    pub many : length (group_at m k).members ≡ suc (behind m k)
    many = length-map-range_with_len (member_at m (low_at m k)) k (suc (behind m k))

    pub fits_mask : FitsMask (group_at m k)
    fits_mask = record {
      small = omega arith;
      mask = mask_fits (mask_at m k) (least_at m k);
      members = record {
        some = let all = many in omega arith;
        most = let all = many in let few = most_members in omega arith;
        each = each_member (member_at m (low_at m k)) k (suc (behind m k))
            (λ i less.
            let there = inside i (omega arith) in
            let past = (masked.past i (omega arith)).low in
            member_in_range (low_at m k) (instr_of m (k + i)) (instr_in_range m ok (k + i) there.0) (store_at (k + i) there.0 there.1) past);
      };
    }

    -- each of its stores has the base register of the first
    pub bases : (i : ℕ) → i ≤ behind m k → base_of (Some (instr_of m (k + i))) ≡ base_of (Some (instr_of m k))
    bases i few =
        elim (cases_lt 0 (behind m k)) [
          | inr none ↦ let here : k + i ≡ k = omega arith in ap (λ (n : ℕ). base_of (Some (instr_of m n))) here
          | inl some ↦
              let start : k + 0 ≡ k = omega arith in
              let all = (of_group (omega arith)).bases i 0 (omega arith) (omega arith) in
              ap base_of (sym (word_says (omega arith) i few)) ∙ all ∙ ap base_of (word_says (omega arith) 0 (omega arith))
              ∙ ap (λ (n : ℕ). base_of (Some (instr_of m n))) start
        ]
