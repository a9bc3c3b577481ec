-- The unit of a place names no register that units keep for themselves, since its instruction does not.
use Rattle.std.proofs.Common.{◌≡◌, ℕ, suc, ◌+◌, ◌<◌, ◌≤◌, ◌==◌, ◌||◌, true, false, Bool, inl, inr, Some, refl, sym, ap, subst, ◌∙◌, arith, Option, None, List}
use Rattle.std.proofs.lemmas.Bool.{cases_Bool, eq-eqb, eqb-true, or_cases, or_left, or_right}
use Rattle.cfi_meaning.proofs.Prelude.{GraphVersion, OneLabel, TwoLabels, CalleeSaves, names, is_reserved, Instr, ItemKind, count, is_end, item_of, names_reserved, suits, in_leaf, aim_of, entered_in, words_at, base_of, is_store, site_label, whole_at, TargetWord, NamesNoReserved, jump_word, IsAccepted, Choice, Group, behind, call_unit, group_at, instr_of, is_later_at, lean_unit_of, low_at, member_at, member_for, unit_by, unit_here, unit_of, IsPlace}
use Rattle.rv_instr.specs.declared.instr.Instr.TheVariants as I
use Rattle.obj_input.specs.declared.item_kind.ItemKind.TheVariants as is
use Rattle.obj_program.proofs.Kept.{kept}
use Rattle.cfi_map.proofs.LaterRuns.{store_no_end}
use Rattle.cfi_unit.specs.declared.unit.Unit.TheVariants as V
use Rattle.cfi_runs.proofs.GroupMembers.{stores_free}
use Rattle.cfi_writer.proofs.GroupUnit.{IsStore, inside, store_at}
use Rattle.cfi_writer.proofs.Standing.{instr_is}

-- a test of four, each of which fails
none_of : (a b c d : Bool) → (a || b || c || d) ≡ false → (a ≡ false) × (b ≡ false) × (c ≡ false) × (d ≡ false)
none_of false false false false e = (refl, refl, refl, refl)
none_of true b c d e = absurd (cc)
none_of false true c d e = absurd (cc)
none_of false false true d e = absurd (cc)
none_of false false false true e = absurd (cc)

module _ (i : Instr) (none : names_reserved i ≡ false) (k : ℕ) (named : names i k ≡ true) where
  other : (r : ℕ) → names i r ≡ false → (k == r) ≡ true → ⊥
  other r free same = let wrong : true ≡ false = sym named ∙ ap (names i) (eqb-true k r same) ∙ free in cc

  not_reserved : is_reserved k ≡ true → ⊥
  not_reserved reserved =
      let apart = none_of (names i 3) (names i 4) (names i 30) (names i 31) none in
      elim (or_cases (k == 3) (k == 4 || (k == 30 || k == 31)) reserved) [
        | inl is ↦ other 3 apart.0 is
        | inr others ↦ elim (or_cases (k == 4) (k == 30 || k == 31) others) [
          | inl is ↦ other 4 apart.1 is
          | inr last ↦ elim (or_cases (k == 30) (k == 31) last) [ inl is ↦ other 30 apart.2 is | inr is ↦ other 31 apart.3 is ]
        ]
      ]

  instr_free : is_reserved k ≡ false
  instr_free = elim (cases_Bool (is_reserved k)) [ inl reserved ↦ absurd (not_reserved reserved) | inr free ↦ free ]

-- a system call names none
call_free : (calls : Option (List ℕ)) → NamesNoReserved (call_unit calls)
call_free None k named = absurd (cc)
call_free (Some numbers) k named = absurd (cc)

-- the unit of a place that holds no store
unit_free : (calls : Option (List ℕ)) (kind : ItemKind) (i : Instr) (whole : Bool) (target : ℕ) (which : TargetWord) (label : ℕ) (group : Group) → is_end kind ≡ false → is_store kind ≡ false →
    suits kind i ≡ true → names_reserved i ≡ false → NamesNoReserved (unit_of calls kind i whole target which label group)
unit_free calls is.Gate (I.Upper op rd imm) whole target which label group some other_kind suit none = λ k named. absurd (cc)
unit_free calls is.Plain i whole target which label group some other_kind suit none = λ k named. instr_free i none k named
unit_free calls is.Store i whole target which label group some other_kind suit none = absurd (cc)
unit_free calls is.System I.Ecall whole target which label group some other_kind suit none = call_free calls
unit_free calls is.System I.Ebreak whole target which label group some other_kind suit none = λ k named. absurd (cc)
unit_free calls is.Branch (I.Branch op rs1 rs2 imm) true target which label group some other_kind suit none = λ k named. instr_free (I.Branch op rs1 rs2 imm) none k named
unit_free calls is.Branch (I.Branch op rs1 rs2 imm) false target which label group some other_kind suit none = λ k named. instr_free (I.Branch op rs1 rs2 imm) none k named
unit_free calls is.Jump i whole target which label group some other_kind suit none = λ k named. absurd (cc)
unit_free calls is.Call i whole target which label group some other_kind suit none = λ k named. absurd (cc)
unit_free calls is.Return i whole target which label group some other_kind suit none = λ k named. absurd (cc)
unit_free calls is.Ijump (I.Jalr rd rs1 imm) whole target which label group some other_kind suit none =
    λ k named. instr_free (I.Jalr rd rs1 imm) none k (or_right (rd == k) (rs1 == k) named)
unit_free calls is.Icall (I.Jalr rd rs1 imm) whole target which label group some other_kind suit none =
    λ k named. instr_free (I.Jalr rd rs1 imm) none k (or_right (rd == k) (rs1 == k) named)
unit_free calls kind i whole target which label group some other_kind suit none = absurd (cc)

lean_free : (calls : Option (List ℕ)) (inside : Bool) (kind : ItemKind) (i : Instr) (whole : Bool) (target label : ℕ) (group : Group) → is_end kind ≡ false → is_store kind ≡ false →
    suits kind i ≡ true → names_reserved i ≡ false → NamesNoReserved (lean_unit_of calls inside kind i whole target label group)
lean_free calls inside is.Call i whole target label group some other_kind suit none = λ k named. absurd (cc)
lean_free calls true is.Return i whole target label group some other_kind suit none = λ k named. absurd (cc)
lean_free calls false is.Return i whole target label group some other_kind suit none = λ k named. absurd (cc)
lean_free calls inside is.Ijump (I.Jalr rd rs1 imm) whole target label group some other_kind suit none =
    λ k named. instr_free (I.Jalr rd rs1 imm) none k (or_right (rd == k) (rs1 == k) named)
lean_free calls inside is.Icall (I.Jalr rd rs1 imm) whole target label group some other_kind suit none =
    λ k named. instr_free (I.Jalr rd rs1 imm) none k (or_right (rd == k) (rs1 == k) named)
lean_free calls inside kind i whole target label group some other_kind suit none =
    unit_free calls kind i whole target (jump_word CalleeSaves) label group some other_kind suit none

free_by : (version : GraphVersion) (calls : Option (List ℕ)) (inside : Bool) (kind : ItemKind) (i : Instr) (whole : Bool) (target label : ℕ) (group : Group) → is_end kind ≡ false → is_store kind ≡ false →
    suits kind i ≡ true → names_reserved i ≡ false → NamesNoReserved (unit_by version calls inside kind i whole target label group)
free_by OneLabel calls inside kind i whole target label group = unit_free calls kind i whole target (jump_word OneLabel) label group
free_by TwoLabels calls inside kind i whole target label group = unit_free calls kind i whole target (jump_word TwoLabels) label group
free_by CalleeSaves calls inside kind i whole target label group = lean_free calls inside kind i whole target label group

-- the base of a store and what it stores
member_free : (low : ℕ) (i : Instr) → IsStore i → names_reserved i ≡ false → is_reserved (member_for low i).value ≡ false
member_free low (I.Store op rs1 rs2 imm) store none =
    instr_free (I.Store op rs1 rs2 imm) none rs2 (or_right (rs1 == rs2) (rs2 == rs2) (eq-eqb rs2 rs2 refl))
member_free low other store none = let is = store.is in absurd (cc)

base_free : (i : Instr) → IsStore i → names_reserved i ≡ false → is_reserved (base_of (Some i)) ≡ false
base_free (I.Store op rs1 rs2 imm) store none = instr_free (I.Store op rs1 rs2 imm) none rs1 (or_left (rs1 == rs1) (rs2 == rs1) (eq-eqb rs1 rs1 refl))
base_free other store none = let is = store.is in absurd (cc)

-- the unit of a group's first store
stores_of : (calls : Option (List ℕ)) (kind : ItemKind) (i : Instr) (whole : Bool) (target : ℕ) (which : TargetWord) (label : ℕ) (group : Group) → is_store kind ≡ true → IsStore i →
    unit_of calls kind i whole target which label group ≡ V.Stores group.mask (base_of (Some i)) group.offset group.members
stores_of calls is.Store (I.Store op rs1 rs2 imm) whole target which label group store here = refl
stores_of calls is.Store other whole target which label group store here = let e = here.is in absurd (cc)
stores_of calls other i whole target which label group store here = absurd (cc)

lean_stores : (calls : Option (List ℕ)) (inside : Bool) (kind : ItemKind) (i : Instr) (whole : Bool) (target label : ℕ) (group : Group) → is_store kind ≡ true → IsStore i →
    lean_unit_of calls inside kind i whole target label group ≡ V.Stores group.mask (base_of (Some i)) group.offset group.members
lean_stores calls inside is.Store i whole target label group store here = stores_of calls is.Store i whole target (jump_word CalleeSaves) label group store here
lean_stores calls inside other i whole target label group store here = absurd (cc)

stores_by : (version : GraphVersion) (calls : Option (List ℕ)) (inside : Bool) (kind : ItemKind) (i : Instr) (whole : Bool) (target label : ℕ) (group : Group) → is_store kind ≡ true → IsStore i →
    unit_by version calls inside kind i whole target label group ≡ V.Stores group.mask (base_of (Some i)) group.offset group.members
stores_by OneLabel calls inside kind i whole target label group = stores_of calls kind i whole target (jump_word OneLabel) label group
stores_by TwoLabels calls inside kind i whole target label group = stores_of calls kind i whole target (jump_word TwoLabels) label group
stores_by CalleeSaves calls inside kind i whole target label group = lean_stores calls inside kind i whole target label group

pub stores_unit : (m : Choice) (k : ℕ) → is_store (item_of m.layout.program k).kind ≡ true → IsStore (instr_of m k) →
    unit_here m k ≡ V.Stores (group_at m k).mask (base_of (Some (instr_of m k))) (group_at m k).offset (group_at m k).members
stores_unit m k =
    stores_by m.layout.closed.version m.layout.closed.calls (in_leaf (entered_in m.layout) k) (item_of m.layout.program k).kind (instr_of m k) (whole_at m.whole k)
    (aim_of m.layout (item_of m.layout.program k)) (site_label m.labels m.layout.closed.sides k) (group_at m k)

pub store_is_place : (m : Choice) (k : ℕ) → k < count m.layout.program → is_store (item_of m.layout.program k).kind ≡ true → IsPlace m k
store_is_place m k below store = record { below = below; no_end = store_no_end (item_of m.layout.program k).kind store }

module _ (m : Choice) (ok : IsAccepted m) where
  kept_at : (k : ℕ) → IsPlace m k → (suits (item_of m.layout.program k).kind (instr_of m k) ≡ true) × (names_reserved (instr_of m k) ≡ false)
  kept_at k place =
      kept m.layout.program m.layout.gates (words_at m.layout) k (instr_of m k) ok.sound place.below place.no_end (instr_is m ok k place.below place.no_end)

  store_free : (k i : ℕ) → k < count m.layout.program → is_store (item_of m.layout.program k).kind ≡ true → is_later_at m k ≡ false → i ≤ behind m k →
      names_reserved (instr_of m (k + i)) ≡ false
  store_free k i below store first few =
      let there = inside m ok k below store first i few in
      (kept_at (k + i) (store_is_place m (k + i) there.0 there.1)).1

  group_free : (k : ℕ) → k < count m.layout.program → is_store (item_of m.layout.program k).kind ≡ true → is_later_at m k ≡ false → NamesNoReserved (unit_here m k)
  group_free k below store first =
      let start : k + 0 ≡ k = omega arith in
      let here = store_at m ok k below store in
      let none = subst (λ (j : ℕ). names_reserved (instr_of m j) ≡ false) start (store_free k 0 below store first (omega arith)) in
      subst NamesNoReserved (sym (stores_unit m k store here))
      (stores_free (member_at m (low_at m k)) (group_at m k).mask (base_of (Some (instr_of m k))) (group_at m k).offset k (suc (behind m k)) (base_free (instr_of m k) here none)
      (λ i less.
      let there = inside m ok k below store first i (omega arith) in
      member_free (low_at m k) (instr_of m (k + i)) (store_at m ok (k + i) there.0 there.1) (store_free k i below store first (omega arith))))

  -- the unit of a place that has one
  pub place_free : (k : ℕ) → IsPlace m k → is_later_at m k ≡ false → NamesNoReserved (unit_here m k)
  place_free k place first =
      elim (cases_Bool (is_store (item_of m.layout.program k).kind)) [
        | inl store ↦ group_free k place.below store first
        | inr other_kind ↦
            let is = kept_at k place in
            free_by m.layout.closed.version m.layout.closed.calls (in_leaf (entered_in m.layout) k) (item_of m.layout.program k).kind (instr_of m k) (whole_at m.whole k)
            (aim_of m.layout (item_of m.layout.program k)) (site_label m.labels m.layout.closed.sides k) (group_at m k) place.no_end other_kind is.0 is.1
      ]
