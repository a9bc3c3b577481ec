-- Places that are given their links in place: what is found among them does not change, so each gets what it would get among those of
-- before.
use Rattle.std.proofs.Common.{◌≡◌, ℕ, ℤ, pos, ◌+◌, ◌+ℤ◌, ◌/◌, ◌<◌, ◌≤◌, get_or, false, Option, Some, None, List, [], ◌∷◌, length, map, inl, inr, refl, sym, ap, subst, ◌∙◌, arith}
use Rattle.std.specs.Prelude.{set, option_and_then, unwrap_or}
use Rattle.std.proofs.lemmas.Bool.{cases_Bool, cases_eq}
use Rattle.std.proofs.lemmas.List.{length-set, length-map, get_or-set_same, get_or-set_other, get_or-map, get_or_default, ext_get_or}
use Rattle.std.proofs.lemmas.List.Folds.{position_or_len-set}
use Rattle.obj_items.proofs.Prelude.{Relocation, Definition, Zero, Absolute, Within, Common, Missing, RelocKind, Nothing, Mark, BranchTarget, JalTarget, PairTarget, RelativeHigh, TableHigh, RelativeLowI, RelativeLowS, High, LowI, LowS, InData, Unknown, kind_of, InputParts, acting_at, is_code, section_of, natural, Direct, Aim, aim_at, direct_at, Item, AreInOrder, is_end, is_spot, no_item, place_of, aimed_place, item_with, named_place, patch_by, patch_from, AreLinkedTo, gate_value, section_value, value_of, outline, IsInstruction}
use Rattle.obj_check.specs.declared.target.Aim.TheVariants as aim
use Rattle.obj_program.specs.declared.item.Patch.TheVariants as put
use Rattle.obj_items.proofs.InOrder.{outline_in_order, same_offset, same_section}
use Rattle.obj_items.proofs.Instructions.{place_stands}

-- two lists in which the same places are found
module _ (input : InputParts) (p q : List Item) (same : (section offset : ℕ) → place_of p section offset ≡ place_of q section offset) where
  place_same : (k : ℕ) (found : Option ℕ)
      → option_and_then (λ offset. place_of p k offset) found ≡ option_and_then (λ offset. place_of q k offset) found
  place_same k None = refl
  place_same k (Some offset) = same k offset

  section_same : (k value : ℕ) (addend : ℤ) → section_value input p k value addend ≡ section_value input q k value addend
  section_same k value addend = elim (cases_Bool (is_code (section_of input k))) [
    | inl code ↦ rw code (ap gate_value (place_same k (natural (pos value +ℤ addend))))
    | inr other ↦ rw other refl
  ]

  pub value_same : (d : Definition) (addend : ℤ) → value_of input p d addend ≡ value_of input q d addend
  value_same Zero addend = refl
  value_same (Absolute value) addend = refl
  value_same (Within k value) addend = section_same k value addend
  value_same (Common c) addend = refl
  value_same (Missing n) addend = refl

  named_same : (d : Definition) → named_place p d ≡ named_place q d
  named_same (Within k value) = ap (λ (o : Option ℕ). unwrap_or o 0) (same k value)
  named_same Zero = refl
  named_same (Absolute value) = refl
  named_same (Common c) = refl
  named_same (Missing n) = refl

  patch_same : (u : Relocation) (kind : RelocKind) → patch_by input p u kind ≡ patch_by input q u kind
  patch_same u High = ap put.High (value_same u.definition u.addend)
  patch_same u LowI = ap put.Low (value_same u.definition u.addend)
  patch_same u LowS = ap put.Low (value_same u.definition u.addend)
  patch_same u RelativeHigh = ap put.RelativeHigh (value_same u.definition u.addend)
  patch_same u TableHigh = ap put.RelativeHigh (value_same u.definition u.addend)
  patch_same u RelativeLowI = ap put.RelativeLow (named_same u.definition)
  patch_same u RelativeLowS = ap put.RelativeLow (named_same u.definition)
  patch_same u Nothing = refl
  patch_same u Mark = refl
  patch_same u BranchTarget = refl
  patch_same u JalTarget = refl
  patch_same u PairTarget = refl
  patch_same u (InData patch) = refl
  patch_same u Unknown = refl

  patches_same : (uses : List Relocation) → patch_from input p uses ≡ patch_from input q uses
  patches_same [] = refl
  patches_same (u ∷ uses) = patch_same u (kind_of u.number)

  aimed_same : (a : Aim) → aimed_place p a ≡ aimed_place q a
  aimed_same (aim.At k z) = place_same k (natural z)
  aimed_same _ = refl

  target_same : (k i : ℕ) (direct : Option Direct)
      → option_and_then (λ (d : Direct). aimed_place p (aim_at input k i d)) direct ≡ option_and_then (λ (d : Direct). aimed_place q (aim_at input k i d)) direct
  target_same k i None = refl
  target_same k i (Some d) = aimed_same (aim_at input k i d)

  pub item_same : (x : Item) → item_with input p x ≡ item_with input q x
  item_same x =
      let patch = patches_same (acting_at (section_of input x.section) x.offset) in
      let target = target_same x.section (x.offset / 4) (direct_at (section_of input x.section) (x.offset / 4)) in
      elim (cases_Bool (is_end x.kind)) [ inl e ↦ rw e refl | inr e ↦ rw e (rw (patch, target) refl) ]

-- a place put where one with its section and offset stood
module _ (places : List Item) (j : ℕ) (y : Item) (below : j < length places) (section : y.section ≡ (get_or places j no_item).section)
    (offset : y.offset ≡ (get_or places j no_item).offset) where
  section_kept : (i : ℕ) → (get_or (set places j y) i no_item).section ≡ (get_or places i no_item).section
  section_kept i = elim (cases_eq i j) [
    | inl here ↦
        rw here (ap (λ (x : Item). x.section) (get_or-set_same places j y no_item below) ∙ section)
    | inr other ↦ ap (λ (x : Item). x.section) (get_or-set_other places j i y no_item other)
  ]

  offset_kept : (i : ℕ) → (get_or (set places j y) i no_item).offset ≡ (get_or places i no_item).offset
  offset_kept i = elim (cases_eq i j) [
    | inl here ↦
        rw here (ap (λ (x : Item). x.offset) (get_or-set_same places j y no_item below) ∙ offset)
    | inr other ↦ ap (λ (x : Item). x.offset) (get_or-set_other places j i y no_item other)
  ]

  found_kept : (s o : ℕ) → place_of (set places j y) s o ≡ place_of places s o
  found_kept s o =
      let test : is_spot s o y ≡ is_spot s o (get_or places j no_item) = rw (section, offset) refl in
      rw (position_or_len-set (is_spot s o) places j y no_item test, length-set) refl

  order_kept : AreInOrder places → AreInOrder (set places j y)
  order_kept order a b less inside =
      let size = length-set places j y in
      let before = order a b less (omega arith) in
      rw (section_kept a, offset_kept a, section_kept b, offset_kept b) before

module _ (input : InputParts) (all : List Item) where
  pub none_linked : AreInOrder all → AreLinkedTo input all all 0
  none_linked order = record {
    size = refl;
    done = λ i below. absurd (omega arith);
    left = λ i from. refl;
    found = λ section offset. refl;
    order = order;
  }

  -- one more is linked
  pub one_linked : (places next : List Item) (j : ℕ) (x y : Item) → AreLinkedTo input all places j → j < length places
      → x ≡ get_or places j no_item → y ≡ item_with input places x → next ≡ set places j y → AreLinkedTo input all next (j + 1)
  one_linked places next j x y h below is e put =
      let section : y.section ≡ (get_or places j no_item).section =
      ap (λ (z : Item). z.section) e ∙ same_section input places x ∙ ap (λ (z : Item). z.section) is in
      let offset : y.offset ≡ (get_or places j no_item).offset =
      ap (λ (z : Item). z.offset) e ∙ same_offset input places x ∙ ap (λ (z : Item). z.offset) is in
      let value : y ≡ item_with input all (get_or all j no_item) =
      e ∙ item_same input places all h.found x ∙ ap (item_with input all) (is ∙ h.left j (omega arith)) in
      rw put (record {
        size = length-set places j y ∙ h.size;
        done = λ i less inside. elim (cases_eq i j) [
          | inl here ↦ rw here (get_or-set_same places j y no_item below ∙ value)
          | inr other ↦ get_or-set_other places j i y no_item other ∙ h.done i (omega arith) inside
        ];
        left = λ i from. get_or-set_other places j i y no_item (λ same. omega arith) ∙ h.left i (omega arith);
        found = λ s o. found_kept places j y below section offset s o ∙ h.found s o;
        order = order_kept places j y below section offset h.order;
      })

  pub all_linked : (places : List Item) (n : ℕ) → AreLinkedTo input all places n → length places ≤ n
      → places ≡ map (item_with input all) all
  all_linked places n h whole =
      let many = length-map all (item_with input all) in
      let size = h.size in
      ext_get_or no_item places (map (item_with input all) all) (omega arith)
      (λ i below. h.done i (omega arith) (omega arith) ∙ sym (get_or-map (item_with input all) all i no_item no_item (omega arith)))

module _ (input : InputParts) where
  pub begins_linked : (places : List Item) → places ≡ outline input → AreLinkedTo input (outline input) places 0
  begins_linked places e = rw e (none_linked input (outline input) (outline_in_order input))

  -- a place that is not linked yet stands at a word of code, if it is no end
  pub linked_stands : (places : List Item) (j : ℕ) (x : Item) → AreLinkedTo input (outline input) places j → j < length places
      → x ≡ get_or places j x → is_end x.kind ≡ false → IsInstruction input x
  linked_stands places j x h below is =
      let size = h.size in
      let here : x ≡ get_or (outline input) j no_item = is ∙ get_or_default places j x no_item below ∙ h.left j (omega arith) in
      subst (λ (y : Item). is_end y.kind ≡ false → IsInstruction input y) (sym here) (place_stands input (outline input) j no_item refl (omega arith))
