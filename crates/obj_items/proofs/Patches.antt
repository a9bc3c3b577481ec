-- What relocations do to the instructions of an input without a fault: their values are there, and a low part has its high part.
use Rattle.std.proofs.Common.{◌≡◌, ◌==◌, ℕ, pos, ◌*◌, ◌/◌, ◌<◌, true, false, not, ◌&&◌, ◌||◌, Option, None, List, [], ◌∷◌, length, unwrap_or, All, inl, inr, refl, sym, ap, ◌∙◌, arith}
use Rattle.std.specs.List.{list_any}
use Rattle.std.specs.Ordering.{int_eq}
use Rattle.std.proofs.lemmas.Bool.{and_parts, eqb-true, lt-ltb, not-false, or_cases, or_parts}
use Rattle.std.proofs.lemmas.List.{length-map}
use Rattle.std.proofs.lemmas.List.Elements.{All-filter, All-head, All-same}
use Rattle.rv_word.proofs.Booleans.{and_rest}
use Rattle.obj_items.proofs.Prelude.{Relocation, Definition, Within, Missing, RelocKind, RelativeHigh, TableHigh, RelativeLowI, RelativeLowS, High, LowI, LowS, is_relative_high, is_relative_low, kind_of, is_acting, InputParts, acting_at, is_code, section_of, has_high_part, instr, is_auipc, is_start, has_relative_high, is_auipc_at, names_high, missing_symbol, Item, count, item_of, place_of, is_high_patch, is_patch, is_value, item_with, named_place, patch_by, patch_from, outline, program_with, IsInput, IsSmallUse, use_value}
use Rattle.obj_program.specs.declared.item.Patch.TheVariants as put
use Rattle.obj_items.proofs.Bounds.{each_section, value_right}
use Rattle.obj_items.proofs.LookUp.{start_parts}
use Rattle.obj_items.proofs.NoFault.{IsRight, IsRightUse}
use Rattle.obj_items.proofs.Starts.{sole}
use Rattle.obj_items.proofs.Targets.{start_item_there}

small_there : (input : InputParts) → IsInput input → (k at : ℕ) → All IsSmallUse (acting_at (section_of input k) at)
unfolding acting_at
small_there input is k at = All-filter (λ (u : Relocation). u.offset == at && is_acting u) IsSmallUse (section_of input k).uses (each_section input is k).uses

-- the relocation at an AUIPC with a high part is that
high_patch : (input : InputParts) → IsRight input → (places : List Item) (k at : ℕ) → is_code (section_of input k) ≡ true
    → has_high_part (section_of input k) at ≡ true → is_high_patch (patch_from input places (acting_at (section_of input k) at)) ≡ true
high_patch input right places k at code has = by (acting_at (section_of input k) at) refl
  where
    does : (u : Relocation) (kind : RelocKind) → is_relative_high kind ≡ true → is_high_patch (patch_by input places u kind) ≡ true
    does u RelativeHigh e = refl
    does u TableHigh e = refl
    does u other e = absurd (cc)

    by : (us : List Relocation) → acting_at (section_of input k) at ≡ us → is_high_patch (patch_from input places us) ≡ true
    by [] e =
        let never : false ≡ true = ap (λ (us : List Relocation). list_any (λ (u : Relocation). is_relative_high (kind_of u.number)) us) (sym e) ∙ has in absurd (cc)
    by (u ∷ more) e =
        let one = sole input right k at code u more e in
        let some : list_any (λ (v : Relocation). is_relative_high (kind_of v.number)) (u ∷ more) ≡ true =
        ap (λ (us : List Relocation). list_any (λ (v : Relocation). is_relative_high (kind_of v.number)) us) (sym e) ∙ has in
        let here : (is_relative_high (kind_of u.number) || false) ≡ true = rw one.none_more at some in
        elim (or_cases (is_relative_high (kind_of u.number)) false here) [ inl high ↦ does u (kind_of u.number) high | inr never ↦ absurd (cc) ]

module _ (input : InputParts) (is : IsInput input) (right : IsRight input) where
  counted : length (outline input) ≡ count (program_with input (outline input))
  counted = sym (length-map (outline input) (item_with input (outline input)))

  value_there : (u : Relocation) → IsSmallUse u → is_value (count (program_with input (outline input))) (use_value input (outline input) u) ≡ true
  value_there u small = value_right input is (outline input) (count (program_with input (outline input))) counted u.definition u.addend small.definition small.addend

  -- the place that a low part names has the high part
  low_there : (k : ℕ) (d : Definition) → names_high input k d ≡ true → missing_symbol d ≡ None
      → is_patch (program_with input (outline input)) (put.RelativeLow (named_place (outline input) d)) ≡ true
  low_there k (Within j value) names none =
      let parts = and_parts (j == k) (has_relative_high (section_of input k) value) names in
      let same : j ≡ k = eqb-true j k parts.0 in
      let two = and_parts (is_auipc_at (section_of input k) value) (has_high_part (section_of input k) value) parts.1 in
      let three = and_parts (is_code (section_of input k) && is_start (section_of input k) value) (is_auipc (instr (section_of input k) (value / 4))) two.0 in
      let four = and_parts (is_code (section_of input k)) (is_start (section_of input k) value) three.0 in
      let there = start_item_there input right k value four.1 in
      let t = there.0 in
      let whole : 4 * (value / 4) ≡ value = let even = (start_parts (section_of input k) value four.1).1 in omega arith in
      let named : named_place (outline input) (Within j value) ≡ t =
      ap (λ n. unwrap_or (place_of (outline input) n value) 0) same ∙ ap (λ (o : Option ℕ). unwrap_or o 0) there.2.found in
      let at : (item_of (program_with input (outline input)) t).patch ≡ patch_from input (outline input) (acting_at (section_of input k) value) =
      ap (λ (x : Item). x.patch) there.2.item ∙ ap (λ n. patch_from input (outline input) (acting_at (section_of input k) n)) whole in
      let high : is_high_patch (item_of (program_with input (outline input)) t).patch ≡ true =
      ap is_high_patch at ∙ high_patch input right (outline input) k value four.0 two.1 in
      low_at (named_place (outline input) (Within j value)) t named there.2.below high
    where
      low_at : (n t : ℕ) → n ≡ t → t < count (program_with input (outline input)) → is_high_patch (item_of (program_with input (outline input)) t).patch ≡ true
          → is_patch (program_with input (outline input)) (put.RelativeLow n) ≡ true
      low_at n t same below high = rw (same, lt-ltb t (count (program_with input (outline input))) below, high) refl
  low_there k (Missing n) names none = absurd (cc)
  low_there k other names none = absurd (cc)

  low_right : (k : ℕ) (u : Relocation) → IsRightUse input k u → is_acting u ≡ true → is_relative_low (kind_of u.number) ≡ true
      → is_patch (program_with input (outline input)) (put.RelativeLow (named_place (outline input) u.definition)) ≡ true
  low_right k u one acting low =
      let names = (or_parts (not (int_eq u.addend (pos 0))) (not (names_high input k u.definition)) (and_rest (is_relative_low (kind_of u.number)) _ one.low low)).1 in
      let none : missing_symbol u.definition ≡ None = let none = one.defined in rw acting at none in
      low_there k u.definition (not-false (names_high input k u.definition) names) none

  patch_right : (k : ℕ) (u : Relocation) → IsRightUse input k u → IsSmallUse u → is_acting u ≡ true → (kind : RelocKind) → kind_of u.number ≡ kind
      → is_patch (program_with input (outline input)) (patch_by input (outline input) u kind) ≡ true
  patch_right k u one small acting High e = value_there u small
  patch_right k u one small acting LowI e = value_there u small
  patch_right k u one small acting LowS e = value_there u small
  patch_right k u one small acting RelativeHigh e = value_there u small
  patch_right k u one small acting TableHigh e = value_there u small
  patch_right k u one small acting RelativeLowI e = low_right k u one acting (ap is_relative_low e)
  patch_right k u one small acting RelativeLowS e = low_right k u one acting (ap is_relative_low e)
  patch_right k u one small acting other e = refl

  -- what the relocation at an instruction's start does
  pub start_patch : (k at : ℕ) → is_code (section_of input k) ≡ true
      → is_patch (program_with input (outline input)) (patch_from input (outline input) (acting_at (section_of input k) at)) ≡ true
  start_patch k at code = by (acting_at (section_of input k) at) refl
    where
      by : (us : List Relocation) → acting_at (section_of input k) at ≡ us → is_patch (program_with input (outline input)) (patch_from input (outline input) us) ≡ true
      by [] e = refl
      by (u ∷ more) e =
          let one = sole input right k at code u more e in
          let small = All-head IsSmallUse u more (All-same IsSmallUse (u ∷ more) (acting_at (section_of input k) at) (sym e) (small_there input is k at)) in
          patch_right k u one.right small one.acting (kind_of u.number) refl
