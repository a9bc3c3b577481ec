-- The relocations of data of an input without a fault lie in the initialised data.
use Rattle.std.proofs.Common.{◌≡◌, ◌&&◌, ℕ, zero, suc, ◌+◌, ◌-◌, ◌<◌, ◌≤◌, get_or, nat_lt, true, false, not, List, [], ◌∷◌, ◌++◌, length, replicate, All, inl, inr, refl, sym, ap, subst, arith}
use Rattle.std.specs.List.{flat_map}
use Rattle.std.proofs.lemmas.Bool.{cases_Bool, cases_lt, and_parts, and_from, le-leb, ltb-false, not-false, not-true}
use Rattle.std.proofs.lemmas.List.{length-append, length-map, length-replicate}
use Rattle.std.proofs.lemmas.List.Elements.{All-nil, All-cons, All-append, All-from_get_or, All-get_or, All-head, All-tail}
use Rattle.rv_word.proofs.Booleans.{and_rest}
use Rattle.obj_items.proofs.Prelude.{DATA_START, size_of, joined, Relocation, Sort, Data, RelocKind, InData, is_idle, kind_of, is_acting, InputParts, has_bytes, is_code_sort, is_data_sort, is_zeros_sort, section_count, section_of, section_address, has_right_addend, stands, stands_in_data, width, DataReloc, count, lies, init_below, placed, reloc_by, reloc_of, relocs_of, section_relocs, item_with, outline, program_with, IsInput, IsSmallUse, use_value}
use Rattle.obj_items.proofs.Bounds.{each_section, value_right}
use Rattle.obj_items.proofs.NoFault.{IsRight, IsRightUse, no_use}

-- what is placed reaches from its address on
placed_length : (so_far bytes : List ℕ) (address : ℕ) → address - DATA_START + length bytes ≤ length (placed so_far address bytes)
placed_length so_far bytes address =
    let gap : List ℕ = replicate (address - (DATA_START + length so_far)) 0 in
    let outer = length-append (so_far ++ gap) bytes in
    let inner = length-append so_far gap in
    let zeros : length gap ≡ address - (DATA_START + length so_far) = length-replicate (address - (DATA_START + length so_far)) 0 in
    omega arith

placed_longer : (so_far bytes : List ℕ) (address : ℕ) → length so_far ≤ length (placed so_far address bytes)
placed_longer so_far bytes address =
    let gap : List ℕ = replicate (address - (DATA_START + length so_far)) 0 in
    let outer = length-append (so_far ++ gap) bytes in
    let inner = length-append so_far gap in
    omega arith

module _ (input : InputParts) where
  grows : (k : ℕ) → length (init_below input k) ≤ length (init_below input (suc k))
  unfolding init_below
  grows k = elim (cases_Bool (is_data_sort (section_of input k).sort)) [
    | inl with_bytes ↦ rw with_bytes (placed_longer (init_below input k) (section_of input k).content (section_address input k))
    | inr other ↦ rw other (omega arith)
  ]

  ends : (k : ℕ) → is_data_sort (section_of input k).sort ≡ true → section_address input k - DATA_START + length (section_of input k).content ≤ length (init_below input (suc k))
  unfolding init_below
  ends k sort = rw sort (placed_length (init_below input k) (section_of input k).content (section_address input k))

  -- a section of data lies in the initialised data
  pub section_lies : (n k : ℕ) → k < n → is_data_sort (section_of input k).sort ≡ true
      → section_address input k - DATA_START + length (section_of input k).content ≤ length (init_below input n)
  section_lies zero k below sort = absurd (omega arith)
  section_lies (suc n) k below sort = elim (cases_lt k n) [
    | inl less ↦ let before = section_lies n k less sort in let more = grows n in omega arith
    | inr most ↦ let last : k ≡ n = omega arith in subst (λ m. section_address input k - DATA_START + length (section_of input k).content ≤ length (init_below input (suc m))) last (ends k sort)
  ]

data_has : (sort : Sort) → is_data_sort sort ≡ true → (has_bytes sort ≡ true) × (is_code_sort sort ≡ false)
data_has Data e = (refl, refl)
data_has other e = absurd (cc)

all_mapped : {A B : Type 0} (P : B → Type 0) (f : A → List B) (xs : List A) → All (λ x. All P (f x)) xs → All P (flat_map f xs)
all_mapped P f [] each = All-nil P
all_mapped P f (x ∷ xs) each =
    All-append P (f x) (flat_map f xs) (All-head (λ y. All P (f y)) x xs each) (all_mapped P f xs (All-tail (λ y. All P (f y)) x xs each))

module _ (input : InputParts) (is : IsInput input) (right : IsRight input) where
  Lies : DataReloc → Type 0
  Lies r = lies (program_with input (outline input)) r ≡ true

  one_lies : (k : ℕ) → k < section_count input → is_data_sort (section_of input k).sort ≡ true → (u : Relocation) → IsRightUse input k u → IsSmallUse u
      → (kind : RelocKind) → kind_of u.number ≡ kind → All Lies (reloc_by input (outline input) k u kind)
  unfolding Lies
  one_lies k below sort u one small (InData patch) e =
      let size = (each_section input is k).whole (data_has (section_of input k).sort sort).0 in
      let whole = section_lies input (section_count input) k below sort in
      let acting : is_acting u ≡ true = ap (λ kind. not (is_idle kind)) e in
      let may : (stands (section_of input k) u && has_right_addend u) ≡ true = not-false _ (and_rest (is_acting u) _ one.standing acting) in
      let stood : stands (section_of input k) u ≡ true = (and_parts (stands (section_of input k) u) (has_right_addend u) may).0 in
      let in_data : stands_in_data (section_of input k) u ≡ true = rw (data_has (section_of input k).sort sort).1 at stood in
      let fits = (and_parts (not (is_zeros_sort (section_of input k).sort)) (not (nat_lt (section_of input k).size (u.offset + width (kind_of u.number)))) in_data).1 in
      let inside : u.offset + width (kind_of u.number) ≤ (section_of input k).size = ltb-false _ _ (not-true _ fits) in
      let wide : width (kind_of u.number) ≡ size_of patch = ap width e in
      let value = value_right input is (outline input) (count (program_with input (outline input)))
      (sym (length-map (outline input) (item_with input (outline input)))) u.definition u.addend small.definition small.addend in
      let reaches : section_address input k - DATA_START + u.offset + size_of patch ≤ length (init_below input (section_count input)) = omega arith in
      All-cons Lies
      (record { section = k; at = u.offset; offset = section_address input k - DATA_START + u.offset; patch = patch; value = use_value input (outline input) u })
      [] (and_from _ _ (le-leb _ _ reaches) value) (All-nil Lies)
  one_lies k below sort u one small other e = All-nil Lies

  section_lie : (k : ℕ) → k < section_count input → All Lies (section_relocs input (outline input) k)
  section_lie k below = elim (cases_Bool (is_data_sort (section_of input k).sort)) [
    | inl sort ↦
        rw sort
        (all_mapped Lies (reloc_of input (outline input) k) (section_of input k).uses
        (All-from_get_or (λ u. All Lies (reloc_of input (outline input) k u)) (section_of input k).uses no_use
        (λ j less.
        let uses = (section_of input k).uses in
        let u = get_or uses j no_use in
        one_lies k below sort u (All-get_or (IsRightUse input k) uses j no_use less (right.uses k))
        (All-get_or IsSmallUse uses j no_use less (each_section input is k).uses) (kind_of u.number) refl)))
    | inr other ↦ rw other (All-nil Lies)
  ]

  sections_lie : (n : ℕ) → n ≤ section_count input → All Lies (joined (section_relocs input (outline input)) n)
  unfolding joined
  sections_lie zero few = All-nil Lies
  sections_lie (suc n) few =
      All-append Lies (joined (section_relocs input (outline input)) n) (section_relocs input (outline input) n) (sections_lie n (omega arith)) (section_lie n (omega arith))

  pub relocs_lie : All (λ r. lies (program_with input (outline input)) r ≡ true) (relocs_of input (outline input))
  unfolding relocs_of Lies
  relocs_lie = sections_lie (section_count input) (omega arith)
