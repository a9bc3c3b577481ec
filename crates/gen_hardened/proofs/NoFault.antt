-- No fault of instructions and relocations stands of a generated object.
use Rattle.std.proofs.Common.{◌≡◌, ◌≢◌, ℕ, zero, suc, ◌<◌, false, List, [], length, map, filter_map, Option, None, inl, inr, refl, sym, ap, subst, ◌∙◌, arith}
use Rattle.std.proofs.lemmas.Bool.{cases_eq}
use Rattle.gen_hardened.proofs.Prelude.{Found, nearest, Relocation, Data, InputParts, SectionParts, is_code, is_code_sort, section_count, section_of, ItemFault, place_of, undecodable, undecodable_in, reserved, reserved_in, bad_transfer, bad_transfer_in, auipc_in, bad_pair, bad_pair_in, low_at, low_in, kind_found, kind_in, wrong_kind, place_found, place_in, wrong_place, missing_among, missing_in, missing_symbol, undefined, pointer_found, pointer_in, wrong_pointer, fault_of, Function, program_lines, table_relocs, functions_from, relocs_from, IsGenerated, symbol_definition}
use Rattle.cfi_gen.proofs.Writing.{length-functions}
use Rattle.gen_hardened.proofs.Bridge.{use_by}
use Rattle.gen_hardened.proofs.Drawn.{AreNear, near_functions}
use Rattle.gen_hardened.proofs.Routines.{program_spots}
use Rattle.gen_hardened.proofs.Starts.{function_start}
use Rattle.gen_hardened.proofs.Standing.{IsCode}
use Rattle.gen_hardened.proofs.Instructions.{all_decoded, all_free, all_paired}
use Rattle.gen_hardened.proofs.Transfers.{AreStarts, all_right}
use Rattle.gen_hardened.proofs.Relocations.{FindsNone, all_fit, kinds_taken, no_lows, no_pointers, none_among}
use Rattle.gen_hardened.proofs.Pointers.{none_pointed, pointer, pointer_fits, pointer_no_low, pointer_right, pointer_taken}
use Rattle.gen_hardened.proofs.Searches.{nearest_none, none_in, none_least, none_missing}

all_defined : (fs : List Function) (m : ℕ) → missing_symbol (symbol_definition fs m) ≡ None
all_defined fs zero = refl
all_defined fs (suc m) = refl

module _ (fs : List Function) (input : InputParts) (long : length fs ≡ 2000) (near : AreNear 2000 fs)
    (g : IsGenerated fs input) where
  code : IsCode (symbol_definition fs) 2000 (program_lines fs) (section_of input 1)
  code = record {
    sort = ap (λ (s : SectionParts). s.sort) g.text;
    size = ap (λ (s : SectionParts). s.size) g.text;
    content = ap (λ (s : SectionParts). s.content) g.text;
    uses = ap (λ (s : SectionParts). s.uses) g.text;
    spots = program_spots 2000 fs near;
  }

  entries : AreStarts (symbol_definition fs) 2000 (program_lines fs) 1
  entries j below = function_start fs j (omega (arith, long))

  data_sort : (section_of input 2).sort ≡ Data
  data_sort = ap (λ (s : SectionParts). s.sort) g.table

  data_uses : (section_of input 2).uses ≡ map (use_by (symbol_definition fs)) (table_relocs 2000 0)
  data_uses = ap (λ (s : SectionParts). s.uses) g.table

  -- section 1 alone is code
  no_code : (k : ℕ) → k ≢ 1 → is_code (section_of input k) ≡ false
  no_code k other = elim (cases_eq k 2) [
    | inl two ↦ ap (λ j. is_code (section_of input j)) two ∙ ap is_code_sort data_sort
    | inr third ↦ ap is_code_sort (g.dropped k other third)
  ]

  -- what holds of section 1, and where there is no code
  by_code : (P : ℕ → Type 0) → P 1 → ((k : ℕ) → is_code (section_of input k) ≡ false → P k) → (k : ℕ) → P k
  by_code P first others k = elim (cases_eq k 1) [
    | inl one ↦ subst P (sym one) first
    | inr other ↦ others k (no_code k other)
  ]

  undecodable_none : undecodable input ≡ None
  unfolding undecodable
  undecodable_none = none_in input (undecodable_in input)
      (by_code (λ k. undecodable_in input k ≡ None) (rw (all_decoded code) refl) (λ k no. rw no refl))

  reserved_none : reserved input ≡ None
  unfolding reserved
  reserved_none = none_in input (reserved_in input)
      (by_code (λ k. reserved_in input k ≡ None) (rw (all_free code) refl) (λ k no. rw no refl))

  transfer_none : bad_transfer input ≡ None
  unfolding bad_transfer
  transfer_none = none_in input (bad_transfer_in input)
      (by_code (λ k. bad_transfer_in input k ≡ None) (rw (all_right input 1 code entries) refl) (λ k no. rw no refl))

  auipc_none : (k : ℕ) → auipc_in input k ≡ None
  auipc_none = by_code (λ k. auipc_in input k ≡ None) (rw (all_paired code) refl) (λ k no. rw no refl)

  -- a search in the relocations of each section
  none_used : (f : ℕ → Relocation → Option (Found ItemFault)) → FindsNone (symbol_definition fs) (program_lines fs) (f 1)
      → ((j : ℕ) → j < 2000 → f 2 (pointer (symbol_definition fs) j) ≡ None)
      → (k : ℕ) → nearest place_of (filter_map (f k) (section_of input k).uses) ≡ None
  none_used f first second k = nearest_none (filter_map (f k) (section_of input k).uses) (elim (cases_eq k 1) [
    | inl one ↦ ap (λ j. filter_map (f j) (section_of input j).uses) one ∙ none_among code (f 1) first
    | inr other ↦ elim (cases_eq k 2) [
      | inl two ↦
          ap (λ j. filter_map (f j) (section_of input j).uses) two ∙ ap (filter_map (f 2)) data_uses
          ∙ none_pointed (symbol_definition fs) (f 2) 2000 0 (λ j more below. second j (omega arith))
      | inr third ↦ ap (filter_map (f k)) (g.unused k other third)
    ]
  ])

  pair_none : bad_pair input ≡ None
  unfolding bad_pair
  pair_none = none_in input (bad_pair_in input) (λ k.
      let low : low_in input k ≡ None =
      none_used (low_at input) (no_lows code input 1)
      (λ j below. pointer_no_low (symbol_definition fs) (section_of input 2) data_sort 2 j input) k in
      rw (auipc_none k, low) refl)

  kind_none : wrong_kind input ≡ None
  unfolding wrong_kind
  kind_none = none_in input (kind_in input) (none_used (λ k. kind_found (section_of input k) k) (kinds_taken code 1)
      (λ j below. pointer_taken (symbol_definition fs) (section_of input 2) data_sort 2 j))

  place_none : wrong_place input ≡ None
  unfolding wrong_place
  place_none = none_in input (place_in input) (none_used (λ k. place_found (section_of input k) k) (all_fit code 1)
      (λ j below.
      let size : (section_of input 2).size ≡ 16000 = ap (λ (s : SectionParts). s.size) g.table in
      pointer_fits (symbol_definition fs) (section_of input 2) data_sort 2 j (omega (arith, size))))

  pointer_none : wrong_pointer input ≡ None
  unfolding wrong_pointer
  pointer_none = none_in input (pointer_in input)
      (none_used (pointer_found input) (no_pointers code input 1 2 0 refl (ap is_code_sort data_sort))
      (λ j below. pointer_right input 1 code entries 2 j below))

  missing_none : (k : ℕ) → missing_in input k ≡ None
  missing_none k = elim (cases_eq k 1) [
    | inl one ↦
        ap (missing_in input) one ∙ ap missing_among code.uses
        ∙ none_missing (symbol_definition fs) (all_defined fs) (relocs_from 0 (program_lines fs))
    | inr other ↦ elim (cases_eq k 2) [
      | inl two ↦
          ap (missing_in input) two ∙ ap missing_among data_uses
          ∙ none_missing (symbol_definition fs) (all_defined fs) (table_relocs 2000 0)
      | inr third ↦ ap missing_among (g.unused k other third) ∙ none_missing (symbol_definition fs) (all_defined fs) []
    ]
  ]

  undefined_none : undefined input ≡ None
  unfolding undefined
  undefined_none = rw (none_least (missing_in input) (section_count input) missing_none) refl

  none_stands : fault_of input ≡ None
  unfolding fault_of
  none_stands =
      rw (undecodable_none, reserved_none, transfer_none, pair_none, kind_none, place_none, undefined_none, pointer_none) refl

pub no_fault : (number : ℕ) (input : InputParts) → IsGenerated (functions_from 2000 0 number) input → fault_of input ≡ None
no_fault number input g =
    none_stands (functions_from 2000 0 number) input (length-functions 2000 0 number)
    (near_functions 2000 2000 0 number refl (omega arith)) g
