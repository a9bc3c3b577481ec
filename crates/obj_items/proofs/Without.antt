-- An input without its relocations has the same data in the same places, so a relocation of data comes to the same with either.
use Rattle.std.proofs.Common.{◌≡◌, ℕ, ℤ, zero, suc, Bool, List, map, inl, inr, refl, sym, ap, ◌∙◌, arith}
use Rattle.std.proofs.lemmas.Bool.{cases_lt}
use Rattle.std.proofs.lemmas.List.{get_or-map, get_or_past, length-map}
use Rattle.std.proofs.Math.Path.{fun_ext}
use Rattle.obj_items.proofs.Prelude.{DATA_START, joined, Relocation, Sort, Definition, Zero, Absolute, Within, Common, Missing, RelocKind, Nothing, Mark, BranchTarget, JalTarget, PairTarget, RelativeHigh, TableHigh, RelativeLowI, RelativeLowS, High, LowI, LowS, InData, Unknown, kind_of, InputParts, is_data_sort, is_zeros_sort, no_section, section_count, section_of, block_address, blocks_reach, init_end, reach, section_address, zeros_end, DataReloc, Item, place_of, bare, bare_section, listed_relocs, reloc_by, reloc_of, relocs_of, section_relocs, section_value, value_of}
use Rattle.obj_items.proofs.Linking.{value_same}

module _ (input : InputParts) where
  pub bare_count : section_count (bare input) ≡ section_count input
  unfolding bare
  bare_count = length-map input.sections bare_section

  bare_at : (k : ℕ) → section_of (bare input) k ≡ bare_section (section_of input k)
  unfolding bare
  bare_at k = elim (cases_lt k (section_count input)) [
    | inl below ↦ get_or-map bare_section input.sections k no_section no_section below
    | inr past ↦
        let size = length-map input.sections bare_section in
        get_or_past (map bare_section input.sections) k no_section (omega arith) ∙ sym (ap bare_section (get_or_past input.sections k no_section past))
  ]

  bare_reach : (wanted : Sort → Bool) (start k : ℕ) → reach (bare input) wanted start k ≡ reach input wanted start k
  unfolding reach
  bare_reach wanted start zero = refl
  bare_reach wanted start (suc k) = rw (bare_at k, bare_reach wanted start k) refl

  bare_init : init_end (bare input) ≡ init_end input
  unfolding init_end
  bare_init = rw bare_count (bare_reach is_data_sort DATA_START (section_count input))

  bare_zeros : zeros_end (bare input) ≡ zeros_end input
  unfolding zeros_end
  bare_zeros = rw (bare_count, bare_init) (bare_reach is_zeros_sort (init_end input) (section_count input))

  bare_blocks : (c : ℕ) → blocks_reach (bare input) c ≡ blocks_reach input c
  unfolding blocks_reach bare
  bare_blocks zero = bare_zeros
  bare_blocks (suc c) = rw (bare_blocks c) refl

  bare_address : (k : ℕ) → section_address (bare input) k ≡ section_address input k
  unfolding section_address
  bare_address k = rw (bare_at k, bare_init, bare_reach is_data_sort DATA_START k, bare_reach is_zeros_sort (init_end input) k) refl

  bare_block : (c : ℕ) → block_address (bare input) c ≡ block_address input c
  unfolding block_address bare
  bare_block c = rw (bare_blocks c) refl

  module _ (places : List Item) where
    bare_section_value : (k value : ℕ) (addend : ℤ) → section_value (bare input) places k value addend ≡ section_value input places k value addend
    bare_section_value k value addend = rw (bare_at k, bare_address k) refl

    bare_value : (d : Definition) (addend : ℤ) → value_of (bare input) places d addend ≡ value_of input places d addend
    bare_value Zero addend = refl
    bare_value (Absolute value) addend = refl
    bare_value (Within k value) addend = bare_section_value k value addend
    bare_value (Common c) addend = rw (bare_block c) refl
    bare_value (Missing n) addend = refl

    bare_reloc : (k : ℕ) (u : Relocation) (kind : RelocKind) → reloc_by (bare input) places k u kind ≡ reloc_by input places k u kind
    bare_reloc k u (InData patch) = rw (bare_address k, bare_value u.definition u.addend) refl
    bare_reloc k u Nothing = refl
    bare_reloc k u Mark = refl
    bare_reloc k u BranchTarget = refl
    bare_reloc k u JalTarget = refl
    bare_reloc k u PairTarget = refl
    bare_reloc k u RelativeHigh = refl
    bare_reloc k u TableHigh = refl
    bare_reloc k u RelativeLowI = refl
    bare_reloc k u RelativeLowS = refl
    bare_reloc k u High = refl
    bare_reloc k u LowI = refl
    bare_reloc k u LowS = refl
    bare_reloc k u Unknown = refl

-- two lists in which the same places are found
module _ (input : InputParts) (p q : List Item) (same : (section offset : ℕ) → place_of p section offset ≡ place_of q section offset) where
  moved_reloc : (k : ℕ) (u : Relocation) (kind : RelocKind) → reloc_by input p k u kind ≡ reloc_by input q k u kind
  moved_reloc k u (InData patch) = rw (value_same input p q same u.definition u.addend) refl
  moved_reloc k u Nothing = refl
  moved_reloc k u Mark = refl
  moved_reloc k u BranchTarget = refl
  moved_reloc k u JalTarget = refl
  moved_reloc k u PairTarget = refl
  moved_reloc k u RelativeHigh = refl
  moved_reloc k u TableHigh = refl
  moved_reloc k u RelativeLowI = refl
  moved_reloc k u RelativeLowS = refl
  moved_reloc k u High = refl
  moved_reloc k u LowI = refl
  moved_reloc k u LowS = refl
  moved_reloc k u Unknown = refl

  -- the relocations of a section without its own, among places that are linked, are those of the section
  one_reloc : (k : ℕ) → reloc_of (bare input) p k ≡ reloc_of input q k
  one_reloc k = fun_ext (λ (u : Relocation). bare_reloc input p k u (kind_of u.number) ∙ moved_reloc k u (kind_of u.number))

-- the relocations of data, by the sections of an input and what it is without relocations
module _ (input : InputParts) (p q : List Item) (same : (section offset : ℕ) → place_of p section offset ≡ place_of q section offset) where
  same_section : (k : ℕ) → listed_relocs (bare input) p input.sections k ≡ section_relocs input q k
  same_section k = rw (one_reloc input p q same k) refl

  pub same_relocs : joined (listed_relocs (bare input) p input.sections) (section_count input) ≡ relocs_of input q
  unfolding relocs_of
  same_relocs = ap (λ (f : ℕ → List DataReloc). joined f (section_count input)) (fun_ext same_section)
