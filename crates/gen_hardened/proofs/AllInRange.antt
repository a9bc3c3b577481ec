-- No value of a generated object leaves its range, wherever its places are put.
use Rattle.std.proofs.Common.{◌≡◌, ◌==◌, ℕ, pos, zero, suc, ◌+◌, ◌*◌, ◌<◌, get_or, true, false, ◌&&◌, None, List, [], ◌∷◌, length, map, inl, inr, refl, sym, ap, subst, ◌∙◌, arith}
use Rattle.std.specs.List.{All, filter_map, flat_map}
use Rattle.std.proofs.lemmas.Bool.{cases_eq}
use Rattle.std.proofs.lemmas.List.{get_or-map, length-map}
use Rattle.std.proofs.lemmas.List.Elements.{All-cons, All-filter, All-get_or, All-head, All-nil, All-tail}
use Rattle.gen_hardened.proofs.Prelude.{DATA_START, nearest, Relocation, RelocKind, High, RelativeHigh, RelativeLowI, RelativeLowS, TableHigh, kind_of, is_acting, InputParts, SectionParts, acting_at, is_code, is_code_sort, section_count, section_of, fault_of, DataReloc, Item, Number, instr_at, Program, count, no_item, first_instr, first_reloc, is_astray, out_of_range, reloc_astray, reloc_of, relocs_of, section_relocs, item_with, patch_by, patch_from, end_at, outline, program_of, program_with, use_value, value_of, Function, table_relocs, IsGenerated, use_of}
use Rattle.least.proofs.Firsts.{none_first}
use Rattle.obj_program.specs.declared.item.Patch.TheVariants as put
use Rattle.obj_items.proofs.LookUp.{IsOfOutline, all_joined, outline_right}
use Rattle.obj_items.proofs.NoFault.{right}
use Rattle.obj_items.proofs.Starts.{linked_at, linked_is, start_read}
use Rattle.gen_hardened.proofs.DataRoom.{no_code, no_data, table_address, table_sort}
use Rattle.gen_hardened.proofs.Reached.{Reaches, UseReaches, uses_reach}
use Rattle.gen_hardened.proofs.Settled.{IsSettled, IsThere, instruction_there}
use Rattle.gen_hardened.proofs.Small.{AreSmall}

module _ {fs : List Function} {input : InputParts} (g : IsGenerated fs input) where
  abbrev places : List Item
  places = outline input

  abbrev program : Program
  program = program_with input places

  abbrev place_with : Item → Item
  place_with x = item_with input places x

  -- instructions
  module _ (small : AreSmall fs) where
    text_reaches : All UseReaches (section_of input 1).uses
    text_reaches = rw (ap (λ (s : SectionParts). s.uses) g.text) (uses_reach fs small)

    high_settled : (u : Relocation) → Reaches High u.definition u.addend → IsSettled (put.High (use_value input places u))
    high_settled u (definition, a, addend, below) =
        let no = ap is_code_sort (table_sort g) in
        let value : value_of input places u.definition u.addend ≡ Number (pos (DATA_START + 0 + a)) =
        rw (definition, addend, no, table_address g) refl in
        (DATA_START + 0 + a, value, omega arith)

    kind_settled : (u : Relocation) (kind : RelocKind) → Reaches kind u.definition u.addend → IsSettled (patch_by input places u kind)
    kind_settled u High there = high_settled u there
    kind_settled u RelativeHigh there = absurd there
    kind_settled u RelativeLowI there = absurd there
    kind_settled u RelativeLowS there = absurd there
    kind_settled u TableHigh there = absurd there
    kind_settled u other there = tt

    first_settled : (us : List Relocation) → All UseReaches us → IsSettled (patch_from input places us)
    first_settled [] all = tt
    first_settled (u ∷ us) all = kind_settled u (kind_of u.number) (All-head UseReaches u us all)

    text_settled : (at : ℕ) → IsSettled (patch_from input places (acting_at (section_of input 1) at))
    unfolding acting_at
    text_settled at =
        first_settled _ (All-filter (λ (u : Relocation). u.offset == at && is_acting u) UseReaches (section_of input 1).uses text_reaches)

    code_settled : (k at : ℕ) → is_code (section_of input k) ≡ true
        → IsSettled (patch_from input places (acting_at (section_of input k) at))
    code_settled k at code = elim (cases_eq k 1) [
      | inl one ↦ subst (λ n. IsSettled (patch_from input places (acting_at (section_of input n) at))) (sym one) (text_settled at)
      | inr other ↦ let no = no_code g k other in absurd (cc)
    ]

    module _ (sound : fault_of input ≡ None) (gates words : List ℕ) where
      place_there : (k : ℕ) (x : Item) → IsOfOutline input x → IsThere program gates words k (place_with x)
      place_there k x placed = elim placed.either [
        | inl (i, starts, e) ↦
            let (kind, kind_is, going, read) = start_read input (right input sound) places x.section i placed.code starts in
            let same : place_with x ≡ linked_at input places x.section i kind =
            ap place_with e ∙ linked_is input places x.section i kind kind_is going in
            let there = instruction_there program gates words k (linked_at input places x.section i kind) going read
            (code_settled x.section (4 * i) placed.code) in
            subst (λ (y : Item). IsThere program gates words k y) (sym same) there
        | inr e ↦
            let same : place_with x ≡ end_at (section_of input x.section) x.section = ap place_with e in
            subst (λ (y : Item). IsThere program gates words k y) (sym same) refl
      ]

      none_astray : (k : ℕ) → k < count program → is_astray program gates words k ≡ false
      unfolding instr_at
      none_astray k below =
          let size = length-map places (item_with input places) in
          let inside : k < length places = omega arith in
          let at = get_or-map (item_with input places) places k no_item no_item inside in
          let placed = All-get_or (IsOfOutline input) places k no_item inside (outline_right input) in
          subst (λ (y : Item). IsThere program gates words k y) (sym at) (place_there k (get_or places k no_item) placed)

      no_instruction : first_instr program gates words ≡ None
      no_instruction = rw (none_first (is_astray program gates words) (count program) none_astray) refl

  -- data have addresses of 64 bits alone, which take each value
  module _ (gates : List ℕ) where
    abbrev IsInRange : DataReloc → Type 0
    IsInRange r = reloc_astray gates r ≡ None

    pointers_in_range : (n i : ℕ) → All IsInRange (flat_map (reloc_of input places 2) (map (use_of fs) (table_relocs n i)))
    unfolding table_relocs kind_of
    pointers_in_range zero i = All-nil IsInRange
    pointers_in_range (suc n) i = All-cons IsInRange _ _ refl (pointers_in_range n (i + 1))

    section_in_range : (k : ℕ) → All IsInRange (section_relocs input places k)
    section_in_range k = elim (cases_eq k 2) [
      | inl two ↦
          let uses = ap (λ (s : SectionParts). s.uses) g.table in
          let table : All IsInRange (section_relocs input places 2) = rw (table_sort g, uses) (pointers_in_range 2000 0) in
          subst (λ n. All IsInRange (section_relocs input places n)) (sym two) table
      | inr other ↦ let no = no_data g k other in rw no (All-nil IsInRange)
    ]

    data_in_range : All IsInRange (relocs_of input places)
    unfolding relocs_of
    data_in_range = all_joined IsInRange (section_relocs input places) section_in_range (section_count input)

    none_kept : (rs : List DataReloc) → All IsInRange rs → filter_map (reloc_astray gates) rs ≡ []
    none_kept [] all = refl
    none_kept (r ∷ rs) all = let none = All-head IsInRange r rs all in rw none (none_kept rs (All-tail IsInRange r rs all))

    no_relocation : first_reloc program gates ≡ None
    unfolding nearest
    no_relocation = rw (none_kept (relocs_of input places) data_in_range) refl

  pub all_in_range : AreSmall fs → fault_of input ≡ None → (gates words : List ℕ)
      → out_of_range (program_of input) gates words ≡ None
  unfolding out_of_range program_of
  all_in_range small sound gates words = rw (no_instruction small sound gates words, no_relocation gates) refl
