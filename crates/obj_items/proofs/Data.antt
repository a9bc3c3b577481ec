-- Initialised data and their relocations, one section or one relocation further.
use Rattle.std.proofs.Common.{◌≡◌, ℕ, ◌+◌, ◌<◌, true, false, List, [], ◌∷◌, ◌++◌, length, get_or, take, refl, sym, ap, ◌∙◌, add-one, append_assoc}
use Rattle.std.specs.List.{flat_map}
use Rattle.std.proofs.lemmas.List.{append-nil, get_or_append_left, length-append, take_more}
use Rattle.std.proofs.Math.Seq.{get_or-append_seam}
use Rattle.std.proofs.lemmas.List.Concat.{flat_map-append}
use Rattle.obj_items.proofs.Prelude.{InputParts, SectionParts, is_data_sort, no_section, section_of, section_address, joined, DataReloc, Item, listed_relocs, init_below, placed, relocs_in}
use Rattle.obj_join.proofs.Sorting.{joined_same}
use Rattle.obj_items.proofs.Steps.{joined_next}

module _ (input : InputParts) where
  pub init_begins : [] ≡ init_below input 0
  unfolding init_below
  init_begins = refl

  module _ (k : ℕ) (section : SectionParts) (so_far : List ℕ) (here : so_far ≡ init_below input k) (is : section ≡ section_of input k) where
    pub init_next : (address : ℕ) (bytes next : List ℕ) → true ≡ is_data_sort section.sort → address ≡ section_address input k → bytes ≡ section.content
        → next ≡ placed so_far address bytes → next ≡ init_below input (k + 1)
    unfolding init_below
    init_next address bytes next counted at content e = rw (add-one, ← here, ← is, ← counted, ← at, ← content) e

    pub init_passed : false ≡ is_data_sort section.sort → so_far ≡ init_below input (k + 1)
    unfolding init_below
    init_passed other = rw (add-one, ← here, ← is, ← other) refl

-- the relocations of data of one section more
module _ (input : InputParts) (places : List Item) (ys : List SectionParts) (k : ℕ) (x : SectionParts) where
  count : length (ys ++ x ∷ []) ≡ length ys + 1
  count = length-append ys (x ∷ [])

  first : joined (listed_relocs input places ys) (length ys) ≡ joined (listed_relocs input places (ys ++ x ∷ [])) (length ys)
  first =
      joined_same (listed_relocs input places ys) (listed_relocs input places (ys ++ x ∷ [])) (length ys)
      (λ j below. ap (λ (s : SectionParts). relocs_in input places j s) (sym (get_or_append_left ys (x ∷ []) no_section j below)))

  last : k ≡ length ys → relocs_in input places k x ≡ listed_relocs input places (ys ++ x ∷ []) (length ys)
  last is =
      ap (λ (n : ℕ). relocs_in input places n x) is
      ∙ ap (λ (s : SectionParts). relocs_in input places (length ys) s) (sym (get_or-append_seam ys x [] no_section))

  pub section_listed : (so_far next : List DataReloc) → k ≡ length ys → so_far ≡ joined (listed_relocs input places ys) (length ys)
      → next ≡ so_far ++ relocs_in input places k x
      → (k + 1 ≡ length (ys ++ x ∷ [])) × (next ≡ joined (listed_relocs input places (ys ++ x ∷ [])) (length (ys ++ x ∷ [])))
  section_listed so_far next is here e = (
    ap (λ (n : ℕ). n + 1) is ∙ sym count,
    joined_next (listed_relocs input places (ys ++ x ∷ [])) (length ys) so_far next (relocs_in input places k x) (here ∙ first) (last is) e
        ∙ ap (λ (n : ℕ). joined (listed_relocs input places (ys ++ x ∷ [])) n) (sym count),
  )

-- what a function gives of the first members of a list, and of one more
pub flat_map_more : {A B : Type 0} (given : A → List B) (xs : List A) (i : ℕ) (x : A) (before now next : List B) → i < length xs
    → x ≡ get_or xs i x → now ≡ before ++ flat_map given (take i xs) → next ≡ now ++ given x
    → next ≡ before ++ flat_map given (take (i + 1) xs)
flat_map_more given xs i x before now next below is here e =
    e ∙ ap (λ ys. ys ++ given x) here ∙ append_assoc before (flat_map given (take i xs)) (given x)
    ∙ ap (λ ys. before ++ ys)
    (ap (λ y. flat_map given (take i xs) ++ given y) is
    ∙ ap (λ ys. flat_map given (take i xs) ++ ys) (sym (append-nil (given (get_or xs i x))))
    ∙ sym (flat_map-append given (take i xs) (get_or xs i x ∷ [])) ∙ ap (flat_map given) (sym (take_more xs i x below)))
