-- The last place of a program is the end of a section of code.
use Rattle.std.proofs.Common.{◌≡◌, ℕ, zero, suc, ◌+◌, ◌-◌, ◌<◌, get_or, true, List, [], ◌∷◌, ◌++◌, length, inl, inr, refl, sym, ap, subst, ◌∙◌, arith}
use Rattle.std.specs.Prelude.{map}
use Rattle.std.proofs.lemmas.Bool.{cases_Bool}
use Rattle.std.proofs.lemmas.List.{append-nil, get_or-append-add, get_or-map, length-append, length-map}
use Rattle.std.proofs.Math.Seq.{get_or-append_seam}
use Rattle.obj_items.proofs.Prelude.{joined, InputParts, is_code, section_count, section_of, word_count, Item, EndsLast, is_end, no_item, item_with, end_at, outline, section_items, start_item, program_of}

-- the last place, if there is any, is an end
abbrev HasEndLast : List Item → Type 0
HasEndLast items = 0 < length items → is_end (get_or items (length items - 1) no_item).kind ≡ true

none_ends : HasEndLast []
none_ends some = absurd (omega arith)

ends_append : (xs ys : List Item) → HasEndLast xs → HasEndLast ys → HasEndLast (xs ++ ys)
ends_append xs [] first second = subst (λ (items : List Item). HasEndLast items) (sym (append-nil xs)) first
ends_append xs (y ∷ ys) first second = λ some.
    let size = length-append xs (y ∷ ys) in
    let index : length (xs ++ y ∷ ys) - 1 ≡ length xs + (length (y ∷ ys) - 1) = omega arith in
    let same : get_or (xs ++ y ∷ ys) (length (xs ++ y ∷ ys) - 1) no_item ≡ get_or (y ∷ ys) (length (y ∷ ys) - 1) no_item =
    ap (λ n. get_or (xs ++ y ∷ ys) n no_item) index ∙ get_or-append-add xs (y ∷ ys) (length (y ∷ ys) - 1) no_item in
    ap (λ (x : Item). is_end x.kind) same ∙ second (omega arith)

ends_pushed : (xs : List Item) (x : Item) → is_end x.kind ≡ true → HasEndLast (xs ++ x ∷ [])
ends_pushed xs x e some =
    let size = length-append xs (x ∷ []) in
    let index : length (xs ++ x ∷ []) - 1 ≡ length xs = omega arith in
    ap (λ n. is_end (get_or (xs ++ x ∷ []) n no_item).kind) index ∙ ap (λ (y : Item). is_end y.kind) (get_or-append_seam xs x [] no_item) ∙ e

section_ends : (input : InputParts) (k : ℕ) → HasEndLast (section_items input k)
section_ends input k = elim (cases_Bool (is_code (section_of input k))) [
  | inl code ↦ rw code (ends_pushed (joined (start_item (section_of input k) k) (word_count (section_of input k))) (end_at (section_of input k) k) refl)
  | inr other ↦ rw other none_ends
]

sections_end : (input : InputParts) (n : ℕ) → HasEndLast (joined (section_items input) n)
unfolding joined
sections_end input zero = none_ends
sections_end input (suc n) = ends_append (joined (section_items input) n) (section_items input n) (sections_end input n) (section_ends input n)

outline_ends : (input : InputParts) → HasEndLast (outline input)
unfolding outline
outline_ends input = sections_end input (section_count input)

same_kind : (input : InputParts) (places : List Item) (x : Item) → (item_with input places x).kind ≡ x.kind
same_kind input places x = elim (cases_Bool (is_end x.kind)) [ inl e ↦ rw e refl | inr e ↦ rw e refl ]

linked_ends : (input : InputParts) (places items : List Item) → HasEndLast items → HasEndLast (map (item_with input places) items)
linked_ends input places items ends some =
    let size = length-map items (item_with input places) in
    let inside : length items - 1 < length items = omega arith in
    let at = get_or-map (item_with input places) items (length items - 1) no_item no_item inside in
    let index : length (map (item_with input places) items) - 1 ≡ length items - 1 = omega arith in
    ap (λ n. is_end (get_or (map (item_with input places) items) n no_item).kind) index ∙ ap (λ (y : Item). is_end y.kind) at
    ∙ ap is_end (same_kind input places (get_or items (length items - 1) no_item))
    ∙ ends (omega arith)

pub last_ends : (input : InputParts) → EndsLast (program_of input)
unfolding program_of
last_ends input some = linked_ends input (outline input) (outline input) (outline_ends input) some
