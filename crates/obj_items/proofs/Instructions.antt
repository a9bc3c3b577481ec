-- A place of an input that is no end stands at a word of code.
use Rattle.std.proofs.Common.{◌≡◌, ℕ, zero, suc, ◌<◌, get_or, true, false, List, [], ◌∷◌, length, inl, inr, sym, subst, arith}
use Rattle.std.specs.List.{All}
use Rattle.std.proofs.lemmas.Bool.{cases_Bool}
use Rattle.std.proofs.lemmas.List.Elements.{All-append, All-get_or, All-nil, All-cons}
use Rattle.obj_items.proofs.Prelude.{joined, InputParts, is_code, section_count, section_of, starts_at, word_count, Item, is_end, code_items, end_at, outline, section_items, start_at, start_item, IsInstruction}

abbrev Stands : InputParts → Item → Type 0
Stands input item = is_end item.kind ≡ false → IsInstruction input item

module _ {A : Type 0} (P : A → Type 0) (parts : ℕ → List A) where
  all_joined : (n : ℕ) → ((k : ℕ) → k < n → All P (parts k)) → All P (joined parts n)
  unfolding joined
  all_joined zero each = All-nil P
  all_joined (suc n) each = All-append P (joined parts n) (parts n) (all_joined n (λ k below. each k (omega arith))) (each n (omega arith))

module _ (input : InputParts) (k : ℕ) (there : k < section_count input) (code : is_code (section_of input k) ≡ true) where
  start_stands : (i : ℕ) → i < word_count (section_of input k) → Stands input (start_at (section_of input k) k i)
  start_stands i below = λ no_end. record { there = there; code = code; below = omega arith }

  starts_stand : (i : ℕ) → i < word_count (section_of input k) → All (Stands input) (start_item (section_of input k) k i)
  starts_stand i below = elim (cases_Bool (starts_at (section_of input k) i)) [
    | inl starts ↦ rw starts (All-cons (Stands input) (start_at (section_of input k) k i) [] (start_stands i below) (All-nil (Stands input)))
    | inr inside ↦ rw inside (All-nil (Stands input))
  ]

  end_stands : Stands input (end_at (section_of input k) k)
  end_stands = λ no. absurd (cc)

  code_stands : All (Stands input) (code_items (section_of input k) k)
  code_stands =
      All-append (Stands input) (joined (start_item (section_of input k) k) (word_count (section_of input k))) (end_at (section_of input k) k ∷ [])
      (all_joined (Stands input) (start_item (section_of input k) k) (word_count (section_of input k)) starts_stand)
      (All-cons (Stands input) (end_at (section_of input k) k) [] end_stands (All-nil (Stands input)))

section_stands : (input : InputParts) (k : ℕ) → k < section_count input → All (Stands input) (section_items input k)
section_stands input k there = elim (cases_Bool (is_code (section_of input k))) [
  | inl code ↦ rw code (code_stands input k there code)
  | inr other ↦ rw other (All-nil (Stands input))
]

outline_stands : (input : InputParts) → All (Stands input) (outline input)
unfolding outline
outline_stands input = all_joined (Stands input) (section_items input) (section_count input) (section_stands input)

pub place_stands : (input : InputParts) (places : List Item) (j : ℕ) (d : Item) → places ≡ outline input → j < length places
    → is_end (get_or places j d).kind ≡ false → IsInstruction input (get_or places j d)
place_stands input places j d e below =
    All-get_or (Stands input) places j d below (subst (λ (items : List Item). All (Stands input) items) (sym e) (outline_stands input))
